use Rattle.std.proofs.Common.{◌≢◌, ℕ, List, [], ◌∷◌, lit<}
use Rattle.std.specs.List.{AllByRecursion}
use Rattle.std.proofs.lemmas.Bool.{not-true, not_from_false, false_from_ne_true}
use Rattle.test_runner_core_line_syntax.specs.Spelling.{IsField}
use Rattle.test_runner_core_line_syntax.proofs.Refusals.{byte_found, byte_none}
use Rattle.test_runner_core_line_syntax.proofs.writing.is_field.Goals as goal

field_from : (bytes : List ℕ) → AllByRecursion (λ byte. byte ≢ 9) bytes → AllByRecursion (λ byte. byte ≢ 10) bytes → IsField bytes
field_from [] tabs feeds = tt
field_from (byte ∷ bytes) tabs feeds = ((tabs.0, feeds.0), field_from bytes tabs.1 feeds.1)

without_feed : (bytes : List ℕ) → IsField bytes → AllByRecursion (λ byte. byte ≢ 10) bytes
without_feed [] plain = tt
without_feed (byte ∷ bytes) plain = (plain.0.1, without_feed bytes plain.1)

pub returns-then-not-contains-clause-plain : goal.returns-then-not-contains-clause-plain
returns-then-not-contains-clause-plain c =
    let text = c.args.text.now in
    let feed = c.contains-then-not-contains in
    let tabs = byte_none 9 text c.contains.result (lit< tt) c.contains.ensures.cases c.if-not-contains.true in (
      (λ none. field_from text tabs (byte_none 10 text feed.result (lit< tt) feed.ensures.cases (not-true feed.result none))),
      (λ plain. not_from_false feed.result (false_from_ne_true feed.result (λ found. byte_found 10 text feed.result (lit< tt) feed.ensures.cases found (without_feed text plain)))),
    )
