use Rattle.std.proofs.Common.{◌≡◌, ◌++◌, sym, ◌∙◌, ap}
use Rattle.std.specs.Prelude.{encode_utf8}
use Rattle.std.proofs.lemmas.Str.{chars_past_char}
use Rattle.nextest_config_elements_identifiers.proofs.plain.split_first.Goals as goal

pub returns-clause-some : goal.returns-clause-some
returns-clause-some c =
    let parted : c.args.text.now ≡ encode_utf8 c.in_ok-first.first ++ c.as_str.result.now
    = sym c.chars-rest.ensures.rest ∙ c.in_ok-first.ensures.steps.0
    ∙ ap (λ rest. encode_utf8 c.in_ok-first.first ++ rest) (sym c.as_str.ensures) in
    chars_past_char c.args.text.now c.as_str.result.now c.in_ok-first.first c.utf8.text parted
