use Rattle.std.proofs.Common.{◌≡◌, true, false, sym, ◌∙◌}
use Rattle.std.proofs.lemmas.Bool.{not-true, not-false}
use Rattle.test_runner_core_platforms.proofs.Repeats.{IsKeyOf, Key, has, repeats, single, known_more}
use Rattle.test_runner_core_platforms.proofs.fact.has_repeat.Goals as goal

pub returns-then-not-branch : goal.returns-then-not-branch
returns-then-not-branch c =
    let key : Key = (c.as_str.result, c.lent.result) in
    let of : IsKeyOf key c.fact-item.result = record { name = c.as_str.ensures; value = c.lent.ensures } in
    let found : has c.loop-fact.keys key ≡ true = not-false _ (sym c.in_ok-insert.ensures.added ∙ c.if-not-branch.true) in
    sym (repeats c.loop-fact.keys c.args.facts.now c.loop-fact.fact-index key c.fact-item.result c.loop-fact-test.true (sym c.fact-item.is) of c.loop-fact.invariant.known found c.loop-fact.invariant.single)

pub loop-fact-preserved : goal.loop-fact-preserved
loop-fact-preserved c =
    let key : Key = (c.as_str.result, c.lent.result) in
    let of : IsKeyOf key c.fact-item.result = record { name = c.as_str.ensures; value = c.lent.ensures } in
    let found : has c.loop-fact.keys key ≡ false = not-true _ (sym c.in_ok-insert.ensures.added ∙ c.if-not-branch.false) in
    record {
      known = known_more c.loop-fact.keys c.insert.new.self c.args.facts.now c.loop-fact.fact-index key c.fact-item.result c.loop-fact-test.true (sym c.fact-item.is) of c.in_ok-insert.ensures.updates c.loop-fact.invariant.known;
      single = single c.loop-fact.keys c.args.facts.now c.loop-fact.fact-index key c.fact-item.result c.loop-fact-test.true (sym c.fact-item.is) of c.loop-fact.invariant.known found c.loop-fact.invariant.single;
    }
