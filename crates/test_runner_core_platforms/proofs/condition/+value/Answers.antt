use Rattle.std.proofs.Common.{◌≡◌, None, Some, refl, arith, rules}
use Rattle.test_runner_core_platforms.specs.Evaluating.{value_in}
use Rattle.test_runner_core_platforms.specs.Facts.{answer_of}
use Rattle.test_runner_core_platforms.proofs.Evaluating.{fact_leads, value_leads, fewer, some_left, negation_leads, joined_front, joined_leads, apart_first, apart_once}
use Rattle.test_runner_core_platforms.proofs.condition.+value.Goals as goal

pub apart-loop-rest-init : goal.apart-loop-rest-init
apart-loop-rest-init t c = apart_first _ _ _ _ _ _ c.split_child.ensures c.of_none-found.ensures

pub apart-loop-rest-preserved : goal.apart-loop-rest-preserved
apart-loop-rest-preserved t c =
    apart_once _ _ _ _ _ _ _ _ _ _ _ _ c.loop-rest.invariant c.split_child-in-loop-rest.ensures c.by_len.ensures c.value.ensures c.join-found.ensures

pub leads-apart-others-requires : goal.leads-apart-others-requires
leads-apart-others-requires t c =
    (Prim.omega (arith, c.decreases, fewer _ _ _ c.split_last.ensures), (some_left _ _ c.is_empty.ensures c.if-is_empty.false, joined_front _ _ _ _ _ c.requires.flat c.split_last.ensures c.in-Joined.is))

pub leads-returns-in-Fact : goal.leads-returns-in-Fact
leads-returns-in-Fact t c =
    let known = c.args.facts.now.known in
    let it : answer_of known c.in-Fact.name None ≡ value_in known c.args.parts.now =
    fact_leads known c.args.parts.now _ _ c.in-Fact.name (answer_of known c.in-Fact.name None) c.requires.flat c.split_last.ensures c.in-Fact.is refl in
    Prim.rw (← it) (Prim.search rules)

pub leads-returns-in-FactValue : goal.leads-returns-in-FactValue
leads-returns-in-FactValue t c =
    let known = c.args.facts.now.known in
    let it : answer_of known c.in-FactValue.name (Some c.in-FactValue.value) ≡ value_in known c.args.parts.now =
    value_leads known c.args.parts.now _ _ c.in-FactValue.name c.in-FactValue.value (answer_of known c.in-FactValue.name (Some c.in-FactValue.value)) c.requires.flat c.split_last.ensures c.in-FactValue.is refl in
    Prim.rw (← it) (Prim.search rules)

pub leads-returns-in-Not : goal.leads-returns-in-Not
leads-returns-in-Not t c = negation_leads _ _ _ _ _ _ c.requires.flat c.split_last.ensures c.in-Not.is c.of_negation.ensures

pub leads-returns-else-is_empty : goal.leads-returns-else-is_empty
leads-returns-else-is_empty t c = joined_leads _ _ _ _ _ _ _ _ _ c.requires.flat c.split_last.ensures c.in-Joined.is c.apart-others.ensures c.of_joint.ensures
