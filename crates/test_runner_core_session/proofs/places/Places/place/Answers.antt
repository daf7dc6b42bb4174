use Rattle.std.proofs.Common.{◌≡◌, ◌≤◌, ℕ, List, length, map, ap, sym, subst, ◌∙◌, arith}
use Rattle.indexmap.specs.IndexSet.{IndexSet}
use Rattle.nextest_run_events_results.specs.declared.instance.OwnedTestInstanceId.{OwnedTestInstanceId}
use Rattle.nextest_run_events_results.specs.declared.instance.TestInstanceId.{TestInstanceId}
use Rattle.test_runner_core_plan.specs.declared.plan.PlanTest.{PlanTest}
use Rattle.test_runner_core_session.proofs.ByName.{length_names, stands}
use Rattle.test_runner_core_session.specs.Names.{IsIndex, name_of, names, place_of}
use Rattle.test_runner_core_session.proofs.places.Places.place.Goals as goal

-- an index that has as many names as there are tests has theirs; it is lent
are_all : (lent index : List TestInstanceId) (tests : List PlanTest) → lent ≡ index → IsIndex index (names tests) → length tests ≤ length lent → map name_of lent ≡ names tests
are_all lent index tests same it many = all (subst (λ (them : List TestInstanceId). IsIndex them (names tests)) (sym same) it)
  where
    all : IsIndex lent (names tests) → map name_of lent ≡ names tests
    all it = it.1 (omega (arith, it.0, many, length_names tests))

pub returns-then-is_at : goal.returns-then-is_at
returns-then-is_at c =
    let it = c.self.inside in
    let id = c.args.test.binary_id.now in
    let name = c.args.test.test_name.now in
    let index = c.deref.result.now.keys in
    let same : index ≡ c.in-Some.index.value.keys = ap (λ (them : IndexSet TestInstanceId _). them.keys) c.deref.ensures in
    let made : IsIndex c.in-Some.index.value.keys (names it.tests.now) = rw c.in-Some.is at c.self.invariant in
    let all = are_all index c.in-Some.index.value.keys it.tests.now same made (omega (arith, c.len.ensures.len, c.if-len-self.false)) in
    stands index it.tests.now id name it.last c.len.ensures.unique all (sym c.is_at.ensures ∙ c.if-is_at.true)
    ∙ ap (λ (tests : List OwnedTestInstanceId). place_of tests id name) c.self.view_is

pub returns-then-is_at-2 : goal.returns-then-is_at-2
returns-then-is_at-2 c =
    let it = c.self.inside in
    let id = c.args.test.binary_id.now in
    let name = c.args.test.test_name.now in
    let index = c.deref.result.now.keys in
    let same : index ≡ c.in-Some.index.value.keys = ap (λ (them : IndexSet TestInstanceId _). them.keys) c.deref.ensures in
    let made : IsIndex c.in-Some.index.value.keys (names it.tests.now) = rw c.in-Some.is at c.self.invariant in
    let all = are_all index c.in-Some.index.value.keys it.tests.now same made (omega (arith, c.len.ensures.len, c.if-len-self.false)) in
    stands index it.tests.now id name c.saturating_add-next.result c.len.ensures.unique all (sym c.is_at-then-self.ensures ∙ c.if-is_at-2.true)
    ∙ ap (λ (tests : List OwnedTestInstanceId). place_of tests id name) c.self.view_is

pub place_among-requires : goal.place_among-requires
place_among-requires c =
    let tests = c.self.inside.tests.now in
    let same : c.deref.result.now.keys ≡ c.in-Some.index.value.keys = ap (λ (them : IndexSet TestInstanceId _). them.keys) c.deref.ensures in
    let made : IsIndex c.in-Some.index.value.keys (names tests) = rw c.in-Some.is at c.self.invariant in
    let all = are_all c.deref.result.now.keys c.in-Some.index.value.keys tests same made (omega (arith, c.len.ensures.len, c.if-len-self.false)) in
    cc
