use Rattle.std.proofs.Common.{◌<◌, ◌++◌, ◌∷◌, [], List, length, get_or, sym, ap, ◌∙◌, arith, refl}
use Rattle.test_runner_core_plan.specs.declared.plan.PlanTest.{PlanTest}
use Rattle.test_runner_core_plan.specs.declared.plan_settings.PlanSettings.{PlanSettings}
use Rattle.test_runner_core_planning.specs.Settled.{is_in_turn, settled_test}
use Rattle.test_runner_core_planning.proofs.Turns.{test_at, tests_count, turn_done, turn_passed, turn_taken}
use Rattle.test_runner_core_planning.proofs.by_priority.push_turn_of.Goals as goal

pub loop-index-preserved-then-not-is_in_turn : goal.loop-index-preserved-then-not-is_in_turn
loop-index-preserved-then-not-is_in_turn c =
    let it = c.binary.inside in
    let index = c.loop-index.index in
    let name = get_or it.names index [] in
    let settings = c.index-settings.result.now in
    let test = settled_test it.id name settings in
    let named : index < length it.names = omega (arith, c.loop-index-test.true, c.min-index-end.ensures, c.len.ensures) in
    let has : index < length it.settings.items = omega (arith, c.loop-index-test.true, c.min-index-end.ensures, c.len-2.ensures, it.settings.ok.0) in
    turn_passed (is_in_turn c.args.turn.now) c.args.binary.now c.loop-index.tests.items c.args.tests.now.items index test
    (omega (arith, named, has, tests_count it.id it.names it.settings.items, ap length c.binary.view_is))
    (ap (λ (all : List PlanTest). get_or all index test) (sym c.binary.view_is) ∙ test_at it.id it.names it.settings.items index name settings test named has refl c.index-settings.ensures)
    (sym (c.is_in_turn.ensures test (ap (λ (own : PlanSettings). own.priority) (sym c.deref.ensures))) ∙ c.if-not-is_in_turn.true) c.loop-index.invariant

pub loop-index-preserved : goal.loop-index-preserved
loop-index-preserved c =
    let it = c.binary.inside in
    let index = c.loop-index.index in
    let name = c.in_ok-name.name in
    let settings = c.index-settings.result.now in
    let test = settled_test it.id name settings in
    let named : index < length it.names = omega (arith, c.loop-index-test.true, c.min-index-end.ensures, c.len.ensures) in
    let has : index < length it.settings.items = omega (arith, c.loop-index-test.true, c.min-index-end.ensures, c.len-2.ensures, it.settings.ok.0) in
    turn_taken (is_in_turn c.args.turn.now) c.args.binary.now c.loop-index.tests.items c.push_test.new.tests.items c.args.tests.now.items index test
    (omega (arith, named, has, tests_count it.id it.names it.settings.items, ap length c.binary.view_is))
    (ap (λ (all : List PlanTest). get_or all index test) (sym c.binary.view_is) ∙ test_at it.id it.names it.settings.items index name settings test named has c.in_ok-name.ensures c.index-settings.ensures)
    (sym (c.is_in_turn.ensures test (ap (λ (own : PlanSettings). own.priority) (sym c.deref.ensures))) ∙ c.if-not-is_in_turn.false)
    (c.in_ok-push_test.ensures ∙ ap (λ (own : PlanSettings). c.loop-index.tests.items ++ settled_test it.id name own ∷ []) c.in_ok-clone.ensures.cases)
    c.loop-index.invariant

pub returns : goal.returns
returns c =
    let it = c.binary.inside in
    turn_done (is_in_turn c.args.turn.now) c.args.binary.now c.loop-index.tests.items c.args.tests.now.items c.loop-index.index
    (omega (arith, tests_count it.id it.names it.settings.items, ap length c.binary.view_is, c.loop-index-test.false, c.min-index-end.ensures, c.len.ensures, c.len-2.ensures, it.settings.ok.0)) c.loop-index.invariant
