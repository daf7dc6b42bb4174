use Rattle.std.proofs.Common.{List, [], ◌∷◌, ◌++◌, map, take, sym, ap, ◌∙◌}
use Rattle.std.proofs.lemmas.List.{map_more, take_all}
use Rattle.std.proofs.lemmas.Result.{IfOk-from_err}
use Rattle.test_runner_core_run_model.specs.State.{TestState, waiting}
use Rattle.test_runner_core_run_model.specs.declared.run_test.RunTest.{RunTest}
use Rattle.test_runner_core_run_state.proofs.test_states.waiting_tests.Goals as goal

pub returns-in_err-tests : goal.returns-in_err-tests
returns-in_err-tests g c = IfOk-from_err c.from_residual.result _ c.from_residual.ensures.0

pub loop-plan-init : goal.loop-plan-init
loop-plan-init g c = c.in_ok-tests.ensures.items

pub returns-in_err-push : goal.returns-in_err-push
returns-in_err-push g c = IfOk-from_err c.from_residual-in_err-push.result _ c.from_residual-in_err-push.ensures.0

pub loop-plan-preserved : goal.loop-plan-preserved
loop-plan-preserved g c =
    c.in_ok-push.ensures.items
    ∙ ap (λ (tests : List TestState). tests ++ c.new.result ∷ []) c.loop-plan.invariant
    ∙ ap (λ (test : TestState). map waiting (take c.loop-plan.plan-index c.args.planned.now) ++ test ∷ []) c.new.ensures
    ∙ ap (λ (plan : RunTest). map waiting (take c.loop-plan.plan-index c.args.planned.now) ++ waiting plan ∷ []) c.plan-item.is
    ∙ sym (map_more waiting c.args.planned.now c.loop-plan.plan-index c.plan-item.result c.loop-plan-test.true)

pub returns : goal.returns
returns g c =
    c.loop-plan.invariant ∙ ap (λ (plans : List RunTest). map waiting plans) (take_all c.loop-plan.plan-index c.args.planned.now c.loop-plan-test.false)
