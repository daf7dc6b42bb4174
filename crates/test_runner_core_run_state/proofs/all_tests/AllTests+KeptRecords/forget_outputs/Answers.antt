use Rattle.std.proofs.Common.{cond, refl, ap, sym, ◌∙◌, count_by}
use Rattle.test_runner_core_run_model.specs.State.{TestState, is_running}
use Rattle.test_runner_core_run_state.specs.Records.{unwritten_at}
use Rattle.test_runner_core_run_state.proofs.OtherRecords.{fold_with}
use Rattle.test_runner_core_run_state.proofs.all_tests.AllTests+KeptRecords.forget_outputs.Goals as goal

pub invariant_of-self : goal.invariant_of-self
invariant_of-self c =
    c.self.invariant
    ∙ sym (ap (count_by is_running) c.forget_outputs.ensures
    ∙ fold_with (unwritten_at c.args.place) (λ (test : TestState). cond (is_running test) 1 0) (λ place test. refl) c.self.inside.tests 0)
