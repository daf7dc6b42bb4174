use Rattle.std.proofs.Common.{ap, sym, refl, ◌∙◌, count_by}
use Rattle.test_runner_core_run_model.specs.State.{is_running}
use Rattle.test_runner_core_run_state.proofs.Tallies.{none_waits}
use Rattle.test_runner_core_run_state.proofs.all_tests.AllTests.new.Goals as goal

pub invariant_of-result : goal.invariant_of-result
invariant_of-result g c =
    sym (ap (count_by is_running) c.new.ensures ∙ none_waits is_running (λ plan. refl) c.args.planned.items)
