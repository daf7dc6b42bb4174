use Rattle.std.proofs.Common.{ap, sym, ◌∙◌, arith, slice_set}
use Rattle.std.proofs.lemmas.List.Edits.{map_over_more}
use Rattle.test_runner_core_run_model.specs.State.{TestState}
use Rattle.test_runner_core_run_model.specs.Step.{finished_by}
use Rattle.test_runner_core_run_state.proofs.test_states.finish_each.Goals as goal

pub loop-test-preserved : goal.loop-test-preserved
loop-test-preserved g c =
    ap (λ (t : TestState). slice_set c.loop-test.tests c.loop-test.test-index t) (c.finish_between.ensures ∙ ap (finished_by c.args.reason) (sym c.test-item.is))
    ∙ map_over_more (finished_by c.args.reason) c.args.tests.now c.loop-test.tests c.loop-test.test-index c.test-item.result (omega arith) c.loop-test.invariant c.test-item.is
