use Rattle.std.proofs.Common.{List, ap, sym, ◌∙◌}
use Rattle.test_runner_core_run_model.specs.Counters.{counters}
use Rattle.test_runner_core_run_model.specs.State.{TestState}
use Rattle.test_runner_core_run_state.specs.Parts.{state_of}
use Rattle.test_runner_core_run_state.specs.Records.{unwritten_at}
use Rattle.test_runner_core_run_state.proofs.OtherRecords.{counters_with, unwritten_ends}
use Rattle.test_runner_core_run_state.proofs.progress.Progress+KeptRecords.forget_outputs.Goals as goal

pub invariant_of-self : goal.invariant_of-self
invariant_of-self c =
    let inside = c.self.inside in
    c.self.invariant
    ∙ sym (ap (λ (tests : List TestState). counters (state_of inside.scripts tests inside.stats inside.limit)) c.forget_outputs.ensures
    ∙ counters_with (unwritten_at c.args.test) (unwritten_ends c.args.test) (state_of inside.scripts inside.tests inside.stats inside.limit))
