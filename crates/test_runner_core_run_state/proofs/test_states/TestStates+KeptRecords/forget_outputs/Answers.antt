use Rattle.std.proofs.Common.{ap, ◌∙◌}
use Rattle.test_runner_core_run_state.specs.Parts.{states_of}
use Rattle.test_runner_core_run_state.specs.Records.{tests_with, unwritten_at}
use Rattle.test_runner_core_run_state.proofs.Begun.{forgotten_either}
use Rattle.test_runner_core_run_state.proofs.test_states.TestStates+KeptRecords.forget_outputs.Goals as goal

pub returns : goal.returns
returns c =
    ap (states_of c.self.inside.planned.items) c.forget_at.ensures
    ∙ forgotten_either (unwritten_at c.args.place) c.self.inside.planned.items c.self.inside.tests.items
    ∙ ap (tests_with (unwritten_at c.args.place)) c.self.view_is
