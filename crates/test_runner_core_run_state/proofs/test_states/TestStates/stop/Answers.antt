use Rattle.std.proofs.Common.{List, map, ap, ◌∙◌}
use Rattle.test_runner_core_run_model.specs.State.{TestState}
use Rattle.test_runner_core_run_model.specs.Step.{finished_by}
use Rattle.test_runner_core_run_state.specs.Parts.{states_of}
use Rattle.test_runner_core_run_state.proofs.Begun.{finished_either}
use Rattle.test_runner_core_run_state.proofs.test_states.TestStates.stop.Goals as goal

pub returns : goal.returns
returns g c =
    ap (states_of c.self.inside.planned.items) c.finish_between.ensures
    ∙ finished_either c.args.reason c.self.inside.planned.items c.self.inside.tests.items
    ∙ ap (λ (tests : List TestState). map (finished_by c.args.reason) tests) c.self.view_is
