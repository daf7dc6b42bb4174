use Rattle.std.proofs.Common.{List, ap, ◌∙◌}
use Rattle.test_runner_core_run_model.specs.State.{TestState}
use Rattle.test_runner_core_run_state.specs.Counted.{with_tests_counted}
use Rattle.test_runner_core_run_state.proofs.Begun.{counted_either}
use Rattle.test_runner_core_run_state.proofs.test_states.TestStates.count_all.Goals as goal

pub returns : goal.returns
returns g c =
    let stats = c.args.stats.now in
    c.count_each.ensures
    ∙ ap (λ (tests : List TestState). with_tests_counted tests stats) c.as_slice.ensures.value
    ∙ counted_either c.self.inside.planned.items c.self.inside.tests.items stats
    ∙ ap (λ (tests : List TestState). with_tests_counted tests stats) c.self.view_is
