use Rattle.std.proofs.Common.{◌<◌, List, length, sym, ap, ◌∙◌, rules}
use Rattle.std.specs.Option.{option_map}
use Rattle.std.specs.Prelude.{slice_get}
use Rattle.test_runner_core_run_model.specs.State.{TestState}
use Rattle.test_runner_core_run_state.proofs.Begun.{begun}
use Rattle.test_runner_core_run_state.proofs.test_states.TestStates.mark.Goals as goal

pub returns : goal.returns
returns g c =
    let some : 0 < length c.self.inside.tests.items = search rules in
    c.mark_at.ensures
    ∙ ap (λ (tests : List TestState). option_map (λ test. test.mark) (slice_get tests c.args.place)) (c.as_slice-2.ensures.value ∙ sym (begun c.self.inside.planned.items c.self.inside.tests.items some) ∙ c.self.view_is)
