use Rattle.std.proofs.Common.{◌≡◌, ◌<◌, List, length, sym, ap, ◌∙◌, rules}
use Rattle.std.proofs.lemmas.Option.{get_or_from_slice_get}
use Rattle.std.specs.Prelude.{slice_get}
use Rattle.test_runner_core_run_model.specs.State.{TestState}
use Rattle.test_runner_core_run_state.specs.Counted.{with_finished}
use Rattle.test_runner_core_run_state.proofs.Begun.{begun, unbegun, waiting_uncounted}
use Rattle.test_runner_core_run_state.proofs.test_states.TestStates.count_at.Goals as goal

pub returns-then-is_empty : goal.returns-then-is_empty
returns-then-is_empty g c = λ test found.
    let none : length c.self.inside.tests.items ≡ 0 = search rules in
    waiting_uncounted c.self.inside.planned.items c.args.place test c.args.stats.now
    (ap (λ (tests : List TestState). slice_get tests c.args.place) (sym (unbegun c.self.inside.planned.items c.self.inside.tests.items none) ∙ c.self.view_is) ∙ found)

pub returns : goal.returns
returns g c = λ test found.
    let some : 0 < length c.self.inside.tests.items = search rules in
    let there = ap (λ (tests : List TestState). slice_get tests c.args.place) (sym (begun c.self.inside.planned.items c.self.inside.tests.items some) ∙ c.self.view_is) ∙ found in
    let is = c.index.ensures ∙ get_or_from_slice_get c.self.inside.tests.items c.args.place test c.index.result.now there in
    c.count_in.ensures ∙ ap (λ (t : TestState). with_finished t c.args.stats.now) is
