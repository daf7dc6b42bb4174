use Rattle.std.proofs.Common.{◌≡◌, ◌+◌, arith, refl, subst, sym, List, count_by}
use Rattle.std.proofs.lemmas.List.Sums.{count_by-le-length}
use Rattle.test_runner_core_run_model.specs.State.{TestState, is_running}
use Rattle.test_runner_core_run_model.specs.declared.mark.Mark.TheVariants as marks
use Rattle.test_runner_core_run_state.specs.Parts.{IsStartable}
use Rattle.test_runner_core_run_state.proofs.Tallies.{started_running}
use Rattle.test_runner_core_run_state.proofs.all_tests.AllTests.start.Goals as goal

pub overflow_add-self : goal.overflow_add-self
overflow_add-self g c =
    let most = count_by-le-length is_running c.self.inside.tests in
    omega (arith, most, c.self.invariant, c.len-count.ensures.count, c.len-count.ensures.bound)

pub invariant_of-self-2 : goal.invariant_of-self-2
invariant_of-self-2 g c =
    let it : IsStartable c.self.inside.tests c.args.place = subst (λ (tests : List TestState). IsStartable tests c.args.place) (sym c.self.view_is) c.requires in
    subst (λ (tests : List TestState). c.self.inside.running + 1 ≡ count_by is_running tests)
    (sym (c.in_ok-start.ensures.ok it.test it.found))
    (started_running c.self.inside.tests c.args.place c.self.inside.running it.test (record it.test { mark = marks.Running }) it.found it.idle refl c.self.invariant)
