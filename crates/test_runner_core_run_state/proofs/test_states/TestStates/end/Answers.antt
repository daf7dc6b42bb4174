use Rattle.std.proofs.Common.{List, sym, subst, ap, ◌∙◌}
use Rattle.std.specs.Prelude.{slice_get}
use Rattle.test_runner_core_run_model.specs.State.{TestState}
use Rattle.test_runner_core_run_model.specs.Step.{after_attempt}
use Rattle.test_runner_core_run_state.specs.Parts.{IsRunningAt}
use Rattle.test_runner_core_run_state.proofs.Begun.{begun, running_there, set_either, some_there}
use Rattle.test_runner_core_run_state.proofs.test_states.TestStates.end.Goals as goal

pub end_at-requires : goal.end_at-requires
end_at-requires g c = running_there c.self.inside.planned.items c.self.inside.tests.items c.args.place (subst (λ (tests : List TestState). IsRunningAt tests c.args.place) (sym c.self.view_is) c.requires)

pub returns-clause-after : goal.returns-clause-after
returns-clause-after g c = λ state same test found.
    let planned = c.self.inside.planned.items in
    let tests = c.self.inside.tests.items in
    let it = running_there planned tests c.args.place (subst (λ (tests : List TestState). IsRunningAt tests c.args.place) (sym c.self.view_is) c.requires) in
    let some = some_there tests c.args.place it.test it.found in
    let there = ap (λ (tests : List TestState). slice_get tests c.args.place) (sym (begun planned tests some) ∙ c.self.view_is) ∙ found in
    set_either planned tests c.end_at.new.tests.items c.args.self.now c.args.place (after_attempt state test (g.A.KeepAttempts.record_of c.args.ending)) c.self.view_is some
    (c.end_at.ensures.after state same test there)

pub returns-clause-finished : goal.returns-clause-finished
returns-clause-finished g c = λ state test same found.
    let planned = c.self.inside.planned.items in
    let tests = c.self.inside.tests.items in
    let it = running_there planned tests c.args.place (subst (λ (tests : List TestState). IsRunningAt tests c.args.place) (sym c.self.view_is) c.requires) in
    let some = some_there tests c.args.place it.test it.found in
    c.end_at.ensures.finished state test same (ap (λ (tests : List TestState). slice_get tests c.args.place) (sym (begun planned tests some) ∙ c.self.view_is) ∙ found)
