use Rattle.std.proofs.Common.{◌≡◌, List, None, Ok, refl, sym, subst}
use Rattle.test_runner_core_run_model.specs.State.{TestState, State}
use Rattle.test_runner_core_run_model.specs.Step.{state_after_start}
use Rattle.test_runner_core_run_model.specs.Decisions.{Decides}
use Rattle.test_runner_core_run_model.specs.declared.event.Event.TheVariants as events
use Rattle.test_runner_core_run_model.specs.declared.mark.Mark.TheVariants as marks
use Rattle.test_runner_core_run_state.specs.Parts.{IsStartable}
use Rattle.test_runner_core_run_state.specs.contracts.progress.Progress.{the_view}
use Rattle.test_runner_core_run_state.proofs.Taken.{startable, start_leads, shown_test}
use Rattle.test_runner_core_run_state.proofs.Tallies.{unfinished_adds}
use Rattle.test_runner_core_run_state.proofs.Totals.{Counts, test_changed}
use Rattle.test_runner_core_run_state.proofs.progress.Progress.start.Goals as goal

pub start-requires : goal.start-requires
start-requires g c =
    let state = the_view g.row.A g.row.A-Ending g.A.KeepAttempts c.self.inside in
    startable state c.args.test
    (c.in_default-start_refusal.ensures state c.args.test
    (record { planned_scripts = sym c.planned-planned.ensures; ended_scripts = sym c.ended-ended.ensures.count; reason = sym c.is_some-is_stopped.ensures })
    (shown_test state c.args.test c.in-Some.mark c.in-Some.ensures))

pub invariant_of-self-2 : goal.invariant_of-self-2
invariant_of-self-2 g c =
    let state = the_view g.row.A g.row.A-Ending g.A.KeepAttempts c.self.inside in
    let it : IsStartable state.tests c.args.test =
    startable state c.args.test
    (c.in_default-start_refusal.ensures state c.args.test
    (record { planned_scripts = sym c.planned-planned.ensures; ended_scripts = sym c.ended-ended.ensures.count; reason = sym c.is_some-is_stopped.ensures })
    (shown_test state c.args.test c.in-Some.mark c.in-Some.ensures)) in
    let made : TestState = record it.test { mark = marks.Running } in
    subst (λ (ts : List TestState). Counts c.self.inside.scripts ts c.self.inside.stats c.self.inside.limit) (sym (c.in_ok-start.ensures.ok it.test it.found))
    (test_changed c.self.inside.scripts state.tests c.args.test it.test made c.self.inside.stats c.self.inside.stats c.self.inside.limit c.self.invariant it.found it.open_still
    (sym (unfinished_adds made c.self.inside.stats refl)))

pub returns : goal.returns
returns g c =
    let state = the_view g.row.A g.row.A-Ending g.A.KeepAttempts c.self.inside in
    let taken : Decides state (events.Started c.args.test) None =
    c.in_default-start_refusal.ensures state c.args.test
    (record { planned_scripts = sym c.planned-planned.ensures; ended_scripts = sym c.ended-ended.ensures.count; reason = sym c.is_some-is_stopped.ensures })
    (shown_test state c.args.test c.in-Some.mark c.in-Some.ensures) in
    subst (λ (s : State). state_after_start s c.args.test ≡ Ok (record state { tests = c.start.new.self })) c.self.view_is
    (start_leads state c.args.test c.start.new.self taken c.in_ok-start.ensures.ok)
