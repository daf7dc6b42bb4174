-- When the limit stops a run.
use Rattle.std.proofs.Common.{◌≡◌, ◌↔◌, ℕ, ◌+◌, ◌≤◌, Bool, true, false, cond, leb, not, ◌&&◌, List, [], ◌∷◌, ◌++◌, length, Option, Some, None, Ok, map, refl, sym, ap, ◌∙◌, subst, arith}
use Rattle.std.specs.Prelude.{slice_set, is_some}
use Rattle.std.specs.Option.{option_map, option_map_or}
use Rattle.std.proofs.lemmas.Bool.Decides.{nat_tests}
use Rattle.std.proofs.lemmas.List.Sums.{sum_by-cons}
use Rattle.nextest_config_elements_choices.specs.MaxFail.{mode_at}
use Rattle.nextest_config_elements_choices.specs.declared.max_fail.MaxFail.{MaxFail}
use Rattle.nextest_config_elements_choices.specs.declared.max_fail.MaxFail.TheVariants as limits
use Rattle.nextest_config_elements_choices.specs.declared.max_fail.TerminateMode.{TerminateMode}
use Rattle.nextest_config_elements_choices.specs.declared.max_fail.TerminateMode.TheVariants as modes
use Rattle.nextest_run_events_results.specs.Cancel.{graver_reason, is_inner}
use Rattle.nextest_run_events_results.specs.Result.{is_success}
use Rattle.nextest_run_events_results.specs.declared.cancel_reason.CancelReason.{CancelReason}
use Rattle.nextest_run_events_results.specs.declared.cancel_reason.CancelReason.TheVariants as why
use Rattle.nextest_run_events_results.specs.declared.record.Record.{Record}
use Rattle.test_runner_core_run_model.specs.RunPlan.{RunPlan, IsPlan}
use Rattle.test_runner_core_run_model.specs.State.{TestState, State, initial, is_finished, is_finished_mark, failed_weight}
use Rattle.test_runner_core_run_model.specs.Step.{step, with_test, after_attempt, finishes, finished_by, after_limit, limit_reason, stopped_by}
use Rattle.test_runner_core_run_model.specs.Runs.{Run}
use Rattle.test_runner_core_run_model.specs.FailLimit.{IsEnd, StopsAtLimit, limit_stop}
use Rattle.test_runner_core_run_model.specs.Laws.{StaysBelowLimit, StopsExactlyAtLimit}
use Rattle.test_runner_core_run_model.specs.declared.mark.Mark.{Mark}
use Rattle.test_runner_core_run_model.specs.declared.mark.Mark.TheVariants as marks
use Rattle.test_runner_core_run_model.specs.declared.event.Event.{Event}
use Rattle.test_runner_core_run_model.specs.declared.event.Event.TheVariants as events
use Rattle.test_runner_core_run_model.specs.declared.step_refusal.StepRefusal.TheVariants as refused
use Rattle.test_runner_core_run_model.proofs.Keeping.{script_shows, start_shows, end_shows}
use Rattle.test_runner_core_run_model.proofs.OneEnd.{below_initial, run_below, set_weighs, unfinished_after, unfinished_weighs, weighed}
use Rattle.test_runner_core_run_model.proofs.Scripts.{guard_ok, ok_is}

-- a limit that less reach, more do
more_reach : (limit : MaxFail) (less more : ℕ) (mode : TerminateMode) → less ≤ more → mode_at limit less ≡ Some mode → mode_at limit more ≡ Some mode
more_reach (limits.Count max_fail terminate) less more mode within reached = by_tests (leb max_fail less) (leb max_fail more) refl refl reached
  where
    by_tests : (b c : Bool) → leb max_fail less ≡ b → leb max_fail more ≡ c → cond b (Some terminate) None ≡ Some mode → cond c (Some terminate) None ≡ Some mode
    by_tests true true e f h = h
    by_tests true false e f h = absurd (grind (arith, nat_tests))
    by_tests false c e f h = cc
more_reach limits.All less more mode within reached = cc

-- a test that a stop finishes weighs no less than before
stopped_weighs : (reason : CancelReason) (test : TestState) → weighed test ≤ weighed (finished_by reason test)
stopped_weighs reason test = by_mark test.mark refl
  where
    open_test : is_finished test ≡ false → weighed test ≤ weighed (finished_by reason test)
    open_test e = let none = unfinished_weighs test e in omega (arith, none)

    by_mark : (mark : Mark) → test.mark ≡ mark → weighed test ≤ weighed (finished_by reason test)
    by_mark marks.Waiting e = open_test (ap is_finished_mark e)
    by_mark marks.Running e = open_test (ap is_finished_mark e)
    by_mark marks.Between e = open_test (ap is_finished_mark e)
    by_mark (marks.Finished kept) e =
        let same : finished_by reason test ≡ test = rw (e) refl in
        let weighs : weighed (finished_by reason test) ≡ weighed test = ap weighed same in
        omega (arith, weighs)

all_stopped_weigh : (reason : CancelReason) (tests : List TestState) → failed_weight tests ≤ failed_weight (map (finished_by reason) tests)
all_stopped_weigh reason [] = omega arith
all_stopped_weigh reason (test ∷ tests) =
    let here = stopped_weighs reason test in
    let more = all_stopped_weigh reason tests in
    rw (sum_by-cons weighed test tests, sum_by-cons weighed (finished_by reason test) (map (finished_by reason) tests)) (omega (arith, here, more))

-- the reason that stands is the limit's, if there is one
abbrev IsLimits : State → Type 0
IsLimits state = state.reason ≡ limit_stop state

limited : (state : State) (finished : Bool) → state.reason ≡ None → (finished ≡ false → limit_stop state ≡ None) → IsLimits (after_limit finished state)
limited state finished going unfinished = by_tests finished (is_some state.reason) (mode_at state.limit (failed_weight state.tests)) refl refl refl
  where
    by_tests : (f some : Bool) (reached : Option TerminateMode) → finished ≡ f → is_some state.reason ≡ some → mode_at state.limit (failed_weight state.tests) ≡ reached
        → IsLimits (cond (f && not some) (option_map_or (λ mode. stopped_by (limit_reason mode) state) reached state) state)
    by_tests false some reached e s r = going ∙ sym (unfinished e)
    by_tests true true reached e s r = let no = ap is_some going in cc
    by_tests true false None e s r = going ∙ sym (ap (option_map limit_reason) r)
    by_tests true false (Some mode) e s r =
        sym
        (ap (option_map limit_reason)
        (more_reach state.limit (failed_weight state.tests) (failed_weight (map (finished_by (limit_reason mode)) state.tests)) mode
        (all_stopped_weigh (limit_reason mode) state.tests) r))

-- the end of an attempt stops a run where the limit is reached, and only there
pub end_at_limit : (old new : State) (place : ℕ) (ending : Record) → step old (events.Ended place ending) ≡ Ok new → StopsAtLimit old new
end_at_limit old new place ending happens going below =
    let shows = end_shows old new place ending happens in
    let after = after_attempt old shows.test ending in
    subst IsLimits (sym shows.is)
    (limited (with_test old place after) (finishes old shows.test ending) going
    (λ unfinished.
    let same = unfinished_weighs after (unfinished_after old shows.test ending unfinished) ∙ sym (unfinished_weighs shows.test (ap is_finished_mark shows.running)) in
    ap (λ (n : ℕ). option_map limit_reason (mode_at old.limit n)) (set_weighs old.tests place shows.test after shows.found same) ∙ below))

pub stays_below_limit : StaysBelowLimit
stays_below_limit plan run last ok happens going =
    ap (option_map limit_reason) (run_below (initial plan) run last (below_initial plan ok) happens going)

-- a limit's reason is one that the run itself gives, and no script's
limit_is_inner : (mode : TerminateMode) → is_inner (limit_reason mode) ≡ true
limit_is_inner modes.Wait = refl
limit_is_inner modes.Immediate = refl

no_script : (mode : TerminateMode) → Some why.SetupScriptFailure ≡ Some (limit_reason mode) → ⊥
no_script modes.Wait same = cc
no_script modes.Immediate same = cc

-- no other event stops a run for its limit
only_ends : (old new : State) (event : Event) (mode : TerminateMode) → step old event ≡ Ok new → old.reason ≡ None → new.reason ≡ Some (limit_reason mode) → IsEnd event
only_ends old new (events.ScriptEnded script ending) mode happens going stopped =
    let shows = script_shows old new script ending happens in
    by_success (is_success ending.result) (sym (ap (λ (s : State). s.reason) shows.is) ∙ stopped)
  where
    reason_of : State → Option CancelReason
    reason_of s = s.reason

    by_success : (succeeds : Bool)
        → reason_of (cond succeeds (record old { scripts = old.scripts ++ ending ∷ [] }) (stopped_by why.SetupScriptFailure (record old { scripts = old.scripts ++ ending ∷ [] }))) ≡ Some (limit_reason mode)
        → ⊥
    by_success true e = let none = sym going ∙ e in cc
    by_success false e = no_script mode e
only_ends old new (events.Started place) mode happens going stopped =
    let shows = start_shows old new place happens in
    let none = sym going ∙ sym (ap (λ (s : State). s.reason) shows.is) ∙ stopped in
    absurd (cc)
only_ends old new (events.Ended place ending) mode happens going stopped = tt
only_ends old new (events.Stopped reason) mode happens going stopped =
    let free = guard_ok (is_inner reason) refused.InnerReason _ new happens in
    by_reason free.0 old.reason going (sym (ap (λ (s : State). s.reason) (ok_is _ new free.1)) ∙ stopped)
  where
    reason_of : State → Option CancelReason
    reason_of s = s.reason

    by_reason : is_inner reason ≡ false → (given : Option CancelReason) → given ≡ None
        → reason_of (option_map_or (λ kept. record old { reason = Some (graver_reason kept reason) }) given (stopped_by reason old)) ≡ Some (limit_reason mode)
        → ⊥
    by_reason outer None none e =
        let same : reason ≡ limit_reason mode = cc in
        let inner = ap is_inner same ∙ limit_is_inner mode in
        cc
    by_reason outer (Some kept) none e = cc

pub stops_exactly_at_limit : StopsExactlyAtLimit
stops_exactly_at_limit plan run old new event mode ok before happens = (
  λ stops. let end = only_ends old new event mode happens stops.0 stops.1 in
      (end, stops.0, sym (at_end event end happens stops.0) ∙ stops.1),
  λ reached. (reached.1, at_end event reached.0 happens reached.1 ∙ reached.2),
)
  where
    at_end : (event : Event) → IsEnd event → step old event ≡ Ok new → old.reason ≡ None → new.reason ≡ limit_stop new
    at_end (events.ScriptEnded script ending) end happens going = absurd end
    at_end (events.Started place) end happens going = absurd end
    at_end (events.Ended place ending) end happens going = end_at_limit old new place ending happens going (stays_below_limit plan run old ok before going)
    at_end (events.Stopped reason) end happens going = absurd end
