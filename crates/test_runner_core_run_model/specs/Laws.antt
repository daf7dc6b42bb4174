-- The laws over whole runs, and over the first success among tries.
use Rattle.std.specs.Prelude.{◌≡◌, ◌↔◌, ℕ, ◌<◌, ◌≤◌, Bool, true, false, List, [], ◌∷◌, ◌++◌, Option, None, Some, Ok, Err, length, count_by, is_some, nat_le, slice_get, if◌then◌else◌}
use Rattle.std.specs.List.{AllByRecursion}
use Rattle.std.specs.Option.{IsSomeAnd}
use Rattle.nextest_config_elements_choices.specs.declared.max_fail.TerminateMode.{TerminateMode}
use Rattle.nextest_run_events_counters.specs.Summary.{failed_count}
use Rattle.nextest_run_events_results.specs.Cancel.{gravity}
use Rattle.nextest_run_events_results.specs.Result.{is_success}
use Rattle.nextest_run_events_results.specs.declared.cancel_reason.CancelReason.{CancelReason}
use Rattle.nextest_run_events_results.specs.declared.record.Record.{Record}
use Rattle.test_runner_core_run_model.specs.RunPlan.{RunPlan, IsPlan}
use Rattle.test_runner_core_run_model.specs.declared.run_test.RunTest.{RunTest}
use Rattle.test_runner_core_run_model.specs.Assignment.{Assignment, IsUnstopped, due_status, failing_weight, first_success}
use Rattle.test_runner_core_run_model.specs.State.{State, failed_weight, initial}
use Rattle.test_runner_core_run_model.specs.Step.{limit_reason, step}
use Rattle.test_runner_core_run_model.specs.Counters.{counters, status}
use Rattle.test_runner_core_run_model.specs.FailLimit.{IsEnd, WeighOne, failing_count, limit_stop}
use Rattle.test_runner_core_run_model.specs.Ends.{EndedWhole, final_state}
use Rattle.test_runner_core_run_model.specs.Finishing.{KeepsReasons}
use Rattle.test_runner_core_run_model.specs.Runs.{Run, Agrees, IsNoStop, IsNoMilder, is_complete, is_no_stop, most_events}
use Rattle.test_runner_core_run_model.specs.declared.event.Event.{Event}
use Rattle.test_runner_core_run_model.specs.declared.event.Event.TheVariants.{ScriptEnded, Started, Ended, Stopped}
use Rattle.test_runner_core_run_model.specs.declared.step_refusal.StepRefusal.TheVariants as refused

-- any complete run that agrees with an assignment and that nobody told to stop ends with the due
-- status
abbrev pub EndsWithDueStatus : Type 0
EndsWithDueStatus =
    (plan : RunPlan) (assigned : Assignment) (events : List Event) (last : State)
    → IsPlan plan → Run (initial plan) events last → Agrees assigned (initial plan) events
    → AllByRecursion IsNoStop events → is_complete last ≡ true
    → status last ≡ due_status plan assigned

-- any run that agrees with an assignment, cut wherever it is and whoever told it to stop, has the
-- due status or a graver one
abbrev pub EndsNoMilder : Type 0
EndsNoMilder =
    (plan : RunPlan) (assigned : Assignment) (events : List Event) (last : State)
    → IsPlan plan → Run (initial plan) events last → Agrees assigned (initial plan) events
    → IsNoMilder (status last) (due_status plan assigned)

-- wherever events that agree with an assignment are cut, those before the cut agree with it
abbrev pub AgreesWhereCut : Type 0
AgreesWhereCut = (assigned : Assignment) (state : State) (events more : List Event) → Agrees assigned state (events ++ more) → Agrees assigned state events

-- and it has status 4 exactly where 4 is due
abbrev pub HasFourExactlyWhereDue : Type 0
HasFourExactlyWhereDue =
    (plan : RunPlan) (assigned : Assignment) (events : List Event) (last : State)
    → IsPlan plan → Run (initial plan) events last → Agrees assigned (initial plan) events
    → (status last ≡ 4) ↔ (due_status plan assigned ≡ 4)

-- in a stopped run no script ends any more: one that the plan has is refused since the run is
-- stopped, another as unknown
abbrev pub RefusesScripts : Type 0
RefusesScripts =
    (state : State) (script : ℕ) (ending : Record)
    → is_some state.reason ≡ true
    → step state (ScriptEnded script ending) ≡ Err (if nat_le state.planned_scripts script then refused.UnknownScript else refused.Stopped)

-- nor does an attempt start, of a test that the plan has or of another
abbrev pub RefusesStarts : Type 0
RefusesStarts =
    (state : State) (place : ℕ)
    → is_some state.reason ≡ true
    → step state (Started place) ≡ Err (if nat_le (length state.tests) place then refused.UnknownTest else refused.Stopped)

-- a reason that stands is never lost, whatever happens: it still stands, or a graver one does
abbrev pub KeepsAReason : Type 0
KeepsAReason =
    (old new : State) (events : List Event) (reason : CancelReason)
    → old.reason ≡ Some reason → Run old events new
    → (kept : CancelReason) × (new.reason ≡ Some kept) × (gravity reason ≤ gravity kept)

-- any run that has status 0 ended all scripts of its plan and finished all tests: none was cut
-- short or left out
abbrev pub SucceedsWhole : Type 0
SucceedsWhole = (plan : RunPlan) (events : List Event) (last : State) → Run (initial plan) events last → status last ≡ 0 → EndedWhole plan last

-- any complete run that agrees with an unstopped assignment and that nobody told to stop ends in
-- one state, whatever its order
abbrev pub EndsInOneState : Type 0
EndsInOneState =
    (plan : RunPlan) (assigned : Assignment) (events : List Event) (last : State)
    → IsPlan plan → IsUnstopped plan assigned → Run (initial plan) events last → Agrees assigned (initial plan) events
    → AllByRecursion IsNoStop events → is_complete last ≡ true
    → last ≡ final_state plan assigned

-- and there is such a run, so that this state is reached
abbrev pub ReachesTheOneState : Type 0
ReachesTheOneState =
    (plan : RunPlan) (assigned : Assignment)
    → IsPlan plan → IsUnstopped plan assigned
    → (events : List Event) × Run (initial plan) events (final_state plan assigned) × Agrees assigned (initial plan) events
    × AllByRecursion IsNoStop events × (is_complete (final_state plan assigned) ≡ true)

-- whatever the assignment, no reason stands at the end of a complete run that agrees with it and
-- that nobody told to stop exactly where the assignment is unstopped
abbrev pub StopsWhereDue : Type 0
StopsWhereDue =
    (plan : RunPlan) (assigned : Assignment) (events : List Event) (last : State)
    → IsPlan plan → Run (initial plan) events last → Agrees assigned (initial plan) events
    → AllByRecursion IsNoStop events → is_complete last ≡ true
    → (last.reason ≡ None) ↔ IsUnstopped plan assigned

-- a run that agrees with an assignment and isn't complete goes on: an event other than a stop is
-- taken and agrees, so that with it the run still is one that agrees
abbrev pub HasNext : Type 0
HasNext =
    (plan : RunPlan) (assigned : Assignment) (events : List Event) (last : State)
    → Run (initial plan) events last → Agrees assigned (initial plan) events → is_complete last ≡ false
    → (event : Event) × (next : State) × IsNoStop event × (step last event ≡ Ok next)
    × Run (initial plan) (events ++ event ∷ []) next × Agrees assigned (initial plan) (events ++ event ∷ [])

-- whoever stops a run and when, its other events are no more than one for each script and two for
-- each try
abbrev pub HasAtMost : Type 0
HasAtMost = (plan : RunPlan) (events : List Event) (last : State) → IsPlan plan → Run (initial plan) events last → count_by is_no_stop events ≤ most_events plan

-- so any run that agrees with an assignment is the front of a complete one that agrees, with no
-- more stops
abbrev pub ReachesAnEnd : Type 0
ReachesAnEnd =
    (plan : RunPlan) (assigned : Assignment) (events : List Event) (last : State)
    → IsPlan plan → Run (initial plan) events last → Agrees assigned (initial plan) events
    → (more : List Event) × (end : State) × AllByRecursion IsNoStop more × (is_complete end ≡ true)
    × Run (initial plan) (events ++ more) end × Agrees assigned (initial plan) (events ++ more)

-- a test of a plan has so many tries that it may have one of this number, from 1
abbrev pub IsTry : RunPlan → ℕ → ℕ → Type 0
IsTry plan test number = (0 < number) × IsSomeAnd (slice_get plan.tests test) (λ it. number ≤ it.tries)

-- an event is one of a plan's scripts or tests, as it is assigned
abbrev pub IsAssigned : RunPlan → Assignment → Event → Type 0
IsAssigned plan assigned (ScriptEnded script ending) = (script < plan.scripts) × (ending ≡ assigned.script script)
IsAssigned plan assigned (Started test) = test < length plan.tests
IsAssigned plan assigned (Ended test ending) = (number : ℕ) × IsTry plan test number × (ending ≡ assigned.attempt test number)
IsAssigned plan assigned (Stopped reason) = ⊥

-- whatever is assigned, there is a complete run that agrees with it, each event of which is as it
-- is assigned
abbrev pub ReachesAnAssignedEnd : Type 0
ReachesAnAssignedEnd =
    (plan : RunPlan) (assigned : Assignment)
    → IsPlan plan
    → (events : List Event) × (last : State) × Run (initial plan) events last × Agrees assigned (initial plan) events
    × (is_complete last ≡ true) × AllByRecursion (IsAssigned plan assigned) events

-- in a run from its beginning no test is over under a reason before a reason stands
abbrev pub HasReasonsFirst : Type 0
HasReasonsFirst = (plan : RunPlan) (events : List Event) (last : State) → Run (initial plan) events last → KeepsReasons last

-- in a run from its beginning that isn't stopped, what failed weighs less than the limit
abbrev pub StaysBelowLimit : Type 0
StaysBelowLimit =
    (plan : RunPlan) (events : List Event) (last : State)
    → IsPlan plan → Run (initial plan) events last → last.reason ≡ None → limit_stop last ≡ None

-- an event lets the limit's reason come up in such a run exactly where it is the end of an attempt,
-- no reason stood before, and what failed weighs as much as the limit after it: so the first end
-- with that does, and no other event
abbrev pub StopsExactlyAtLimit : Type 0
StopsExactlyAtLimit =
    (plan : RunPlan) (events : List Event) (old new : State) (event : Event) (mode : TerminateMode)
    → IsPlan plan → Run (initial plan) events old → step old event ≡ Ok new
    → ((old.reason ≡ None) × (new.reason ≡ Some (limit_reason mode)))
    ↔ (IsEnd event × (old.reason ≡ None) × (limit_stop new ≡ Some (limit_reason mode)))

-- where each test weighs 1, what failed weighs as much as its number, in each state of a run
abbrev pub WeighsItsNumber : Type 0
WeighsItsNumber =
    (plan : RunPlan) (events : List Event) (last : State)
    → WeighOne plan.tests → Run (initial plan) events last → failed_weight last.tests ≡ failed_count (counters last)

-- and so does what fails by an assignment
abbrev pub WeighsItsFailures : Type 0
WeighsItsFailures = (tests : List RunTest) (attempt : ℕ → ℕ → Record) → WeighOne tests → failing_weight tests attempt ≡ failing_count tests attempt

-- an attempt, by its number, is a success
abbrev pub is_success_at : (ℕ → Record) → ℕ → Bool
is_success_at attempt number = is_success (attempt number).result

-- the number of the first success among so many tries, which go from 1: a try that succeeds, none
-- before it; or none at all
abbrev pub IsFirstSuccess : (ℕ → Record) → ℕ → Option ℕ → Type 0
IsFirstSuccess attempt tries (Some number) =
    (1 ≤ number) × (number ≤ tries) × (is_success_at attempt number ≡ true)
    × ((before : ℕ) → 1 ≤ before → before < number → is_success_at attempt before ≡ false)
IsFirstSuccess attempt tries None = (number : ℕ) → 1 ≤ number → number ≤ tries → is_success_at attempt number ≡ false

-- whatever the attempts, `first_success` is the number of the first success
abbrev pub FindsFirstSuccess : Type 0
FindsFirstSuccess = (attempt : ℕ → Record) (tries : ℕ) → IsFirstSuccess attempt tries (first_success attempt tries)

-- and no other answer is
abbrev pub HasOneFirstSuccess : Type 0
HasOneFirstSuccess =
    (attempt : ℕ → Record) (tries : ℕ) (one other : Option ℕ)
    → IsFirstSuccess attempt tries one → IsFirstSuccess attempt tries other → one ≡ other
