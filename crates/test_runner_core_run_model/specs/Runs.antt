-- Whole runs: what they are, when they are complete, and when they agree with an assignment.
use Rattle.std.specs.Prelude.{◌≡◌, ℕ, ◌+◌, ◌*◌, ◌==◌, Bool, true, false, ◌&&◌, ◌||◌, not, length, List, [], ◌∷◌, Option, None, Some, Ok, is_some, slice_get, sum_by, ⊤, ◌⊎◌}
use Rattle.std.specs.List.{list_all}
use Rattle.std.specs.Option.{option_map_or}
use Rattle.nextest_run_events_results.specs.Result.{is_success}
use Rattle.nextest_run_events_results.specs.declared.cancel_reason.CancelReason.{CancelReason}
use Rattle.nextest_run_events_results.specs.declared.record.Record.{Record}
use Rattle.test_runner_core_run_model.specs.RunPlan.{RunPlan}
use Rattle.test_runner_core_run_model.specs.Assignment.{Assignment}
use Rattle.test_runner_core_run_model.specs.State.{TestState, State, is_finished, is_running}
use Rattle.test_runner_core_run_model.specs.Step.{step}
use Rattle.test_runner_core_run_model.specs.declared.event.Event.{Event}
use Rattle.test_runner_core_run_model.specs.declared.event.Event.TheVariants as events

-- the events lead from one state to another, each by its step
abbrev pub Run : State → List Event → State → Type 0
Run old [] new = new ≡ old
Run old (event ∷ more) new = (mid : State) × (step old event ≡ Ok mid) × Run mid more new

-- all scripts and tests finished, or the run is stopped and nothing runs
abbrev pub is_complete : State → Bool
is_complete state =
    (length state.scripts == state.planned_scripts && list_all is_finished state.tests)
    || (is_some state.reason && list_all (λ test. not (is_running test)) state.tests)

-- a record is the assigned one; where a reason stands it may also be any that isn't a success
abbrev pub AgreesWith : Option CancelReason → Record → Record → Type 0
AgreesWith None assigned ending = ending ≡ assigned
AgreesWith (Some reason) assigned ending = (ending ≡ assigned) ⊎ (is_success ending.result ≡ false)

-- the number of the try that a test at a place is at, from 1
abbrev pub try_at : List TestState → ℕ → ℕ
try_at tests place = option_map_or (λ test. length test.records + 1) (slice_get tests place) 1

-- an event agrees with the assignment in the state in which it comes
abbrev pub EventAgrees : Assignment → State → Event → Type 0
EventAgrees assigned state (events.ScriptEnded script ending) = AgreesWith state.reason (assigned.script script) ending
EventAgrees assigned state (events.Started test) = ⊤
EventAgrees assigned state (events.Ended test ending) = AgreesWith state.reason (assigned.attempt test (try_at state.tests test)) ending
EventAgrees assigned state (events.Stopped reason) = ⊤

-- each event of a run from a state agrees with the assignment
abbrev pub Agrees : Assignment → State → List Event → Type 0
Agrees assigned state [] = ⊤
Agrees assigned state (event ∷ more) = EventAgrees assigned state event × ((mid : State) → step state event ≡ Ok mid → Agrees assigned mid more)

-- nobody tells the run to stop
abbrev pub IsNoStop : Event → Type 0
IsNoStop (events.ScriptEnded script ending) = ⊤
IsNoStop (events.Started test) = ⊤
IsNoStop (events.Ended test ending) = ⊤
IsNoStop (events.Stopped reason) = ⊥

-- an event is no stop
abbrev pub is_no_stop : Event → Bool
is_no_stop (events.ScriptEnded script ending) = true
is_no_stop (events.Started test) = true
is_no_stop (events.Ended test ending) = true
is_no_stop (events.Stopped reason) = false

-- so many events other than stops a run has at most: one for each script, and two for each try of a
-- test
abbrev pub most_events : RunPlan → ℕ
most_events plan = plan.scripts + 2 * sum_by (λ test. test.tries) plan.tests

-- a status is graver than another: 100 than 0, 105 than both; 4 is comparable with itself alone
abbrev pub IsGraver : ℕ → ℕ → Type 0
IsGraver new old = ((old ≡ 0) × ((new ≡ 100) ⊎ (new ≡ 105))) ⊎ ((old ≡ 100) × (new ≡ 105))

-- equal or graver
abbrev pub IsNoMilder : ℕ → ℕ → Type 0
IsNoMilder new old = (new ≡ old) ⊎ IsGraver new old
