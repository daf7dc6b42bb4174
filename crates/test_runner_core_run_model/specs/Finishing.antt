-- Which tests a step finishes.
use Rattle.std.specs.Prelude.{◌≡◌, ℕ, ◌==◌, Bool, false, ◌&&◌, not, length, List, [], ◌∷◌, ◌++◌, None, is_some, slice_get, if◌then◌else◌}
use Rattle.std.specs.List.{filter, range_with_len}
use Rattle.std.specs.Option.{option_map_or}
use Rattle.test_runner_core_run_model.specs.State.{TestState, State, is_finished}
use Rattle.test_runner_core_run_model.specs.declared.event.Event.{Event}
use Rattle.test_runner_core_run_model.specs.declared.event.Event.TheVariants as events
use Rattle.test_runner_core_run_model.specs.declared.finished.Finished.{Finished}
use Rattle.test_runner_core_run_model.specs.declared.mark.Mark.{Mark}
use Rattle.test_runner_core_run_model.specs.declared.mark.Mark.TheVariants as marks

-- of so many first places, those that pass a test, in plan order
abbrev pub places_among : (ℕ → Bool) → ℕ → List ℕ
places_among passes count = filter passes (range_with_len 0 count)

-- the test at a place is over
abbrev pub finished_at : List TestState → ℕ → Bool
finished_at tests place = option_map_or is_finished (slice_get tests place) false

-- the test at a place is over, and wasn't before
abbrev pub newly_finished_at : List TestState → List TestState → ℕ → Bool
newly_finished_at old new place = finished_at new place && not (finished_at old place)

-- the places of the tests that a step finishes, in plan order: they weren't finished before and are
-- now
abbrev pub newly_finished : State → State → List ℕ
newly_finished old new = places_among (newly_finished_at old.tests new.tests) (length new.tests)

-- the same, that of the attempt that ended first
abbrev pub finishing : Event → State → State → List ℕ
finishing (events.ScriptEnded script ending) old new = newly_finished old new
finishing (events.Started test) old new = newly_finished old new
finishing (events.Ended test ending) old new =
    filter (λ place. place == test) (newly_finished old new) ++ filter (λ place. not (place == test)) (newly_finished old new)
finishing (events.Stopped reason) old new = newly_finished old new

-- a step stops the run: no reason stood before, and one does now
abbrev pub stops_run : State → State → Bool
stops_run old new = not (is_some old.reason) && is_some new.reason

-- a mark of a test that is over under a reason
abbrev pub is_stopped_mark : Mark → Bool
is_stopped_mark marks.Waiting = false
is_stopped_mark marks.Running = false
is_stopped_mark marks.Between = false
is_stopped_mark (marks.Finished reason) = is_some reason

-- the test at a place is over under a reason
abbrev pub is_stopped_at : List TestState → ℕ → Bool
is_stopped_at tests place = option_map_or (λ test. is_stopped_mark test.mark) (slice_get tests place) false

-- the places of the tests that are over under a reason, in plan order
abbrev pub stopped_places : State → List ℕ
stopped_places state = places_among (is_stopped_at state.tests) (length state.tests)

-- the places of the tests that a step finished, as it answers: that of the attempt that ended
-- first, and behind it, where the step stopped the run, those of the tests that are over under a
-- reason in the state after it
abbrev pub finished_places : Finished → State → List ℕ
finished_places finished new =
    option_map_or (λ place. place ∷ []) finished.ended [] ++ (if finished.stops then stopped_places new else [])

-- where no reason stands, no test is over under one
abbrev pub KeepsReasons : State → Type 0
KeepsReasons state = state.reason ≡ None → (place : ℕ) → is_stopped_at state.tests place ≡ false
