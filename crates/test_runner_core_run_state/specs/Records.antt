-- Runs with other records of their tests: with less of what was written.
use Rattle.std.specs.Prelude.{ℕ, zero, suc, Bool, true, false, List, [], ◌∷◌, map, None, if◌then◌else◌}
use Rattle.nextest_run_events_results.specs.declared.record.Record.{Record}
use Rattle.nextest_run_events_results.specs.declared.record.RecordOutput.TheVariants as wrote
use Rattle.test_runner_core_run_model.specs.State.{State, TestState}
use Rattle.test_runner_core_run_model.specs.declared.event.Event.{Event}
use Rattle.test_runner_core_run_model.specs.declared.event.Event.TheVariants as events

-- a record without what was written
abbrev pub unwritten : Record → Record
unwritten ending = record ending { output = wrote.Streams None None }

-- a test with other records
abbrev pub with_records : (Record → Record) → TestState → TestState
with_records kept test = record test { records = map kept test.records }

-- tests with other records, by their places
abbrev pub tests_with : (ℕ → Record → Record) → List TestState → List TestState
tests_with kept [] = []
tests_with kept (test ∷ tests) = with_records (kept zero) test ∷ tests_with (λ place. kept (suc place)) tests

-- a run with other records of its tests
abbrev pub state_with : (ℕ → Record → Record) → State → State
state_with kept state = record state { tests = tests_with kept state.tests }

-- an event with another record of a test
abbrev pub event_with : (ℕ → Record → Record) → Event → Event
event_with kept (events.ScriptEnded script ending) = events.ScriptEnded script ending
event_with kept (events.Started test) = events.Started test
event_with kept (events.Ended test ending) = events.Ended test (kept test ending)
event_with kept (events.Stopped reason) = events.Stopped reason

-- whether two places are one
abbrev pub is_place : ℕ → ℕ → Bool
is_place zero zero = true
is_place zero (suc other) = false
is_place (suc place) zero = false
is_place (suc place) (suc other) = is_place place other

-- the records of the test at a place without their outputs, and those of the others as they are
abbrev pub unwritten_at : ℕ → ℕ → Record → Record
unwritten_at place other ending = if is_place place other then unwritten ending else ending
