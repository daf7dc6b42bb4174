-- The parts of a run's progress, and what each keeps.
use Rattle.std.specs.Prelude.{◌≡◌, ℕ, ◌-◌, ◌≤◌, ◌<◌, Bool, true, false, List, [], ◌∷◌, Option, None, Some, ⊤, length, map}
use Rattle.std.specs.Prelude.{slice_get, slice_set}
use denote.Ref.{Bor}
use Rattle.nextest_config_elements_choices.specs.declared.max_fail.MaxFail.{MaxFail}
use Rattle.nextest_run_events_counters.specs.declared.run_stats.RunStats.{RunStats}
use Rattle.nextest_run_events_results.specs.declared.record.Record.{Record}
use Rattle.test_runner_core_run_model.specs.State.{TestState, State, waiting, is_finished, is_running, is_running_mark, is_finished_mark}
use Rattle.test_runner_core_run_model.specs.declared.mark.Mark.{Mark}
use Rattle.test_runner_core_run_model.specs.declared.mark.Mark.TheVariants as marks
use Rattle.test_runner_core_run_state.specs.Statuses.{ScriptStatus, AreScriptStatuses}
use Rattle.test_runner_core_run_model.specs.declared.run_test.RunTest.{RunTest}

-- how many scripts are to run, and the records of those that ended
pub record ScriptState : Type 0 where
  pub planned : ℕ
  pub ended : List Record

-- scripts that ended have the statuses of their records; they are no more than are to run, which
-- have room
pub record KeepsScripts (records : List Record) (statuses : List ScriptStatus) (planned room : ℕ) : Type 0 where
  pub made : AreScriptStatuses records statuses
  pub within : length statuses ≤ planned
  pub room_left : planned ≤ room

-- an attempt ended and none runs
abbrev pub is_over_once : Mark → Bool
is_over_once marks.Waiting = false
is_over_once marks.Running = false
is_over_once marks.Between = true
is_over_once (marks.Finished reason) = true

-- a test keeps its attempts as those of its plan, at most as many as it has tries; where one runs
-- there is room for its end, and where one ended and none runs there is one
pub record KeepsTest {Kept : Type 0} (are_of : RunTest → Kept → Type 0) (records : Kept → List Record) (room : Kept → ℕ) (plan : RunTest) (kept : Kept) (mark : Mark) : Type 0 where
  pub of : are_of plan kept
  pub room_left : is_running_mark mark ≡ true → 0 < room kept
  pub ended : is_over_once mark ≡ true → 0 < length (records kept)
  pub tries_left : is_finished_mark mark ≡ false → length (records kept) ≤ plan.tries - 1

-- these are the attempts of a test, as they are kept, if there is one
abbrev pub HasAttempts : {Kept : Type 0} → (RunTest → Kept → Type 0) → (Kept → List Record) → Option TestState → Option (Bor Kept) → Type 0
HasAttempts are_of records None None = ⊤
HasAttempts are_of records None (Some kept) = ⊥
HasAttempts are_of records (Some test) None = ⊥
HasAttempts are_of records (Some test) (Some kept) = are_of test.plan kept.now × (records kept.now ≡ test.records)

-- tests that wait, as planned, until there are tests of which some started
abbrev pub states_of : List RunTest → List TestState → List TestState
states_of planned [] = map waiting planned
states_of planned (test ∷ tests) = test ∷ tests

-- what is kept are no attempts, of whichever test
pub record HasNoAttempts {Kept : Type 0} (are_of : RunTest → Kept → Type 0) (records : Kept → List Record) (kept : Kept) : Type 0 where
  pub none : records kept ≡ []
  pub of : (plan : RunTest) → are_of plan kept

-- the state of a run that is kept in these parts; why it is stopped and how many tests were skipped
-- is kept with the counters
abbrev pub state_of : ScriptState → List TestState → RunStats → MaxFail → State
state_of scripts tests stats limit =
    record { planned_scripts = scripts.planned; scripts = scripts.ended; tests = tests; limit = limit; skipped = stats.skipped; reason = stats.cancel_reason }

-- the test at a place may start: there is one, it doesn't run and isn't over
pub record IsStartable (tests : List TestState) (place : ℕ) : Type 0 where
  pub test : TestState
  pub found : slice_get tests place ≡ Some test
  pub idle : is_running test ≡ false
  pub open_still : is_finished test ≡ false

-- an attempt of the test at a place runs
pub record IsRunningAt (tests : List TestState) (place : ℕ) : Type 0 where
  pub test : TestState
  pub found : slice_get tests place ≡ Some test
  pub runs : test.mark ≡ marks.Running

-- the test at a place, if there is one, gives way to what is made of it, and the others stay
abbrev pub ChangesAt : ℕ → (TestState → TestState) → List TestState → List TestState → Type 0
ChangesAt place made old new =
    (test : TestState) → slice_get old place ≡ Some test → new ≡ slice_set old place (made test)
