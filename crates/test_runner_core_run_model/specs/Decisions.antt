-- Which steps are refused, by what a state shows of them.
use Rattle.std.specs.Prelude.{◌≡◌, ℕ, Bool, length, Option, None, Some, Ok, Err, is_some, slice_get}
use Rattle.test_runner_core_run_model.specs.State.{TestState, State}
use Rattle.test_runner_core_run_model.specs.Step.{step}
use Rattle.test_runner_core_run_model.specs.declared.mark.Mark.{Mark}
use Rattle.test_runner_core_run_model.specs.declared.event.Event.{Event}
use Rattle.test_runner_core_run_model.specs.declared.step_refusal.StepRefusal.{StepRefusal}

-- the step of an event has this refusal, or it is taken
abbrev pub Decides : State → Event → Option StepRefusal → Type 0
Decides state event (Some refusal) = step state event ≡ Err refusal
Decides state event None = (new : State) × (step state event ≡ Ok new)

-- a state shows how many scripts are planned, how many ended, and whether it is stopped
pub record ShowsScripts (state : State) (planned ended : ℕ) (is_stopped : Bool) : Type 0 where
  pub planned_scripts : state.planned_scripts ≡ planned
  pub ended_scripts : length state.scripts ≡ ended
  pub reason : is_some state.reason ≡ is_stopped

-- a state shows a test's mark at a place
pub record ShowsTest (state : State) (place : ℕ) (mark : Mark) : Type 0 where
  pub test : TestState
  pub found : slice_get state.tests place ≡ Some test
  pub marked : test.mark ≡ mark
