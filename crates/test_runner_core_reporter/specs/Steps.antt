-- What a run reports as it goes on: of each step the tests that it finishes.
use Rattle.std.specs.Prelude.{ℕ, List, [], ◌∷◌, ◌++◌, Option, None, Some, Result, Ok, Err, slice_get}
use Rattle.test_runner_core_plan.specs.declared.plan.Plan.{Plan}
use Rattle.test_runner_core_run_model.specs.Finishing.{finishing}
use Rattle.test_runner_core_run_model.specs.State.{State}
use Rattle.test_runner_core_run_model.specs.Step.{step}
use Rattle.test_runner_core_run_model.specs.declared.event.Event.{Event}
use Rattle.test_runner_core_run_model.specs.declared.step_refusal.StepRefusal.{StepRefusal}
use Rattle.test_runner_core_reporter.specs.Final.{done_part, shown_tests}
use Rattle.test_runner_core_reporter.specs.Parts.{Part}
use Rattle.test_runner_core_reporter.specs.declared.final_text.ShownTest.{ShownTest}

-- what is reported as the test at a place finishes
abbrev pub done : Option ShownTest → List Part
done None = []
done (Some named) = done_part named ∷ []

abbrev pub done_at : Plan → State → ℕ → List Part
done_at plan state place = done (slice_get (shown_tests plan plan.tests state.tests) place)

-- what is reported as the tests at places finish
abbrev pub all_done : Plan → State → List ℕ → List Part
all_done plan state [] = []
all_done plan state (place ∷ places) = done_at plan state place ++ all_done plan state places

-- what a step reports
abbrev pub step_parts : Plan → Event → State → State → List Part
step_parts plan event old new = all_done plan new (finishing event old new)

abbrev pub parts_after : Plan → Event → State → Result State StepRefusal → List Part
parts_after plan event old (Ok new) = step_parts plan event old new
parts_after plan event old (Err refusal) = []

-- what a run reports as it goes on by these events
abbrev pub progress : Plan → Result State StepRefusal → List Event → List Part
progress plan (Err refusal) events = []
progress plan (Ok state) [] = []
progress plan (Ok state) (event ∷ more) = parts_after plan event state (step state event) ++ progress plan (step state event) more
