-- What of a run is kept to report it.
use Rattle.std.specs.Prelude.{◌≡◌, ℕ, Bool, true, false, ◌&&◌, not, List, Option, None, Some, slice_get, if◌then◌else◌}
use Rattle.std.specs.Option.{option_map_or}
use Rattle.nextest_config_elements_choices.specs.Display.{shown_at_end, shown_at_once}
use Rattle.nextest_config_elements_choices.specs.declared.output_display.TestOutputDisplay.{TestOutputDisplay}
use Rattle.nextest_run_events_results.specs.Result.{is_success}
use Rattle.nextest_run_events_results.specs.declared.record.Record.{Record}
use Rattle.nextest_run_events_visibility.specs.declared.visibility.OutputOnTestFinished.{OutputOnTestFinished}
use Rattle.nextest_run_events_visibility.specs.declared.visibility.OutputStoreFinal.{OutputStoreFinal}
use Rattle.nextest_run_events_visibility.specs.declared.visibility.OutputStoreFinal.TheVariants as stored
use Rattle.test_runner_core_plan.specs.declared.plan.Plan.{Plan}
use Rattle.test_runner_core_plan.specs.declared.plan.PlanTest.{PlanTest}
use Rattle.test_runner_core_report_lines.specs.Due.{due_of}
use Rattle.test_runner_core_run_model.specs.State.{State}
use Rattle.test_runner_core_run_model.specs.declared.event.Event.{Event}
use Rattle.test_runner_core_run_state.specs.Records.{event_with, state_with, unwritten}
use Rattle.test_runner_core_reporter.specs.Final.{shown_tests}

-- an output that is shown neither at once nor at the end
abbrev pub is_never_shown : TestOutputDisplay → Bool
is_never_shown display = not (shown_at_once display) && not (shown_at_end display)

-- the test at a place shows nothing of its successes
abbrev pub hides_success : List PlanTest → ℕ → Bool
hides_success tests place = option_map_or (λ test. is_never_shown test.settings.success_output) (slice_get tests place) false

-- what is kept of a record of the test at a place
abbrev pub record_to_keep : List PlanTest → ℕ → Record → Record
record_to_keep tests place ending =
    if is_success ending.result && hides_success tests place then unwritten ending else ending

-- the same, where the outputs of some tests are forgotten
abbrev pub record_left : (ℕ → Bool) → List PlanTest → ℕ → Record → Record
record_left forgotten tests place ending = if forgotten place then unwritten ending else record_to_keep tests place ending

-- what is kept of an event of a plan's run
abbrev pub event_to_keep : Plan → Event → Event
event_to_keep plan = event_with (record_to_keep plan.tests)

-- whether outputs are in the final text
abbrev pub has_outputs : OutputStoreFinal → Bool
has_outputs stored.No = false
has_outputs (stored.Yes display_output) = display_output

-- a test is finished, and the final text won't have its outputs
abbrev pub is_settled_by : Option OutputOnTestFinished → Bool
is_settled_by None = false
is_settled_by (Some due) = not (has_outputs due.store_final)

-- the test at a place is settled: no report needs its outputs any more
abbrev pub is_settled : Plan → State → ℕ → Bool
is_settled plan state place =
    option_map_or (λ named. is_settled_by (due_of named.shows named.test.state)) (slice_get (shown_tests plan plan.tests state.tests) place) false

-- these tests are settled
abbrev pub AllSettled : (ℕ → Bool) → Plan → State → Type 0
AllSettled forgotten plan state = (place : ℕ) → forgotten place ≡ true → is_settled plan state place ≡ true

-- what is kept of a run of a plan: all of it but what was written by successes that are never
-- shown, and the outputs of some settled tests
abbrev pub IsKeptOf : Plan → State → State → Type 0
IsKeptOf plan state kept =
    (forgotten : ℕ → Bool) × AllSettled forgotten plan state × (kept ≡ state_with (record_left forgotten plan.tests) state)
