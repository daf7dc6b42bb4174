-- What the laws say.
use Rattle.std.specs.Prelude.{◌≡◌, ◌≤◌, Bool, true, false, IsTrue, IsFalse, Option, None}
use Rattle.nextest_config_elements_choices.specs.declared.output_display.TestOutputDisplay.{TestOutputDisplay}
use Rattle.nextest_config_elements_choices.specs.declared.status_level.FinalStatusLevel.{FinalStatusLevel}
use Rattle.nextest_config_elements_choices.specs.declared.status_level.StatusLevel.{StatusLevel}
use Rattle.nextest_run_events_results.specs.declared.cancel_reason.CancelReason.{CancelReason}
use Rattle.nextest_run_events_results.specs.declared.result.ExecutionResultDescription.{ExecutionResultDescription}
use Rattle.nextest_run_events_visibility.specs.Visibility.{weight, was_ended_by_run, visibility_of}
use Rattle.nextest_run_events_visibility.specs.declared.visibility.OutputOnTestFinished.{OutputOnTestFinished}
use Rattle.nextest_run_events_visibility.specs.declared.visibility.OutputStoreFinal.{OutputStoreFinal}
use Rattle.nextest_run_events_visibility.specs.declared.visibility.OutputStoreFinal.TheVariants as kept
use Rattle.nextest_run_events_visibility.specs.declared.visibility.StatusLevels.{StatusLevels}

-- something is kept for the end
abbrev pub is_kept : OutputStoreFinal → Bool
is_kept kept.No = false
is_kept (kept.Yes display_output) = true

-- the output is shown at the end
abbrev pub is_shown_at_end : OutputStoreFinal → Bool
is_shown_at_end kept.No = false
is_shown_at_end (kept.Yes display_output) = display_output

-- what the one shows the other shows too, and the line is the same
pub record ShowsNoMore (fewer more : OutputOnTestFinished) : Type 0 where
  pub line : fewer.write_status_line ≡ more.write_status_line
  pub at_once : IsTrue fewer.show_immediate → IsTrue more.show_immediate
  pub stored : IsTrue (is_kept fewer.store_final) → IsTrue (is_kept more.store_final)
  pub at_end : IsTrue (is_shown_at_end fewer.store_final) → IsTrue (is_shown_at_end more.store_final)

-- under a greater reason no more is shown than under a lesser one under which the run did not end
-- the test
abbrev pub GraverHides : Type 0
GraverHides =
    (levels : StatusLevels) (display : TestOutputDisplay) (lesser greater : Option CancelReason) (level : StatusLevel) (final_level : FinalStatusLevel) (came : ExecutionResultDescription) →
    weight lesser ≤ weight greater → IsFalse (was_ended_by_run lesser came) →
    ShowsNoMore (visibility_of levels display greater level final_level came) (visibility_of levels display lesser level final_level came)

-- under any reason no more is shown than under none
abbrev pub NoneShowsMost : Type 0
NoneShowsMost =
    (levels : StatusLevels) (display : TestOutputDisplay) (reason : Option CancelReason) (level : StatusLevel) (final_level : FinalStatusLevel) (came : ExecutionResultDescription) →
    ShowsNoMore (visibility_of levels display reason level final_level came) (visibility_of levels display None level final_level came)
