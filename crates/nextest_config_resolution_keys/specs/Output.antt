-- The keys that tell what is shown.
use Rattle.std.specs.Prelude.{[], ◌∷◌, codes}
use Rattle.nextest_config_elements_deserialize.specs.Levels.{final_status_level_in, output_display_in, status_level_in}
use Rattle.nextest_config_elements_choices.specs.declared.output_display.TestOutputDisplay.{TestOutputDisplay}
use Rattle.nextest_config_elements_choices.specs.declared.status_level.FinalStatusLevel.{FinalStatusLevel}
use Rattle.nextest_config_elements_choices.specs.declared.status_level.StatusLevel.{StatusLevel}
use Rattle.nextest_config_resolution_keys.specs.Keys.{Key}
use Rattle.nextest_config_elements_choices.specs.declared.output_display.TestOutputDisplay.TheVariants as shown
use Rattle.nextest_config_elements_choices.specs.declared.status_level.FinalStatusLevel.TheVariants as final_level
use Rattle.nextest_config_elements_choices.specs.declared.status_level.StatusLevel.TheVariants as level

-- `failure-output`: when the output of a test is shown that fails
abbrev pub failure_output : Key TestOutputDisplay
failure_output = record { path = codes "failure-output" ∷ []; reading = output_display_in }

-- where nothing sets it: at once
abbrev pub failure_output_fallback : TestOutputDisplay
failure_output_fallback = shown.Immediate

-- `final-status-level`: which statuses are shown at the end of a run
abbrev pub final_status_level : Key FinalStatusLevel
final_status_level = record { path = codes "final-status-level" ∷ []; reading = final_status_level_in }

-- where nothing sets it: up to flaky tests
abbrev pub final_status_level_fallback : FinalStatusLevel
final_status_level_fallback = final_level.Flaky

-- `status-level`: which statuses are shown while tests run
abbrev pub status_level : Key StatusLevel
status_level = record { path = codes "status-level" ∷ []; reading = status_level_in }

-- where nothing sets it: up to tests that pass
abbrev pub status_level_fallback : StatusLevel
status_level_fallback = level.Pass

-- `success-output`: when the output of a test is shown that passes
abbrev pub success_output : Key TestOutputDisplay
success_output = record { path = codes "success-output" ∷ []; reading = output_display_in }

-- where nothing sets it: never
abbrev pub success_output_fallback : TestOutputDisplay
success_output_fallback = shown.Never
