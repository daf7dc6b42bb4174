-- Which statuses are shown, when outputs are, how a run stops, and what becomes of a test or
-- process: a word each.
use Rattle.toml.specs.Data.{Data}
use Rattle.nextest_config_elements_choices.specs.declared.max_fail.TerminateMode.{TerminateMode}
use Rattle.nextest_config_elements_choices.specs.declared.output_display.TestOutputDisplay.{TestOutputDisplay}
use Rattle.nextest_config_elements_choices.specs.declared.status_level.StatusLevel.{StatusLevel}
use Rattle.nextest_config_elements_choices.specs.declared.status_level.FinalStatusLevel.{FinalStatusLevel}
use Rattle.nextest_config_elements_choices.specs.declared.timeouts.FlakyResult.{FlakyResult}
use Rattle.nextest_config_elements_choices.specs.declared.timeouts.LeakTimeoutResult.{LeakTimeoutResult}
use Rattle.nextest_config_elements_choices.specs.declared.timeouts.SlowTimeoutResult.{SlowTimeoutResult}
use Rattle.nextest_config_elements_toml.specs.Reading.{Reading, leaf}
use Rattle.nextest_config_elements_deserialize.specs.Words.{flaky_result, leak_result, slow_result, terminate_mode, status_level, final_status_level, output_display}

-- what becomes of a flaky test
abbrev pub flaky_result_in : Data → Reading FlakyResult
flaky_result_in = leaf flaky_result

-- which statuses are shown while tests run
abbrev pub status_level_in : Data → Reading StatusLevel
status_level_in = leaf status_level

-- which statuses are shown at the end of a run
abbrev pub final_status_level_in : Data → Reading FinalStatusLevel
final_status_level_in = leaf final_status_level

-- when an output is shown
abbrev pub output_display_in : Data → Reading TestOutputDisplay
output_display_in = leaf output_display

-- how a run stops
abbrev pub terminate_mode_in : Data → Reading TerminateMode
terminate_mode_in = leaf terminate_mode

-- what becomes of a process that is ended since it took too long
abbrev pub slow_timeout_result_in : Data → Reading SlowTimeoutResult
slow_timeout_result_in = leaf slow_result

-- what becomes of a process that leaves handles open
abbrev pub leak_timeout_result_in : Data → Reading LeakTimeoutResult
leak_timeout_result_in = leaf leak_result
