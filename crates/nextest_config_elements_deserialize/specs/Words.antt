-- The values that are one of some words.
use Rattle.std.specs.Prelude.{ℕ, List, [], ◌∷◌, codes, Option, None, Some, option_and_then, if◌then◌else◌}
use Rattle.std.specs.Str.{bytes_eq}
use Rattle.toml.specs.Data.{Data, as_str}
use Rattle.nextest_config_elements_choices.specs.declared.max_fail.TerminateMode.{TerminateMode}
use Rattle.nextest_config_elements_choices.specs.declared.max_fail.TerminateMode.TheVariants as terminate
use Rattle.nextest_config_elements_choices.specs.declared.output_display.TestOutputDisplay.{TestOutputDisplay}
use Rattle.nextest_config_elements_choices.specs.declared.output_display.TestOutputDisplay.TheVariants as shown
use Rattle.nextest_config_elements_choices.specs.declared.status_level.StatusLevel.{StatusLevel}
use Rattle.nextest_config_elements_choices.specs.declared.status_level.StatusLevel.TheVariants as level
use Rattle.nextest_config_elements_choices.specs.declared.status_level.FinalStatusLevel.{FinalStatusLevel}
use Rattle.nextest_config_elements_choices.specs.declared.status_level.FinalStatusLevel.TheVariants as final_level
use Rattle.nextest_config_elements_choices.specs.declared.timeouts.FlakyResult.{FlakyResult}
use Rattle.nextest_config_elements_choices.specs.declared.timeouts.FlakyResult.TheVariants as flaky
use Rattle.nextest_config_elements_choices.specs.declared.timeouts.LeakTimeoutResult.{LeakTimeoutResult}
use Rattle.nextest_config_elements_choices.specs.declared.timeouts.LeakTimeoutResult.TheVariants as leak
use Rattle.nextest_config_elements_choices.specs.declared.timeouts.SlowTimeoutResult.{SlowTimeoutResult}
use Rattle.nextest_config_elements_choices.specs.declared.timeouts.SlowTimeoutResult.TheVariants as slow

-- what stands beside a word in a table
abbrev pub named_in : {A : Type 0} → List (List ℕ × A) → List ℕ → Option A
named_in [] word = None
named_in (row ∷ rows) word = if bytes_eq word row.0 then Some row.1 else named_in rows word

-- a text that is one of the words of a table
abbrev pub one_of : {A : Type 0} → List (List ℕ × A) → Data → Option A
one_of rows given = option_and_then (named_in rows) (as_str given)

-- what becomes of a test that passes on a later attempt
abbrev pub flaky_result : Data → Option FlakyResult
flaky_result = one_of ((codes "pass", flaky.Pass) ∷ (codes "fail", flaky.Fail) ∷ [])

-- what becomes of a process that leaves handles open
abbrev pub leak_result : Data → Option LeakTimeoutResult
leak_result = one_of ((codes "pass", leak.Pass) ∷ (codes "fail", leak.Fail) ∷ [])

-- what becomes of a process that is ended since it took too long
abbrev pub slow_result : Data → Option SlowTimeoutResult
slow_result = one_of ((codes "fail", slow.Fail) ∷ (codes "pass", slow.Pass) ∷ [])

-- how a run stops
abbrev pub terminate_mode : Data → Option TerminateMode
terminate_mode = one_of ((codes "wait", terminate.Wait) ∷ (codes "immediate", terminate.Immediate) ∷ [])

-- when an output is shown
abbrev pub output_display : Data → Option TestOutputDisplay
output_display = one_of (
    (codes "immediate", shown.Immediate) ∷ (codes "immediate-final", shown.ImmediateFinal) ∷
    (codes "final", shown.Final) ∷ (codes "never", shown.Never) ∷ [])

-- which statuses are shown while tests run
abbrev pub status_level : Data → Option StatusLevel
status_level = one_of (
    (codes "none", level.None) ∷ (codes "fail", level.Fail) ∷ (codes "retry", level.Retry) ∷ (codes "slow", level.Slow) ∷
    (codes "leak", level.Leak) ∷ (codes "pass", level.Pass) ∷ (codes "skip", level.Skip) ∷ (codes "all", level.All) ∷ [])

-- `retry` is another word for `flaky`
abbrev pub final_status_level : Data → Option FinalStatusLevel
final_status_level = one_of (
    (codes "none", final_level.None) ∷ (codes "fail", final_level.Fail) ∷ (codes "flaky", final_level.Flaky) ∷
    (codes "retry", final_level.Flaky) ∷ (codes "slow", final_level.Slow) ∷ (codes "skip", final_level.Skip) ∷
    (codes "leak", final_level.Leak) ∷ (codes "pass", final_level.Pass) ∷ (codes "all", final_level.All) ∷ [])
