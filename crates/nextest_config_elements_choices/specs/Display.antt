-- When a test's output is shown.
use Rattle.std.specs.Prelude.{Bool, true, false}
use Rattle.nextest_config_elements_choices.specs.declared.output_display.TestOutputDisplay.{TestOutputDisplay}
use Rattle.nextest_config_elements_choices.specs.declared.output_display.TestOutputDisplay.TheVariants as shown

-- when the test ends
abbrev pub shown_at_once : TestOutputDisplay → Bool
shown_at_once shown.Immediate = true
shown_at_once shown.ImmediateFinal = true
shown_at_once shown.Final = false
shown_at_once shown.Never = false

-- when the run ends
abbrev pub shown_at_end : TestOutputDisplay → Bool
shown_at_end shown.Immediate = false
shown_at_end shown.ImmediateFinal = true
shown_at_end shown.Final = true
shown_at_end shown.Never = false
