-- How the levels rise.
use Rattle.std.specs.Prelude.{ℕ}
use Rattle.nextest_config_elements_choices.specs.declared.status_level.StatusLevel.{StatusLevel}
use Rattle.nextest_config_elements_choices.specs.declared.status_level.StatusLevel.TheVariants as level
use Rattle.nextest_config_elements_choices.specs.declared.status_level.FinalStatusLevel.{FinalStatusLevel}
use Rattle.nextest_config_elements_choices.specs.declared.status_level.FinalStatusLevel.TheVariants as final_level

-- levels rise in this order
abbrev pub rank : StatusLevel → ℕ
rank level.None = 0
rank level.Fail = 1
rank level.Retry = 2
rank level.Slow = 3
rank level.Leak = 4
rank level.Pass = 5
rank level.Skip = 6
rank level.All = 7

-- the levels of a summary rise in this order
abbrev pub final_rank : FinalStatusLevel → ℕ
final_rank final_level.None = 0
final_rank final_level.Fail = 1
final_rank final_level.Flaky = 2
final_rank final_level.Slow = 3
final_rank final_level.Skip = 4
final_rank final_level.Leak = 5
final_rank final_level.Pass = 6
final_rank final_level.All = 7
