-- When failing tests stop a run: a truth value alone, or a table.
use Rattle.std.specs.Prelude.{pos, codes, Option, None, Some, Ok, option_map, if◌then◌else◌}
use Rattle.std.specs.Str.{bytes_eq}
use Rattle.toml.specs.Data.{Data, string, integer, table, Members}
use Rattle.nextest_config_elements_choices.specs.MaxFail.{of_fail_fast}
use Rattle.nextest_config_elements_choices.specs.declared.max_fail.MaxFail.{MaxFail}
use Rattle.nextest_config_elements_choices.specs.declared.max_fail.MaxFail.TheVariants.{Count, All}
use Rattle.nextest_config_elements_choices.specs.declared.max_fail.TerminateMode.{TerminateMode}
use Rattle.nextest_config_elements_choices.specs.declared.max_fail.TerminateMode.TheVariants.{Wait}
use Rattle.nextest_config_elements_toml.specs.Reading.{Reading, ◌>>=◌, leaf, required, defaulted}
use Rattle.nextest_config_elements_deserialize.specs.Values.{above_none, truth}
use Rattle.nextest_config_elements_deserialize.specs.Words.{terminate_mode}
use Rattle.nextest_config_elements_deserialize.specs.declared.limit.Limit.{Limit}
use Rattle.nextest_config_elements_deserialize.specs.declared.limit.Limit.TheVariants as limits

-- a number from 1 on, or `all`
abbrev pub limit : Data → Option Limit
limit (integer (pos number)) = option_map limits.Count (above_none number)
limit (string text) = if bytes_eq text (codes "all") then Some limits.All else None
limit given = None

-- a limit, and how a run stops there; without one that doesn't matter
abbrev pub stopped_at : Limit → TerminateMode → MaxFail
stopped_at (limits.Count number) mode = Count number mode
stopped_at limits.All mode = All

-- a table has a limit, and may have how a run stops there
abbrev pub limit_in : Members → Reading MaxFail
limit_in members = do
  found ← required (codes "max-fail") limit members
  mode ← defaulted (codes "terminate") terminate_mode Wait members
  Ok (stopped_at found mode)

-- a truth value switches
abbrev pub switch_in : Data → Reading MaxFail
switch_in given = do
  stops ← leaf truth given
  Ok (of_fail_fast stops)

-- a table, or a truth value alone
abbrev pub fail_fast_in : Data → Reading MaxFail
fail_fast_in (table members) = limit_in members
fail_fast_in given = switch_in given
