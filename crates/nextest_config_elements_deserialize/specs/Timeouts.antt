-- How long something may take: a duration alone, or a table.
use Rattle.std.specs.Prelude.{codes, Ok}
use Rattle.toml.specs.Data.{Data, table, Members}
use Rattle.nextest_config_elements_values.specs.Timeouts.{slow_after, ten_seconds}
use Rattle.nextest_config_elements_values.specs.declared.timeouts.SlowTimeout.{SlowTimeout}
use Rattle.nextest_config_elements_values.specs.declared.timeouts.LeakTimeout.{LeakTimeout}
use Rattle.nextest_config_elements_values.specs.declared.timeouts.GlobalTimeout.{GlobalTimeout}
use Rattle.nextest_config_elements_choices.specs.declared.timeouts.LeakTimeoutResult.TheVariants as leak
use Rattle.nextest_config_elements_choices.specs.declared.timeouts.SlowTimeoutResult.TheVariants as slow
use Rattle.nextest_config_elements_toml.specs.Reading.{Reading, ◌>>=◌, leaf, required, optional, defaulted}
use Rattle.nextest_config_elements_deserialize.specs.Values.{positive, duration, positive_duration}
use Rattle.nextest_config_elements_deserialize.specs.Words.{leak_result, slow_result}

-- a text is a period alone
abbrev pub plain_slow : Data → Reading SlowTimeout
plain_slow given = do
  period ← leaf positive_duration given
  Ok (slow_after period)

-- a table has a period, and may have the rest
abbrev pub slow_in : Members → Reading SlowTimeout
slow_in members = do
  grace_period ← defaulted (codes "grace-period") duration ten_seconds members
  on_timeout ← defaulted (codes "on-timeout") slow_result slow.Fail members
  period ← required (codes "period") positive_duration members
  terminate_after ← optional (codes "terminate-after") positive members
  Ok (record { period = period; terminate_after = terminate_after; grace_period = grace_period; on_timeout = on_timeout })

-- a table, or a period alone
abbrev pub slow_timeout_in : Data → Reading SlowTimeout
slow_timeout_in (table members) = slow_in members
slow_timeout_in given = plain_slow given

-- only a period: a test that leaves handles open passes
abbrev pub plain_leak : Data → Reading LeakTimeout
plain_leak given = do
  period ← leaf duration given
  Ok (record { period = period; result = leak.Pass })

-- a table has a period, and may have what becomes of the process
abbrev pub leak_in : Members → Reading LeakTimeout
leak_in members = do
  period ← required (codes "period") duration members
  result ← defaulted (codes "result") leak_result leak.Pass members
  Ok (record { period = period; result = result })

-- a table, or a period alone
abbrev pub leak_timeout_in : Data → Reading LeakTimeout
leak_timeout_in (table members) = leak_in members
leak_timeout_in given = plain_leak given

-- a period above 0
abbrev pub global_timeout_in : Data → Reading GlobalTimeout
global_timeout_in given = do
  period ← leaf positive_duration given
  Ok (record { period = period })
