-- How long something may take where nothing else is said.
use Rattle.std.specs.Prelude.{None}
use Rattle.nextest_config_elements_choices.specs.declared.timeouts.SlowTimeoutResult.TheVariants as slow
use Rattle.nextest_config_elements_values.specs.declared.config_duration.ConfigDuration.{ConfigDuration}
use Rattle.nextest_config_elements_values.specs.declared.timeouts.SlowTimeout.{SlowTimeout}

-- the grace period where none is set
abbrev pub ten_seconds : ConfigDuration
ten_seconds = record { nanos = 10_000_000_000 }

-- slow after a period, and never ended for that
abbrev pub slow_after : ConfigDuration → SlowTimeout
slow_after period = record { period = period; terminate_after = None; grace_period = ten_seconds; on_timeout = slow.Fail }
