-- The keys in the table `bench`.
use Rattle.std.specs.Prelude.{[], ◌∷◌, codes}
use Rattle.nextest_config_elements_deserialize.specs.Timeouts.{global_timeout_in, slow_timeout_in}
use Rattle.nextest_config_elements_values.specs.declared.timeouts.GlobalTimeout.{GlobalTimeout}
use Rattle.nextest_config_elements_values.specs.declared.timeouts.SlowTimeout.{SlowTimeout}
use Rattle.nextest_config_resolution_keys.specs.Keys.{Key}
use Rattle.nextest_config_elements_values.specs.declared.config_duration.ConfigDuration.{ConfigDuration}
use Rattle.nextest_config_elements_values.specs.Timeouts.{slow_after}

-- thirty years, of 365.25 days each
abbrev pub thirty_years : ConfigDuration
thirty_years = record { nanos = 946_728_000_000_000_000 }

-- `bench.global-timeout`: how long a run of benchmarks may take
abbrev pub bench_global_timeout : Key GlobalTimeout
bench_global_timeout = record { path = codes "bench" ∷ codes "global-timeout" ∷ []; reading = global_timeout_in }

-- where nothing sets it: thirty years
abbrev pub bench_global_timeout_fallback : GlobalTimeout
bench_global_timeout_fallback = record { period = thirty_years }

-- `bench.slow-timeout`: when a benchmark is slow, and when it is ended for that
abbrev pub bench_slow_timeout : Key SlowTimeout
bench_slow_timeout = record { path = codes "bench" ∷ codes "slow-timeout" ∷ []; reading = slow_timeout_in }

-- where nothing sets it: after thirty years, and nothing is ended for that
abbrev pub bench_slow_timeout_fallback : SlowTimeout
bench_slow_timeout_fallback = slow_after thirty_years
