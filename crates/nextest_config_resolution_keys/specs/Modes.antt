-- What tells of tests and benchmarks, by the mode of a run: of benchmarks what stands under `bench`
-- holds, and that alone.
use Rattle.std.specs.Prelude.{Option}
use Rattle.nextest_config_elements_choices.specs.declared.run_mode.NextestRunMode.{NextestRunMode}
use Rattle.nextest_config_elements_choices.specs.declared.run_mode.NextestRunMode.TheVariants as mode
use Rattle.nextest_config_elements_values.specs.declared.timeouts.GlobalTimeout.{GlobalTimeout}
use Rattle.nextest_config_elements_values.specs.declared.timeouts.SlowTimeout.{SlowTimeout}
use Rattle.nextest_config_resolution_keys.specs.Bench.{bench_global_timeout_fallback, bench_slow_timeout_fallback}
use Rattle.nextest_config_resolution_keys.specs.Own.{bench_global_timeout_of, global_timeout_of}
use Rattle.nextest_config_resolution_keys.specs.Run.{global_timeout_fallback}
use Rattle.nextest_config_resolution_keys.specs.Test.{bench_slow_timeout_of, slow_timeout_fallback, slow_timeout_of}
use Rattle.nextest_config_resolution_keys.specs.declared.own.OwnValues.{OwnValues}
use Rattle.nextest_config_resolution_keys.specs.declared.test.TestValues.{TestValues}

abbrev pub slow_timeout_by : NextestRunMode → TestValues → Option SlowTimeout
slow_timeout_by mode.Test = slow_timeout_of
slow_timeout_by mode.Benchmark = bench_slow_timeout_of

abbrev pub slow_timeout_or : NextestRunMode → SlowTimeout
slow_timeout_or mode.Test = slow_timeout_fallback
slow_timeout_or mode.Benchmark = bench_slow_timeout_fallback

abbrev pub global_timeout_by : NextestRunMode → OwnValues → Option GlobalTimeout
global_timeout_by mode.Test = global_timeout_of
global_timeout_by mode.Benchmark = bench_global_timeout_of

abbrev pub global_timeout_or : NextestRunMode → GlobalTimeout
global_timeout_or mode.Test = global_timeout_fallback
global_timeout_or mode.Benchmark = bench_global_timeout_fallback
