-- The keys that tell how a run goes.
use Rattle.std.specs.Prelude.{[], ◌∷◌, codes}
use Rattle.nextest_config_elements_deserialize.specs.Limits.{fail_fast_in}
use Rattle.nextest_config_elements_deserialize.specs.Threads.{test_threads_in}
use Rattle.nextest_config_elements_deserialize.specs.Timeouts.{global_timeout_in}
use Rattle.nextest_config_elements_choices.specs.declared.max_fail.MaxFail.{MaxFail}
use Rattle.nextest_config_elements_values.specs.declared.threads.TestThreads.{TestThreads}
use Rattle.nextest_config_elements_values.specs.declared.timeouts.GlobalTimeout.{GlobalTimeout}
use Rattle.nextest_config_resolution_keys.specs.Keys.{Key}
use Rattle.nextest_config_elements_choices.specs.declared.max_fail.MaxFail.TheVariants.{Count}
use Rattle.nextest_config_elements_choices.specs.declared.max_fail.TerminateMode.TheVariants.{Wait}
use Rattle.nextest_config_elements_values.specs.declared.threads.TestThreads.TheVariants as threads
use Rattle.nextest_config_resolution_keys.specs.Bench.{thirty_years}

-- `fail-fast`: when failing tests stop a run
abbrev pub fail_fast : Key MaxFail
fail_fast = record { path = codes "fail-fast" ∷ []; reading = fail_fast_in }

-- where nothing sets it: the first failing test stops a run, which waits for what runs
abbrev pub fail_fast_fallback : MaxFail
fail_fast_fallback = Count 1 Wait

-- `global-timeout`: how long a run may take
abbrev pub global_timeout : Key GlobalTimeout
global_timeout = record { path = codes "global-timeout" ∷ []; reading = global_timeout_in }

-- where nothing sets it: thirty years
abbrev pub global_timeout_fallback : GlobalTimeout
global_timeout_fallback = record { period = thirty_years }

-- `test-threads`: how many tests run at a time
abbrev pub test_threads : Key TestThreads
test_threads = record { path = codes "test-threads" ∷ []; reading = test_threads_in }

-- where nothing sets it: as many as there are processors
abbrev pub test_threads_fallback : TestThreads
test_threads_fallback = threads.NumCpus
