-- How many threads there are.
use Rattle.std.specs.Prelude.{ℕ, ◌-◌, max}
use Rattle.nextest_config_elements_values.specs.declared.threads.TestThreads.{TestThreads}
use Rattle.nextest_config_elements_values.specs.declared.threads.TestThreads.TheVariants as threads
use Rattle.nextest_config_elements_values.specs.declared.threads.ThreadsRequired.{ThreadsRequired}
use Rattle.nextest_config_elements_values.specs.declared.threads.ThreadsRequired.TheVariants as required

-- how many tests run at a time with so many processors: at least 1 where a number is taken from
-- theirs
abbrev pub test_threads_of : TestThreads → ℕ → ℕ
test_threads_of (threads.Count count) processors = count
test_threads_of (threads.CpusLess count) processors = max (processors - count) 1
test_threads_of threads.NumCpus processors = processors

-- how many threads a test takes where so many run at a time and there are so many processors
abbrev pub threads_required_of : ThreadsRequired → ℕ → ℕ → ℕ
threads_required_of (required.Count count) test_threads processors = count
threads_required_of required.NumCpus test_threads processors = processors
threads_required_of required.NumTestThreads test_threads processors = test_threads
