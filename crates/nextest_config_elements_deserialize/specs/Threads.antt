-- How many threads there are.
use Rattle.std.specs.Prelude.{ℕ, ◌+◌, ℤ, pos, negsuc, List, [], ◌∷◌, codes, Option, None, Some, Ok, Err, option_map, if◌then◌else◌}
use Rattle.std.specs.Str.{bytes_eq}
use Rattle.toml.specs.Data.{Data, string, integer, table, Members}
use Rattle.nextest_config_elements_values.specs.declared.threads.TestThreads.{TestThreads}
use Rattle.nextest_config_elements_values.specs.declared.threads.TestThreads.TheVariants as threads
use Rattle.nextest_config_elements_values.specs.declared.threads.ThreadsRequired.{ThreadsRequired}
use Rattle.nextest_config_elements_values.specs.declared.threads.ThreadsRequired.TheVariants as taken
use Rattle.nextest_config_elements_values.specs.declared.threads.TestGroupConfig.{TestGroupConfig}
use Rattle.nextest_config_elements_toml.specs.Reading.{Reading, ◌>>=◌, leaf, required}
use Rattle.nextest_config_elements_deserialize.specs.Values.{above_none, positive}
use Rattle.nextest_config_elements_deserialize.specs.Words.{named_in}

-- a number above 0 is that many, one below 0 is so many less than there are processors
abbrev pub threads_of : ℤ → Option TestThreads
threads_of (pos number) = option_map threads.Count (above_none number)
threads_of (negsuc less) = Some (threads.CpusLess (less + 1))

-- an integer other than 0, or one word
abbrev pub test_threads : Data → Option TestThreads
test_threads (integer number) = threads_of number
test_threads (string text) = if bytes_eq text (codes "num-cpus") then Some threads.NumCpus else None
test_threads given = None

-- how the number of tests that run at a time is read
abbrev pub test_threads_in : Data → Reading TestThreads
test_threads_in = leaf test_threads

-- the words for as many as there are processors, or as tests run at a time
abbrev pub threads_named : List ℕ → Option ThreadsRequired
threads_named = named_in ((codes "num-cpus", taken.NumCpus) ∷ (codes "num-test-threads", taken.NumTestThreads) ∷ [])

-- a number above 0, or one of two words
abbrev pub threads_required : Data → Option ThreadsRequired
threads_required (integer number) = option_map taken.Count (positive (integer number))
threads_required (string text) = threads_named text
threads_required given = None

-- how the number of threads that a test takes is read
abbrev pub threads_required_in : Data → Reading ThreadsRequired
threads_required_in = leaf threads_required

-- what a group of tests is set to
abbrev pub group_in : Members → Reading TestGroupConfig
group_in members = do
  max_threads ← required (codes "max-threads") test_threads members
  Ok (record { max_threads = max_threads })

-- a table
abbrev pub test_group_config_in : Data → Reading TestGroupConfig
test_group_config_in (table members) = group_in members
test_group_config_in given = Err []
