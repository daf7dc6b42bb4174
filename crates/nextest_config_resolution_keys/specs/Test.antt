-- The keys that tell how a test is run.
use Rattle.std.specs.Prelude.{◌≡◌, ℕ, List, [], ◌∷◌, codes, Option, None, Some, Ok}
use Rattle.std.proofs.Common.{refl, subst}
use Rattle.toml.specs.Data.{Members}
use Rattle.nextest_config_elements_toml.specs.Reading.{Reading}
use Rattle.nextest_config_elements_deserialize.specs.FailWeights.{fail_weight_in}
use Rattle.nextest_config_elements_deserialize.specs.Levels.{flaky_result_in}
use Rattle.nextest_config_elements_deserialize.specs.Retries.{retry_policy_in}
use Rattle.nextest_config_elements_deserialize.specs.Threads.{threads_required_in}
use Rattle.nextest_config_elements_deserialize.specs.Timeouts.{leak_timeout_in, slow_timeout_in}
use Rattle.nextest_config_elements_choices.specs.declared.timeouts.FlakyResult.{FlakyResult}
use Rattle.nextest_config_elements_values.specs.declared.retries.RetryPolicy.{RetryPolicy}
use Rattle.nextest_config_elements_values.specs.declared.threads.ThreadsRequired.{ThreadsRequired}
use Rattle.nextest_config_elements_values.specs.declared.timeouts.LeakTimeout.{LeakTimeout}
use Rattle.nextest_config_elements_values.specs.declared.timeouts.SlowTimeout.{SlowTimeout}
use Rattle.nextest_config_resolution_keys.specs.Bench.{bench_slow_timeout, bench_slow_timeout_fallback}
use Rattle.nextest_config_resolution_keys.specs.Keys.{Key, value_of}
use Rattle.nextest_config_resolution_keys.specs.Listed.{joined_parts, read_of}
use Rattle.nextest_config_resolution_keys.specs.Rows.{Row, both, made_of, nothing, row_of}
use Rattle.nextest_config_resolution_keys.specs.declared.test.TestValues.{TestValues}
use Rattle.nextest_config_elements_choices.specs.declared.timeouts.FlakyResult.TheVariants as flaky
use Rattle.nextest_config_elements_choices.specs.declared.timeouts.LeakTimeoutResult.TheVariants as leak
use Rattle.nextest_config_elements_values.specs.declared.threads.ThreadsRequired.TheVariants as taken
use Rattle.nextest_config_elements_values.specs.Retries.{without_delay}
use Rattle.nextest_config_elements_values.specs.Timeouts.{slow_after}

-- `fail-weight`: how much a test weighs where it fails
abbrev pub fail_weight : Key ℕ
fail_weight = record { path = codes "fail-weight" ∷ []; reading = fail_weight_in }

-- where nothing sets it: 1, so that what failing tests weigh together is their number
abbrev pub fail_weight_fallback : ℕ
fail_weight_fallback = 1

-- `flaky-result`: what becomes of a test where it passes on a later attempt than its first
abbrev pub flaky_result : Key FlakyResult
flaky_result = record { path = codes "flaky-result" ∷ []; reading = flaky_result_in }

-- where nothing sets it: a flaky test passes
abbrev pub flaky_result_fallback : FlakyResult
flaky_result_fallback = flaky.Pass

-- `leak-timeout`: how long handles may stay open behind a test
abbrev pub leak_timeout : Key LeakTimeout
leak_timeout = record { path = codes "leak-timeout" ∷ []; reading = leak_timeout_in }

-- where nothing sets it: a tenth of a second, and a test that leaves handles open for longer passes
abbrev pub leak_timeout_fallback : LeakTimeout
leak_timeout_fallback = record { period = record { nanos = 100_000_000 }; result = leak.Pass }

-- `retries`: how a test is tried again
abbrev pub retries : Key RetryPolicy
retries = record { path = codes "retries" ∷ []; reading = retry_policy_in }

-- where nothing sets it: none
abbrev pub retries_fallback : RetryPolicy
retries_fallback = without_delay 0

-- `slow-timeout`: when a test is slow, and when it is ended for that
abbrev pub slow_timeout : Key SlowTimeout
slow_timeout = record { path = codes "slow-timeout" ∷ []; reading = slow_timeout_in }

-- where nothing sets it: after a minute, and nothing is ended for that
abbrev pub slow_timeout_fallback : SlowTimeout
slow_timeout_fallback = slow_after (record { nanos = 60_000_000_000 })

-- `threads-required`: how many threads a test takes
abbrev pub threads_required : Key ThreadsRequired
threads_required = record { path = codes "threads-required" ∷ []; reading = threads_required_in }

-- where nothing sets it: one
abbrev pub threads_required_fallback : ThreadsRequired
threads_required_fallback = taken.Count 1

-- ---- how a test is run

abbrev pub test_rows : List Row
test_rows = row_of bench_slow_timeout ∷ row_of fail_weight ∷ row_of flaky_result ∷ row_of leak_timeout ∷ row_of retries ∷ row_of slow_timeout ∷ row_of threads_required ∷ []

-- their values as a tuple, and by their names
abbrev pub TestTuple : Type 0
TestTuple = Option SlowTimeout × (Option ℕ × (Option FlakyResult × (Option LeakTimeout × (Option RetryPolicy × (Option SlowTimeout × (Option ThreadsRequired × Unit {0}))))))

abbrev pub test_values : TestTuple → TestValues
test_values it = record {
  bench_slow_timeout = it.0;
  fail_weight = it.1.0;
  flaky_result = it.1.1.0;
  leak_timeout = it.1.1.1.0;
  retries = it.1.1.1.1.0;
  slow_timeout = it.1.1.1.1.1.0;
  threads_required = it.1.1.1.1.1.1.0;
}

-- what a table says of them: refused for the first place, by the bytes of the keys, at which one of
-- the keys refuses it
abbrev pub test_tuple_in : Members → Reading TestTuple
test_tuple_in = both (value_of bench_slow_timeout) (both (value_of fail_weight) (both (value_of flaky_result) (both (value_of leak_timeout) (both (value_of retries) (both (value_of slow_timeout) (both (value_of threads_required) nothing))))))

abbrev pub test_in : Members → Reading TestValues
test_in given = made_of test_values (test_tuple_in given)

-- each key reads a table as its value
pub record IsTest (given : Members) (it : TestValues) : Type 0 where
  pub bench_slow_timeout : value_of bench_slow_timeout given ≡ Ok it.bench_slow_timeout
  pub fail_weight : value_of fail_weight given ≡ Ok it.fail_weight
  pub flaky_result : value_of flaky_result given ≡ Ok it.flaky_result
  pub leak_timeout : value_of leak_timeout given ≡ Ok it.leak_timeout
  pub retries : value_of retries given ≡ Ok it.retries
  pub slow_timeout : value_of slow_timeout given ≡ Ok it.slow_timeout
  pub threads_required : value_of threads_required given ≡ Ok it.threads_required

-- what they have where nothing sets them
abbrev pub test_fallbacks : TestValues
test_fallbacks = record {
  bench_slow_timeout = Some bench_slow_timeout_fallback;
  fail_weight = Some fail_weight_fallback;
  flaky_result = Some flaky_result_fallback;
  leak_timeout = Some leak_timeout_fallback;
  retries = Some retries_fallback;
  slow_timeout = Some slow_timeout_fallback;
  threads_required = Some threads_required_fallback;
}

-- where nothing is set
abbrev pub test_unset : TestValues
test_unset = test_values (None, (None, (None, (None, (None, (None, (None, tt)))))))

abbrev pub bench_slow_timeout_of : TestValues → Option SlowTimeout
bench_slow_timeout_of it = it.bench_slow_timeout

abbrev pub fail_weight_of : TestValues → Option ℕ
fail_weight_of it = it.fail_weight

abbrev pub flaky_result_of : TestValues → Option FlakyResult
flaky_result_of it = it.flaky_result

abbrev pub leak_timeout_of : TestValues → Option LeakTimeout
leak_timeout_of it = it.leak_timeout

abbrev pub retries_of : TestValues → Option RetryPolicy
retries_of it = it.retries

abbrev pub slow_timeout_of : TestValues → Option SlowTimeout
slow_timeout_of it = it.slow_timeout

abbrev pub threads_required_of : TestValues → Option ThreadsRequired
threads_required_of it = it.threads_required

-- ---- each key by itself

test_tuple : (given : Members) (tuple : TestTuple) → test_tuple_in given ≡ Ok tuple → IsTest given (test_values tuple)
test_tuple given tuple is =
    let at_0 = joined_parts _ _ tuple is in
    let at_1 = joined_parts _ _ tuple.1 at_0.1 in
    let at_2 = joined_parts _ _ tuple.1.1 at_1.1 in
    let at_3 = joined_parts _ _ tuple.1.1.1 at_2.1 in
    let at_4 = joined_parts _ _ tuple.1.1.1.1 at_3.1 in
    let at_5 = joined_parts _ _ tuple.1.1.1.1.1 at_4.1 in
    let at_6 = joined_parts _ _ tuple.1.1.1.1.1.1 at_5.1 in
    record { bench_slow_timeout = at_0.0; fail_weight = at_1.0; flaky_result = at_2.0; leak_timeout = at_3.0; retries = at_4.0; slow_timeout = at_5.0; threads_required = at_6.0 }

pub test_read : (given : Members) (it : TestValues) → test_in given ≡ Ok it → IsTest given it
test_read given it is = let made = read_of test_values (test_tuple_in given) it is in subst (IsTest given) made.is (test_tuple given made.values made.reads)

pub test_made : (given : Members) (it : TestValues) → IsTest given it → test_tuple_in given ≡ Ok (it.bench_slow_timeout, (it.fail_weight, (it.flaky_result, (it.leak_timeout, (it.retries, (it.slow_timeout, (it.threads_required, tt)))))))
test_made given it is = rw (is.bench_slow_timeout, is.fail_weight, is.flaky_result, is.leak_timeout, is.retries, is.slow_timeout, is.threads_required) refl
