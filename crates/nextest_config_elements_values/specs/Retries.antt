-- How a failing test is tried again.
use Rattle.std.specs.Prelude.{ℕ, false}
use Rattle.nextest_config_elements_values.specs.declared.retries.RetryPolicy.{RetryPolicy}
use Rattle.nextest_config_elements_values.specs.declared.retries.RetryPolicy.TheVariants.{Fixed, Exponential}

-- how many more attempts there are after the first
abbrev pub count_of : RetryPolicy → ℕ
count_of (Fixed count delay jitter) = count
count_of (Exponential count delay jitter max_delay) = count

-- so many more attempts, without delay
abbrev pub without_delay : ℕ → RetryPolicy
without_delay count = Fixed count (record { nanos = 0 }) false
