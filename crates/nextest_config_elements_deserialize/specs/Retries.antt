-- How a failing test is tried again: a count alone, or a table.
use Rattle.std.specs.Prelude.{◌==◌, Bool, false, ◌&&◌, [], ◌∷◌, codes, Option, None, Some, Ok, Err, nat_lt, if◌then◌else◌}
use Rattle.toml.specs.Data.{Data, table, Members}
use Rattle.nextest_config_elements_values.specs.Retries.{without_delay}
use Rattle.nextest_config_elements_values.specs.declared.retries.RetryPolicy.{RetryPolicy}
use Rattle.nextest_config_elements_values.specs.declared.retries.RetryPolicy.TheVariants.{Fixed, Exponential}
use Rattle.nextest_config_elements_values.specs.declared.config_duration.ConfigDuration.{ConfigDuration}
use Rattle.nextest_config_elements_toml.specs.Reading.{Reading, ◌>>=◌, leaf, required, optional, defaulted}
use Rattle.nextest_config_elements_deserialize.specs.Values.{number_32, positive_32, truth, duration, positive_duration}
use Rattle.nextest_config_elements_deserialize.specs.Words.{one_of}
use Rattle.nextest_config_elements_deserialize.specs.declared.backoff.Backoff.{Backoff}
use Rattle.nextest_config_elements_deserialize.specs.declared.backoff.Backoff.TheVariants as delays

-- no delay
abbrev pub no_delay : ConfigDuration
no_delay = record { nanos = 0 }

-- how the delays go on
abbrev pub backoff : Data → Option Backoff
backoff = one_of ((codes "fixed", delays.Fixed) ∷ (codes "exponential", delays.Exponential) ∷ [])

-- delays vary by chance where there are none
abbrev pub varies_nothing : ConfigDuration → Bool → Bool
varies_nothing delay jitter = jitter && delay.nanos == 0

-- each delay is the same; a longest one is read past
abbrev pub fixed_in : Members → Reading RetryPolicy
fixed_in members = do
  count ← required (codes "count") number_32 members
  delay ← defaulted (codes "delay") duration no_delay members
  jitter ← defaulted (codes "jitter") truth false members
  if varies_nothing delay jitter then Err (codes "jitter" ∷ []) else Ok (Fixed count delay jitter)

-- a longest delay is shorter than the first one
abbrev pub is_shorter : Option ConfigDuration → ConfigDuration → Bool
is_shorter None delay = false
is_shorter (Some longest) delay = nat_lt longest.nanos delay.nanos

-- delays double
abbrev pub exponential_in : Members → Reading RetryPolicy
exponential_in members = do
  count ← required (codes "count") positive_32 members
  delay ← required (codes "delay") positive_duration members
  jitter ← defaulted (codes "jitter") truth false members
  longest ← optional (codes "max-delay") duration members
  if is_shorter longest delay then Err (codes "max-delay" ∷ []) else Ok (Exponential count delay jitter longest)

-- the policy of each backoff
abbrev pub policy_by : Backoff → Members → Reading RetryPolicy
policy_by delays.Fixed members = fixed_in members
policy_by delays.Exponential members = exponential_in members

-- a table has a backoff, and what belongs to it
abbrev pub policy_in : Members → Reading RetryPolicy
policy_in members = do
  found ← required (codes "backoff") backoff members
  policy_by found members

-- an integer is a count alone
abbrev pub plain_policy : Data → Reading RetryPolicy
plain_policy given = do
  count ← leaf number_32 given
  Ok (without_delay count)

-- a table, or a count alone
abbrev pub retry_policy_in : Data → Reading RetryPolicy
retry_policy_in (table members) = policy_in members
retry_policy_in given = plain_policy given
