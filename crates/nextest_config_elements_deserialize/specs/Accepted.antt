-- Which values are accepted, by what stands under their keys and in no order.
use Rattle.std.specs.Prelude.{◌≡◌, ℕ, ◌<◌, ◌≤◌, ◌⊎◌, Bool, true, false, List, codes, Option, None, Some, option_and_then}
use Rattle.toml.specs.Data.{Data, string, table, Members, get_member}
use Rattle.nextest_config_elements_values.specs.Retries.{without_delay}
use Rattle.nextest_config_elements_values.specs.declared.retries.RetryPolicy.{RetryPolicy}
use Rattle.nextest_config_elements_values.specs.declared.retries.RetryPolicy.TheVariants.{Fixed, Exponential}
use Rattle.nextest_config_elements_values.specs.declared.timeouts.SlowTimeout.{SlowTimeout}
use Rattle.nextest_config_elements_values.specs.declared.config_duration.ConfigDuration.{ConfigDuration}
use Rattle.nextest_config_elements_choices.specs.declared.timeouts.SlowTimeoutResult.TheVariants as slow
use Rattle.nextest_config_elements_deserialize.specs.Retries.{no_delay}
use Rattle.nextest_config_elements_values.specs.Timeouts.{slow_after, ten_seconds}
use Rattle.nextest_config_elements_deserialize.specs.Values.{number_32, positive_32, positive, truth, duration, positive_duration}
use Rattle.nextest_config_elements_deserialize.specs.Words.{slow_result}

-- a key has a text
abbrev pub HasText : Members → List ℕ → List ℕ → Type 0
HasText members key text = get_member key members ≡ Some (string text)

-- a key has a value
abbrev pub Has : {A : Type 0} → Members → List ℕ → (Data → Option A) → A → Type 0
Has members key value x = option_and_then value (get_member key members) ≡ Some x

-- a key is left out
abbrev pub IsLeftOut : Members → List ℕ → Type 0
IsLeftOut members key = get_member key members ≡ None

-- a key has a value, or is left out and has this one
abbrev pub HasOr : {A : Type 0} → Members → List ℕ → (Data → Option A) → A → A → Type 0
HasOr members key value otherwise x = Has members key value x ⊎ (IsLeftOut members key × (x ≡ otherwise))

-- a key has a value, or is left out and has none
abbrev pub MayHave : {A : Type 0} → Members → List ℕ → (Data → Option A) → Option A → Type 0
MayHave members key value None = IsLeftOut members key
MayHave members key value (Some x) = Has members key value x

-- a table sets equal delays
pub record IsFixed (members : Members) (count : ℕ) (delay : ConfigDuration) (jitter : Bool) : Type 0 where
  pub backoff : HasText members (codes "backoff") (codes "fixed")
  pub attempts : Has members (codes "count") number_32 count
  pub wait : HasOr members (codes "delay") duration no_delay delay
  pub chance : HasOr members (codes "jitter") truth false jitter
  pub varying : jitter ≡ true → 0 < delay.nanos

-- a table sets delays that double
pub record IsExponential (members : Members) (count : ℕ) (delay : ConfigDuration) (jitter : Bool) (longest : Option ConfigDuration) : Type 0 where
  pub backoff : HasText members (codes "backoff") (codes "exponential")
  pub attempts : Has members (codes "count") positive_32 count
  pub wait : Has members (codes "delay") positive_duration delay
  pub chance : HasOr members (codes "jitter") truth false jitter
  pub most : MayHave members (codes "max-delay") duration longest
  pub reaches : (it : ConfigDuration) → longest ≡ Some it → delay.nanos ≤ it.nanos

-- a table sets a policy
abbrev pub IsTableOf : Members → RetryPolicy → Type 0
IsTableOf members (Fixed count delay jitter) = IsFixed members count delay jitter
IsTableOf members (Exponential count delay jitter longest) = IsExponential members count delay jitter longest

-- a value is a policy: a table that sets it, or its count alone
abbrev pub IsRetryPolicy : Data → RetryPolicy → Type 0
IsRetryPolicy (table members) policy = IsTableOf members policy
IsRetryPolicy given policy = (count : ℕ) × (number_32 given ≡ Some count) × (policy ≡ without_delay count)

-- a table sets when something is slow
pub record IsSlowTable (members : Members) (timeout : SlowTimeout) : Type 0 where
  pub period : Has members (codes "period") positive_duration timeout.period
  pub terminate_after : MayHave members (codes "terminate-after") positive timeout.terminate_after
  pub grace_period : HasOr members (codes "grace-period") duration ten_seconds timeout.grace_period
  pub on_timeout : HasOr members (codes "on-timeout") slow_result slow.Fail timeout.on_timeout

-- a value is a slow timeout: a table that sets it, or its period alone
abbrev pub IsSlowTimeout : Data → SlowTimeout → Type 0
IsSlowTimeout (table members) timeout = IsSlowTable members timeout
IsSlowTimeout given timeout = (period : ConfigDuration) × (positive_duration given ≡ Some period) × (timeout ≡ slow_after period)
