-- What the laws say.
use Rattle.std.specs.Prelude.{◌≡◌, ◌↔◌, Ok}
use Rattle.toml.specs.Data.{Data}
use Rattle.nextest_config_elements_values.specs.declared.retries.RetryPolicy.{RetryPolicy}
use Rattle.nextest_config_elements_values.specs.declared.timeouts.SlowTimeout.{SlowTimeout}
use Rattle.nextest_config_elements_deserialize.specs.Accepted.{IsRetryPolicy, IsSlowTimeout}
use Rattle.nextest_config_elements_deserialize.specs.Retries.{retry_policy_in}
use Rattle.nextest_config_elements_deserialize.specs.Timeouts.{slow_timeout_in}

-- a value is read as a policy exactly if it is that policy
abbrev pub AcceptedPolicy : Type 0
AcceptedPolicy = (given : Data) (policy : RetryPolicy) → (retry_policy_in given ≡ Ok policy) ↔ IsRetryPolicy given policy

-- a value is read as a slow timeout exactly if it is that one
abbrev pub AcceptedSlowTimeout : Type 0
AcceptedSlowTimeout = (given : Data) (timeout : SlowTimeout) → (slow_timeout_in given ≡ Ok timeout) ↔ IsSlowTimeout given timeout
