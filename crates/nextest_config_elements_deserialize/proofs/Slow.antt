-- Which values are slow timeouts.
use Rattle.std.proofs.Common.{◌≡◌, ℕ, Option, Some, Ok, sym, ap, ◌∙◌, subst}
use Rattle.std.specs.Prelude.{codes}
use Rattle.toml.specs.Data.{Data, string, integer, float, boolean, datetime, array, table, Members}
use Rattle.nextest_config_elements_values.specs.declared.timeouts.SlowTimeout.{SlowTimeout}
use Rattle.nextest_config_elements_values.specs.declared.config_duration.ConfigDuration.{ConfigDuration}
use Rattle.nextest_config_elements_choices.specs.declared.timeouts.SlowTimeoutResult.{SlowTimeoutResult}
use Rattle.nextest_config_elements_choices.specs.declared.timeouts.SlowTimeoutResult.TheVariants as slow
use Rattle.nextest_config_elements_toml.specs.Reading.{Reading, ◌>>=◌, leaf, required, optional, defaulted}
use Rattle.nextest_config_elements_deserialize.specs.Accepted.{IsSlowTable}
use Rattle.nextest_config_elements_deserialize.specs.Laws.{AcceptedSlowTimeout}
use Rattle.nextest_config_elements_values.specs.Timeouts.{slow_after, ten_seconds}
use Rattle.nextest_config_elements_deserialize.specs.Timeouts.{plain_slow, slow_in}
use Rattle.nextest_config_elements_deserialize.specs.Values.{positive, duration, positive_duration}
use Rattle.nextest_config_elements_deserialize.specs.Words.{slow_result}
use Rattle.nextest_config_elements_deserialize.proofs.Keys.{taken, step, leaf_is, is_leaf, required_has, has_required, defaulted_has, has_defaulted, optional_has, has_optional}

-- a table, from its last key on
abbrev last : ConfigDuration → SlowTimeoutResult → ConfigDuration → Option ℕ → Reading SlowTimeout
last grace fate period after = Ok (record { period = period; terminate_after = after; grace_period = grace; on_timeout = fate })

abbrev third : Members → ConfigDuration → SlowTimeoutResult → ConfigDuration → Reading SlowTimeout
third members grace fate period = optional (codes "terminate-after") positive members >>= last grace fate period

abbrev second : Members → ConfigDuration → SlowTimeoutResult → Reading SlowTimeout
second members grace fate = required (codes "period") positive_duration members >>= third members grace fate

abbrev first : Members → ConfigDuration → Reading SlowTimeout
first members grace = defaulted (codes "on-timeout") slow_result slow.Fail members >>= second members grace

read_table : (members : Members) (timeout : SlowTimeout) → slow_in members ≡ Ok timeout → IsSlowTable members timeout
read_table members timeout e =
    let grace = taken (defaulted (codes "grace-period") duration ten_seconds members) (first members) timeout e in
    let fate = taken (defaulted (codes "on-timeout") slow_result slow.Fail members) (second members grace.between) timeout grace.on in
    let period = taken (required (codes "period") positive_duration members) (third members grace.between fate.between) timeout fate.on in
    let after = taken (optional (codes "terminate-after") positive members) (last grace.between fate.between period.between) timeout period.on in
    let made : SlowTimeout = record { period = period.between; terminate_after = after.between; grace_period = grace.between; on_timeout = fate.between } in
    let same : made ≡ timeout = ok_is made timeout after.on in
    subst (λ (it : SlowTimeout). IsSlowTable members it) same (record {
      period = required_has (codes "period") positive_duration members period.between period.read;
      terminate_after = optional_has (codes "terminate-after") positive members after.between after.read;
      grace_period = defaulted_has (codes "grace-period") duration ten_seconds members grace.between grace.read;
      on_timeout = defaulted_has (codes "on-timeout") slow_result slow.Fail members fate.between fate.read;
    })
  where
    ok_is : (one other : SlowTimeout) → ◌≡◌ {A = Reading SlowTimeout} (Ok one) (Ok other) → one ≡ other
    ok_is one other e = cc

table_read : (members : Members) (timeout : SlowTimeout) → IsSlowTable members timeout → slow_in members ≡ Ok timeout
table_read members timeout is =
    step (defaulted (codes "grace-period") duration ten_seconds members) (first members) timeout.grace_period
    (has_defaulted (codes "grace-period") duration ten_seconds members timeout.grace_period is.grace_period)
    ∙ step (defaulted (codes "on-timeout") slow_result slow.Fail members) (second members timeout.grace_period) timeout.on_timeout
    (has_defaulted (codes "on-timeout") slow_result slow.Fail members timeout.on_timeout is.on_timeout)
    ∙ step (required (codes "period") positive_duration members) (third members timeout.grace_period timeout.on_timeout) timeout.period
    (has_required (codes "period") positive_duration members timeout.period is.period)
    ∙ step (optional (codes "terminate-after") positive members) (last timeout.grace_period timeout.on_timeout timeout.period) timeout.terminate_after
    (has_optional (codes "terminate-after") positive members timeout.terminate_after is.terminate_after)

-- a period alone
read_plain : (given : Data) (timeout : SlowTimeout) → plain_slow given ≡ Ok timeout
    → (period : ConfigDuration) × (positive_duration given ≡ Some period) × (timeout ≡ slow_after period)
read_plain given timeout e =
    let period = taken (leaf positive_duration given) (λ (it : ConfigDuration). Ok (slow_after it)) timeout e in
    (period.between, leaf_is (positive_duration given) period.between period.read, ok_is timeout (slow_after period.between) period.on)
  where
    ok_is : (one other : SlowTimeout) → ◌≡◌ {A = Reading SlowTimeout} (Ok other) (Ok one) → one ≡ other
    ok_is one other e = cc

plain_read : (given : Data) (timeout : SlowTimeout) → (period : ConfigDuration) × (positive_duration given ≡ Some period) × (timeout ≡ slow_after period)
    → plain_slow given ≡ Ok timeout
plain_read given timeout is =
    step (leaf positive_duration given) (λ (it : ConfigDuration). Ok (slow_after it)) is.0 (is_leaf (positive_duration given) is.0 is.1)
    ∙ ap Ok (sym is.2)

pub accepted_slow_timeout : AcceptedSlowTimeout
accepted_slow_timeout (table members) timeout = (read_table members timeout, table_read members timeout)
accepted_slow_timeout (string text) timeout = (read_plain (string text) timeout, plain_read (string text) timeout)
accepted_slow_timeout (integer number) timeout = (read_plain (integer number) timeout, plain_read (integer number) timeout)
accepted_slow_timeout (float number) timeout = (read_plain (float number) timeout, plain_read (float number) timeout)
accepted_slow_timeout (boolean truth) timeout = (read_plain (boolean truth) timeout, plain_read (boolean truth) timeout)
accepted_slow_timeout (datetime date) timeout = (read_plain (datetime date) timeout, plain_read (datetime date) timeout)
accepted_slow_timeout (array items) timeout = (read_plain (array items) timeout, plain_read (array items) timeout)
