-- Which values are retry policies.
use Rattle.std.proofs.Common.{◌≡◌, ℕ, ◌<◌, ◌≤◌, Bool, true, false, List, [], ◌∷◌, Option, None, Some, Ok, Err, refl, sym, ap, ◌∙◌, subst, arith}
use Rattle.std.specs.Prelude.{codes, ◌==◌, if◌then◌else◌}
use Rattle.std.proofs.lemmas.Bool.{cond-false, false≢true, ltb-false, le-ltb}
use Rattle.std.proofs.lemmas.Bool.Decides.{nat_tests}
use Rattle.toml.specs.Data.{Data, string, integer, float, boolean, datetime, array, table, Members}
use Rattle.nextest_config_elements_values.specs.declared.retries.RetryPolicy.{RetryPolicy}
use Rattle.nextest_config_elements_values.specs.declared.retries.RetryPolicy.TheVariants.{Fixed, Exponential}
use Rattle.nextest_config_elements_values.specs.declared.config_duration.ConfigDuration.{ConfigDuration}
use Rattle.nextest_config_elements_toml.specs.Reading.{Reading, ◌>>=◌, leaf, required, optional, defaulted}
use Rattle.nextest_config_elements_deserialize.specs.Accepted.{HasText, IsFixed, IsExponential, IsTableOf}
use Rattle.nextest_config_elements_deserialize.specs.Laws.{AcceptedPolicy}
use Rattle.nextest_config_elements_values.specs.Retries.{without_delay}
use Rattle.nextest_config_elements_deserialize.specs.Retries.{no_delay, backoff, varies_nothing, fixed_in, is_shorter, exponential_in, policy_by, policy_in, plain_policy}
use Rattle.nextest_config_elements_deserialize.specs.Values.{number_32, positive_32, truth, duration, positive_duration}
use Rattle.nextest_config_elements_deserialize.specs.declared.backoff.Backoff.{Backoff}
use Rattle.nextest_config_elements_deserialize.specs.declared.backoff.Backoff.TheVariants as delays
use Rattle.nextest_config_elements_deserialize.proofs.Keys.{taken, step, leaf_is, is_leaf, required_has, has_required, defaulted_has, has_defaulted, optional_has, has_optional}
use Rattle.nextest_config_elements_deserialize.proofs.Backoffs.{text_of, kind_text, text_kind}

ok_is : (one other : RetryPolicy) → ◌≡◌ {A = Reading RetryPolicy} (Ok one) (Ok other) → one ≡ other
ok_is one other e = cc

-- what is refused by a test, and else given
abbrev unless : Bool → List ℕ → RetryPolicy → Reading RetryPolicy
unless bad key policy = if bad then Err (key ∷ []) else Ok policy

unless_ok : (bad : Bool) (key : List ℕ) (made policy : RetryPolicy) → unless bad key made ≡ Ok policy → (bad ≡ false) × (made ≡ policy)
unless_ok true key made policy e = absurd (cc)
unless_ok false key made policy e = (refl, ok_is made policy e)

ok_unless : (bad : Bool) (key : List ℕ) (made : RetryPolicy) → bad ≡ false → unless bad key made ≡ Ok made
ok_unless bad key made e = cond-false bad (Err (key ∷ [])) (Ok made) e

-- jitter and its delay
varying : (delay : ConfigDuration) (jitter : Bool) → varies_nothing delay jitter ≡ false → jitter ≡ true → 0 < delay.nanos
varying delay true e on = above delay.nanos e
  where
    above : (nanos : ℕ) → (nanos == 0) ≡ false → 0 < nanos
    above nanos e = grind (arith, nat_tests)
varying delay false e on = absurd (false≢true on)

unvaried : (delay : ConfigDuration) (jitter : Bool) → (jitter ≡ true → 0 < delay.nanos) → varies_nothing delay jitter ≡ false
unvaried delay true some = other delay.nanos (some refl)
  where
    other : (nanos : ℕ) → 0 < nanos → (nanos == 0) ≡ false
    other nanos some = grind (arith, nat_tests)
unvaried delay false some = refl

-- the longest delay and the first
reaches : (delay : ConfigDuration) (longest : Option ConfigDuration) → is_shorter longest delay ≡ false
    → (it : ConfigDuration) → longest ≡ Some it → delay.nanos ≤ it.nanos
reaches delay None e it is = absurd (cc)
reaches delay (Some most) e it is =
    let same : most ≡ it = cc in
    subst (λ (d : ConfigDuration). delay.nanos ≤ d.nanos) same (ltb-false most.nanos delay.nanos e)

unshortened : (delay : ConfigDuration) (longest : Option ConfigDuration) → ((it : ConfigDuration) → longest ≡ Some it → delay.nanos ≤ it.nanos)
    → is_shorter longest delay ≡ false
unshortened delay None most = refl
unshortened delay (Some longest) most = le-ltb longest.nanos delay.nanos (most longest refl)

-- equal delays, from the last key on
abbrev fixed_end : ℕ → ConfigDuration → Bool → Reading RetryPolicy
fixed_end count delay jitter = unless (varies_nothing delay jitter) (codes "jitter") (Fixed count delay jitter)

abbrev fixed_jitter : Members → ℕ → ConfigDuration → Reading RetryPolicy
fixed_jitter members count delay = defaulted (codes "jitter") truth false members >>= fixed_end count delay

abbrev fixed_delay : Members → ℕ → Reading RetryPolicy
fixed_delay members count = defaulted (codes "delay") duration no_delay members >>= fixed_jitter members count

fixed_of : (members : Members) (count : ℕ) (delay : ConfigDuration) (jitter : Bool) → IsFixed members count delay jitter
    → IsTableOf members (Fixed count delay jitter)
fixed_of all count delay jitter is = is

read_fixed : (members : Members) (policy : RetryPolicy) → HasText members (codes "backoff") (codes "fixed")
    → fixed_in members ≡ Ok policy → IsTableOf members policy
read_fixed members policy kind e =
    let count = taken (required (codes "count") number_32 members) (fixed_delay members) policy e in
    let delay = taken (defaulted (codes "delay") duration no_delay members) (fixed_jitter members count.between) policy count.on in
    let jitter = taken (defaulted (codes "jitter") truth false members) (fixed_end count.between delay.between) policy delay.on in
    let made = unless_ok (varies_nothing delay.between jitter.between) (codes "jitter") (Fixed count.between delay.between jitter.between) policy jitter.on in
    subst (λ (it : RetryPolicy). IsTableOf members it) made.1 (fixed_of members count.between delay.between jitter.between (record {
      backoff = kind;
      attempts = required_has (codes "count") number_32 members count.between count.read;
      wait = defaulted_has (codes "delay") duration no_delay members delay.between delay.read;
      chance = defaulted_has (codes "jitter") truth false members jitter.between jitter.read;
      varying = varying delay.between jitter.between made.0;
    }))

fixed_read : (members : Members) (count : ℕ) (delay : ConfigDuration) (jitter : Bool) → IsFixed members count delay jitter
    → fixed_in members ≡ Ok (Fixed count delay jitter)
fixed_read members count delay jitter is =
    step (required (codes "count") number_32 members) (fixed_delay members) count (has_required (codes "count") number_32 members count is.attempts)
    ∙ step (defaulted (codes "delay") duration no_delay members) (fixed_jitter members count) delay
    (has_defaulted (codes "delay") duration no_delay members delay is.wait)
    ∙ step (defaulted (codes "jitter") truth false members) (fixed_end count delay) jitter
    (has_defaulted (codes "jitter") truth false members jitter is.chance)
    ∙ ok_unless (varies_nothing delay jitter) (codes "jitter") (Fixed count delay jitter) (unvaried delay jitter is.varying)

-- delays that double, from the last key on
abbrev double_end : ℕ → ConfigDuration → Bool → Option ConfigDuration → Reading RetryPolicy
double_end count delay jitter longest = unless (is_shorter longest delay) (codes "max-delay") (Exponential count delay jitter longest)

abbrev double_most : Members → ℕ → ConfigDuration → Bool → Reading RetryPolicy
double_most members count delay jitter = optional (codes "max-delay") duration members >>= double_end count delay jitter

abbrev double_jitter : Members → ℕ → ConfigDuration → Reading RetryPolicy
double_jitter members count delay = defaulted (codes "jitter") truth false members >>= double_most members count delay

abbrev double_delay : Members → ℕ → Reading RetryPolicy
double_delay members count = required (codes "delay") positive_duration members >>= double_jitter members count

double_of : (members : Members) (count : ℕ) (delay : ConfigDuration) (jitter : Bool) (longest : Option ConfigDuration)
    → IsExponential members count delay jitter longest → IsTableOf members (Exponential count delay jitter longest)
double_of all count delay jitter longest is = is

read_double : (members : Members) (policy : RetryPolicy) → HasText members (codes "backoff") (codes "exponential")
    → exponential_in members ≡ Ok policy → IsTableOf members policy
read_double members policy kind e =
    let count = taken (required (codes "count") positive_32 members) (double_delay members) policy e in
    let delay = taken (required (codes "delay") positive_duration members) (double_jitter members count.between) policy count.on in
    let jitter = taken (defaulted (codes "jitter") truth false members) (double_most members count.between delay.between) policy delay.on in
    let most = taken (optional (codes "max-delay") duration members) (double_end count.between delay.between jitter.between) policy jitter.on in
    let made = unless_ok (is_shorter most.between delay.between) (codes "max-delay") (Exponential count.between delay.between jitter.between most.between) policy most.on in
    subst (λ (it : RetryPolicy). IsTableOf members it) made.1 (double_of members count.between delay.between jitter.between most.between (record {
      backoff = kind;
      attempts = required_has (codes "count") positive_32 members count.between count.read;
      wait = required_has (codes "delay") positive_duration members delay.between delay.read;
      chance = defaulted_has (codes "jitter") truth false members jitter.between jitter.read;
      most = optional_has (codes "max-delay") duration members most.between most.read;
      reaches = reaches delay.between most.between made.0;
    }))

double_read : (members : Members) (count : ℕ) (delay : ConfigDuration) (jitter : Bool) (longest : Option ConfigDuration)
    → IsExponential members count delay jitter longest → exponential_in members ≡ Ok (Exponential count delay jitter longest)
double_read members count delay jitter longest is =
    step (required (codes "count") positive_32 members) (double_delay members) count (has_required (codes "count") positive_32 members count is.attempts)
    ∙ step (required (codes "delay") positive_duration members) (double_jitter members count) delay
    (has_required (codes "delay") positive_duration members delay is.wait)
    ∙ step (defaulted (codes "jitter") truth false members) (double_most members count delay) jitter
    (has_defaulted (codes "jitter") truth false members jitter is.chance)
    ∙ step (optional (codes "max-delay") duration members) (double_end count delay jitter) longest
    (has_optional (codes "max-delay") duration members longest is.most)
    ∙ ok_unless (is_shorter longest delay) (codes "max-delay") (Exponential count delay jitter longest) (unshortened delay longest is.reaches)

-- a table
read_by : (members : Members) (policy : RetryPolicy) (kind : Backoff) → HasText members (codes "backoff") (text_of kind)
    → policy_by kind members ≡ Ok policy → IsTableOf members policy
read_by members policy delays.Fixed kind e = read_fixed members policy kind e
read_by members policy delays.Exponential kind e = read_double members policy kind e

read_table : (members : Members) (policy : RetryPolicy) → policy_in members ≡ Ok policy → IsTableOf members policy
read_table members policy e =
    let kind = taken (required (codes "backoff") backoff members) (λ (it : Backoff). policy_by it members) policy e in
    read_by members policy kind.between (kind_text members kind.between (required_has (codes "backoff") backoff members kind.between kind.read)) kind.on

by_kind : (members : Members) (kind : Backoff) → HasText members (codes "backoff") (text_of kind) → policy_in members ≡ policy_by kind members
by_kind members kind has =
    step (required (codes "backoff") backoff members) (λ (it : Backoff). policy_by it members) kind
    (has_required (codes "backoff") backoff members kind (text_kind members kind has))

table_read : (members : Members) (policy : RetryPolicy) → IsTableOf members policy → policy_in members ≡ Ok policy
table_read members (Fixed count delay jitter) is = by_kind members delays.Fixed is.backoff ∙ fixed_read members count delay jitter is
table_read members (Exponential count delay jitter longest) is =
    by_kind members delays.Exponential is.backoff ∙ double_read members count delay jitter longest is

-- a count alone
read_plain : (given : Data) (policy : RetryPolicy) → plain_policy given ≡ Ok policy
    → (count : ℕ) × (number_32 given ≡ Some count) × (policy ≡ without_delay count)
read_plain given policy e =
    let count = taken (leaf number_32 given) (λ (it : ℕ). Ok (without_delay it)) policy e in
    (count.between, leaf_is (number_32 given) count.between count.read, sym (ok_is (without_delay count.between) policy count.on))

plain_read : (given : Data) (policy : RetryPolicy) → (count : ℕ) × (number_32 given ≡ Some count) × (policy ≡ without_delay count)
    → plain_policy given ≡ Ok policy
plain_read given policy is =
    step (leaf number_32 given) (λ (it : ℕ). Ok (without_delay it)) is.0 (is_leaf (number_32 given) is.0 is.1) ∙ ap Ok (sym is.2)

pub accepted_policy : AcceptedPolicy
accepted_policy (table members) policy = (read_table members policy, table_read members policy)
accepted_policy (string text) policy = (read_plain (string text) policy, plain_read (string text) policy)
accepted_policy (integer number) policy = (read_plain (integer number) policy, plain_read (integer number) policy)
accepted_policy (float number) policy = (read_plain (float number) policy, plain_read (float number) policy)
accepted_policy (boolean holds) policy = (read_plain (boolean holds) policy, plain_read (boolean holds) policy)
accepted_policy (datetime date) policy = (read_plain (datetime date) policy, plain_read (datetime date) policy)
accepted_policy (array items) policy = (read_plain (array items) policy, plain_read (array items) policy)
