-- The keys that overrides alone have: on which platforms and tests an override holds, and in which
-- order and group these tests run.
use Rattle.std.specs.Prelude.{◌≡◌, ℕ, ℤ, List, [], ◌∷◌, Option, Ok}
use Rattle.std.proofs.Common.{refl, subst}
use Rattle.toml.specs.Data.{Members}
use Rattle.nextest_config_elements_identifiers.specs.declared.test_group.TestGroup.{TestGroup}
use Rattle.nextest_config_elements_toml.specs.Reading.{Reading}
use Rattle.nextest_config_resolution_keys.specs.Keys.{value_of}
use Rattle.nextest_config_resolution_keys.specs.Listed.{joined_parts, read_of}
use Rattle.nextest_config_resolution_keys.specs.Rows.{Row, both, made_of, nothing, row_of}
use Rattle.nextest_config_resolution_overrides.specs.Condition.{filter, platform}
use Rattle.nextest_config_resolution_overrides.specs.Schedule.{priority, test_group}
use Rattle.nextest_config_resolution_overrides.specs.declared.platforms.OverridePlatforms.{OverridePlatforms}
use Rattle.nextest_config_resolution_overrides.specs.declared.rule.RuleValues.{RuleValues}

abbrev pub rule_rows : List Row
rule_rows = row_of filter ∷ row_of platform ∷ row_of priority ∷ row_of test_group ∷ []

-- their values as a tuple, and by their names
abbrev pub RuleTuple : Type 0
RuleTuple = Option (List ℕ) × (Option OverridePlatforms × (Option ℤ × (Option TestGroup × Unit {0})))

abbrev pub rule_values : RuleTuple → RuleValues
rule_values it = record {
  filter = it.0;
  platform = it.1.0;
  priority = it.1.1.0;
  test_group = it.1.1.1.0;
}

-- what a table says of them: refused for the first place, by the bytes of the keys, at which one of
-- the keys refuses it
abbrev pub rule_tuple_in : Members → Reading RuleTuple
rule_tuple_in = both (value_of filter) (both (value_of platform) (both (value_of priority) (both (value_of test_group) nothing)))

abbrev pub rule_in : Members → Reading RuleValues
rule_in given = made_of rule_values (rule_tuple_in given)

-- each key reads a table as its value
pub record IsRule (given : Members) (it : RuleValues) : Type 0 where
  pub filter : value_of filter given ≡ Ok it.filter
  pub platform : value_of platform given ≡ Ok it.platform
  pub priority : value_of priority given ≡ Ok it.priority
  pub test_group : value_of test_group given ≡ Ok it.test_group

abbrev pub filter_of : RuleValues → Option (List ℕ)
filter_of it = it.filter

abbrev pub platform_of : RuleValues → Option OverridePlatforms
platform_of it = it.platform

abbrev pub priority_of : RuleValues → Option ℤ
priority_of it = it.priority

abbrev pub test_group_of : RuleValues → Option TestGroup
test_group_of it = it.test_group

-- ---- each key by itself

rule_tuple : (given : Members) (tuple : RuleTuple) → rule_tuple_in given ≡ Ok tuple → IsRule given (rule_values tuple)
rule_tuple given tuple is =
    let at_0 = joined_parts _ _ tuple is in
    let at_1 = joined_parts _ _ tuple.1 at_0.1 in
    let at_2 = joined_parts _ _ tuple.1.1 at_1.1 in
    let at_3 = joined_parts _ _ tuple.1.1.1 at_2.1 in
    record { filter = at_0.0; platform = at_1.0; priority = at_2.0; test_group = at_3.0 }

pub rule_read : (given : Members) (it : RuleValues) → rule_in given ≡ Ok it → IsRule given it
rule_read given it is = let made = read_of rule_values (rule_tuple_in given) it is in subst (IsRule given) made.is (rule_tuple given made.values made.reads)

pub rule_made : (given : Members) (it : RuleValues) → IsRule given it → rule_tuple_in given ≡ Ok (it.filter, (it.platform, (it.priority, (it.test_group, tt))))
rule_made given it is = rw (is.filter, is.platform, is.priority, is.test_group) refl
