-- The overrides of a profile, as a file says them.
use Rattle.std.specs.Prelude.{◌≡◌, List, [], ◌∷◌, ◌++◌, Ok, Err, codes}
use Rattle.std.proofs.Common.{ap, subst}
use Rattle.toml.specs.Data.{Data, array, Members}
use Rattle.nextest_config_elements_deserialize.specs.Keys.{table_by}
use Rattle.nextest_config_elements_toml.specs.Reading.{Reading}
use Rattle.nextest_config_resolution_keys.specs.Items.{items_in}
use Rattle.nextest_config_resolution_keys.specs.Keys.{Key}
use Rattle.nextest_config_resolution_keys.specs.Command.{CommandTuple, IsCommand, command_in, command_rows, command_tuple_in, command_values}
use Rattle.nextest_config_resolution_keys.specs.Listed.{joined_parts, read_of}
use Rattle.nextest_config_resolution_keys.specs.Report.{IsReport, ReportTuple, report_in, report_rows, report_tuple_in, report_values}
use Rattle.nextest_config_resolution_keys.specs.Rows.{Row, both, made_of}
use Rattle.nextest_config_resolution_keys.specs.Test.{IsTest, TestTuple, test_in, test_rows, test_tuple_in, test_values}
use Rattle.nextest_config_resolution_overrides.specs.RuleKeys.{IsRule, RuleTuple, rule_in, rule_rows, rule_tuple_in, rule_values}
use Rattle.nextest_config_resolution_overrides.specs.declared.override_config.OverrideConfig.{OverrideConfig}

-- the keys of an override
abbrev pub override_rows : List Row
override_rows = (rule_rows ++ command_rows) ++ (test_rows ++ report_rows)

-- their values as tuples, and what a table says of them
abbrev pub OverrideTuple : Type 0
OverrideTuple = (RuleTuple × CommandTuple) × (TestTuple × ReportTuple)

abbrev pub override_tuple_in : Members → Reading OverrideTuple
override_tuple_in = both (both rule_tuple_in command_tuple_in) (both test_tuple_in report_tuple_in)

-- an override of them
abbrev pub override_values : OverrideTuple → OverrideConfig
override_values it = record { rule = rule_values it.0.0; command = command_values it.0.1; test = test_values it.1.0; report = report_values it.1.1 }

-- a table as an override: refused for the first place, by the bytes of the keys, at which one of
-- its keys refuses it
unfoldable pub override_in : Members → Reading OverrideConfig
override_in given = made_of override_values (override_tuple_in given)

-- each of its keys reads a table as its value
pub record IsOverride (given : Members) (it : OverrideConfig) : Type 0 where
  pub rule : IsRule given it.rule
  pub command : IsCommand given it.command
  pub test : IsTest given it.test
  pub report : IsReport given it.report

-- a list of tables, each of which is one
abbrev pub overrides_of : Data → Reading (List OverrideConfig)
overrides_of (array items) = items_in (table_by override_in) 0 items
overrides_of given = Err []

-- `overrides`: the overrides of a profile
abbrev pub overrides : Key (List OverrideConfig)
overrides = record { path = codes "overrides" ∷ []; reading = overrides_of }

-- ---- each part of an override by itself

-- each part of it is read of its table
pub record OverrideParts (given : Members) (it : OverrideConfig) : Type 0 where
  pub rule : rule_in given ≡ Ok it.rule
  pub command : command_in given ≡ Ok it.command
  pub test : test_in given ≡ Ok it.test
  pub report : report_in given ≡ Ok it.report

override_tuple : (given : Members) (tuple : OverrideTuple) → override_tuple_in given ≡ Ok tuple → OverrideParts given (override_values tuple)
override_tuple given tuple is =
    let halves = joined_parts _ _ tuple is in
    let first = joined_parts _ _ tuple.0 halves.0 in
    let second = joined_parts _ _ tuple.1 halves.1 in
    record { rule = ap (made_of rule_values) first.0; command = ap (made_of command_values) first.1; test = ap (made_of test_values) second.0; report = ap (made_of report_values) second.1 }

pub override_read : (given : Members) (it : OverrideConfig) → override_in given ≡ Ok it → OverrideParts given it
unfolding override_in
override_read given it is =
    let made = read_of override_values (override_tuple_in given) it is in subst (OverrideParts given) made.is (override_tuple given made.values made.reads)
