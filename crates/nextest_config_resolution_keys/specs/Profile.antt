-- What profiles say.
use Rattle.std.specs.Prelude.{◌≡◌, ◌++◌, List, Ok}
use Rattle.std.proofs.Common.{ap, subst}
use Rattle.toml.specs.Data.{Data, Members}
use Rattle.nextest_config_elements_deserialize.specs.Keys.{table_by}
use Rattle.nextest_config_elements_toml.specs.Reading.{Reading}
use Rattle.nextest_config_resolution_keys.specs.Command.{CommandTuple, IsCommand, command_in, command_rows, command_tuple_in, command_values}
use Rattle.nextest_config_resolution_keys.specs.Listed.{joined_parts, read_of}
use Rattle.nextest_config_resolution_keys.specs.Own.{IsOwn, OwnTuple, own_in, own_rows, own_tuple_in, own_values}
use Rattle.nextest_config_resolution_keys.specs.Report.{IsReport, ReportTuple, report_in, report_rows, report_tuple_in, report_values}
use Rattle.nextest_config_resolution_keys.specs.Rows.{Row, both, made_of}
use Rattle.nextest_config_resolution_keys.specs.Test.{IsTest, TestTuple, test_in, test_rows, test_tuple_in, test_values}
use Rattle.nextest_config_resolution_keys.specs.declared.profile_config.ProfileConfig.{ProfileConfig}

-- the keys of a profile
abbrev pub profile_rows : List Row
profile_rows = (own_rows ++ command_rows) ++ (test_rows ++ report_rows)

-- their values as tuples, and what a table says of them
abbrev pub ProfileTuple : Type 0
ProfileTuple = (OwnTuple × CommandTuple) × (TestTuple × ReportTuple)

abbrev pub profile_tuple_in : Members → Reading ProfileTuple
profile_tuple_in = both (both own_tuple_in command_tuple_in) (both test_tuple_in report_tuple_in)

-- a profile of them
abbrev pub profile_values : ProfileTuple → ProfileConfig
profile_values it = record { own = own_values it.0.0; command = command_values it.0.1; test = test_values it.1.0; report = report_values it.1.1 }

-- a table as a profile: refused for the first place, by the bytes of the keys, at which one of its
-- keys refuses it
unfoldable pub profile_in : Members → Reading ProfileConfig
profile_in given = made_of profile_values (profile_tuple_in given)

-- each of its keys reads a table as its value
pub record IsProfile (given : Members) (it : ProfileConfig) : Type 0 where
  pub own : IsOwn given it.own
  pub command : IsCommand given it.command
  pub test : IsTest given it.test
  pub report : IsReport given it.report

-- what stands under the name of a profile
abbrev pub profile_of : Data → Reading ProfileConfig
profile_of = table_by profile_in

-- ---- each of its parts by itself

-- each part of it is read of its table
pub record ProfileParts (given : Members) (it : ProfileConfig) : Type 0 where
  pub own : own_in given ≡ Ok it.own
  pub command : command_in given ≡ Ok it.command
  pub test : test_in given ≡ Ok it.test
  pub report : report_in given ≡ Ok it.report

profile_tuple : (given : Members) (tuple : ProfileTuple) → profile_tuple_in given ≡ Ok tuple → ProfileParts given (profile_values tuple)
profile_tuple given tuple is =
    let halves = joined_parts _ _ tuple is in
    let first = joined_parts _ _ tuple.0 halves.0 in
    let second = joined_parts _ _ tuple.1 halves.1 in
    record { own = ap (made_of own_values) first.0; command = ap (made_of command_values) first.1; test = ap (made_of test_values) second.0; report = ap (made_of report_values) second.1 }

pub profile_read : (given : Members) (it : ProfileConfig) → profile_in given ≡ Ok it → ProfileParts given it
unfolding profile_in
profile_read given it is =
    let made = read_of profile_values (profile_tuple_in given) it is in subst (ProfileParts given) made.is (profile_tuple given made.values made.reads)
