-- The names of a configuration.
use Rattle.std.specs.Prelude.{ℕ, List, Option, None, Some, Result, Ok, Err, option_and_then}
use Rattle.toml.specs.Data.{Data, as_str}
use Rattle.nextest_config_elements_identifiers.specs.Config.{identifier}
use Rattle.nextest_config_elements_identifiers.specs.Groups.{group_of}
use Rattle.nextest_config_elements_identifiers.specs.Identifier.{tool_name}
use Rattle.nextest_config_elements_identifiers.specs.declared.invalid_identifier.InvalidIdentifier.{InvalidIdentifier}
use Rattle.nextest_config_elements_identifiers.specs.declared.test_group.TestGroup.{TestGroup}
use Rattle.nextest_config_elements_toml.specs.Reading.{Reading, leaf}

-- what a text names, where it names something
abbrev pub ok_of : {A : Type 0} → Result A InvalidIdentifier → Option A
ok_of (Ok name) = Some name
ok_of (Err refusal) = None

-- a text that is the name of a tool
abbrev pub tool : Data → Option (List ℕ)
tool given = option_and_then (λ written. ok_of (tool_name written)) (as_str given)

-- how the name of a tool is read
abbrev pub tool_name_in : Data → Reading (List ℕ)
tool_name_in = leaf tool

-- a text that is an identifier
abbrev pub name : Data → Option (List ℕ)
name given = option_and_then (λ written. ok_of (identifier written)) (as_str given)

-- how an identifier is read
abbrev pub config_identifier_in : Data → Reading (List ℕ)
config_identifier_in = leaf name

-- a text that names a group of tests
abbrev pub group : Data → Option TestGroup
group given = option_and_then (λ written. ok_of (group_of written)) (as_str given)

-- how a group of tests is read
abbrev pub test_group_in : Data → Reading TestGroup
test_group_in = leaf group

-- how a group that a configuration names is read: by its identifier
abbrev pub custom_test_group_in : Data → Reading (List ℕ)
custom_test_group_in = leaf name
