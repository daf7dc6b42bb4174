-- The groups of tests that a configuration defines, as its tree says them.
use Rattle.std.specs.Prelude.{ℕ, List, [], ◌∷◌, Option, None, Some, Result, Ok, Err, codes}
use Rattle.toml.specs.Data.{Data, Members, no_members, member, get_member}
use Rattle.nextest_config_elements_identifiers.specs.Config.{identifier}
use Rattle.nextest_config_elements_identifiers.specs.declared.invalid_identifier.InvalidIdentifier.{InvalidIdentifier}
use Rattle.nextest_config_elements_toml.specs.Reading.{Path, Reading, ◌>>=◌, under}
use Rattle.nextest_config_elements_deserialize.specs.Threads.{test_group_config_in}
use Rattle.nextest_config_resolution_overrides.specs.declared.groups.NamedGroup.{NamedGroup}
use Rattle.nextest_config_elements_deserialize.specs.Keys.{table_by}

-- where the groups stand
abbrev pub groups_path : Path
groups_path = codes "test-groups" ∷ []

-- where the group of a key stands
abbrev pub group_path : List ℕ → Path
group_path key = codes "test-groups" ∷ key ∷ []

-- the name that an identifier is
abbrev pub name_of_identifier : Result (List ℕ) InvalidIdentifier → Reading (List ℕ)
name_of_identifier (Ok name) = Ok name
name_of_identifier (Err refusal) = Err []

-- a group: its key is its name, an identifier, and what stands there sets it
abbrev pub group_of : List ℕ → Data → Reading NamedGroup
group_of key given = do
  name ← name_of_identifier (identifier key)
  config ← test_group_config_in given
  Ok (record { name = name; config = config })

-- the groups of a table, in the order of its keys; what is wrong in one stands below its key
abbrev pub groups_in : Members → Reading (List NamedGroup)
groups_in no_members = Ok []
groups_in (member key given more) = do
  group ← under key (group_of key given)
  groups ← groups_in more
  Ok (group ∷ groups)

-- what stands under `test-groups`: a table of them, or nothing
abbrev pub groups_of : Option Data → Reading (List NamedGroup)
groups_of None = Ok []
groups_of (Some given) = table_by groups_in given

abbrev pub groups_at : Members → Reading (List NamedGroup)
groups_at top = under (codes "test-groups") (groups_of (get_member (codes "test-groups") top))
