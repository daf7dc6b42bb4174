-- How groups are read, one by one.
use Rattle.std.proofs.Common.{◌≡◌, ℕ, List, [], ◌∷◌, ◌++◌, Ok, String, Global, string_bytes, sym}
use Rattle.toml.specs.View.{members_view, view}
use Rattle.toml.specs.declared.value.Value.{Value}
use Rattle.nextest_config_resolution_keys.proofs.OneByOne.{value_more, with_more}
use Rattle.nextest_config_resolution_overrides.specs.Groups.{group_of, groups_in}
use Rattle.nextest_config_resolution_overrides.specs.declared.groups.NamedGroup.{NamedGroup}

-- one more group
pub group_more : (groups : List NamedGroup) (told : List ℕ) (group : NamedGroup) (added : List NamedGroup) (key : String Global) (given : Value)
    (entries more : List (String Global × Value)) → entries ≡ (key, given) ∷ more → told ≡ string_bytes key → added ≡ groups ++ group ∷ []
    → group_of told (view given) ≡ Ok group → with_more groups (groups_in (members_view entries)) ≡ with_more added (groups_in (members_view more))
group_more groups told group added key given entries more here says adds is =
    rw (here, sym says, adds) (value_more told groups group (group_of told (view given)) (groups_in (members_view more)) is)
