-- How a file is read, profile by profile.
use Rattle.std.proofs.Common.{◌≡◌, ℕ, List, [], ◌∷◌, ◌++◌, Ok, String, Global, string_bytes, sym}
use Rattle.toml.specs.View.{members_view, view}
use Rattle.toml.specs.declared.value.Value.{Value}
use Rattle.nextest_config_resolution_load.specs.File.{rules_of_profile, profiles_in_file}
use Rattle.nextest_config_resolution_load.specs.declared.file_config.ProfileRules.{ProfileRules}
use Rattle.nextest_config_resolution_keys.proofs.OneByOne.{value_more, with_more}

-- one more profile
pub profile_more : (found : List ProfileRules) (told : List ℕ) (one : ProfileRules) (added : List ProfileRules) (key : String Global) (given : Value)
    (entries more : List (String Global × Value)) → entries ≡ (key, given) ∷ more → told ≡ string_bytes key → added ≡ found ++ one ∷ []
    → rules_of_profile told (view given) ≡ Ok one → with_more found (profiles_in_file (members_view entries)) ≡ with_more added (profiles_in_file (members_view more))
profile_more found told one added key given entries more here says adds is =
    rw (here, sym says, adds) (value_more told found one (rules_of_profile told (view given)) (profiles_in_file (members_view more)) is)
