-- How scripts are read, one by one.
use Rattle.std.proofs.Common.{◌≡◌, ℕ, List, [], ◌∷◌, ◌++◌, Ok, String, Global, string_bytes, sym}
use Rattle.toml.specs.Data.{Data}
use Rattle.toml.specs.View.{members_view, view}
use Rattle.toml.specs.declared.value.Value.{Value}
use Rattle.nextest_config_elements_toml.specs.Reading.{Reading, under}
use Rattle.nextest_config_resolution_keys.proofs.OneByOne.{one_more, with_more}
use Rattle.nextest_config_resolution_scripts.specs.Scripts.{script_of, scripts_in}
use Rattle.nextest_config_resolution_scripts.specs.declared.script_config.NamedScript.{NamedScript}

-- one more script
pub script_more : {A : Type 0} (reading : Data → Reading A) (scripts : List (NamedScript A)) (told : List ℕ) (script : NamedScript A) (added : List (NamedScript A)) (key : String Global)
    (given : Value) (entries more : List (String Global × Value)) → entries ≡ (key, given) ∷ more → told ≡ string_bytes key → added ≡ scripts ++ script ∷ []
    → under told (script_of reading told (view given)) ≡ Ok script → with_more scripts (scripts_in reading (members_view entries)) ≡ with_more added (scripts_in reading (members_view more))
script_more reading scripts told script added key given entries more here says adds is =
    rw (here, sym says, adds) (one_more scripts script (under told (script_of reading told (view given))) (scripts_in reading (members_view more)) is)
