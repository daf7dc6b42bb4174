-- A script of a name is found exactly if some script has the name.
use Rattle.std.proofs.Common.{◌≡◌, ℕ, Bool, true, false, ◌||◌, List, [], ◌∷◌, Option, None, Some, refl, ◌∙◌}
use Rattle.std.specs.Prelude.{is_some, if◌then◌else◌}
use Rattle.std.specs.List.{list_any}
use Rattle.std.specs.Str.{bytes_eq}
use Rattle.nextest_config_resolution_scripts.specs.Defined.{found_behind, or_earlier}
use Rattle.nextest_config_resolution_scripts.specs.Laws.{NamedIsFound}
use Rattle.nextest_config_resolution_scripts.specs.declared.script_config.NamedScript.{NamedScript}

-- a script that has the name is found, or one was found before it
earlier : {A : Type 0} (has : Bool) (config : A) (found : Option A) (more : Bool) → is_some (if has then Some config else found) || more ≡ is_some found || (has || more)
earlier true config None more = refl
earlier true config (Some it) more = refl
earlier false config None more = refl
earlier false config (Some it) more = refl

none_more : {A : Type 0} (found : Option A) → is_some found ≡ is_some found || false
none_more None = refl
none_more (Some it) = refl

found_is : {A : Type 0} (scripts : List (NamedScript A)) (id : List ℕ) (found : Option A)
    → is_some (found_behind scripts id found) ≡ is_some found || list_any (λ it. bytes_eq id it.id) scripts
found_is [] id found = none_more found
found_is (it ∷ scripts) id found =
    found_is scripts id (or_earlier it id found) ∙ earlier (bytes_eq id it.id) it.config found (list_any (λ it. bytes_eq id it.id) scripts)

pub named_is_found : {A : Type 0} → NamedIsFound A
named_is_found scripts id = found_is scripts id None
