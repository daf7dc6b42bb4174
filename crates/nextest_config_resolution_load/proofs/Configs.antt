-- Profiles and the store together.
use Rattle.std.proofs.Common.{◌≡◌, ℕ, List, [], ◌∷◌, map, Option, Ok, Err, refl, ap, subst}
use Rattle.toml.specs.Data.{Members}
use Rattle.nextest_config_elements_toml.specs.Reading.{Reading}
use Rattle.nextest_config_elements_toml.specs.declared.bad_value.BadValue.{BadValue}
use Rattle.nextest_config_elements_toml.specs.declared.value_error.ValueError.{ValueError}
use Rattle.nextest_config_elements_toml.specs.declared.value_error.ValueError.TheVariants as value_error
use Rattle.nextest_config_resolution_inheritance.specs.Inheritance.{Parents, names}
use Rattle.nextest_config_resolution_inheritance.specs.Refusals.{IsFirstFault, IsRefusedFor}
use Rattle.nextest_config_resolution_inheritance.specs.declared.inheritance_error.InheritanceError.{InheritanceError}
use Rattle.nextest_config_resolution_inheritance.specs.declared.inheritance_error.InheritanceError.TheVariants as inheritance
use Rattle.nextest_config_resolution_inheritance.specs.declared.inheritance_fault.InheritanceFault.{InheritanceFault}
use Rattle.nextest_config_resolution_load.specs.Checks.{config_in, parents_of}
use Rattle.nextest_config_resolution_load.specs.Load.{named_of}
use Rattle.nextest_config_resolution_load.specs.Reading.{GivesSeen, values_of}
use Rattle.nextest_config_resolution_load.specs.declared.loaded_config.NamedProfile.{NamedProfile}
use Rattle.nextest_config_resolution_overrides.specs.Groups.{groups_at}
use Rattle.nextest_config_resolution_overrides.specs.declared.groups.NamedGroup.{NamedGroup}
use Rattle.nextest_config_resolution_scripts.specs.Scripts.{scripts_at}
use Rattle.nextest_config_resolution_scripts.specs.declared.script_config.ScriptConfig.{ScriptConfig}
use Rattle.nextest_config_resolution_keys.specs.File.{Named, inherits_in, profiles_at, store_dir_at}

pub profiles_refused : (top : Members) (told : ValueError) → GivesSeen (map named_of) (Err told) (profiles_at top) → GivesSeen values_of (Err told) (config_in top)
profiles_refused top (value_error.Refused bad) e = rw e refl
profiles_refused top value_error.OutOfMemory e = tt

pub scripts_refused : (top : Members) (all : List Named) (told : ValueError) → profiles_at top ≡ Ok all → GivesSeen {A = ScriptConfig} (λ it. it) (Err told) (scripts_at top)
    → GivesSeen values_of (Err told) (config_in top)
scripts_refused top all (value_error.Refused bad) e f = rw (e, f) refl
scripts_refused top all value_error.OutOfMemory e f = tt

pub store_refused : (top : Members) (all : List Named) (scripts : ScriptConfig) (told : ValueError) → profiles_at top ≡ Ok all → scripts_at top ≡ Ok scripts
    → GivesSeen {A = Option (List ℕ)} (λ it. it) (Err told) (store_dir_at top) → GivesSeen values_of (Err told) (config_in top)
store_refused top all scripts (value_error.Refused bad) e f g = rw (e, f, g) refl
store_refused top all scripts value_error.OutOfMemory e f g = tt

pub groups_refused : (top : Members) (all : List Named) (scripts : ScriptConfig) (dir : Option (List ℕ)) (told : ValueError) → profiles_at top ≡ Ok all → scripts_at top ≡ Ok scripts
    → store_dir_at top ≡ Ok dir → GivesSeen {A = List NamedGroup} (λ it. it) (Err told) (groups_at top) → GivesSeen values_of (Err told) (config_in top)
groups_refused top all scripts dir (value_error.Refused bad) e f g h = rw (e, f, g, h) refl
groups_refused top all scripts dir value_error.OutOfMemory e f g h = tt

pub seen_refused : {A B : Type 0} (view : A → B) (reading : Reading B) (told : ValueError) (bad : BadValue) → told ≡ value_error.Refused bad → GivesSeen view (Err told) reading → reading ≡ Err bad.path.keys
seen_refused view reading told bad e given = subst (λ it. GivesSeen view (Err it) reading) e given

pub fault_is : (told : InheritanceError) (fault : InheritanceFault) (parents : Parents) → told ≡ inheritance.Refused fault → IsRefusedFor told (IsFirstFault parents) → IsFirstFault parents fault
fault_is told fault parents e given = subst (λ it. IsRefusedFor it (IsFirstFault parents)) e given

-- the parents of what is read
pub same_parents : (all : List NamedProfile) → parents_of (map named_of all) ≡ map (λ it. (it.name, inherits_in it.config)) all
same_parents [] = refl
same_parents (it ∷ all) = ap (λ more. (it.name, inherits_in it.config) ∷ more) (same_parents all)

pub same_names : (all : List Named) → names (parents_of all) ≡ map (λ it. it.0) all
same_names [] = refl
same_names (it ∷ all) = ap (λ more. it.0 ∷ more) (same_names all)
