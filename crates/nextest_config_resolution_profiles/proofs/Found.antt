-- What profiles have under a name.
use Rattle.std.proofs.Common.{◌≡◌, zero, suc, ◌<◌, List, [], ◌∷◌, length, map, Bool, true, false, cond, Option, None, Some, option_map, option_and_then, find, refl, sym, ap, ◌∙◌, subst, arith, is_some}
use Rattle.std.proofs.lemmas.Bool.{false≢true}
use Rattle.std.proofs.lemmas.List.Elements.{Contains-append_right, Contains-get_or}
use Rattle.std.proofs.lemmas.Slice.Eq.{bytes_eq-Decides}
use Rattle.std.specs.List.{All, Contains}
use Rattle.std.specs.Option.{unwrap_or}
use Rattle.std.specs.Str.{bytes_eq}
use Rattle.nextest_config_resolution_inheritance.specs.Inheritance.{Name, Parents, Profile, default, names, next, profile_at}
use Rattle.nextest_config_resolution_inheritance.proofs.Found.{length_names, name_in}
use Rattle.nextest_config_resolution_load.specs.Checks.{parents_of}
use Rattle.nextest_config_resolution_profiles.specs.Config.{values_of}
use Rattle.nextest_config_resolution_keys.specs.File.{Named, inherits_in}
use Rattle.nextest_config_resolution_keys.specs.declared.profile_config.ProfileConfig.{ProfileConfig}

-- ---- a name that stands there has values

-- what is found in profiles, by whether the first is it
abbrev pub found_by : Name → Named → List Named → Bool → Option ProfileConfig
found_by name profile profiles first = option_map (λ (it : Named). it.1) (cond first (Some profile) (find (λ (it : Named). bytes_eq name it.0) profiles))

pub value_there : (name : Name) (profiles : List Named) → Contains (names (parents_of profiles)) name → (value : ProfileConfig) × (values_of profiles name ≡ Some value)
value_there name [] (k, within, is) = absurd (omega (arith, within))
value_there name (profile ∷ profiles) has = by_test (bytes_eq name profile.0) refl has (value_there name profiles)
  where
    by_test : (same : Bool) → bytes_eq name profile.0 ≡ same → Contains (profile.0 ∷ names (parents_of profiles)) name
        → (Contains (names (parents_of profiles)) name → (value : ProfileConfig) × (values_of profiles name ≡ Some value))
        → (value : ProfileConfig) × (values_of (profile ∷ profiles) name ≡ Some value)
    by_test true same has behind = (profile.1, ap (found_by name profile profiles) same)
    by_test false other (zero, within, is) behind = absurd (false≢true (sym other ∙ (bytes_eq-Decides name profile.0).1 (sym is)))
    by_test false other (suc k, within, is) behind =
        let more = behind (k, omega (arith, within), is) in
        (more.0, ap (found_by name profile profiles) other ∙ more.1)

-- ---- and one that has values stands there

pub name_there : (name : Name) (profiles : List Named) (value : ProfileConfig) → values_of profiles name ≡ Some value → Contains (names (parents_of profiles)) name
name_there name [] value e = absurd (false≢true (ap is_some e))
name_there name (profile ∷ profiles) value e = by_test (bytes_eq name profile.0) refl e (name_there name profiles value)
  where
    by_test : (same : Bool) → bytes_eq name profile.0 ≡ same
        → found_by name profile profiles same ≡ Some value
        → (values_of profiles name ≡ Some value → Contains (names (parents_of profiles)) name)
        → Contains (profile.0 ∷ names (parents_of profiles)) name
    by_test true same e behind =
        subst (λ (n : Name). Contains (profile.0 ∷ names (parents_of profiles)) n) (sym ((bytes_eq-Decides name profile.0).0 same)) (0, omega arith, refl)
    by_test false other e behind = Contains-append_right (profile.0 ∷ []) (names (parents_of profiles)) name (behind e)

-- each of some names has values
pub values_there : (profiles : List Named) (chain : List Name) → All (Contains (names (parents_of profiles))) chain
    → (values : List ProfileConfig) × (map (values_of profiles) chain ≡ map Some values)
values_there profiles [] each = ([], refl)
values_there profiles (name ∷ chain) each =
    let first = value_there name profiles (each 0 name (omega arith)) in
    let rest = values_there profiles chain (λ k d within. each (suc k) d (omega (arith, within))) in (
      first.0 ∷ rest.0,
      ap (λ (it : Option ProfileConfig). it ∷ map (values_of profiles) chain) first.1 ∙ ap (λ (more : List (Option ProfileConfig)). Some first.0 ∷ more) rest.1,
    )

-- ---- the next name, and the profile of a name

-- the next name hangs on the values alone
abbrev pub next_by : Option ProfileConfig → Name
next_by found = unwrap_or (option_and_then inherits_in found) default

pub next_of : (profiles : List Named) (name : Name) → next (parents_of profiles) name ≡ next_by (values_of profiles name)
next_of [] name = refl
next_of (profile ∷ profiles) name = by_test (bytes_eq name profile.0) (next_of profiles name)
  where
    by_test : (same : Bool) → next (parents_of profiles) name ≡ next_by (values_of profiles name)
        → unwrap_or (option_and_then (λ (it : Profile). it.1) (cond same (Some (profile.0, inherits_in profile.1)) (find (λ (it : Profile). bytes_eq name it.0) (parents_of profiles)))) default
        ≡ next_by (found_by name profile profiles same)
    by_test true behind = refl
    by_test false behind = behind

pub profile_there : (all : Parents) (name : Name) → Contains (names all) name → (profile : Profile) × Contains all profile × (profile.0 ≡ name)
profile_there all name (k, within, is) =
    let inside : k < length all = omega (arith, within, length_names all) in
    (profile_at all k, Contains-get_or all k ([], None) inside, sym (name_in all k name inside) ∙ is)
