-- The values of profiles by their names.
use Rattle.std.proofs.Common.{◌≡◌, ℕ, suc, ◌<◌, List, [], ◌∷◌, length, get_or, map, Bool, true, false, None, Some, option_map, refl, ap, sym, ◌∙◌, subst, arith}
use Rattle.std.proofs.lemmas.List.{get_or-map, length-map}
use Rattle.std.proofs.lemmas.Slice.Eq.{bytes_eq-Decides}
use Rattle.std.specs.List.{All, Contains}
use Rattle.std.specs.Str.{bytes_eq}
use Rattle.nextest_config_resolution_inheritance.proofs.Found.{find_at, one_place}
use Rattle.nextest_config_resolution_inheritance.specs.Inheritance.{Profile, Rise, name_at}
use Rattle.nextest_config_resolution_load.specs.Checks.{parents_of}
use Rattle.nextest_config_resolution_keys.specs.File.{Named, inherits_in}
use Rattle.nextest_config_resolution_profiles.specs.Config.{values_of}

name_of : (profiles : List Named) (k : ℕ) (d : Named) → k < length profiles → name_at (parents_of profiles) k ≡ (get_or profiles k d).0
name_of profiles k d within = ap (λ (p : Profile). p.0) (get_or-map (λ (it : Named). (it.0, inherits_in it.1)) profiles k d ([], None) within)

none_before : (profiles : List Named) (it : Named) (j k : ℕ) → Rise (parents_of profiles) → j < k → k < length profiles → get_or profiles k it ≡ it
    → bytes_eq it.0 (get_or profiles j it).0 ≡ false
none_before profiles it j k rise below within is = by_test (bytes_eq it.0 (get_or profiles j it).0) refl where
  by_test : (same : Bool) → bytes_eq it.0 (get_or profiles j it).0 ≡ same → same ≡ false
  by_test false e = refl
  by_test true e =
      let each : length (parents_of profiles) ≡ length profiles = length-map profiles (λ (p : Named). (p.0, inherits_in p.1)) in
      let before : j < length profiles = omega (arith, below, within) in
      let names : name_at (parents_of profiles) j ≡ name_at (parents_of profiles) k =
      name_of profiles j it before ∙ sym ((bytes_eq-Decides it.0 (get_or profiles j it).0).0 e) ∙ sym (name_of profiles k it within ∙ ap (λ (p : Named). p.0) is) in
      let one : j ≡ k = one_place (parents_of profiles) j k rise (omega (arith, each, before)) (omega (arith, each, within)) names in
      absurd (omega (arith, below, one))

value_of : (profiles : List Named) (it : Named) → Rise (parents_of profiles) → Contains profiles it → values_of profiles it.0 ≡ Some it.1
value_of profiles it rise (k, within, is) =
    ap (option_map (λ (p : Named). p.1))
    (find_at (λ (p : Named). bytes_eq it.0 p.0) profiles k it within (subst (λ (p : Named). bytes_eq it.0 p.0 ≡ true) (sym is) ((bytes_eq-Decides it.0 it.0).1 refl))
    (λ j below. none_before profiles it j k rise below within is)
    ∙ ap Some is)

-- the values of some profiles are those of their names
pub values_in : (profiles chain : List Named) → Rise (parents_of profiles) → All (Contains profiles) chain
    → map (values_of profiles) (map (λ profile. profile.0) chain) ≡ map Some (map (λ profile. profile.1) chain)
values_in profiles [] rise each = refl
values_in profiles (it ∷ chain) rise each =
    ap (λ first. first ∷ map (values_of profiles) (map (λ (p : Named). p.0) chain)) (value_of profiles it rise (each 0 it (omega arith)))
    ∙ ap (λ more. Some it.1 ∷ more) (values_in profiles chain rise (λ k d within. each (suc k) d (omega (arith, within))))
