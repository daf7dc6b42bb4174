-- The rules of profiles, one after another.
use Rattle.std.proofs.Common.{◌≡◌, ℕ, List, [], ◌∷◌, ◌++◌, sym, ap, ◌∙◌, subst, append-nil}
use Rattle.std.proofs.lemmas.Grind.{flat_map-append}
use Rattle.std.specs.List.{flat_map}
use Rattle.nextest_config_resolution_load.specs.Load.{AreReadBy, IsFilterBy, IsReadBy, IsSpecBy}
use Rattle.nextest_config_resolution_load.specs.Reading.{AreReadInFile, rules_of_profile, rules_of_profiles}
use Rattle.nextest_config_resolution_load.specs.Rules.{Conditions, conditions_of, placed_in, script_conditions_of, script_placed_in}
use Rattle.nextest_config_resolution_load.specs.declared.file_config.ProfileRules.{ProfileRules}
use Rattle.nextest_config_resolution_load.specs.declared.loaded_rule.LoadedRule.{LoadedRule}
use Rattle.nextest_config_resolution_load.specs.declared.placed_file.SourceRules.{SourceRules}
use Rattle.nextest_config_resolution_load.proofs.Passing.{zip_both}

module _ {F S : Type 0} (Is : IsFilterBy F) (IsSpec : IsSpecBy S) where
  -- rules of one kind, with those of one more profile
  read_more : {P : Type 0} (conditions : P → Conditions) (rules : ProfileRules → List P) (front : List ProfileRules) (profile : ProfileRules) (loaded own all : List (LoadedRule P F S))
      → AreReadBy conditions Is IsSpec (flat_map rules front) loaded → AreReadBy conditions Is IsSpec (rules profile) own → all ≡ loaded ++ own
      → AreReadBy conditions Is IsSpec (flat_map rules (front ++ profile ∷ [])) all
  read_more {P} conditions rules front profile loaded own all before here is =
      let left : flat_map rules (front ++ profile ∷ []) ≡ flat_map rules front ++ rules profile =
      flat_map-append rules front (profile ∷ []) ∙ ap (λ (last : List P). flat_map rules front ++ last) (append-nil (rules profile)) in
      subst (λ (placed : List P). AreReadBy conditions Is IsSpec placed all) (sym left)
      (subst (λ (them : List (LoadedRule P F S)). AreReadBy conditions Is IsSpec (flat_map rules front ++ rules profile) them) (sym is)
      (zip_both (IsReadBy conditions Is IsSpec) (flat_map rules front) loaded (rules profile) own before here))

  -- and of both
  pub profile_read : (path : List ℕ) (front : List ProfileRules) (profile : ProfileRules) (rules own all : SourceRules F S)
      → AreReadInFile Is IsSpec (rules_of_profiles path front) rules → AreReadInFile Is IsSpec (rules_of_profile path profile) own
      → all.overrides ≡ rules.overrides ++ own.overrides → all.scripts ≡ rules.scripts ++ own.scripts
      → AreReadInFile Is IsSpec (rules_of_profiles path (front ++ profile ∷ [])) all
  profile_read path front profile rules own all before here overrides scripts = record {
    overrides = read_more conditions_of (placed_in path) front profile rules.overrides own.overrides all.overrides before.overrides here.overrides overrides;
    scripts = read_more script_conditions_of (script_placed_in path) front profile rules.scripts own.scripts all.scripts before.scripts here.scripts scripts;
  }
