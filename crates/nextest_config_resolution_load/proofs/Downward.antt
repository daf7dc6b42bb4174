-- The rules of sources, the last source first.
use Rattle.std.proofs.Common.{◌≡◌, List, [], ◌∷◌, ◌++◌, map, refl, sym, ap, ◌∙◌, subst, append-nil}
use Rattle.std.specs.Prelude.{reverse}
use Rattle.std.specs.List.{AllZip, flat_map}
use Rattle.std.proofs.lemmas.Grind.{flat_map-append}
use Rattle.std.proofs.lemmas.List.{reverse-append}
use Rattle.nextest_config_resolution_load.specs.Checks.{rules_of_source}
use Rattle.nextest_config_resolution_load.specs.Load.{AreReadBy, IsFilterBy, IsReadBy, IsSpecBy}
use Rattle.nextest_config_resolution_load.specs.Reading.{AreReadInFile, AreRulesOf, all_placed, downward, overrides_of, placed_of, scripts_of}
use Rattle.nextest_config_resolution_load.specs.Rules.{Conditions, conditions_of, script_conditions_of}
use Rattle.nextest_config_resolution_load.specs.declared.loaded_rule.LoadedRule.{LoadedRule}
use Rattle.nextest_config_resolution_load.specs.declared.placed_file.SourceRules.{SourceRules}
use Rattle.nextest_config_resolution_load.proofs.Passing.{zip_both}
use Rattle.nextest_config_resolution_sources.specs.declared.source.ConfigSource.{ConfigSource}

module _ {O A P F S : Type 0} (Is : IsFilterBy F) (IsSpec : IsSpecBy S) (conditions : P → Conditions) (rules : O → List P) (own : A → List (LoadedRule P F S)) where
  -- the rules of each of some origins
  abbrev pub AreOf : List O → List A → Type 0
  AreOf origins all = AllZip (λ origin it. AreReadBy conditions Is IsSpec (rules origin) (own it)) origins all

  -- each list behind those of the origins after it
  pub read_downward : (origins : List O) (all : List A) → AreOf origins all → AreReadBy conditions Is IsSpec (flat_map rules (reverse origins)) (downward own all)
  read_downward [] [] are = tt
  read_downward [] (it ∷ all) are = absurd are
  read_downward (origin ∷ origins) [] are = absurd are
  read_downward (origin ∷ origins) (it ∷ all) are =
      let left : flat_map rules (reverse (origin ∷ origins)) ≡ flat_map rules (reverse origins) ++ rules origin =
      ap (flat_map rules) (reverse-append (origin ∷ []) origins) ∙ flat_map-append rules (reverse origins) (origin ∷ [])
      ∙ ap (λ (last : List P). flat_map rules (reverse origins) ++ last) (append-nil (rules origin)) in
      let right : downward own (it ∷ all) ≡ downward own all ++ own it =
      ap (flat_map own) (reverse-append (it ∷ []) all) ∙ flat_map-append own (reverse all) (it ∷ [])
      ∙ ap (λ (last : List (LoadedRule P F S)). downward own all ++ last) (append-nil (own it)) in
      let both = zip_both (IsReadBy conditions Is IsSpec) (flat_map rules (reverse origins)) (downward own all) (rules origin) (own it) (read_downward origins all are.1) are.0 in
      subst (λ (placed : List P). AreReadBy conditions Is IsSpec placed (downward own (it ∷ all))) (sym left)
      (subst (λ (loaded : List (LoadedRule P F S)). AreReadBy conditions Is IsSpec (flat_map rules (reverse origins) ++ rules origin) loaded) (sym right) both)

  -- what rules say that were read
  read_placed : (placed : List P) (loaded : List (LoadedRule P F S)) → AreReadBy conditions Is IsSpec placed loaded → placed_of loaded ≡ placed
  read_placed [] [] are = refl
  read_placed [] (it ∷ loaded) are = absurd are
  read_placed (rule ∷ placed) [] are = absurd are
  read_placed (rule ∷ placed) (it ∷ loaded) are =
      ap (λ (first : P). first ∷ placed_of loaded) are.0.same ∙ ap (λ (more : List P). rule ∷ more) (read_placed placed loaded are.1)

  pub all_read_placed : (origins : List O) (all : List A) → AreOf origins all → all_placed (map own all) ≡ flat_map rules origins
  all_read_placed [] [] are = refl
  all_read_placed [] (it ∷ all) are = absurd are
  all_read_placed (origin ∷ origins) [] are = absurd are
  all_read_placed (origin ∷ origins) (it ∷ all) are =
      ap (λ (first : List P). first ++ all_placed (map own all)) (read_placed (rules origin) (own it) are.0)
      ∙ ap (λ (more : List P). rules origin ++ more) (all_read_placed origins all are.1)

-- pairs, seen otherwise
pub zip_through : {A B : Type 0} (One Other : A → B → Type 0) → ((a : A) (b : B) → One a b → Other a b) → (xs : List A) (ys : List B) → AllZip One xs ys → AllZip Other xs ys
zip_through One Other through [] [] all = tt
zip_through One Other through [] (y ∷ ys) all = absurd all
zip_through One Other through (x ∷ xs) [] all = absurd all
zip_through One Other through (x ∷ xs) (y ∷ ys) all = (through x y all.0, zip_through One Other through xs ys all.1)

-- ---- those of sources

module _ {F S : Type 0} (Is : IsFilterBy F) (IsSpec : IsSpecBy S) where
  overrides_are : (sources : List ConfigSource) (all : List (SourceRules F S)) → AreRulesOf Is IsSpec sources all
      → AreOf Is IsSpec conditions_of (λ source. (rules_of_source source).overrides) (λ own. own.overrides) sources all
  overrides_are sources all are =
      zip_through (λ source own. AreReadInFile Is IsSpec (rules_of_source source) own) (λ source own. AreReadBy conditions_of Is IsSpec (rules_of_source source).overrides own.overrides)
      (λ source own both. both.overrides) sources all are

  scripts_are : (sources : List ConfigSource) (all : List (SourceRules F S)) → AreRulesOf Is IsSpec sources all
      → AreOf Is IsSpec script_conditions_of (λ source. (rules_of_source source).scripts) (λ own. own.scripts) sources all
  scripts_are sources all are =
      zip_through (λ source own. AreReadInFile Is IsSpec (rules_of_source source) own) (λ source own. AreReadBy script_conditions_of Is IsSpec (rules_of_source source).scripts own.scripts)
      (λ source own both. both.scripts) sources all are

  pub overrides_downward : (sources : List ConfigSource) (all : List (SourceRules F S)) → AreRulesOf Is IsSpec sources all
      → AreReadBy conditions_of Is IsSpec (flat_map (λ source. (rules_of_source source).overrides) (reverse sources)) (downward (λ own. own.overrides) all)
  overrides_downward sources all are = read_downward Is IsSpec conditions_of (λ source. (rules_of_source source).overrides) (λ own. own.overrides) sources all (overrides_are sources all are)

  pub scripts_downward : (sources : List ConfigSource) (all : List (SourceRules F S)) → AreRulesOf Is IsSpec sources all
      → AreReadBy script_conditions_of Is IsSpec (flat_map (λ source. (rules_of_source source).scripts) (reverse sources)) (downward (λ own. own.scripts) all)
  scripts_downward sources all are = read_downward Is IsSpec script_conditions_of (λ source. (rules_of_source source).scripts) (λ own. own.scripts) sources all (scripts_are sources all are)

  pub overrides_placed : (sources : List ConfigSource) (all : List (SourceRules F S)) → AreRulesOf Is IsSpec sources all
      → all_placed (overrides_of all) ≡ flat_map (λ source. (rules_of_source source).overrides) sources
  overrides_placed sources all are = all_read_placed Is IsSpec conditions_of (λ source. (rules_of_source source).overrides) (λ own. own.overrides) sources all (overrides_are sources all are)

  pub scripts_placed : (sources : List ConfigSource) (all : List (SourceRules F S)) → AreRulesOf Is IsSpec sources all
      → all_placed (scripts_of all) ≡ flat_map (λ source. (rules_of_source source).scripts) sources
  scripts_placed sources all are = all_read_placed Is IsSpec script_conditions_of (λ source. (rules_of_source source).scripts) (λ own. own.scripts) sources all (scripts_are sources all are)
