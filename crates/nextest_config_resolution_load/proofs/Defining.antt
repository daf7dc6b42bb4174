-- What rules name is defined, in what sources come to.
use Rattle.std.proofs.Common.{◌≡◌, ℕ, Bool, true, false, List, [], ◌∷◌, ◌++◌, Option, None, Some, refl, sym, ap, ◌∙◌, subst, append-nil}
use Rattle.std.specs.Prelude.{reverse}
use Rattle.std.specs.List.{AllByRecursion, flat_map}
use Rattle.std.specs.Option.{IfSome}
use Rattle.std.proofs.lemmas.Grind.{flat_map-append}
use Rattle.std.proofs.lemmas.List.{reverse-append}
use Rattle.toml.specs.Data.{Members}
use Rattle.nextest_config_elements_identifiers.specs.declared.test_group.TestGroup.{TestGroup}
use Rattle.nextest_config_elements_identifiers.specs.declared.test_group.TestGroup.TheVariants as group
use Rattle.nextest_config_elements_toml.specs.Reading.{Reading}
use Rattle.nextest_config_elements_versions.specs.declared.feature.FeatureSet.{FeatureSet}
use Rattle.nextest_config_resolution_load.specs.Checks.{Check, MergedConfig, Refusal, default_checks, inheritance, merged_checks, must_hold, named_checks, parents_of, rules_of_source, rules_upward, script_rules_upward, unknown_group, unknown_script, unknown_wrapper}
use Rattle.nextest_config_resolution_load.specs.Laws.{GroupsAreDefined, HasGroup, HasScripts, IsFound, ScriptsAreDefined}
use Rattle.nextest_config_resolution_load.specs.Load.{AreReadBy, IsFilterBy, IsKept, IsLoadedAs, IsSpecBy, merged_of}
use Rattle.nextest_config_resolution_load.specs.Rules.{Conditions, conditions_of, group_checks, group_checks_of, has_script, is_defined, script_checks, script_conditions_of, setup_check, wrapper_check}
use Rattle.nextest_config_resolution_load.specs.declared.loaded_config.LoadedConfig.{LoadedConfig}
use Rattle.nextest_config_resolution_load.specs.declared.loaded_rule.LoadedRule.{LoadedRule}
use Rattle.nextest_config_resolution_load.proofs.Kept.{kept_before, kept_behind, kept_merged}
use Rattle.nextest_config_resolution_overrides.specs.declared.groups.NamedGroup.{NamedGroup}
use Rattle.nextest_config_resolution_overrides.specs.declared.override_id.OverrideId.{OverrideId}
use Rattle.nextest_config_resolution_scripts.proofs.Finding.{named_is_found}
use Rattle.nextest_config_resolution_scripts.specs.declared.script_config.NamedScript.{NamedScript}
use Rattle.nextest_config_resolution_scripts.specs.declared.script_config.ScriptConfig.{ScriptConfig}
use Rattle.nextest_config_resolution_scripts.specs.declared.script_config.ScriptType.TheVariants as script
use Rattle.nextest_config_resolution_scripts.specs.declared.script_rule.PlacedScriptRule.{PlacedScriptRule}
use Rattle.nextest_config_resolution_scripts.specs.declared.script_rule.ScriptRuleId.{ScriptRuleId}
use Rattle.nextest_config_resolution_sources.specs.Counting.{counting_sources}
use Rattle.nextest_config_resolution_sources.specs.declared.source.ConfigSource.{ConfigSource}

-- ---- what holds of all items of lists

module _ {A : Type 0} (P : A → Type 0) where
  pub all_both : (xs ys : List A) → AllByRecursion P xs → AllByRecursion P ys → AllByRecursion P (xs ++ ys)
  all_both [] ys one other = other
  all_both (x ∷ xs) ys one other = (one.0, all_both xs ys one.1 other)

  pub all_before : (xs ys : List A) → AllByRecursion P (xs ++ ys) → AllByRecursion P xs
  all_before [] ys all = tt
  all_before (x ∷ xs) ys all = (all.0, all_before xs ys all.1)

  pub all_behind : (xs ys : List A) → AllByRecursion P (xs ++ ys) → AllByRecursion P ys
  all_behind [] ys all = all
  all_behind (x ∷ xs) ys all = all_behind xs ys all.1

  -- of the lists of some items, also in the other order
  all_downward : {O : Type 0} (own : O → List A) (items : List O) → AllByRecursion P (flat_map own items) → AllByRecursion P (flat_map own (reverse items))
  all_downward own [] all = tt
  all_downward own (item ∷ items) all =
      let last : flat_map own (reverse (item ∷ items)) ≡ flat_map own (reverse items) ++ own item =
      ap (flat_map own) (reverse-append (item ∷ []) items) ∙ flat_map-append own (reverse items) (item ∷ [])
      ∙ ap (λ (behind : List A). flat_map own (reverse items) ++ behind) (append-nil (own item)) in
      subst (λ (xs : List A). AllByRecursion P xs) (sym last)
      (all_both (flat_map own (reverse items)) (own item) (all_downward own items (all_behind (own item) (flat_map own items) all)) (all_before (own item) (flat_map own items) all))

  -- of rules that were read
  all_read : {F S : Type 0} (conditions : A → Conditions) (Is : IsFilterBy F) (IsSpec : IsSpecBy S) (rules : List A) (loaded : List (LoadedRule A F S))
      → AreReadBy conditions Is IsSpec rules loaded → AllByRecursion P rules → AllByRecursion (λ it. P it.placed) loaded
  all_read conditions Is IsSpec [] [] are all = tt
  all_read conditions Is IsSpec [] (it ∷ loaded) are all = absurd are
  all_read conditions Is IsSpec (rule ∷ rules) [] are all = absurd are
  all_read conditions Is IsSpec (rule ∷ rules) (it ∷ loaded) are all =
      (subst P (sym are.0.same) all.0, all_read conditions Is IsSpec rules loaded are.1 all.1)

-- ---- what checks say that are kept

module _ {F S : Type 0} (Is : IsFilterBy F) (IsSpec : IsSpecBy S) where
  abbrev AreKept : List Check → Type 0
  AreKept checks = AllByRecursion (IsKept Is IsSpec) checks

  each : {A : Type 0} (checks : A → List Check) (P : A → Type 0) → ((x : A) → AreKept (checks x) → P x) → (xs : List A) → AreKept (flat_map checks xs) → AllByRecursion P xs
  each checks P says [] kept = tt
  each checks P says (x ∷ xs) kept =
      (says x (kept_before Is IsSpec (checks x) (flat_map checks xs) kept), each checks P says xs (kept_behind Is IsSpec (checks x) (flat_map checks xs) kept))

  holds : (test : Bool) (refusal : Refusal) → AreKept (must_hold test refusal) → test ≡ true
  holds true refusal kept = refl
  holds false refusal kept = absurd kept.0

  found : {A : Type 0} (scripts : List (NamedScript A)) (refusal : Refusal) (id : List ℕ) → AreKept (must_hold (has_script scripts id) refusal) → IsFound scripts id
  found scripts refusal id kept = named_is_found scripts id ∙ holds (has_script scripts id) refusal kept

  setup_found : {A : Type 0} (scripts : List (NamedScript A)) (rule : ScriptRuleId) (ids : List (List ℕ))
      → AreKept (flat_map (setup_check (has_script scripts) rule) ids) → AllByRecursion (IsFound scripts) ids
  setup_found scripts rule ids kept =
      each (setup_check (has_script scripts) rule) (IsFound scripts) (λ id here. found scripts (unknown_script rule id) id here) ids kept

  wrapper_found : {A : Type 0} (scripts : List (NamedScript A)) (rule : ScriptRuleId) (given : Option (List ℕ))
      → AreKept (wrapper_check (has_script scripts) rule given) → IfSome given (IsFound scripts)
  wrapper_found scripts rule None kept = tt
  wrapper_found scripts rule (Some id) kept = found scripts (unknown_wrapper rule id) id kept

  scripts_found : (scripts : ScriptConfig) (rule : PlacedScriptRule) → AreKept (script_checks script.Setup (has_script scripts.setup) rule)
      → AreKept (script_checks script.Wrapper (has_script scripts.wrapper) rule) → HasScripts scripts rule.config
  scripts_found scripts rule setup wrapper =
      let known = has_script scripts.wrapper in
      let list = wrapper_check known rule.id rule.config.list_wrapper in
      let run = wrapper_check known rule.id rule.config.run_wrapper in
      record {
        setup = setup_found scripts.setup rule.id rule.config.setup setup;
        list_wrapper = wrapper_found scripts.wrapper rule.id rule.config.list_wrapper (kept_before Is IsSpec list run wrapper);
        run_wrapper = wrapper_found scripts.wrapper rule.id rule.config.run_wrapper (kept_behind Is IsSpec list run wrapper);
      }

  rules_found : (scripts : ScriptConfig) (rules : List PlacedScriptRule) → AreKept (flat_map (script_checks script.Setup (has_script scripts.setup)) rules)
      → AreKept (flat_map (script_checks script.Wrapper (has_script scripts.wrapper)) rules) → AllByRecursion (λ rule. HasScripts scripts rule.config) rules
  rules_found scripts [] setup wrapper = tt
  rules_found scripts (rule ∷ rules) setup wrapper =
      let of_setup = script_checks script.Setup (has_script scripts.setup) in
      let of_wrapper = script_checks script.Wrapper (has_script scripts.wrapper) in (
        scripts_found scripts rule (kept_before Is IsSpec (of_setup rule) (flat_map of_setup rules) setup) (kept_before Is IsSpec (of_wrapper rule) (flat_map of_wrapper rules) wrapper),
        rules_found scripts rules (kept_behind Is IsSpec (of_setup rule) (flat_map of_setup rules) setup) (kept_behind Is IsSpec (of_wrapper rule) (flat_map of_wrapper rules) wrapper),
      )

  group_found : (groups : List NamedGroup) (id : OverrideId) (given : Option TestGroup) → AreKept (group_checks_of (is_defined groups) id given) → HasGroup groups given
  group_found groups id None kept = tt
  group_found groups id (Some group.Global) kept = tt
  group_found groups id (Some (group.Custom name)) kept = holds (is_defined groups name) (unknown_group id name) kept

-- ---- what sources come to

module _ {F S : Type 0} (Is : IsFilterBy F) (IsSpec : IsSpecBy S) (features : FeatureSet) (built_in : Members) (sources : List ConfigSource) (it : LoadedConfig F S)
    (loaded : IsLoadedAs Is IsSpec features built_in sources it) where
  names_kept : AllByRecursion (IsKept Is IsSpec) (named_checks (rules_upward sources) (script_rules_upward sources) (merged_of it))
  names_kept =
      kept_before Is IsSpec (named_checks (rules_upward sources) (script_rules_upward sources) (merged_of it)) (inheritance (parents_of (merged_of it).profiles) ∷ default_checks (merged_of it).profiles)
      (subst (λ (given : Reading MergedConfig). AllByRecursion (IsKept Is IsSpec) (merged_checks (rules_upward sources) (script_rules_upward sources) given)) loaded.values
      (kept_merged Is IsSpec features built_in sources loaded.kept))

  abbrev of_groups : List Check
  of_groups = flat_map (group_checks (is_defined it.groups)) (rules_upward sources)

  abbrev of_setup : List Check
  of_setup = flat_map (script_checks script.Setup (has_script it.scripts.setup)) (script_rules_upward sources)

  abbrev of_wrapper : List Check
  of_wrapper = flat_map (script_checks script.Wrapper (has_script it.scripts.wrapper)) (script_rules_upward sources)

  scripts_kept : AllByRecursion (IsKept Is IsSpec) (of_setup ++ of_wrapper)
  scripts_kept = kept_behind Is IsSpec of_groups (of_setup ++ of_wrapper) names_kept

  loaded_scripts : AllByRecursion (λ rule. HasScripts it.scripts rule.placed.config) it.script_rules
  loaded_scripts =
      all_read (λ rule. HasScripts it.scripts rule.config) script_conditions_of Is IsSpec (flat_map (λ source. (rules_of_source source).scripts) (reverse (counting_sources sources))) it.script_rules
      loaded.script_rules
      (all_downward (λ rule. HasScripts it.scripts rule.config) (λ source. (rules_of_source source).scripts) (counting_sources sources)
      (rules_found Is IsSpec it.scripts (script_rules_upward sources) (kept_before Is IsSpec of_setup of_wrapper scripts_kept) (kept_behind Is IsSpec of_setup of_wrapper scripts_kept)))

  loaded_groups : AllByRecursion (λ rule. HasGroup it.groups rule.placed.config.rule.test_group) it.rules
  loaded_groups =
      all_read (λ rule. HasGroup it.groups rule.config.rule.test_group) conditions_of Is IsSpec (flat_map (λ source. (rules_of_source source).overrides) (reverse (counting_sources sources))) it.rules
      loaded.rules
      (all_downward (λ rule. HasGroup it.groups rule.config.rule.test_group) (λ source. (rules_of_source source).overrides) (counting_sources sources)
      (each Is IsSpec (group_checks (is_defined it.groups)) (λ rule. HasGroup it.groups rule.config.rule.test_group)
      (λ rule here. group_found Is IsSpec it.groups rule.id rule.config.rule.test_group here) (rules_upward sources) (kept_before Is IsSpec of_groups (of_setup ++ of_wrapper) names_kept)))

pub scripts_are_defined : {F S : Type 0} (Is : IsFilterBy F) (IsSpec : IsSpecBy S) → ScriptsAreDefined Is IsSpec
scripts_are_defined Is IsSpec features built_in sources it loaded = loaded_scripts Is IsSpec features built_in sources it loaded

pub groups_are_defined : {F S : Type 0} (Is : IsFilterBy F) (IsSpec : IsSpecBy S) → GroupsAreDefined Is IsSpec
groups_are_defined Is IsSpec features built_in sources it loaded = loaded_groups Is IsSpec features built_in sources it loaded
