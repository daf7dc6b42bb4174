-- The rules of a profile on platforms, and its default filter, as inputs have them.
use Rattle.std.proofs.Common.{◌≡◌, inl, inr, ℕ, Bool, true, false, cond, List, [], ◌∷◌, ◌++◌, map, Option, None, Some, refl, sym, ap, ◌∙◌, subst}
use Rattle.std.specs.List.{AllByRecursion, filter}
use Rattle.std.proofs.lemmas.List.{map-append}
use Rattle.std.proofs.lemmas.List.Elements.{recursion_from_All}
use Rattle.std.proofs.lemmas.Option.{none-some, same_Some}
use Rattle.nextest_config_resolution_inheritance.specs.Inheritance.{Name}
use Rattle.nextest_config_resolution_load.specs.Checks.{rules_downward, script_rules_downward}
use Rattle.nextest_config_resolution_load.specs.Load.{AreReadBy, IsReadAs, LoadedOverride, LoadedScriptRule}
use Rattle.nextest_config_resolution_load.specs.Rules.{Conditions, conditions_of, script_conditions_of}
use Rattle.nextest_config_resolution_load.specs.declared.loaded_rule.LoadedRule.{LoadedRule}
use Rattle.nextest_config_resolution_load.specs.declared.languages.FilterPurpose.TheVariants as purpose
use Rattle.nextest_config_resolution_overrides.specs.declared.placed_override.PlacedOverride.{PlacedOverride}
use Rattle.nextest_config_resolution_profiles.specs.Config.{IsEarly}
use Rattle.nextest_config_resolution_profiles.specs.Early.{Early, in_profile}
use Rattle.nextest_config_resolution_profiles.specs.Held.{placed_of}
use Rattle.nextest_config_resolution_profiles.specs.Platforms.{ForTarget, OverrideOn, ScriptRuleOn}
use Rattle.nextest_config_resolution_profiles.specs.Platforms as on_platforms
use Rattle.nextest_config_resolution_profiles.specs.Whole.{Whole}
use Rattle.nextest_config_resolution_profiles.proofs.Filtered.{default_is_read}
use Rattle.nextest_config_resolution_profiles.proofs.PutOn.{division_has, named_have}
use Rattle.nextest_config_resolution_profiles.proofs.RulesRead.{rules_are_read, script_rules_are_read}
use Rattle.nextest_config_resolution_settings.specs.Layers.{in_command}
use Rattle.nextest_config_resolution_settings.specs.Profile.{IsSetTo}
use Rattle.nextest_config_resolution_settings.specs.Rules as chain_rules
use Rattle.nextest_config_resolution_settings.specs.declared.default_filter.CompiledDefaultFilter.{CompiledDefaultFilter}
use Rattle.nextest_filtering_compiling.specs.Context.{Context}
use Rattle.nextest_filtering_compiling.specs.declared.filterset.Filterset.{Filterset}
use Rattle.test_runner_core_inputs.specs.declared.inputs.Inputs.{Inputs}
use Rattle.test_runner_core_platforms.specs.declared.platform_spec.PlatformSpec.{PlatformSpec}
use Rattle.test_runner_core_settings.specs.Holding.{HoldsForTarget, IsDefaultText, default_set}
use Rattle.test_runner_core_settings.specs.Platforms.{Platforms, platforms_of}
use Rattle.test_runner_core_settings.specs.Sets.{IsDefault, IsFilter, IsPlatformSpec, IsTooDeep, Reads, rules_in, script_rules_in}
use Rattle.test_runner_core_settings.proofs.Alike.{IsRead, put, targets_alike}
use Rattle.test_runner_core_settings.proofs.Mapped.{SetsToo, least_mapped, none_mapped}
use Rattle.test_runner_core_settings.specs.Pass.{features_of}
use Rattle.nextest_config_resolution_keys.specs.Command.{default_filter_of}
use Rattle.nextest_config_resolution_keys.specs.Command as command_key

-- ---- the rules of a chain

module _ {P : Type 0} (conditions : P → Conditions) (profile_of : P → Name) where
  abbrev placed_in : LoadedRule P Filterset PlatformSpec → P
  placed_in rule = rule.placed

  -- what is read of rules is of just these
  pub placed_all : (cx : Context) (rules : List P) (loaded : List (LoadedRule P Filterset PlatformSpec)) → AreReadBy conditions (IsFilter cx) IsPlatformSpec rules loaded → map placed_in loaded ≡ rules
  placed_all cx [] [] are = refl
  placed_all cx [] (it ∷ loaded) are = absurd are
  placed_all cx (rule ∷ rules) [] are = absurd are
  placed_all cx (rule ∷ rules) (it ∷ loaded) are = λ i. are.0.same i ∷ placed_all cx rules loaded are.1 i

  placed_filter : (name : Name) (loaded : List (LoadedRule P Filterset PlatformSpec))
      → map placed_in (chain_rules.rules_of_profile (in_profile profile_of) loaded name) ≡ chain_rules.rules_of_profile profile_of (map placed_in loaded) name
  placed_filter name [] = refl
  placed_filter name (rule ∷ loaded) = by_test (chain_rules.is_of_profile (in_profile profile_of) name rule) (placed_filter name loaded)
    where
      by_test : (test : Bool) → map placed_in (chain_rules.rules_of_profile (in_profile profile_of) loaded name) ≡ chain_rules.rules_of_profile profile_of (map placed_in loaded) name
          → map placed_in (cond test (rule ∷ chain_rules.rules_of_profile (in_profile profile_of) loaded name) (chain_rules.rules_of_profile (in_profile profile_of) loaded name))
          ≡ cond test (rule.placed ∷ chain_rules.rules_of_profile profile_of (map placed_in loaded) name) (chain_rules.rules_of_profile profile_of (map placed_in loaded) name)
      by_test true same = ap (λ (more : List P). rule.placed ∷ more) same
      by_test false same = same

  placed_chain : (names : List Name) (loaded : List (LoadedRule P Filterset PlatformSpec))
      → map placed_in (chain_rules.rules_of (in_profile profile_of) loaded names) ≡ chain_rules.rules_of profile_of (map placed_in loaded) names
  placed_chain [] loaded = refl
  placed_chain (name ∷ names) loaded =
      map-append placed_in (chain_rules.rules_of_profile (in_profile profile_of) loaded name) (chain_rules.rules_of (in_profile profile_of) loaded names)
      ∙ ap (λ (front : List P). front ++ map placed_in (chain_rules.rules_of (in_profile profile_of) loaded names)) (placed_filter name loaded)
      ∙ ap (λ (back : List P). chain_rules.rules_of_profile profile_of (map placed_in loaded) name ++ back) (placed_chain names loaded)

  -- rules that are put on platforms say what they said
  placed_put : (cx : Context) (platforms : Platforms) (rules : List (LoadedRule P Filterset PlatformSpec)) → map placed_of (map (put cx platforms) rules) ≡ map placed_in rules
  placed_put cx platforms [] = refl
  placed_put cx platforms (rule ∷ rules) = ap (λ (more : List P). rule.placed ∷ more) (placed_put cx platforms rules)

  -- rules of a chain, on platforms, are those of the chain that were read
  chain_placed : (cx : Context) (platforms : Platforms) (names : List Name) (rules : List P) (loaded : List (LoadedRule P Filterset PlatformSpec)) → AreReadBy conditions (IsFilter cx) IsPlatformSpec rules loaded
      → map placed_of (map (put cx platforms) (chain_rules.rules_of (in_profile profile_of) loaded names)) ≡ chain_rules.rules_of profile_of rules names
  chain_placed cx platforms names rules loaded are =
      placed_put cx platforms (chain_rules.rules_of (in_profile profile_of) loaded names)
      ∙ placed_chain names loaded
      ∙ ap (λ (all : List P). chain_rules.rules_of profile_of all names) (placed_all cx rules loaded are)

module _ (cx : Context) (inputs : Inputs) (config : Whole Filterset PlatformSpec) (reads : Reads cx inputs config) where
  -- the overrides of a chain of these names, as they were read, and on the platforms of the inputs
  abbrev pub own : List Name → List (LoadedOverride Filterset PlatformSpec)
  own names = chain_rules.rules_of (in_profile chain_rules.profile_of) config.loaded.rules names

  abbrev pub put_own : List Name → List (OverrideOn Filterset PlatformSpec)
  put_own names = map (put cx (platforms_of inputs)) (own names)

  -- and the script rules
  abbrev pub own_scripts : List Name → List (LoadedScriptRule Filterset PlatformSpec)
  own_scripts names = chain_rules.rules_of (in_profile chain_rules.script_profile_of) config.loaded.script_rules names

  abbrev pub put_scripts : List Name → List (ScriptRuleOn Filterset PlatformSpec)
  put_scripts names = map (put cx (platforms_of inputs)) (own_scripts names)

  -- each of them is read
  pub each_read : (names : List Name) → AllByRecursion (IsRead conditions_of cx (platforms_of inputs)) (own names)
  each_read names =
      named_have (in_profile chain_rules.profile_of) (IsRead conditions_of cx (platforms_of inputs)) config.loaded.rules names
      (recursion_from_All (IsRead conditions_of cx (platforms_of inputs)) config.loaded.rules
      (rules_are_read (IsFilter cx) IsPlatformSpec IsTooDeep (features_of inputs) inputs.root inputs.sources config reads))

  pub each_script_read : (names : List Name) → AllByRecursion (IsRead script_conditions_of cx (platforms_of inputs)) (own_scripts names)
  each_script_read names =
      named_have (in_profile chain_rules.script_profile_of) (IsRead script_conditions_of cx (platforms_of inputs)) config.loaded.script_rules names
      (recursion_from_All (IsRead script_conditions_of cx (platforms_of inputs)) config.loaded.script_rules
      (script_rules_are_read (IsFilter cx) IsPlatformSpec IsTooDeep (features_of inputs) inputs.root inputs.sources config reads))

  -- and they are the overrides and the script rules of the chain
  pub rules_placed : (names : List Name) → map placed_of (put_own names) ≡ rules_in inputs names
  rules_placed names = chain_placed conditions_of chain_rules.profile_of cx (platforms_of inputs) names (rules_downward inputs.sources) config.loaded.rules reads.1.rules

  pub scripts_placed : (names : List Name) → map placed_of (put_scripts names) ≡ script_rules_in inputs names
  scripts_placed names =
      chain_placed script_conditions_of chain_rules.script_profile_of cx (platforms_of inputs) names (script_rules_downward inputs.sources) config.loaded.script_rules reads.1.script_rules

  -- ---- the default filter

  -- a text that is set is one of a filter, and the other way
  set_read : (text : Option (List ℕ)) (found : Option Filterset) (filter : Filterset) → IsReadAs (IsFilter cx purpose.Default) text found → found ≡ Some filter
      → (set : List ℕ) × (text ≡ Some set) × IsDefault cx set filter
  set_read None None filter are e = absurd (none-some filter e)
  set_read None (Some it) filter are e = absurd are
  set_read (Some text) None filter are e = absurd are
  set_read (Some text) (Some it) filter are e = (text, refl, subst (IsDefault cx text) (same_Some it filter e) are)

  sets_too : (text : Option (List ℕ)) (found : Option Filterset) → IsReadAs (IsFilter cx purpose.Default) text found → (value : List ℕ) → text ≡ Some value
      → (set : Filterset) × (found ≡ Some set)
  sets_too None found are value e = absurd (none-some value e)
  sets_too (Some text) None are value e = absurd are
  sets_too (Some text) (Some it) are value e = (it, refl)

  each_sets : (rules : List (LoadedOverride Filterset PlatformSpec)) → AllByRecursion (IsRead conditions_of cx (platforms_of inputs)) rules
      → AllByRecursion (SetsToo placed_of ForTarget (HoldsForTarget (platforms_of inputs)) on_platforms.default_set default_set) (map (put cx (platforms_of inputs)) rules)
  each_sets [] each = tt
  each_sets (rule ∷ rules) each = (sets_too rule.placed.config.command.default_filter rule.compiled.default_filter each.0.compiled.default_filter, each_sets rules each.1)

  put_each : (rules : List (LoadedOverride Filterset PlatformSpec)) → AllByRecursion (IsRead conditions_of cx (platforms_of inputs)) rules
      → AllByRecursion (λ (it : OverrideOn Filterset PlatformSpec). IsRead conditions_of cx (platforms_of inputs) it.rule) (map (put cx (platforms_of inputs)) rules)
  put_each [] each = tt
  put_each (rule ∷ rules) each = (each.0, put_each rules each.1)

  -- where a rule is the first that holds for the target and sets one, so is its override, with the
  -- text of that filter
  pub least_placed : (names : List Name) (rule : OverrideOn Filterset PlatformSpec) (filter : Filterset) → chain_rules.IsLeast ForTarget on_platforms.default_set (put_own names) rule filter
      → chain_rules.IsLeast (HoldsForTarget (platforms_of inputs)) default_set (rules_in inputs names) (placed_of rule) filter.input × IsDefault cx filter.input filter
  least_placed names rule filter least =
      let platforms = platforms_of inputs in
      let read = division_has (λ (it : OverrideOn Filterset PlatformSpec). IsRead conditions_of cx platforms it.rule) least.front rule least.back
      (subst (AllByRecursion (λ (it : OverrideOn Filterset PlatformSpec). IsRead conditions_of cx platforms it.rule)) least.divided (put_each (own names) (each_read names))) in
      let set = set_read rule.rule.placed.config.command.default_filter rule.rule.compiled.default_filter filter read.compiled.default_filter least.sets in
      let same : set.0 ≡ filter.input = sym set.2.0 in
      let placed = least_mapped placed_of ForTarget (HoldsForTarget platforms) on_platforms.default_set default_set (put_own names) rule filter set.0 (targets_alike conditions_of cx platforms (own names) (each_read names))
      (each_sets (own names) (each_read names)) least set.1 in (
        subst (λ (text : List ℕ). chain_rules.IsLeast (HoldsForTarget platforms) default_set (rules_in inputs names) (placed_of rule) text) same
            (subst (λ (all : List PlacedOverride). chain_rules.IsLeast (HoldsForTarget platforms) default_set all (placed_of rule) set.0) (rules_placed names) placed),
        subst (λ (text : List ℕ). IsDefault cx text filter) same set.2,
      )

  -- where none does, no override does
  pub none_placed : (names : List Name) → chain_rules.NoneHoldsAndSets ForTarget on_platforms.default_set (put_own names)
      → chain_rules.NoneHoldsAndSets (HoldsForTarget (platforms_of inputs)) default_set (rules_in inputs names)
  none_placed names none =
      subst (chain_rules.NoneHoldsAndSets (HoldsForTarget (platforms_of inputs)) default_set) (rules_placed names)
      (none_mapped placed_of ForTarget (HoldsForTarget (platforms_of inputs)) on_platforms.default_set default_set (put_own names) (targets_alike conditions_of cx (platforms_of inputs) (own names) (each_read names))
      (each_sets (own names) (each_read names)) none)

  -- the default filter of a profile on platforms is the one of the text that is set as that
  pub default_text : (name : Name) (early : Early Filterset PlatformSpec) (is : IsEarly config name early) (it : CompiledDefaultFilter Filterset)
      → on_platforms.IsChosenDefault early.default_filter (put_own is.chained.names) it
      → IsDefaultText (platforms_of inputs) (rules_in inputs is.chained.names) early.chain it.filter.now.input × IsDefault cx it.filter.now.input it.filter.now
  default_text name early is it (inl found) =
      let least = least_placed is.chained.names found.rule it.filter.now found.least in
      (inl (placed_of found.rule, least.0), least.1)
  default_text name early is it (inr (none, same)) =
      let read = default_is_read (IsFilter cx) IsPlatformSpec IsTooDeep (features_of inputs) inputs.root inputs.sources config is.chained.names early.chain early.default_filter reads is.filtered in
      let filter : early.default_filter.filter.now ≡ it.filter.now = ap (λ (d : CompiledDefaultFilter Filterset). d.filter.now) (sym same) in
      let text : is.filtered.text ≡ it.filter.now.input = sym read.0 ∙ ap (λ (f : Filterset). f.input) filter in (
        inr (none_placed is.chained.names none, subst (IsSetTo (in_command command_key.default_filter_of) early.chain) text (is.filtered.place, is.filtered.nearest)),
        subst (λ (t : List ℕ). IsDefault cx t it.filter.now) text (subst (IsDefault cx is.filtered.text) filter read),
      )
