-- Each test has settings, since each filter that is read holds on it or doesn't.
use Rattle.std.proofs.Common.{◌≡◌, ℕ, Bool, true, false, List, [], ◌∷◌, Option, None, Some, Ok, map, refl, sym, ap, ◌∙◌, subst, ◌⊎◌, inl, inr}
use Rattle.std.specs.List.{AllByRecursion}
use Rattle.std.specs.Option.{IfSome}
use Rattle.std.proofs.lemmas.Bool.{false≢true}
use Rattle.std.proofs.lemmas.List.Elements.{All-cons, All-nil, recursion_from_All}
use Rattle.std.proofs.lemmas.Option.{none-some}
use Rattle.nextest_filtering_arguments.specs.declared.ban.FiltersetKind.{FiltersetKind}
use Rattle.nextest_filtering_filters.specs.Query.{Binary, Test}
use Rattle.nextest_filtering_filters.specs.declared.known_groups.KnownGroups.{KnownGroups}
use Rattle.nextest_filtering_filters.specs.declared.known_groups.KnownGroups.TheVariants as groups
use Rattle.nextest_config_elements_identifiers.specs.declared.test_group.TestGroup.{TestGroup}
use Rattle.nextest_config_elements_identifiers.specs.declared.test_group.TestGroup.TheVariants as group
use Rattle.nextest_config_resolution_filters.specs.Filters.{FiltersLaws, IsRead}
use Rattle.nextest_config_resolution_load.specs.Load.{IsReadAs, IsReadBy, IsReadRule, IsSpecBy, LoadedOverride, LoadedScriptRule}
use Rattle.nextest_config_resolution_load.specs.Rules.{Conditions, conditions_of, script_conditions_of}
use Rattle.nextest_config_resolution_load.specs.declared.loaded_rule.LoadedRule.{LoadedRule}
use Rattle.nextest_config_resolution_load.specs.declared.languages.FilterPurpose.TheVariants as purpose
use Rattle.nextest_config_resolution_profiles.specs.Config.{IsConfig, IsEarly}
use Rattle.nextest_config_resolution_profiles.specs.Early.{Early, in_profile}
use Rattle.nextest_config_resolution_profiles.specs.Evaluatable.{Evaluatable, IsPutOn}
use Rattle.nextest_config_resolution_profiles.specs.Held.{Holds, IsGroupBy, group_set, holds_for, layers_of, placed_of}
use Rattle.nextest_config_resolution_profiles.specs.Languages.{IsFilterIn, kind_of}
use Rattle.nextest_config_resolution_profiles.specs.Platforms.{IsChosenDefault, OverrideOn, RuleOn, ScriptRuleOn, on_platforms}
use Rattle.nextest_config_resolution_profiles.specs.RuleLaws.{SomeGroupFor, SomeSettingsFor}
use Rattle.nextest_config_resolution_profiles.specs.Whole.{Whole}
use Rattle.nextest_config_resolution_profiles.proofs.Filtered.{default_is_read}
use Rattle.nextest_config_resolution_profiles.proofs.PutOn.{division_has, named_have}
use Rattle.nextest_config_resolution_profiles.proofs.RulesRead.{rules_are_read, script_rules_are_read}
use Rattle.nextest_config_resolution_settings.specs.Nearest.{Source}
use Rattle.nextest_config_resolution_settings.specs.Rules.{AreHeld, HoldsAndSets, holds_too, left_out, none_left, profile_of, script_profile_of}
use Rattle.nextest_config_resolution_settings.specs.Tracking.{KeepsSome}
use Rattle.nextest_config_resolution_settings.specs.declared.default_filter.CompiledDefaultFilter.{CompiledDefaultFilter}
use Rattle.nextest_config_resolution_settings.proofs.EachSetting.{some_settings}
use Rattle.nextest_config_resolution_sources.specs.declared.source.ConfigSource.{ConfigSource}
use Rattle.nextest_config_elements_versions.specs.declared.feature.FeatureSet.{FeatureSet}

-- ---- rules of which each holds or doesn't

module _ {R : Type 0} (Holding : R → Type 0) where
  abbrev pub Decided : R → Type 0
  Decided rule = Holding rule ⊎ ¬ Holding rule

  pub some_held : (rules : List R) → AllByRecursion Decided rules → (held : List R) × AreHeld Holding rules held
  some_held [] each = ([], none_left)
  some_held (rule ∷ rules) each = by_rule each.0 (some_held rules each.1)
    where
      by_rule : Decided rule → (held : List R) × AreHeld Holding rules held → (held : List R) × AreHeld Holding (rule ∷ rules) held
      by_rule (inl holds) more = (rule ∷ more.0, holds_too rule rules more.0 holds more.1)
      by_rule (inr fails) more = (more.0, left_out rule rules more.0 fails more.1)

-- ---- the group that they set

module _ {F S : Type 0} (Holding : OverrideOn F S → Type 0) where
  -- behind a rule that doesn't both hold and set one
  group_behind : (first : OverrideOn F S) (rules : List (OverrideOn F S)) → ¬ HoldsAndSets Holding group_set first → (it : TestGroup) × IsGroupBy Holding rules it
      → (it : TestGroup) × IsGroupBy Holding (first ∷ rules) it
  group_behind first rules none (it, inl (rule, least)) = (
    it,
    inl (
      rule,
      record {
        front = first ∷ least.front;
        back = least.back;
        divided = ap (λ (more : List (OverrideOn F S)). first ∷ more) least.divided;
        before = All-cons (λ (other : OverrideOn F S). ¬ HoldsAndSets Holding group_set other) first least.front none least.before;
        holds = least.holds;
        sets = least.sets;
      },
    ),
  )
  group_behind first rules none (it, inr (unset, is)) = (it, inr (All-cons (λ (other : OverrideOn F S). ¬ HoldsAndSets Holding group_set other) first rules none unset, is))

  group_from : {rules held : List (OverrideOn F S)} → AreHeld Holding rules held → (it : TestGroup) × IsGroupBy Holding rules it
  group_from none_left = (group.Global, inr (All-nil (λ (other : OverrideOn F S). ¬ HoldsAndSets Holding group_set other), refl))
  group_from (left_out rule rules held fails before) = group_behind rule rules (λ both. fails both.0) (group_from before)
  group_from (holds_too rule rules held holds before) = by_set (group_set rule) refl (group_from before)
    where
      by_set : (set : Option TestGroup) → group_set rule ≡ set → (it : TestGroup) × IsGroupBy Holding rules it → (it : TestGroup) × IsGroupBy Holding (rule ∷ rules) it
      by_set None e more = group_behind rule rules (λ both. none-some both.1.0 (sym e ∙ both.1.1)) more
      by_set (Some it) e more = (
        it,
        inl (
          rule,
          record {
            front = [];
            back = rules;
            divided = refl;
            before = All-nil (λ (other : OverrideOn F S). ¬ HoldsAndSets Holding group_set other);
            holds = holds;
            sets = e;
          },
        ),
      )

-- ---- filters that are read

module _ {F Cx : Type 0} {IsParsed : Cx → FiltersetKind → KnownGroups → List ℕ → F → Type 0}
    {OnBinary : F → F → Binary → Option Bool → Type 0} {OnTest : F → F → Test → Bool → Type 0}
    {asks_groups has_runtime_leaves serves_as_default : F → Bool} (laws : FiltersLaws IsParsed OnBinary OnTest asks_groups has_runtime_leaves serves_as_default)
    (cx : Cx) where
  -- a default filter, as the text that it is
  pub record IsDefaultRead (default : F) : Type 0 where
    pub read : IsRead IsParsed default
    pub serves : serves_as_default default ≡ true

  pub as_default : (text : List ℕ) (default : F) → IsFilterIn IsParsed has_runtime_leaves cx purpose.Default text default → IsDefaultRead default
  as_default text default is = record { read = (cx, kind_of purpose.Default, groups.Unavailable, text, is); serves = laws.default_serves cx groups.Unavailable text default is }

  pub set_default : (text : Option (List ℕ)) (set : Option F) (default : F) → set ≡ Some default → IsReadAs (IsFilterIn IsParsed has_runtime_leaves cx purpose.Default) text set → IsDefaultRead default
  set_default text set default e is = by_text text (subst (IsReadAs (IsFilterIn IsParsed has_runtime_leaves cx purpose.Default) text) e is)
    where
      by_text : (text : Option (List ℕ)) → IsReadAs (IsFilterIn IsParsed has_runtime_leaves cx purpose.Default) text (Some default) → IsDefaultRead default
      by_text None read = absurd read
      by_text (Some text) read = as_default text default read

  module _ (default : F) (default_read : IsDefaultRead default) (test : Test) where
    -- the filter of a rule holds on a test or doesn't
    pub filter_decided : (text : Option (List ℕ)) (found : Option F) → IsReadAs (IsFilterIn IsParsed has_runtime_leaves cx purpose.Override) text found
        → IfSome found (λ filter. OnTest filter default test true) ⊎ ¬ IfSome found (λ filter. OnTest filter default test true)
    filter_decided text None is = inl tt
    filter_decided None (Some filter) is = absurd is
    filter_decided (Some text) (Some filter) is =
        let none = laws.override_has_no_groups cx groups.Unavailable text filter is in
        let read = laws.some_on_test filter default test (cx, kind_of purpose.Override, groups.Unavailable, text, is) default_read.read default_read.serves none in
        by_value none read.0 read.1
      where
        by_value : asks_groups filter ≡ false → (value : Bool) → OnTest filter default test value → OnTest filter default test true ⊎ ¬ OnTest filter default test true
        by_value none true on = inl on
        by_value none false on = inr (λ other. false≢true (laws.one_on_test filter default test false true default_read.serves none on other))

    -- and so does the rule
    pub rule_decided : {P S : Type 0} (conditions : P → Conditions) (IsSpec : IsSpecBy S) (it : RuleOn P F S) → IsReadBy conditions (IsFilterIn IsParsed has_runtime_leaves cx) IsSpec it.rule.placed it.rule
        → Decided (Holds OnTest default test) it
    rule_decided conditions IsSpec it read = by_platform (holds_for test.binary.platform it) refl (filter_decided (conditions it.rule.placed).filter it.rule.compiled.filter read.compiled.filter)
      where
        by_platform : (holds : Bool) → holds_for test.binary.platform it ≡ holds
            → IfSome it.rule.compiled.filter (λ filter. OnTest filter default test true) ⊎ ¬ IfSome it.rule.compiled.filter (λ filter. OnTest filter default test true)
            → Decided (Holds OnTest default test) it
        by_platform true e (inl on) = inl (record { platform = e; filter = on })
        by_platform true e (inr off) = inr (λ holds. off holds.filter)
        by_platform false e decided = inr (λ holds. false≢true (sym e ∙ holds.platform))

    pub rules_decided : {P S Facts : Type 0} (conditions : P → Conditions) (IsSpec : IsSpecBy S) (value_on : S → Facts → Option Bool) (host target : Facts) (rules : List (LoadedRule P F S))
        → AllByRecursion (λ rule. IsReadBy conditions (IsFilterIn IsParsed has_runtime_leaves cx) IsSpec rule.placed rule) rules
        → AllByRecursion (Decided (Holds OnTest default test)) (map (on_platforms value_on host target) rules)
    rules_decided conditions IsSpec value_on host target [] each = tt
    rules_decided conditions IsSpec value_on host target (rule ∷ rules) each =
        (rule_decided conditions IsSpec (on_platforms value_on host target rule) each.0, rules_decided conditions IsSpec value_on host target rules each.1)

  -- ---- profiles of a configuration

  module _ {S Facts : Type 0} (IsSpec : IsSpecBy S) (IsTooDeep : List ℕ → Type 0) (value_on : S → Facts → Option Bool) where
    abbrev AreRead : List (LoadedOverride F S) → Type 0
    AreRead rules = AllByRecursion (λ rule. IsReadRule (IsFilterIn IsParsed has_runtime_leaves cx) IsSpec rule.placed rule) rules

    put_have : (host target : Facts) (rules : List (LoadedOverride F S)) → AreRead rules
        → AllByRecursion (λ it. IsReadRule (IsFilterIn IsParsed has_runtime_leaves cx) IsSpec it.rule.placed it.rule) (map (on_platforms value_on host target) rules)
    put_have host target [] each = tt
    put_have host target (rule ∷ rules) each = (each.0, put_have host target rules each.1)

    -- the default filter that is chosen
    chosen_read : (early it : CompiledDefaultFilter F) (host target : Facts) (rules : List (LoadedOverride F S)) → AreRead rules → IsDefaultRead early.filter.now
        → IsChosenDefault early (map (on_platforms value_on host target) rules) it → IsDefaultRead it.filter.now
    chosen_read early it host target rules each read (inr same) = subst (λ (default : CompiledDefaultFilter F). IsDefaultRead default.filter.now) (sym same.1) read
    chosen_read early it host target rules each read (inl found) =
        let at = division_has (λ (rule : OverrideOn F S). IsReadRule (IsFilterIn IsParsed has_runtime_leaves cx) IsSpec rule.rule.placed rule.rule) found.least.front found.rule found.least.back
        (subst (AllByRecursion (λ (rule : OverrideOn F S). IsReadRule (IsFilterIn IsParsed has_runtime_leaves cx) IsSpec rule.rule.placed rule.rule)) found.least.divided (put_have host target rules each)) in
        set_default found.rule.rule.placed.config.command.default_filter found.rule.rule.compiled.default_filter it.filter.now found.set.filter at.compiled.default_filter

    -- a profile of a configuration on platforms
    record IsProfile (features : FeatureSet) (root : List ℕ) (sources : List ConfigSource) (config : Whole F S) (name : List ℕ) (early : Early F S) (host target : Facts) (profile : Evaluatable F S) : Type 0 where
      loaded : IsConfig (IsFilterIn IsParsed has_runtime_leaves cx) IsSpec IsTooDeep features root sources (Ok config)
      is : IsEarly config name early
      put : IsPutOn value_on host target early profile

    module _ {features : FeatureSet} {root : List ℕ} {sources : List ConfigSource} {config : Whole F S} {name : List ℕ} {early : Early F S} {host target : Facts} {profile : Evaluatable F S}
        (it : IsProfile features root sources config name early host target profile) where
      -- its overrides, as they are read
      overrides_read : AreRead early.rules
      overrides_read =
          let IsThis = λ (rule : LoadedOverride F S). IsReadRule (IsFilterIn IsParsed has_runtime_leaves cx) IsSpec rule.placed rule in
          subst AreRead (sym it.is.ruled) (named_have (in_profile profile_of) IsThis config.loaded.rules it.is.chained.names
          (recursion_from_All IsThis config.loaded.rules (rules_are_read (IsFilterIn IsParsed has_runtime_leaves cx) IsSpec IsTooDeep features root sources config it.loaded)))

      -- and its script rules
      scripts_read : AllByRecursion (λ (rule : LoadedScriptRule F S). IsReadBy script_conditions_of (IsFilterIn IsParsed has_runtime_leaves cx) IsSpec rule.placed rule) early.script_rules
      scripts_read =
          let IsThis = λ (rule : LoadedScriptRule F S). IsReadBy script_conditions_of (IsFilterIn IsParsed has_runtime_leaves cx) IsSpec rule.placed rule in
          subst (AllByRecursion IsThis) (sym it.is.scripted) (named_have (in_profile script_profile_of) IsThis config.loaded.script_rules it.is.chained.names
          (recursion_from_All IsThis config.loaded.script_rules (script_rules_are_read (IsFilterIn IsParsed has_runtime_leaves cx) IsSpec IsTooDeep features root sources config it.loaded)))

      -- its default filter
      default_read : IsDefaultRead profile.default_filter.filter.now
      default_read =
          chosen_read early.default_filter profile.default_filter host target early.rules overrides_read
          (as_default it.is.filtered.text early.default_filter.filter.now
          (default_is_read (IsFilterIn IsParsed has_runtime_leaves cx) IsSpec IsTooDeep features root sources config it.is.chained.names early.chain early.default_filter it.loaded it.is.filtered))
          (subst (λ (rules : List (OverrideOn F S)). IsChosenDefault early.default_filter rules profile.default_filter) it.put.rules it.put.default_filter)

      -- the overrides that hold on a test, and the script rules that do
      held_by : (test : Test) → (held : List (OverrideOn F S)) × AreHeld (Holds OnTest profile.default_filter.filter.now test) profile.rules held
      held_by test =
          some_held (Holds OnTest profile.default_filter.filter.now test) profile.rules
          (subst (AllByRecursion (Decided (Holds OnTest profile.default_filter.filter.now test))) (sym it.put.rules)
          (rules_decided profile.default_filter.filter.now default_read test conditions_of IsSpec value_on host target early.rules overrides_read))

      scripts_held_by : (test : Test) → (held : List (ScriptRuleOn F S)) × AreHeld (Holds OnTest profile.default_filter.filter.now test) profile.script_rules held
      scripts_held_by test =
          some_held (Holds OnTest profile.default_filter.filter.now test) profile.script_rules
          (subst (AllByRecursion (Decided (Holds OnTest profile.default_filter.filter.now test))) (sym it.put.script_rules)
          (rules_decided profile.default_filter.filter.now default_read test script_conditions_of IsSpec value_on host target early.script_rules scripts_read))

    pub some_settings_for : {T : Type 0} (Tells : T → Source → Type 0) → KeepsSome Tells → SomeSettingsFor (IsFilterIn IsParsed has_runtime_leaves cx) IsSpec IsTooDeep value_on OnTest Tells
    some_settings_for Tells keeps features root sources config name early host target profile mode test loaded is put =
        let of : IsProfile features root sources config name early host target profile = record { loaded = loaded; is = is; put = put } in
        let (held, are) = held_by of test in
        let (scripts, scripts_are) = scripts_held_by of test in
        let it = some_settings Tells keeps mode (layers_of profile (map placed_of held) (map placed_of scripts)) in
        (it.0, record { held = held; are = are; scripts = scripts; scripts_are = scripts_are; settings = it.1 })

    pub some_group_for : SomeGroupFor (IsFilterIn IsParsed has_runtime_leaves cx) IsSpec IsTooDeep value_on OnTest
    some_group_for features root sources config name early host target profile test loaded is put =
        let of : IsProfile features root sources config name early host target profile = record { loaded = loaded; is = is; put = put } in
        let (held, are) = held_by of test in
        group_from (Holds OnTest profile.default_filter.filter.now test) are
