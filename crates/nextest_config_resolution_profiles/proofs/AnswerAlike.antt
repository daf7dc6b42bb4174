-- Profiles that are read of the same texts answer alike.
use Rattle.std.proofs.Common.{◌≡◌, ◌↔◌, ◌⊎◌, ℕ, Bool, true, false, ◌&&◌, List, [], ◌∷◌, codes, map, Option, None, Some, refl, sym, ap, ◌∙◌, subst, inl, inr}
use Rattle.std.specs.Prelude.{⊤}
use Rattle.std.specs.List.{All, AllZip, Contains, filter_map, slice_get}
use Rattle.std.specs.Option.{IfSome, unwrap_or}
use Rattle.std.proofs.lemmas.Option.{none-some, same_Some}
use Rattle.nextest_config_elements_identifiers.specs.declared.test_group.TestGroup.{TestGroup}
use Rattle.nextest_config_elements_choices.specs.declared.run_mode.NextestRunMode.{NextestRunMode}
use Rattle.nextest_config_resolution_filters.specs.Filters.{AreAlike, FiltersLaws}
use Rattle.nextest_config_resolution_filters.specs.Specs.{SpecsLaws}
use Rattle.nextest_config_resolution_inheritance.specs.Inheritance.{Name}
use Rattle.nextest_config_resolution_load.specs.Checks.{parents_of, rules_downward, script_rules_downward}
use Rattle.nextest_config_resolution_load.specs.Load.{AreReadBy, IsReadAs, IsReadBy, IsSpecBy}
use Rattle.nextest_config_resolution_load.specs.Rules.{Conditions, conditions_of, script_conditions_of}
use Rattle.nextest_config_resolution_load.specs.declared.languages.FilterPurpose.{FilterPurpose}
use Rattle.nextest_config_resolution_load.specs.declared.languages.FilterPurpose.TheVariants as purpose
use Rattle.nextest_config_resolution_load.specs.declared.loaded_config.NamedProfile.{NamedProfile}
use Rattle.nextest_config_resolution_load.specs.declared.loaded_rule.LoadedRule.{LoadedRule}
use Rattle.nextest_config_resolution_overrides.specs.declared.placed_override.PlacedOverride.{PlacedOverride}
use Rattle.nextest_config_resolution_profiles.specs.AnswerAlike.{AreDefaultsAlike, IsolatesProfiles}
use Rattle.nextest_config_resolution_profiles.specs.Config.{IsDefaultFilterOf, dir_in_store, profiles_of}
use Rattle.nextest_config_resolution_profiles.specs.Early.{in_profile}
use Rattle.nextest_config_resolution_profiles.specs.Enabled.{AreEnabled, HoldsOnBinary, IsEnabled, IsListWrapper, defined_as}
use Rattle.nextest_config_resolution_profiles.specs.Evaluatable.{Evaluatable}
use Rattle.nextest_config_resolution_profiles.specs.Held.{AreSettingsFor, Holds, IsGroupFor, group_set, holds_for, layers_of, placed_of}
use Rattle.nextest_config_resolution_profiles.specs.Languages.{IsFilterIn}
use Rattle.nextest_config_resolution_profiles.specs.Memberships.{ArePrecomputed, IsOfHanded, group_name, have_one_name}
use Rattle.nextest_config_resolution_profiles.specs.Platforms.{ForTarget, IsChosenDefault, OverrideOn, RuleOn, default_set, on_platforms, spec_holds}
use Rattle.nextest_config_resolution_profiles.specs.declared.memberships.PrecomputedGroupMembership.{PrecomputedGroupMembership}
use Rattle.nextest_config_resolution_profiles.proofs.Beside.{held_beside, least_beside, none_beside, zip_contains, zip_images, zip_rules, zip_swapped}
use Rattle.nextest_config_resolution_profiles.proofs.Filtered.{default_is_read}
use Rattle.nextest_config_resolution_profiles.proofs.Holding.{no_least}
use Rattle.nextest_config_resolution_profiles.proofs.OneProfile.{one_chain_of, one_order}
use Rattle.nextest_config_resolution_profiles.proofs.ProfileIsolation.{profile_isolation}
use Rattle.nextest_config_resolution_profiles.proofs.SameChain.{same_chain, same_order}
use Rattle.nextest_config_resolution_scripts.specs.declared.script_config.ScriptConfig.{ScriptConfig}
use Rattle.nextest_config_resolution_scripts.specs.declared.setup_script.SetupScriptConfig.{SetupScriptConfig}
use Rattle.nextest_config_resolution_scripts.specs.declared.wrapper_script.WrapperScriptConfig.{WrapperScriptConfig}
use Rattle.nextest_config_resolution_settings.specs.Layers.{in_command}
use Rattle.nextest_config_resolution_settings.specs.Layers.{Layers}
use Rattle.nextest_config_resolution_settings.specs.Nearest.{IsNearest, Source}
use Rattle.nextest_config_resolution_settings.specs.Rules.{IsLeast, NoneHoldsAndSets, profile_of, rules_of, script_profile_of}
use Rattle.nextest_config_resolution_settings.specs.TestSettings.{AreSettings}
use Rattle.nextest_config_resolution_settings.specs.Wrappers.{SetsWrapper, list_wrapper}
use Rattle.nextest_config_resolution_settings.specs.declared.default_filter.CompiledDefaultFilter.{CompiledDefaultFilter}
use Rattle.nextest_config_resolution_settings.specs.declared.test_settings.TestSettings.{TestSettings}
use Rattle.nextest_config_resolution_settings.proofs.Least.{one_least}
use Rattle.nextest_config_resolution_settings.proofs.Unique.{one_nearest}
use Rattle.nextest_config_resolution_keys.specs.declared.profile_config.ProfileConfig.{ProfileConfig}
use Rattle.nextest_config_resolution_keys.specs.Command as command_key
use Rattle.nextest_filtering_arguments.specs.declared.ban.FiltersetKind.{FiltersetKind}
use Rattle.nextest_filtering_arguments.specs.declared.ban.FiltersetKind.TheVariants as kind
use Rattle.nextest_filtering_filters.specs.Query.{Binary, Test}
use Rattle.nextest_filtering_filters.specs.declared.known_groups.KnownGroups.{KnownGroups}
use Rattle.nextest_filtering_filters.specs.declared.known_groups.KnownGroups.TheVariants as groups
use Rattle.nextest_filtering_ast.specs.declared.leaf.BuildPlatform.{BuildPlatform}
use Rattle.nextest_filtering_ast.specs.declared.leaf.BuildPlatform.TheVariants as built

module _ {F Cx : Type 0} {IsParsed : Cx → FiltersetKind → KnownGroups → List ℕ → F → Type 0} {OnBinary : F → F → Binary → Option Bool → Type 0} {OnTest : F → F → Test → Bool → Type 0}
    {asks_groups has_runtime_leaves serves_as_default : F → Bool} (laws : FiltersLaws IsParsed OnBinary OnTest asks_groups has_runtime_leaves serves_as_default) (cx : Cx) where
  -- ---- filters

  -- no question tells either from the other
  abbrev Alike : F → F → Type 0
  Alike one other =
      AreAlike OnBinary OnTest asks_groups has_runtime_leaves serves_as_default one other × AreAlike OnBinary OnTest asks_groups has_runtime_leaves serves_as_default other one

  alike_back : (one other : F) → Alike one other → Alike other one
  alike_back one other both = (both.1, both.0)

  abbrev BothAlike : Option F → Option F → Type 0
  BothAlike None None = ⊤
  BothAlike None (Some other) = ⊥
  BothAlike (Some one) None = ⊥
  BothAlike (Some one) (Some other) = Alike one other

  both_back : (one other : Option F) → BothAlike one other → BothAlike other one
  both_back None None both = tt
  both_back None (Some other) both = absurd both
  both_back (Some one) None both = absurd both
  both_back (Some one) (Some other) both = alike_back one other both

  -- filters of one text are alike
  abbrev Is : FilterPurpose → List ℕ → F → Type 0
  Is = IsFilterIn IsParsed has_runtime_leaves cx

  read_alike : (of_purpose : FilterPurpose) (text : List ℕ) (one other : F) → Is of_purpose text one → Is of_purpose text other → Alike one other
  read_alike purpose.Default text one other is also =
      (laws.one_meaning cx kind.DefaultFilter groups.Unavailable text one other is also, laws.one_meaning cx kind.DefaultFilter groups.Unavailable text other one also is)
  read_alike purpose.Override text one other is also =
      (laws.one_meaning cx kind.OverrideFilter groups.Unavailable text one other is also, laws.one_meaning cx kind.OverrideFilter groups.Unavailable text other one also is)
  read_alike purpose.ListWrapper text one other is also =
      (laws.one_meaning cx kind.OverrideFilter groups.Unavailable text one other is.0 also.0, laws.one_meaning cx kind.OverrideFilter groups.Unavailable text other one also.0 is.0)

  both_read : (of_purpose : FilterPurpose) (text : Option (List ℕ)) (one other : Option F) → IsReadAs (Is of_purpose) text one → IsReadAs (Is of_purpose) text other → BothAlike one other
  both_read of_purpose None None None is also = tt
  both_read of_purpose None None (Some other) is also = absurd also
  both_read of_purpose None (Some one) other is also = absurd is
  both_read of_purpose (Some text) None other is also = absurd is
  both_read of_purpose (Some text) (Some one) None is also = absurd also
  both_read of_purpose (Some text) (Some one) (Some other) is also = read_alike of_purpose text one other is also

  -- ---- rules

  -- two rules say the same, on the same platforms, and their filters are alike
  record RulesAlike {P S : Type 0} (one other : RuleOn P F S) : Type 0 where
    placed : other.rule.placed ≡ one.rule.placed
    for_host : other.for_host ≡ one.for_host
    for_target : other.for_target ≡ one.for_target
    filter : BothAlike one.rule.compiled.filter other.rule.compiled.filter
    default_filter : BothAlike one.rule.compiled.default_filter other.rule.compiled.default_filter

  rule_back : {P S : Type 0} (one other : RuleOn P F S) → RulesAlike one other → RulesAlike other one
  rule_back one other alike = record {
    placed = sym alike.placed;
    for_host = sym alike.for_host;
    for_target = sym alike.for_target;
    filter = both_back one.rule.compiled.filter other.rule.compiled.filter alike.filter;
    default_filter = both_back one.rule.compiled.default_filter other.rule.compiled.default_filter alike.default_filter;
  }

  holds_alike : {P S : Type 0} (platform : BuildPlatform) (one other : RuleOn P F S) → RulesAlike one other → holds_for platform other ≡ holds_for platform one
  holds_alike built.Host one other alike = alike.for_host
  holds_alike built.Target one other alike = alike.for_target

  module _ (default second : F) (defaults : Alike default second) where
    on_test : (test : Test) (one other : Option F) → BothAlike one other → IfSome one (λ it. OnTest it default test true) → IfSome other (λ it. OnTest it second test true)
    on_test test None None both on = tt
    on_test test None (Some other) both on = absurd both
    on_test test (Some one) None both on = absurd both
    on_test test (Some one) (Some other) both on = both.0.on_test second test true (defaults.0.default_on_test one test true on)

    on_binary : (binary : Binary) (one other : Option F) → BothAlike one other → IfSome one (λ it. OnBinary it default binary (Some true)) → IfSome other (λ it. OnBinary it second binary (Some true))
    on_binary binary None None both on = tt
    on_binary binary None (Some other) both on = absurd both
    on_binary binary (Some one) None both on = absurd both
    on_binary binary (Some one) (Some other) both on = both.0.on_binary second binary (Some true) (defaults.0.default_on_binary one binary (Some true) on)

    holds_too : {P S : Type 0} (test : Test) (one other : RuleOn P F S) → RulesAlike one other → Holds OnTest default test one → Holds OnTest second test other
    holds_too test one other alike holds = record {
      platform = holds_alike test.binary.platform one other alike ∙ holds.platform;
      filter = on_test test one.rule.compiled.filter other.rule.compiled.filter alike.filter holds.filter;
    }

    holds_on_binary : {P S : Type 0} (binary : Binary) (one other : RuleOn P F S) → RulesAlike one other → HoldsOnBinary OnBinary default binary one → HoldsOnBinary OnBinary second binary other
    holds_on_binary binary one other alike holds = record {
      platform = holds_alike binary.platform one other alike ∙ holds.platform;
      filter = on_binary binary one.rule.compiled.filter other.rule.compiled.filter alike.filter holds.filter;
    }

  -- ---- profiles

  -- what their answers depend on
  record Alikes {S : Type 0} (one other : Evaluatable F S) : Type 0 where
    chain : other.chain ≡ one.chain
    scripts : other.scripts ≡ one.scripts
    default : Alike one.default_filter.filter.now other.default_filter.filter.now
    rules : AllZip RulesAlike one.rules other.rules
    script_rules : AllZip RulesAlike one.script_rules other.script_rules

  alikes_back : {S : Type 0} (one other : Evaluatable F S) → Alikes one other → Alikes other one
  alikes_back one other alike = record {
    chain = sym alike.chain;
    scripts = sym alike.scripts;
    default = alike_back one.default_filter.filter.now other.default_filter.filter.now alike.default;
    rules = zip_swapped RulesAlike RulesAlike rule_back one.rules other.rules alike.rules;
    script_rules = zip_swapped RulesAlike RulesAlike rule_back one.script_rules other.script_rules alike.script_rules;
  }

  module _ {S : Type 0} (one other : Evaluatable F S) (alike : Alikes one other) where
    abbrev d : F
    d = one.default_filter.filter.now

    abbrev e : F
    e = other.default_filter.filter.now

    both_hold : {P : Type 0} (test : Test) (x y : RuleOn P F S) → RulesAlike x y → Holds OnTest d test x ↔ Holds OnTest e test y
    both_hold test x y r = (holds_too d e alike.default test x y r, holds_too e d (alike_back d e alike.default) test y x (rule_back x y r))

    both_hold_on_binary : {P : Type 0} (binary : Binary) (x y : RuleOn P F S) → RulesAlike x y → HoldsOnBinary OnBinary d binary x ↔ HoldsOnBinary OnBinary e binary y
    both_hold_on_binary binary x y r =
        (holds_on_binary d e alike.default binary x y r, holds_on_binary e d (alike_back d e alike.default) binary y x (rule_back x y r))

    same_placed : {P : Type 0} (rules others : List (RuleOn P F S)) → AllZip RulesAlike rules others → map placed_of rules ≡ map placed_of others
    same_placed rules others all = zip_images RulesAlike placed_of placed_of (λ x y r. sym r.placed) rules others all

    settings_too : {T : Type 0} (Tells : T → Source → Type 0) (mode : NextestRunMode) (test : Test) (it : TestSettings T) → AreSettingsFor OnTest Tells one mode test it
        → AreSettingsFor OnTest Tells other mode test it
    settings_too Tells mode test it is =
        let (held, are, beside) = held_beside RulesAlike (Holds OnTest d test) (Holds OnTest e test) (both_hold test) is.are other.rules alike.rules in
        let (scripts, scripts_are, scripts_beside) = held_beside RulesAlike (Holds OnTest d test) (Holds OnTest e test) (both_hold test) is.scripts_are other.script_rules alike.script_rules in
        let placed = same_placed is.held held beside in
        let scripts_placed = same_placed is.scripts scripts scripts_beside in
        let layers : layers_of one (map placed_of is.held) (map placed_of is.scripts) ≡ layers_of other (map placed_of held) (map placed_of scripts) =
        λ i. record { overrides = placed i; scripts = scripts_placed i; wrappers = sym (ap (λ (all : ScriptConfig). all.wrapper) alike.scripts) i; chain = sym alike.chain i } in
        record { held = held; are = are; scripts = scripts; scripts_are = scripts_are; settings = subst (λ (by : Layers). AreSettings Tells mode by it) layers is.settings }

    -- what overrides set besides filters, they both set
    sets_group : (x y : OverrideOn F S) → RulesAlike x y → (v : TestGroup) → group_set x ≡ Some v → (w : TestGroup) × (group_set y ≡ Some w) × (v ≡ w)
    sets_group x y r v is = (v, ap (λ (placed : PlacedOverride). placed.config.rule.test_group) r.placed ∙ is, refl)

    sets_group_back : (x y : OverrideOn F S) → RulesAlike x y → (w : TestGroup) → group_set y ≡ Some w → (v : TestGroup) × (group_set x ≡ Some v)
    sets_group_back x y r w is = (w, ap (λ (placed : PlacedOverride). placed.config.rule.test_group) (sym r.placed) ∙ is)

    group_too : (test : Test) (it : TestGroup) → IsGroupFor OnTest one test it → IsGroupFor OnTest other test it
    group_too test it (inl (rule, least)) =
        let found = least_beside RulesAlike (Holds OnTest d test) (Holds OnTest e test) (both_hold test) group_set group_set (λ v w. v ≡ w) sets_group sets_group_back one.rules other.rules rule it alike.rules least in
        inl (found.rule, subst (λ (group : TestGroup). IsLeast (Holds OnTest e test) group_set other.rules found.rule group) (sym found.values) found.least)
    group_too test it (inr (none, is)) =
        inr (none_beside RulesAlike (Holds OnTest d test) (Holds OnTest e test) (both_hold test) group_set group_set (λ v w. v ≡ w) sets_group sets_group_back one.rules other.rules alike.rules none, is)

    memberships_too : (tests : List Test) (it : PrecomputedGroupMembership) → ArePrecomputed OnTest one tests it → ArePrecomputed OnTest other tests it
    memberships_too tests it are test = by_test (are test)
      where
        by_test : IsOfHanded OnTest one tests test (group_name it test) ⊎ (All (λ handed. have_one_name handed test ≡ false) tests × (group_name it test ≡ codes "@global"))
            → IsOfHanded OnTest other tests test (group_name it test) ⊎ (All (λ handed. have_one_name handed test ≡ false) tests × (group_name it test ≡ codes "@global"))
        by_test (inl of) = inl (record { handed = of.handed; among = of.among; one = of.one; group = of.group; is = group_too of.handed of.group of.is; named = of.named })
        by_test (inr none) = inr none

    enabled_too : (tests : List Test) (id : List ℕ) → IsEnabled OnTest one tests id → IsEnabled OnTest other tests id
    enabled_too tests id is =
        let (rule, has, beside) = zip_contains RulesAlike one.script_rules other.script_rules is.rule alike.script_rules is.of_profile in
        record {
          rule = rule;
          of_profile = has;
          names = subst (λ (names : List (List ℕ)). Contains names id) (ap (λ placed. placed.config.setup) (sym beside.placed)) is.names;
          holds = (is.holds.0, is.holds.1, holds_too d e alike.default is.holds.0 is.rule rule beside is.holds.2);
        }

    wrapper_too : (binary : Binary) (it : Option WrapperScriptConfig) → IsListWrapper OnBinary one binary it → IsListWrapper OnBinary other binary it
    wrapper_too binary it is =
        let (held, are, beside) = held_beside RulesAlike (HoldsOnBinary OnBinary d binary) (HoldsOnBinary OnBinary e binary) (both_hold_on_binary binary) is.are other.script_rules alike.script_rules in
        record {
          held = held;
          are = are;
          sets = subst (λ (scripts : ScriptConfig). SetsWrapper scripts.wrapper list_wrapper (map placed_of held) it) (sym alike.scripts)
              (subst (λ (placed : List _). SetsWrapper one.scripts.wrapper list_wrapper placed it) (same_placed is.held held beside) is.sets);
        }

  -- the scripts that are enabled, by both directions
  all_enabled_too : {S : Type 0} (one other : Evaluatable F S) → Alikes one other → (tests : List Test) (it : List (List ℕ × SetupScriptConfig)) → AreEnabled OnTest one tests it → AreEnabled OnTest other tests it
  all_enabled_too one other alike tests it are = record {
    names = are.names;
    are = record {
      rise = are.are.rise;
      exactly = λ id. ((λ has. enabled_too one other alike tests id ((are.are.exactly id).0 has)), (λ is. (are.are.exactly id).1 (enabled_too other one (alikes_back one other alike) tests id is)));
    };
    each = subst (λ (scripts : ScriptConfig). it ≡ filter_map (defined_as scripts.setup) are.names) (sym alike.scripts) are.each;
  }

  -- ---- default filters

  abbrev Defaults : CompiledDefaultFilter F → CompiledDefaultFilter F → Type 0
  Defaults one other = AreDefaultsAlike Alike one other

  both_set : (one other : Option F) → BothAlike one other → (v : F) → one ≡ Some v → (w : F) × (other ≡ Some w) × Alike v w
  both_set None other both v is = absurd (none-some v is)
  both_set (Some one) None both v is = absurd both
  both_set (Some one) (Some other) both v is = (other, refl, subst (λ (it : F). Alike it other) (same_Some one v is) both)

  module _ {S : Type 0} where
    sets_default : (x y : OverrideOn F S) → RulesAlike x y → (v : F) → default_set x ≡ Some v → (w : F) × (default_set y ≡ Some w) × Alike v w
    sets_default x y r v is = both_set (default_set x) (default_set y) r.default_filter v is

    sets_default_back : (x y : OverrideOn F S) → RulesAlike x y → (w : F) → default_set y ≡ Some w → (v : F) × (default_set x ≡ Some v)
    sets_default_back x y r w is = let it = both_set (default_set y) (default_set x) (both_back (default_set x) (default_set y) r.default_filter) w is in (it.0, it.1)

    for_target : (x y : OverrideOn F S) → RulesAlike x y → ForTarget x ↔ ForTarget y
    for_target x y r = ((λ e. r.for_target ∙ e), (λ e. sym r.for_target ∙ e))

    none_set : (rules others : List (OverrideOn F S)) → AllZip RulesAlike rules others → NoneHoldsAndSets ForTarget default_set rules → NoneHoldsAndSets ForTarget default_set others
    none_set rules others all none = none_beside RulesAlike ForTarget ForTarget for_target default_set default_set Alike sets_default sets_default_back rules others all none

    chosen_alike : (early other_early it second : CompiledDefaultFilter F) (rules others : List (OverrideOn F S)) → Defaults early other_early → AllZip RulesAlike rules others
        → IsChosenDefault early rules it → IsChosenDefault other_early others second → Defaults it second
    chosen_alike early other_early it second rules others defaults all (inl here) (inl there) =
        let found = least_beside RulesAlike ForTarget ForTarget for_target default_set default_set Alike sets_default sets_default_back rules others here.rule it.filter.now all here.least in
        let same = one_least ForTarget default_set others found.rule there.rule found.value second.filter.now found.least there.least in
        record {
          filter = subst (λ (w : F). Alike it.filter.now w) same.1 found.values;
          profile = there.set.profile ∙ ap (λ (rule : OverrideOn F S). rule.rule.placed.id.profile) (sym same.0) ∙ ap (λ (placed : PlacedOverride). placed.id.profile) found.beside.placed ∙ sym here.set.profile;
          section = there.set.section ∙ sym here.set.section;
        }
    chosen_alike early other_early it second rules others defaults all (inl here) (inr there) =
        absurd (no_least ForTarget default_set rules here.rule it.filter.now (none_set others rules (zip_swapped RulesAlike RulesAlike rule_back rules others all) there.0) here.least)
    chosen_alike early other_early it second rules others defaults all (inr here) (inl there) =
        absurd (no_least ForTarget default_set others there.rule second.filter.now (none_set rules others all here.0) there.least)
    chosen_alike early other_early it second rules others defaults all (inr here) (inr there) =
        subst (λ (default : CompiledDefaultFilter F). Defaults default second) (sym here.1) (subst (λ (default : CompiledDefaultFilter F). Defaults early default) (sym there.1) defaults)

  -- those of one chain
  early_alike : (profiles others : List NamedProfile) (filters more : List (Option F)) (names other_names : List Name) (chain other_chain : List ProfileConfig) (it second : CompiledDefaultFilter F)
      → other_names ≡ names → other_chain ≡ chain → (here : IsDefaultFilterOf profiles filters names chain it) → (there : IsDefaultFilterOf others more other_names other_chain second)
      → Is purpose.Default here.text it.filter.now → Is purpose.Default there.text second.filter.now → Defaults it second
  early_alike profiles others filters more names other_names chain other_chain it second same_names same_values here there read also =
      let same = one_nearest here.nearest (subst (λ (values : List ProfileConfig). IsNearest (in_command command_key.default_filter_of) values there.place there.text) same_values there.nearest) in
      record {
        filter = read_alike purpose.Default there.text it.filter.now second.filter.now (subst (λ (text : List ℕ). Is purpose.Default text it.filter.now) same.0 read) also;
        profile = same_Some second.profile.now it.profile.now
            (sym there.named ∙ ap (λ (all : List Name). slice_get all there.place) same_names ∙ ap (slice_get names) (sym same.1) ∙ here.named);
        section = there.section ∙ sym here.section;
      }

  -- ---- configurations

  module _ {S Facts : Type 0} (IsSpec : IsSpecBy S) (IsTooDeep : List ℕ → Type 0) (value_on : S → Facts → Option Bool) (specs : SpecsLaws IsSpec value_on) where
    spec_same : (text : Option (List ℕ)) (one other : Option S) → IsReadAs IsSpec text one → IsReadAs IsSpec text other → (facts : Facts) → spec_holds value_on other facts ≡ spec_holds value_on one facts
    spec_same None None None is also facts = refl
    spec_same None None (Some other) is also facts = absurd also
    spec_same None (Some one) other is also facts = absurd is
    spec_same (Some text) None other is also facts = absurd is
    spec_same (Some text) (Some one) None is also facts = absurd also
    spec_same (Some text) (Some one) (Some other) is also facts = ap (λ (value : Option Bool). unwrap_or value true) (specs.one_meaning text other one also is facts)

    module _ (host target : Facts) {P : Type 0} (conditions : P → Conditions) where
      abbrev put : LoadedRule P F S → RuleOn P F S
      put rule = on_platforms value_on host target rule

      rule_alike : (rule : P) (one other : LoadedRule P F S) → IsReadBy conditions Is IsSpec rule one → IsReadBy conditions Is IsSpec rule other → RulesAlike (put one) (put other)
      rule_alike rule one other is also =
          let texts = conditions rule in
          let on_host = spec_same texts.host one.compiled.host other.compiled.host is.compiled.host also.compiled.host in
          let on_target = spec_same texts.target one.compiled.target other.compiled.target is.compiled.target also.compiled.target in
          record {
            placed = also.same ∙ sym is.same;
            for_host = λ i. on_host host i && on_target host i;
            for_target = λ i. on_host host i && on_target target i;
            filter = both_read purpose.Override texts.filter one.compiled.filter other.compiled.filter is.compiled.filter also.compiled.filter;
            default_filter = both_read purpose.Default texts.default_filter one.compiled.default_filter other.compiled.default_filter is.compiled.default_filter also.compiled.default_filter;
          }

      rules_alike : (placed : List P) (rules others : List (LoadedRule P F S)) → AreReadBy conditions Is IsSpec placed rules → AreReadBy conditions Is IsSpec placed others
          → AllZip RulesAlike (map put rules) (map put others)
      rules_alike [] [] [] are also = tt
      rules_alike [] [] (other ∷ others) are also = absurd also
      rules_alike [] (one ∷ rules) others are also = absurd are
      rules_alike (rule ∷ placed) [] others are also = absurd are
      rules_alike (rule ∷ placed) (one ∷ rules) [] are also = absurd also
      rules_alike (rule ∷ placed) (one ∷ rules) (other ∷ others) are also = (rule_alike rule one other are.0 also.0, rules_alike placed rules others are.1 also.1)

      -- those of a chain, of all that were read
      chain_alike : (written : P → Name) (names : List Name) (placed others : List P) (rules more : List (LoadedRule P F S)) → AreReadBy conditions Is IsSpec placed rules
          → AreReadBy conditions Is IsSpec others more → rules_of written others names ≡ rules_of written placed names
          → AllZip RulesAlike (map put (rules_of (in_profile written) rules names)) (map put (rules_of (in_profile written) more names))
      chain_alike written names placed others rules more are also same =
          let Read = IsReadBy conditions Is IsSpec in
          let own : (rule : P) (it : LoadedRule P F S) → Read rule it → in_profile written it ≡ written rule = λ rule it read. ap written read.same in
          rules_alike (rules_of written placed names) (rules_of (in_profile written) rules names) (rules_of (in_profile written) more names)
          (zip_rules Read written (in_profile written) own placed rules are names)
          (subst (λ (all : List P). AllZip Read all (rules_of (in_profile written) more names)) same (zip_rules Read written (in_profile written) own others more also names))

      -- as two profiles have them
      own_alike : (written : P → Name) (names other_names : List Name) (placed others : List P) (rules more : List (LoadedRule P F S)) (one second : List (RuleOn P F S)) → other_names ≡ names
          → AreReadBy conditions Is IsSpec placed rules → AreReadBy conditions Is IsSpec others more → rules_of written others names ≡ rules_of written placed names
          → one ≡ map put (rules_of (in_profile written) rules names) → second ≡ map put (rules_of (in_profile written) more other_names) → AllZip RulesAlike one second
      own_alike written names other_names placed others rules more one second same_names are also same is second_is =
          subst (λ (all : List (RuleOn P F S)). AllZip RulesAlike all second) (sym is)
          (subst (λ (all : List (RuleOn P F S)). AllZip RulesAlike (map put (rules_of (in_profile written) rules names)) all)
          (sym (second_is ∙ ap (λ (own : List Name). map put (rules_of (in_profile written) more own)) same_names))
          (chain_alike written names placed others rules more are also same))

    pub isolates_profiles : {T : Type 0} (Tells : T → Source → Type 0)
        → IsolatesProfiles OnBinary OnTest asks_groups has_runtime_leaves serves_as_default Tells value_on Is IsSpec IsTooDeep
    isolates_profiles Tells features other_features root sources others name host target one other here there agree =
        let own = here.is.chained in
        let same = profile_isolation Is IsSpec IsTooDeep features other_features root root sources others own.names here.config there.config agree here.loaded there.loaded in
        let profiles = profiles_of there.config in
        let names : there.is.chained.names ≡ own.names =
        one_order (parents_of profiles) there.is.chained.in_order (same_order (profiles_of here.config) profiles same.values own.in_order) in
        let chain : there.early.chain ≡ here.early.chain =
        one_chain_of profiles name there.early.chain here.early.chain there.is.chained (same_chain (profiles_of here.config) profiles name here.early.chain own same.values) in
        let rules = own_alike host target conditions_of profile_of own.names there.is.chained.names (rules_downward sources) (rules_downward others) here.config.loaded.rules there.config.loaded.rules one.rules other.rules
        names here.loaded.1.rules there.loaded.1.rules same.rules (here.put.rules ∙ ap (map (put host target conditions_of)) here.is.ruled) (there.put.rules ∙ ap (map (put host target conditions_of)) there.is.ruled) in
        let script_rules = own_alike host target script_conditions_of script_profile_of own.names there.is.chained.names (script_rules_downward sources) (script_rules_downward others) here.config.loaded.script_rules
        there.config.loaded.script_rules one.script_rules other.script_rules names here.loaded.1.script_rules there.loaded.1.script_rules same.script_rules
        (here.put.script_rules ∙ ap (map (put host target script_conditions_of)) here.is.scripted) (there.put.script_rules ∙ ap (map (put host target script_conditions_of)) there.is.scripted) in
        let default = chosen_alike here.early.default_filter there.early.default_filter one.default_filter other.default_filter one.rules other.rules
        (early_alike here.config.loaded.profiles there.config.loaded.profiles here.config.loaded.default_filters there.config.loaded.default_filters own.names there.is.chained.names here.early.chain
        there.early.chain here.early.default_filter there.early.default_filter names chain here.is.filtered there.is.filtered
        (default_is_read Is IsSpec IsTooDeep features root sources here.config own.names here.early.chain here.early.default_filter here.loaded here.is.filtered)
        (default_is_read Is IsSpec IsTooDeep other_features root others there.config there.is.chained.names there.early.chain there.early.default_filter there.loaded there.is.filtered))
        rules here.put.default_filter there.put.default_filter in
        let scripts = there.put.scripts ∙ there.is.defined ∙ same.scripts ∙ sym here.is.defined ∙ sym here.put.scripts in
        let alike : Alikes one other = record { chain = there.put.chain ∙ chain ∙ sym here.put.chain; scripts = scripts; default = default.filter; rules = rules; script_rules = script_rules } in
        let back = alikes_back one other alike in
        let roots : there.config.root ≡ here.config.root = there.loaded.0 ∙ sym here.loaded.0 in
        let dirs = same_Some there.is.stored.0 here.is.stored.0 (sym there.is.stored.1 ∙ same.store_dir ∙ here.is.stored.1) in
        record {
          name = there.put.name ∙ there.is.named ∙ sym here.is.named ∙ sym here.put.name;
          store_dir = there.put.store_dir ∙ there.is.stored.2 ∙ (λ i. dir_in_store (roots i) (dirs i) name) ∙ sym here.is.stored.2 ∙ sym here.put.store_dir;
          chain = alike.chain;
          default_filter = record { filter = default.filter.0; profile = default.profile; section = default.section };
          groups = there.put.groups ∙ there.is.grouped ∙ same.groups ∙ sym here.is.grouped ∙ sym here.put.groups;
          scripts = scripts;
          settings = λ mode test it. (settings_too one other alike Tells mode test it, settings_too other one back Tells mode test it);
          group = λ test it. (group_too one other alike test it, group_too other one back test it);
          memberships = λ tests it. (memberships_too one other alike tests it, memberships_too other one back tests it);
          enabled = λ tests it. (all_enabled_too one other alike tests it, all_enabled_too other one back tests it);
          list_wrapper = λ binary it. (wrapper_too one other alike binary it, wrapper_too other one back binary it);
        }
