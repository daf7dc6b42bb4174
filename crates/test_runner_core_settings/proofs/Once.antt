-- Inputs set one thing, or are refused for one reason.
use Rattle.std.proofs.Common.{◌≡◌, inl, inr, ℕ, suc, Bool, true, false, List, [], ◌∷◌, map, Some, Ok, Err, refl, sym, ap, ◌∙◌, subst, cond, arith, find}
use Rattle.std.specs.Prelude.{is_some}
use Rattle.std.specs.List.{Contains}
use Rattle.std.specs.Option.{option_map}
use Rattle.std.specs.Str.{bytes_eq}
use Rattle.std.proofs.lemmas.Bool.{false≢true}
use Rattle.std.proofs.lemmas.Slice.Eq.{bytes_eq-Decides}
use Rattle.nextest_config_elements_choices.specs.declared.run_mode.NextestRunMode.{NextestRunMode}
use Rattle.nextest_config_resolution_inheritance.specs.Inheritance.{Name, IsChain, ends, goes_on}
use Rattle.nextest_config_resolution_inheritance.specs.declared.inheritance_fault.InheritanceFault.TheVariants as inheritance
use Rattle.nextest_config_resolution_load.specs.Kinds.{kind_of}
use Rattle.nextest_config_resolution_load.specs.Checks.{MergedConfig, Refusal, unread, no_toml, both_script_tables, feature_not_enabled, repeated_script, unknown_script, unknown_wrapper, bad_value, bad_name, no_constraint, filter_and_default_filter, bad_spec, bad_rule_filter, bad_merged, unknown_group, inherits_badly, bad_filter, parents_of}
use Rattle.nextest_config_resolution_load.specs.Load.{named_of, reason_of, merged_of}
use Rattle.nextest_config_resolution_load.specs.declared.load_error.LoadError.TheVariants as load_error
use Rattle.nextest_config_resolution_load.specs.declared.load_fault.LoadFault.{LoadFault}
use Rattle.nextest_config_resolution_load.specs.declared.load_fault.LoadFault.TheVariants as load
use Rattle.nextest_config_resolution_load.specs.declared.languages.FilterPurpose.TheVariants as use_for
use Rattle.nextest_config_resolution_load.specs.declared.load_fault.LoadKind.{LoadKind}
use Rattle.nextest_config_resolution_load.specs.declared.load_fault.LoadKind.TheVariants as kind
use Rattle.nextest_config_resolution_load.specs.declared.loaded_config.NamedProfile.{NamedProfile}
use Rattle.nextest_config_resolution_load.proofs.Loads.{none_refused, one_load, one_reason}
use Rattle.nextest_config_resolution_overrides.specs.declared.groups.NamedGroup.{NamedGroup}
use Rattle.nextest_config_resolution_profiles.specs.Config.{IsChainOf, names_of, profiles_of, values_of}
use Rattle.nextest_config_resolution_profiles.specs.Whole.{Whole}
use Rattle.nextest_config_resolution_profiles.specs.declared.profile_error.ProfileNotFound.{ProfileNotFound}
use Rattle.nextest_config_resolution_profiles.proofs.OneProfile.{one_chain_of, one_order}
use Rattle.nextest_config_resolution_profiles.proofs.Holding.{held_once, no_least}
use Rattle.nextest_config_resolution_scripts.specs.declared.script_rule.PlacedScriptRule.{PlacedScriptRule}
use Rattle.nextest_config_resolution_settings.specs.Layers.{in_own}
use Rattle.nextest_config_resolution_keys.specs.Output as output_key
use Rattle.nextest_config_resolution_keys.specs.Run as run_key
use Rattle.nextest_config_resolution_settings.specs.Layers.{Layers}
use Rattle.nextest_config_resolution_settings.specs.TestSettings.{AreSettings}
use Rattle.nextest_config_resolution_settings.specs.Tracking.{TellsNothing}
use Rattle.nextest_config_resolution_settings.specs.declared.test_settings.TestSettings.{TestSettings}
use Rattle.nextest_config_resolution_settings.proofs.Least.{one_least}
use Rattle.nextest_config_resolution_settings.proofs.EachSetting.{same_settings}
use Rattle.nextest_config_resolution_settings.proofs.Sourced.{one_value}
use Rattle.nextest_config_resolution_settings.proofs.Unique.{one_nearest}
use Rattle.nextest_config_resolution_keys.specs.File.{Named}
use Rattle.nextest_config_resolution_keys.specs.declared.profile_config.ProfileConfig.{ProfileConfig}
use Rattle.nextest_config_resolution_keys.specs.Own as own_key
use Rattle.nextest_config_resolution_overrides.specs.declared.placed_override.PlacedOverride.{PlacedOverride}
use Rattle.nextest_filtering_filters.specs.Query.{Test}
use Rattle.nextest_filtering_filters.specs.declared.known_groups.KnownGroups.TheVariants.{Known}
use Rattle.nextest_filtering_syntax.proofs.Trees.{one_tree}
use Rattle.nextest_filtering_ast.specs.Tree.{Tree}
use Rattle.nextest_filtering_compiling.specs.Context.{Context}
use Rattle.nextest_filtering_compiling.specs.declared.filterset.Filterset.{Filterset}
use Rattle.test_runner_core_inputs.specs.declared.inputs.Inputs.{Inputs}
use Rattle.test_runner_core_platforms.specs.declared.platform_spec.PlatformSpec.{PlatformSpec}
use Rattle.test_runner_core_settings.specs.Chosen.{Chosen, layers_of}
use Rattle.test_runner_core_settings.specs.Holding.{HoldsForTarget, IsDefaultText, IsDefaultTree, RuleHolds, ScriptRuleHolds, default_set}
use Rattle.test_runner_core_settings.specs.Laws.{OneSettings, OneTest}
use Rattle.test_runner_core_settings.specs.Platforms.{Platforms, has_repeated_fact, platforms_of}
use Rattle.test_runner_core_settings.specs.Settings.{AreOfRun, AreOfTest, AreOwned, owned_of}
use Rattle.test_runner_core_settings.specs.Sets.{HasNoProfile, IsAsked, IsChosen, IsFilter, IsPlatformSpec, IsTooDeep, Loads, SetsBy, groups_in, rules_in, script_rules_in}
use Rattle.test_runner_core_plan.specs.declared.plan_settings.PlanSettings.{PlanSettings}
use Rattle.test_runner_core_settings.specs.declared.configured.RunSettings.{RunSettings}
use Rattle.test_runner_core_settings.specs.declared.settings_fault.SettingsFault.TheVariants as fault
use Rattle.test_runner_core_settings.specs.Pass.{features_of}

-- ---- the settings of tests

-- copies of the settings by some layers are one
one_lent : (mode : NextestRunMode) (layers : Layers) (one other : TestSettings (Unit {0})) → AreSettings TellsNothing mode layers one
    → AreSettings TellsNothing mode layers other → owned_of one ≡ owned_of other
one_lent mode layers one other a b =
    let same = same_settings TellsNothing TellsNothing mode layers one other a b in
    let priority = same.priority in
    let threads = same.threads_required in
    let wrapper = same.run_wrapper in
    let arguments = same.run_extra_args in
    let retries = same.retries in
    let flaky = same.flaky_result in
    let weight = same.fail_weight in
    let slow = same.slow_timeout in
    let leak = same.leak_timeout in
    let group = same.test_group in
    let success = same.success_output in
    let failure = same.failure_output in
    let passing = same.junit_store_success_output in
    let failing = same.junit_store_failure_output in
    let skipped = same.junit_report_skipped in
    let status = same.junit_flaky_fail_status in
    cc

pub one_owned : (mode : NextestRunMode) (layers : Layers) (one other : PlanSettings) → AreOwned mode layers one → AreOwned mode layers other → one ≡ other
one_owned mode layers one other a b = a.owned ∙ one_lent mode layers a.lent b.lent a.each b.each ∙ sym b.owned

one_of_test : (cx : Context) (platforms : Platforms) (mode : NextestRunMode) (profile : Chosen) (default : Tree) (test : Test) (one other : PlanSettings)
    → AreOfTest cx platforms mode profile default test one → AreOfTest cx platforms mode profile default test other → one ≡ other
one_of_test cx platforms mode profile default test one other a b =
    let same : a.held ≡ b.held = held_once (RuleHolds cx platforms default test) a.are b.are in
    let also : a.scripts ≡ b.scripts = held_once (ScriptRuleHolds cx platforms default test) a.scripts_are b.scripts_are in
    one_owned mode (layers_of profile b.held b.scripts) one other
    (subst (λ (held : List PlacedOverride). AreOwned mode (layers_of profile held b.scripts) one) same
    (subst (λ (scripts : List PlacedScriptRule). AreOwned mode (layers_of profile a.held scripts) one) also a.settings)) b.settings

-- ---- the settings of a run

-- the text of the default filter is one
pub one_default : (platforms : Platforms) (rules : List PlacedOverride) (chain : List ProfileConfig) (one other : List ℕ) → IsDefaultText platforms rules chain one
    → IsDefaultText platforms rules chain other → one ≡ other
one_default platforms rules chain one other (inl (rule, a)) (inl (second, b)) = (one_least (HoldsForTarget platforms) default_set rules rule second one other a b).1
one_default platforms rules chain one other (inl (rule, a)) (inr (none, b)) = absurd (no_least (HoldsForTarget platforms) default_set rules rule one none a)
one_default platforms rules chain one other (inr (none, a)) (inl (rule, b)) = absurd (no_least (HoldsForTarget platforms) default_set rules rule other none b)
one_default platforms rules chain one other (inr (none, a)) (inr (also, b)) = (one_nearest a.1 b.1).0

-- a profile is its parts
pub same_chosen : (one other : Chosen) → one.rules ≡ other.rules → one.script_rules ≡ other.script_rules → one.wrappers ≡ other.wrappers → one.chain ≡ other.chain → one ≡ other
same_chosen one other rules scripts wrappers chain = λ i. record { rules = rules i; script_rules = scripts i; wrappers = wrappers i; chain = chain i }

pub one_run : (platforms : Platforms) (profile : Chosen) (one other : RunSettings) → AreOfRun platforms profile one → AreOfRun platforms profile other
    → one.known_groups ≡ other.known_groups → one ≡ other
one_run platforms profile one other a b groups =
    let chain = profile.chain in
    let limit : one.max_fail ≡ other.max_fail = one_value (in_own own_key.fail_fast_of) chain run_key.fail_fast_fallback _ _ a.limits.max_fail b.limits.max_fail in
    let level : one.levels.status_level ≡ other.levels.status_level = one_value (in_own own_key.status_level_of) chain output_key.status_level_fallback _ _ a.limits.status_level b.limits.status_level in
    let final_level : one.levels.final_status_level ≡ other.levels.final_status_level = one_value (in_own own_key.final_status_level_of) chain output_key.final_status_level_fallback _ _ a.limits.final_status_level b.limits.final_status_level in
    let filter : one.default_filter ≡ other.default_filter = one_default platforms profile.rules chain one.default_filter other.default_filter a.default_filter b.default_filter in
    λ i. record {
      default_filter = filter i;
      known_groups = groups i;
      max_fail = limit i;
      levels = record { status_level = level i; final_status_level = final_level i };
    }

-- ---- the rule of the load that is broken

abbrev kind_in : Refusal → LoadKind
kind_in (unread path) = kind.Unread
kind_in (no_toml path) = kind.Toml
kind_in (bad_value path keys) = kind.BadValue
kind_in (both_script_tables path) = kind.BothScriptTables
kind_in (feature_not_enabled path feature) = kind.FeatureNotEnabled
kind_in (bad_name path name) = kind.BadName
kind_in (repeated_script path script) = kind.RepeatedScript
kind_in (no_constraint rule) = kind.NoConstraint
kind_in (filter_and_default_filter rule) = kind.FilterAndDefaultFilter
kind_in (bad_spec rule side) = kind.BadSpec
kind_in (bad_rule_filter rule use_for.Default) = kind.BadFilter
kind_in (bad_rule_filter rule use_for.Override) = kind.BadFilter
kind_in (bad_rule_filter rule use_for.ListWrapper) = kind.ListWrapperRunFilter
kind_in (bad_merged keys) = kind.BadValue
kind_in (unknown_group rule group) = kind.UnknownGroup
kind_in (unknown_script rule script) = kind.UnknownScript
kind_in (unknown_wrapper rule script) = kind.UnknownWrapper
kind_in (inherits_badly (inheritance.InheritsInDefault profile)) = kind.InheritsInDefault
kind_in (inherits_badly (inheritance.UnknownParent profile parent)) = kind.UnknownParent
kind_in (inherits_badly (inheritance.Cycle profile)) = kind.Cycle
kind_in (bad_filter profile) = kind.BadFilter

told_kind : (told : LoadFault) → kind_of told ≡ kind_in (reason_of told)
told_kind (load.Unread path cause) = refl
told_kind (load.Toml path message) = refl
told_kind (load.BadValue path value) = refl
told_kind (load.BothScriptTables path) = refl
told_kind (load.FeatureNotEnabled path feature) = refl
told_kind (load.BadName path name) = refl
told_kind (load.RepeatedScript path script) = refl
told_kind (load.NoConstraint rule) = refl
told_kind (load.FilterAndDefaultFilter rule) = refl
told_kind (load.BadSpec rule side text) = refl
told_kind (load.BadRuleFilter rule use_for.Default text) = refl
told_kind (load.BadRuleFilter rule use_for.Override text) = refl
told_kind (load.BadRuleFilter rule use_for.ListWrapper text) = refl
told_kind (load.BadMergedValue value) = refl
told_kind (load.UnknownGroup rule group) = refl
told_kind (load.UnknownScript rule script) = refl
told_kind (load.UnknownWrapper rule script) = refl
told_kind (load.Inheritance (inheritance.InheritsInDefault profile)) = refl
told_kind (load.Inheritance (inheritance.UnknownParent profile parent)) = refl
told_kind (load.Inheritance (inheritance.Cycle profile)) = refl
told_kind (load.BadFilter profile text) = refl

one_kind : (cx : Context) (inputs : Inputs) (one other : LoadFault) → Loads cx inputs (Err (load_error.Refused one)) → Loads cx inputs (Err (load_error.Refused other)) → kind_of one ≡ kind_of other
one_kind cx inputs one other a b =
    told_kind one ∙ ap kind_in (one_reason (IsFilter cx) IsPlatformSpec IsTooDeep (λ text deep. deep) (features_of inputs) _ inputs.sources one other a b) ∙ sym (told_kind other)

-- ---- configurations

pub same_seen : (cx : Context) (inputs : Inputs) (one other : Whole Filterset PlatformSpec) → Loads cx inputs (Ok one) → Loads cx inputs (Ok other) → merged_of one.loaded ≡ merged_of other.loaded
same_seen cx inputs one other a b = one_load (IsFilter cx) IsPlatformSpec IsTooDeep (features_of inputs) _ inputs.sources one.loaded other.loaded a.1 b.1

never_refused : (cx : Context) (inputs : Inputs) (config : Whole Filterset PlatformSpec) (told : LoadFault) → Loads cx inputs (Ok config) → Loads cx inputs (Err (load_error.Refused told)) → ⊥
never_refused cx inputs config told loaded refused = none_refused (IsFilter cx) IsPlatformSpec IsTooDeep (λ text deep. deep) (features_of inputs) _ inputs.sources config.loaded told loaded.1 refused

-- the names of profiles
names_seen : (profiles : List NamedProfile) → map (λ (it : Named). it.0) (map named_of profiles) ≡ map (λ (it : NamedProfile). it.name) profiles
names_seen [] = refl
names_seen (first ∷ profiles) = ap (λ (names : List Name). first.name ∷ names) (names_seen profiles)

same_names : (one other : Whole Filterset PlatformSpec) → merged_of one.loaded ≡ merged_of other.loaded → names_of one ≡ names_of other
same_names one other same =
    sym (names_seen one.loaded.profiles) ∙ ap (λ (it : MergedConfig). map (λ (profile : Named). profile.0) it.profiles) same ∙ names_seen other.loaded.profiles

-- ---- a profile that has a chain is there

first_has : {X : Type 0} (x : X) (xs : List X) → Contains (x ∷ xs) x
first_has x xs = (0, omega arith, refl)

rest_has : {X : Type 0} (x y : X) (xs : List X) → Contains xs y → Contains (x ∷ xs) y
rest_has x y xs (k, within, is) = (suc k, omega (arith, within), is)

found_there : (name : Name) (profiles : List Named) (value : ProfileConfig) → values_of profiles name ≡ Some value → Contains (map (λ (it : Named). it.0) profiles) name
found_there name [] value e = absurd (false≢true (ap is_some e))
found_there name (profile ∷ profiles) value e = by_test (bytes_eq name profile.0) refl e (found_there name profiles value)
  where
    by_test : (b : Bool) → bytes_eq name profile.0 ≡ b
        → option_map (λ (it : Named). it.1) (cond b (Some profile) (find (λ (it : Named). bytes_eq name it.0) profiles)) ≡ Some value
        → (values_of profiles name ≡ Some value → Contains (map (λ (it : Named). it.0) profiles) name)
        → Contains (profile.0 ∷ map (λ (it : Named). it.0) profiles) name
    by_test true same e behind =
        subst (λ (n : Name). Contains (profile.0 ∷ map (λ (it : Named). it.0) profiles) n) (sym ((bytes_eq-Decides name profile.0).0 same))
        (first_has profile.0 (map (λ (it : Named). it.0) profiles))
    by_test false other e behind = rest_has profile.0 name (map (λ (it : Named). it.0) profiles) (behind e)

chain_there : (profiles : List Named) (name : Name) (names : List Name) (values : List ProfileConfig) → IsChain (parents_of profiles) name names
    → map (values_of profiles) names ≡ map Some values → (value : ProfileConfig) × (values_of profiles name ≡ Some value)
chain_there profiles name [] values chain e = elim chain [ ]
chain_there profiles name (first ∷ []) [] (ends is) e = absurd (let f = e in cc)
chain_there profiles name (first ∷ []) (value ∷ values) (ends is) e = (value, let f = e in cc)
chain_there profiles name (first ∷ names) [] (goes_on other more) e = absurd (let f = e in cc)
chain_there profiles name (first ∷ names) (value ∷ values) (goes_on other more) e = (value, let f = e in cc)

never_missing : (cx : Context) (inputs : Inputs) (profile : Chosen) (told : ProfileNotFound) → IsChosen cx inputs profile → HasNoProfile cx inputs told → ⊥
never_missing cx inputs profile told chosen none =
    let there = chain_there (profiles_of chosen.config) inputs.profile chosen.chained.names profile.chain chosen.chained.in_order chosen.chained.valued in
    let named = found_there inputs.profile (profiles_of chosen.config) there.0 there.1 in
    let same = same_names chosen.config none.config (same_seen cx inputs chosen.config none.config chosen.reads none.reads) in
    none.none (subst (λ (names : List Name). Contains names inputs.profile) (names_seen chosen.config.loaded.profiles ∙ same) named)

-- ---- the chosen profile

-- it is one
pub chosen_once : (cx : Context) (inputs : Inputs) (one other : Chosen) → IsChosen cx inputs one → IsChosen cx inputs other → one ≡ other
chosen_once cx inputs one other a b =
    let seen_same = same_seen cx inputs a.config b.config a.reads b.reads in
    let same : profiles_of a.config ≡ profiles_of b.config = ap (λ (it : MergedConfig). it.profiles) seen_same in
    let order = subst (λ (profiles : List Named). IsChain (parents_of profiles) inputs.profile a.chained.names) same a.chained.in_order in
    let names : a.chained.names ≡ b.chained.names = one_order (parents_of (profiles_of b.config)) order b.chained.in_order in
    same_chosen one other
    (a.ruled ∙ ap (rules_in inputs) names ∙ sym b.ruled)
    (a.scripted ∙ ap (script_rules_in inputs) names ∙ sym b.scripted)
    (a.defined ∙ ap (λ (it : MergedConfig). it.scripts.wrapper) seen_same ∙ sym b.defined)
    (one_chain_of (profiles_of b.config) inputs.profile one.chain other.chain (subst (λ (profiles : List Named). IsChainOf profiles inputs.profile one.chain) same a.chained) b.chained)

one_profile : (cx : Context) (inputs : Inputs) (one other : RunSettings) → SetsBy cx inputs one → SetsBy cx inputs other → one ≡ other
one_profile cx inputs one other a b =
    let same = chosen_once cx inputs a.profile b.profile a.chosen b.chosen in
    let groups : groups_in a.chosen.config ≡ groups_in b.chosen.config =
    ap (λ (it : MergedConfig). Known (map (λ (group : NamedGroup). group.name) it.groups)) (same_seen cx inputs a.chosen.config b.chosen.config a.chosen.reads b.chosen.reads) in
    one_run (platforms_of inputs) b.profile one other (subst (λ (profile : Chosen). AreOfRun (platforms_of inputs) profile one) same a.settings) b.settings (a.groups ∙ groups ∙ sym b.groups)

one_missing : (cx : Context) (inputs : Inputs) (one other : ProfileNotFound) → HasNoProfile cx inputs one → HasNoProfile cx inputs other → one ≡ other
one_missing cx inputs one other a b =
    let name : one.name ≡ other.name = a.name ∙ sym b.name in
    let known : one.known ≡ other.known = a.known ∙ same_names a.config b.config (same_seen cx inputs a.config b.config a.reads b.reads) ∙ sym b.known in
    ap (λ (n : List ℕ). record { name = n; known = one.known }) name ∙ ap (λ (k : List (List ℕ)). record { name = other.name; known = k }) known

never_both : (b : Bool) → b ≡ false → b ≡ true → ⊥
never_both b e f = false≢true (sym e ∙ f)

pub one_settings : OneSettings
one_settings cx inputs (Ok one) (Ok other) a b = one_profile cx inputs one other a b
one_settings cx inputs (Ok one) (Err (fault.Load told)) a b = never_refused cx inputs a.chosen.config told a.chosen.reads b
one_settings cx inputs (Ok one) (Err (fault.ProfileNotFound told)) a b = never_missing cx inputs a.profile told a.chosen b
one_settings cx inputs (Ok one) (Err fault.RepeatedFact) a b = never_both (has_repeated_fact inputs) a.known b.repeated
one_settings cx inputs (Err (fault.Load told)) (Ok other) a b = never_refused cx inputs b.chosen.config told b.chosen.reads a
one_settings cx inputs (Err (fault.Load told)) (Err (fault.Load second)) a b = one_kind cx inputs told second a b
one_settings cx inputs (Err (fault.Load told)) (Err (fault.ProfileNotFound second)) a b = absurd (never_refused cx inputs b.config told b.reads a)
one_settings cx inputs (Err (fault.Load told)) (Err fault.RepeatedFact) a b = absurd (never_refused cx inputs b.chosen.config told b.chosen.reads a)
one_settings cx inputs (Err (fault.ProfileNotFound told)) (Ok other) a b = never_missing cx inputs b.profile told b.chosen a
one_settings cx inputs (Err (fault.ProfileNotFound told)) (Err (fault.Load second)) a b = absurd (never_refused cx inputs a.config second a.reads b)
one_settings cx inputs (Err (fault.ProfileNotFound told)) (Err (fault.ProfileNotFound second)) a b = ap fault.ProfileNotFound (one_missing cx inputs told second a b)
one_settings cx inputs (Err (fault.ProfileNotFound told)) (Err fault.RepeatedFact) a b = absurd (never_missing cx inputs b.profile told b.chosen a)
one_settings cx inputs (Err fault.RepeatedFact) (Ok other) a b = never_both (has_repeated_fact inputs) b.known a.repeated
one_settings cx inputs (Err fault.RepeatedFact) (Err (fault.Load second)) a b = absurd (never_refused cx inputs a.chosen.config second a.chosen.reads b)
one_settings cx inputs (Err fault.RepeatedFact) (Err (fault.ProfileNotFound second)) a b = absurd (never_missing cx inputs a.profile second a.chosen b)
one_settings cx inputs (Err fault.RepeatedFact) (Err fault.RepeatedFact) a b = refl

-- ---- tests

-- the tree of the default filter is one, where its text is set by one profile
pub one_default_tree : (cx : Context) (platforms : Platforms) (profile : Chosen) (text second : List ℕ) (one other : Tree) → IsDefaultText platforms profile.rules profile.chain text
    → IsDefaultText platforms profile.rules profile.chain second → IsDefaultTree cx text one → IsDefaultTree cx second other → one ≡ other
one_default_tree cx platforms profile text second one other set also read reads =
    let same : text ≡ second = one_default platforms profile.rules profile.chain text second set also in
    one_tree second one other (subst (λ (t : List ℕ). IsDefaultTree cx t one) same read).0 reads.0

-- what is asked is one
pub one_asked : (cx : Context) (inputs : Inputs) (one other : Chosen) (default second : Tree) → IsAsked cx inputs one default → IsAsked cx inputs other second → (one ≡ other) × (default ≡ second)
one_asked cx inputs one other default second a b =
    let same = chosen_once cx inputs one other a.chosen b.chosen in
    (same, one_default_tree cx (platforms_of inputs) other a.text b.text default second (subst (λ (p : Chosen). IsDefaultText (platforms_of inputs) p.rules p.chain a.text) same a.set) b.set a.read b.read)

-- what two of these set for a test is one, where they are one profile, with one default filter
pub one_test_by : (cx : Context) (platforms : Platforms) (mode : NextestRunMode) (profile second : Chosen) (default other_default : Tree) (test : Test) (one other : PlanSettings) → profile ≡ second
    → default ≡ other_default → AreOfTest cx platforms mode profile default test one → AreOfTest cx platforms mode second other_default test other → one ≡ other
one_test_by cx platforms mode profile second default other_default test one other same tree are there =
    one_of_test cx platforms mode second other_default test one other
    (subst (λ (t : Tree). AreOfTest cx platforms mode second t test one) tree (subst (λ (p : Chosen). AreOfTest cx platforms mode p default test one) same are)) there

pub one_test : OneTest
one_test cx inputs test one other a b =
    let (same, tree) = one_asked cx inputs a.profile b.profile a.default b.default a.asked b.asked in
    one_test_by cx (platforms_of inputs) inputs.mode a.profile b.profile a.default b.default test one other same tree a.settings b.settings
