-- Inputs set something, or there is a reason why they set nothing; and where they do, they set
-- something for each test.
use Rattle.std.specs.List.{AllZip, Contains}
use Rattle.std.proofs.Common.{◌≡◌, ◌⊎◌, inl, inr, ℕ, Bool, true, false, cond, List, [], ◌∷◌, ◌++◌, map, Option, None, Some, Result, Ok, Err, find, refl, sym, ap, ◌∙◌, subst}
use Rattle.std.specs.Option.{option_map}
use Rattle.std.specs.Str.{bytes_eq}
use Rattle.std.proofs.lemmas.Bool.{false≢true}
use Rattle.std.proofs.lemmas.List.Elements.{All-cons, All-nil}
use Rattle.std.proofs.lemmas.Option.{none-some, same_Some}
use Rattle.nextest_config_resolution_inheritance.specs.Inheritance.{Name}
use Rattle.nextest_config_resolution_load.specs.Load.{IsReadAs}
use Rattle.nextest_config_resolution_load.specs.Rules.{conditions_of, script_conditions_of}
use Rattle.nextest_config_resolution_load.specs.declared.languages.FilterPurpose.TheVariants as purpose
use Rattle.nextest_config_resolution_load.specs.declared.load_error.LoadError.TheVariants as load
use Rattle.nextest_config_resolution_load.specs.declared.load_fault.LoadFault.{LoadFault}
use Rattle.nextest_config_resolution_overrides.specs.declared.placed_override.PlacedOverride.{PlacedOverride}
use Rattle.nextest_config_resolution_profiles.specs.Config.{IsChainOf, names_of, profiles_of, values_of}
use Rattle.nextest_config_resolution_profiles.specs.Held.{Holds, placed_of}
use Rattle.nextest_config_resolution_profiles.specs.Platforms.{ForTarget, OverrideOn}
use Rattle.nextest_config_resolution_profiles.specs.Platforms as on_platforms
use Rattle.nextest_config_resolution_profiles.specs.Whole.{Whole}
use Rattle.nextest_config_resolution_profiles.proofs.SomeChain.{some_chain}
use Rattle.nextest_config_resolution_profiles.proofs.SetsAll.{some_filter}
use Rattle.nextest_config_resolution_profiles.proofs.SomeConfig.{some_config}
use Rattle.nextest_config_resolution_profiles.proofs.SomeSettings.{as_default, rules_decided, some_held}
use Rattle.nextest_config_resolution_scripts.specs.declared.script_rule.PlacedScriptRule.{PlacedScriptRule}
use Rattle.nextest_config_resolution_settings.specs.Layers.{in_command, in_own}
use Rattle.nextest_config_resolution_keys.specs.Output as output_key
use Rattle.nextest_config_resolution_keys.specs.Run as run_key
use Rattle.nextest_config_resolution_settings.specs.Nearest.{SetsNone}
use Rattle.nextest_config_resolution_settings.specs.Rules.{AreHeld, HoldsAndSets, IsLeast, NoneHoldsAndSets}
use Rattle.nextest_config_resolution_settings.specs.Tracking.{TellsNothing, nothing_kept}
use Rattle.nextest_config_resolution_settings.proofs.EachSetting as each
use Rattle.nextest_config_resolution_settings.proofs.Some as settings
use Rattle.nextest_config_resolution_keys.specs.File.{Named, default_filter_in}
use Rattle.nextest_config_resolution_keys.specs.declared.profile_config.ProfileConfig.{ProfileConfig}
use Rattle.nextest_config_resolution_keys.specs.Own as own_key
use Rattle.nextest_config_resolution_keys.specs.Command as command_key
use Rattle.nextest_filtering_compiling.specs.Context.{Context}
use Rattle.nextest_filtering_compiling.specs.FiltersetLaws.{filterset_laws}
use Rattle.nextest_filtering_compiling.specs.Filtersets.{HasOnTest}
use Rattle.nextest_filtering_compiling.specs.declared.filterset.Filterset.{Filterset}
use Rattle.nextest_filtering_filters.specs.Query.{Test}
use Rattle.nextest_filtering_syntax.specs.Parsed.{tree_of}
use Rattle.test_runner_core_inputs.specs.declared.inputs.Inputs.{Inputs}
use Rattle.test_runner_core_plan.specs.declared.plan_settings.PlanSettings.{PlanSettings}
use Rattle.test_runner_core_platforms.specs.declared.platform_spec.PlatformSpec.{PlatformSpec}
use Rattle.test_runner_core_settings.specs.Chosen.{Chosen, layers_of}
use Rattle.test_runner_core_settings.specs.Holding.{IsDefaultText, RuleHolds, ScriptRuleHolds}
use Rattle.test_runner_core_settings.specs.Laws.{SomeSettings, SomeTest}
use Rattle.test_runner_core_settings.specs.Platforms.{has_repeated_fact, platforms_of}
use Rattle.test_runner_core_settings.specs.Settings.{owned_of}
use Rattle.test_runner_core_settings.specs.Sets.{IsChosen, IsDefault, IsFilter, IsPlatformSpec, IsTooDeep, Loads, Reads, Sets, SetsTest, groups_in, rules_in, script_rules_in}
use Rattle.test_runner_core_settings.specs.declared.configured.RunSettings.{RunSettings}
use Rattle.test_runner_core_settings.specs.declared.settings_fault.SettingsFault.{SettingsFault}
use Rattle.test_runner_core_settings.specs.declared.settings_fault.SettingsFault.TheVariants as fault
use Rattle.test_runner_core_settings.proofs.Alike.{rules_alike, value_on}
use Rattle.test_runner_core_settings.proofs.Mapped.{held_mapped}
use Rattle.test_runner_core_settings.proofs.Profile.{each_read, each_script_read, least_placed, none_placed, own, own_scripts, put_own, put_scripts, rules_placed, scripts_placed}
use Rattle.test_runner_core_settings.specs.Pass.{features_of}

-- ---- the first rule that holds and sets a value

module _ {R V : Type 0} (holds : R → Bool) (set_by : R → Option V) where
  abbrev Holding : R → Type 0
  Holding rule = holds rule ≡ true

  abbrev Found : List R → Type 0
  Found rules = ((rule : R) × (value : V) × IsLeast Holding set_by rules rule value) ⊎ NoneHoldsAndSets Holding set_by rules

  behind_one : (first : R) (rules : List R) → ¬ HoldsAndSets Holding set_by first → Found rules → Found (first ∷ rules)
  behind_one first rules never (inl (rule, value, least)) =
      inl (
        rule,
        value,
        record {
          front = first ∷ least.front;
          back = least.back;
          divided = ap (λ (more : List R). first ∷ more) least.divided;
          before = All-cons (λ it. ¬ HoldsAndSets Holding set_by it) first least.front never least.before;
          holds = least.holds;
          sets = least.sets;
        },
      )
  behind_one first rules never (inr none) = inr (All-cons (λ it. ¬ HoldsAndSets Holding set_by it) first rules never none)

  first_set : (rules : List R) → Found rules
  first_set [] = inr (All-nil (λ it. ¬ HoldsAndSets Holding set_by it))
  first_set (first ∷ rules) = by_test (holds first) refl (set_by first) refl (first_set rules)
    where
      by_test : (test : Bool) → holds first ≡ test → (set : Option V) → set_by first ≡ set → Found rules → Found (first ∷ rules)
      by_test true e (Some value) f more =
          inl (first, value, record { front = []; back = rules; divided = refl; before = All-nil (λ it. ¬ HoldsAndSets Holding set_by it); holds = e; sets = f })
      by_test true e None f more = behind_one first rules (λ both. none-some both.1.0 (sym f ∙ both.1.1)) more
      by_test false e set f more = behind_one first rules (λ both. false≢true (sym e ∙ both.0)) more

-- ---- the default filter of profiles

module _ (cx : Context) where
  -- that of a profile which sets one is read
  read_of : (profiles : List Named) (filters : List (Option Filterset)) → AllZip (λ profile found. IsReadAs (IsFilter cx purpose.Default) (default_filter_in profile.1) found) profiles filters
      → (name : Name) (value : ProfileConfig) (text : List ℕ) → values_of profiles name ≡ Some value → default_filter_in value ≡ Some text → (it : Filterset) × IsDefault cx text it
  read_of [] filters zipped name value text there sets = absurd (none-some value there)
  read_of (profile ∷ profiles) [] zipped name value text there sets = absurd zipped
  read_of (profile ∷ profiles) (found ∷ filters) zipped name value text there sets = by_test (bytes_eq name profile.0) there (λ e. read_of profiles filters zipped.1 name value text e sets)
    where
      by_found : (set : Option (List ℕ)) (found : Option Filterset) → set ≡ Some text → IsReadAs (IsFilter cx purpose.Default) set found → (it : Filterset) × IsDefault cx text it
      by_found None found e is = absurd (none-some text e)
      by_found (Some own) None e is = absurd is
      by_found (Some own) (Some it) e is = (it, subst (λ (t : List ℕ). IsDefault cx t it) (same_Some own text e) is)

      by_test : (test : Bool) → option_map (λ (it : Named). it.1) (cond test (Some profile) (find (λ (it : Named). bytes_eq name it.0) profiles)) ≡ Some value
          → (values_of profiles name ≡ Some value → (it : Filterset) × IsDefault cx text it) → (it : Filterset) × IsDefault cx text it
      by_test true e behind = by_found (default_filter_in profile.1) found (ap default_filter_in (same_Some profile.1 value e) ∙ sets) zipped.0
      by_test false e behind = behind e

  -- each of some values is those of a name
  value_named : (profiles : List Named) (names : List Name) (front : List ProfileConfig) (value : ProfileConfig) (back : List ProfileConfig)
      → map (values_of profiles) names ≡ map Some (front ++ value ∷ back) → (name : Name) × (values_of profiles name ≡ Some value)
  value_named profiles [] [] value back e = absurd (let f = e in cc)
  value_named profiles [] (other ∷ front) value back e = absurd (let f = e in cc)
  value_named profiles (name ∷ names) [] value back e = (name, let f = e in cc)
  value_named profiles (name ∷ names) (other ∷ front) value back e =
      value_named profiles names front value back (let f : values_of profiles name ∷ map (values_of profiles) names ≡ Some other ∷ map Some (front ++ value ∷ back) = e in cc)

module _ (cx : Context) (inputs : Inputs) (config : Whole Filterset PlatformSpec) (reads : Reads cx inputs config) (chain : List ProfileConfig)
    (chained : IsChainOf (profiles_of config) inputs.profile chain) where
  -- the default filter in force, with its text
  record InForce : Type 0 where
    text : List ℕ
    set : IsDefaultText (platforms_of inputs) (rules_in inputs chained.names) chain text
    filter : Filterset
    read : IsDefault cx text filter

  some_default : InForce
  some_default = by_found (first_set (λ (it : OverrideOn Filterset PlatformSpec). it.for_target) on_platforms.default_set (put_own cx inputs config reads chained.names))
    where
      unset : ¬ SetsNone (in_command command_key.default_filter_of) chain
      unset = some_filter (IsFilter cx) IsPlatformSpec IsTooDeep (features_of inputs) inputs.root inputs.sources config reads inputs.profile chain chained

      by_found : ((rule : OverrideOn Filterset PlatformSpec) × (filter : Filterset) × IsLeast ForTarget on_platforms.default_set (put_own cx inputs config reads chained.names) rule filter)
          ⊎ NoneHoldsAndSets ForTarget on_platforms.default_set (put_own cx inputs config reads chained.names) → InForce
      by_found (inl (rule, filter, least)) =
          let placed = least_placed cx inputs config reads chained.names rule filter least in
          record { text = filter.input; set = inl (placed_of rule, placed.0); filter = filter; read = placed.1 }
      by_found (inr none) =
          let (text, (place, nearest)) = settings.some_nearest (in_command command_key.default_filter_of) chain unset in
          let (name, there) = value_named cx (profiles_of config) chained.names nearest.front nearest.layer nearest.back (chained.valued ∙ ap (map Some) nearest.divided) in
          let filter = read_of cx (profiles_of config) config.loaded.default_filters reads.1.filters name nearest.layer text there nearest.sets in
          record { text = text; set = inr (none_placed cx inputs config reads chained.names none, (place, nearest)); filter = filter.0; read = filter.1 }

  abbrev profile_of_chain : Chosen
  profile_of_chain = record {
    rules = rules_in inputs chained.names;
    script_rules = script_rules_in inputs chained.names;
    wrappers = config.loaded.scripts.wrapper;
    chain = chain;
  }

  abbrev chosen_of : IsChosen cx inputs profile_of_chain
  chosen_of = record { config = config; reads = reads; chained = chained; ruled = refl; scripted = refl; defined = refl }

  -- what is set for a run
  pub some_run : has_repeated_fact inputs ≡ false → (it : RunSettings) × Sets cx inputs (Ok it)
  some_run known =
      let limit = settings.some_value (in_own own_key.fail_fast_of) chain run_key.fail_fast_fallback in
      let level = settings.some_value (in_own own_key.status_level_of) chain output_key.status_level_fallback in
      let final_level = settings.some_value (in_own own_key.final_status_level_of) chain output_key.final_status_level_fallback in (
        record {
          default_filter = some_default.text;
          known_groups = groups_in config;
          max_fail = limit.0;
          levels = record { status_level = level.0; final_status_level = final_level.0 };
        },
        record {
          profile = profile_of_chain;
          chosen = chosen_of;
          known = known;
          settings = record { default_filter = some_default.set; limits = record { max_fail = limit.1; status_level = level.1; final_status_level = final_level.1 } };
          groups = refl;
        },
      )

  -- and for a test
  pub some_of_test : (test : Test) → (it : PlanSettings) × SetsTest cx inputs test it
  some_of_test test =
      let platforms = platforms_of inputs in
      let filter = some_default.filter in
      let tree = tree_of filter.parsed in
      let is_default = as_default filterset_laws cx some_default.text filter some_default.read in
      let rules = own cx inputs config reads chained.names in
      let read = each_read cx inputs config reads chained.names in
      let scripts = own_scripts cx inputs config reads chained.names in
      let scripts_read = each_script_read cx inputs config reads chained.names in
      let held = some_held (Holds HasOnTest filter test) (put_own cx inputs config reads chained.names)
      (rules_decided filterset_laws cx filter is_default test conditions_of IsPlatformSpec value_on platforms.host platforms.target rules read) in
      let held_scripts = some_held (Holds HasOnTest filter test) (put_scripts cx inputs config reads chained.names)
      (rules_decided filterset_laws cx filter is_default test script_conditions_of IsPlatformSpec value_on platforms.host platforms.target scripts scripts_read) in
      let mapped = held_mapped placed_of (Holds HasOnTest filter test) (RuleHolds cx platforms tree test) (rules_alike conditions_of cx platforms filter tree some_default.read.3 test rules read) held.1 in
      let scripts_mapped = held_mapped placed_of (Holds HasOnTest filter test) (ScriptRuleHolds cx platforms tree test)
      (rules_alike script_conditions_of cx platforms filter tree some_default.read.3 test scripts scripts_read) held_scripts.1 in
      let lent = each.some_settings TellsNothing nothing_kept inputs.mode (layers_of profile_of_chain (map placed_of held.0) (map placed_of held_scripts.0)) in (
        owned_of lent.0,
        record {
          profile = profile_of_chain;
          default = tree;
          asked = record { chosen = chosen_of; text = some_default.text; set = some_default.set; read = some_default.read.1 };
          settings = record {
            held = map placed_of held.0;
            are = subst (λ (all : List PlacedOverride). AreHeld (RuleHolds cx platforms tree test) all (map placed_of held.0)) (rules_placed cx inputs config reads chained.names) mapped;
            scripts = map placed_of held_scripts.0;
            scripts_are = subst (λ (all : List PlacedScriptRule). AreHeld (ScriptRuleHolds cx platforms tree test) all (map placed_of held_scripts.0)) (scripts_placed cx inputs config reads chained.names) scripts_mapped;
            settings = record { lent = lent.0; each = lent.1; owned = refl };
          };
        },
      )

pub some_test : SomeTest
some_test cx inputs run test sets = some_of_test cx inputs sets.chosen.config sets.chosen.reads sets.profile.chain sets.chosen.chained test

pub some_settings : SomeSettings
some_settings cx inputs never = some_config (IsFilter cx) IsPlatformSpec IsTooDeep (features_of inputs) inputs.root inputs.sources (λ some. never (by_config some))
  where
    by_repeat : (config : Whole Filterset PlatformSpec) (reads : Reads cx inputs config) (values : List ProfileConfig) (chained : IsChainOf (profiles_of config) inputs.profile values) (repeated : Bool)
        → has_repeated_fact inputs ≡ repeated → (given : Result RunSettings SettingsFault) × Sets cx inputs given
    by_repeat config reads values chained true e =
        (Err fault.RepeatedFact, record { profile = profile_of_chain cx inputs config reads values chained; chosen = chosen_of cx inputs config reads values chained; repeated = e })
    by_repeat config reads values chained false e = let it = some_run cx inputs config reads values chained e in (Ok it.0, it.1)

    by_chain : (config : Whole Filterset PlatformSpec) → Reads cx inputs config → ((values : List ProfileConfig) × IsChainOf (profiles_of config) inputs.profile values) ⊎ ¬ Contains (names_of config) inputs.profile
        → (given : Result RunSettings SettingsFault) × Sets cx inputs given
    by_chain config reads (inl (values, chained)) = by_repeat config reads values chained (has_repeated_fact inputs) refl
    by_chain config reads (inr none) =
        (Err (fault.ProfileNotFound (record { name = inputs.profile; known = names_of config })), record { config = config; reads = reads; name = refl; known = refl; none = none })

    by_config : ((config : Whole Filterset PlatformSpec) × Loads cx inputs (Ok config)) ⊎ ((told : LoadFault) × Loads cx inputs (Err (load.Refused told)))
        → (given : Result RunSettings SettingsFault) × Sets cx inputs given
    by_config (inl (config, loaded)) = by_chain config loaded (some_chain (IsFilter cx) IsPlatformSpec IsTooDeep (features_of inputs) inputs.root inputs.sources config inputs.profile loaded)
    by_config (inr (told, refused)) = (Err (fault.Load told), refused)
