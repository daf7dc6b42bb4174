-- What the chosen profile of a configuration sets for a run, and what it answers of tests.
use Rattle.std.proofs.Common.{◌≡◌, ◌||◌, ℕ, Bool, true, false, List, Option, map, Ok, Err, refl, sym, ap, ◌∙◌, subst}
use Rattle.std.specs.Prelude.{◌↔◌}
use Rattle.std.specs.List.{AllByRecursion, Contains}
use Rattle.std.specs.Option.{option_map_or}
use Rattle.nextest_config_elements_identifiers.specs.declared.test_group.TestGroup.{TestGroup}
use Rattle.nextest_config_resolution_load.specs.Rules.{conditions_of, script_conditions_of}
use Rattle.nextest_config_resolution_overrides.specs.declared.groups.NamedGroup.{NamedGroup}
use Rattle.nextest_config_resolution_overrides.specs.declared.placed_override.PlacedOverride.{PlacedOverride}
use Rattle.nextest_config_resolution_profiles.specs.Config.{IsEarly, IsProfile, names_of}
use Rattle.nextest_config_resolution_profiles.specs.Early.{Early}
use Rattle.nextest_config_resolution_profiles.specs.Evaluatable.{Evaluatable, IsPutOn}
use Rattle.nextest_config_resolution_profiles.specs.Held.{AreSettingsFor, Holds, IsGroupFor, placed_of}
use Rattle.nextest_config_resolution_profiles.specs.Enabled as enabled_by
use Rattle.nextest_config_resolution_profiles.specs.Platforms.{IsChosenDefault, OverrideOn, ScriptRuleOn}
use Rattle.nextest_config_resolution_profiles.specs.Whole.{Whole}
use Rattle.nextest_config_resolution_profiles.specs.declared.profile_error.ProfileError.{ProfileError}
use Rattle.nextest_config_resolution_profiles.specs.declared.profile_error.ProfileError.TheVariants as profile_error
use Rattle.nextest_config_resolution_profiles.proofs.Holding.{group_of_settings}
use Rattle.nextest_config_resolution_profiles.proofs.SomeSettings.{some_group_for, some_settings_for}
use Rattle.nextest_config_resolution_scripts.specs.declared.script_config.NamedScript.{NamedScript}
use Rattle.nextest_config_resolution_scripts.specs.declared.script_config.ScriptConfig.{ScriptConfig}
use Rattle.nextest_config_resolution_scripts.specs.declared.script_rule.PlacedScriptRule.{PlacedScriptRule}
use Rattle.nextest_config_resolution_scripts.specs.declared.wrapper_script.WrapperScriptConfig.{WrapperScriptConfig}
use Rattle.nextest_config_resolution_settings.specs.Layers.{Layers}
use Rattle.nextest_config_resolution_settings.specs.Rules.{AreHeld}
use Rattle.nextest_config_resolution_settings.specs.TestSettings.{AreSettings}
use Rattle.nextest_config_resolution_settings.specs.Tracking.{TellsNothing, nothing_kept}
use Rattle.nextest_config_resolution_settings.specs.declared.test_settings.TestSettings.{TestSettings}
use Rattle.nextest_config_resolution_keys.specs.declared.profile_config.ProfileConfig.{ProfileConfig}
use Rattle.nextest_filtering_compiling.specs.Context.{Context}
use Rattle.nextest_filtering_compiling.specs.FiltersetLaws.{filterset_laws}
use Rattle.nextest_filtering_compiling.specs.Filtersets.{HasOnTest}
use Rattle.nextest_filtering_compiling.specs.declared.filterset.Filterset.{Filterset}
use Rattle.nextest_filtering_filters.specs.Query.{Test}
use Rattle.nextest_filtering_filters.specs.declared.known_groups.KnownGroups.TheVariants.{Known}
use Rattle.nextest_filtering_syntax.specs.Parsed.{tree_of}
use Rattle.nextest_filtering_ast.specs.Tree.{Tree}
use Rattle.test_runner_core_inputs.specs.declared.inputs.Inputs.{Inputs}
use Rattle.test_runner_core_inputs.specs.declared.platform.PlatformRecord.{PlatformRecord}
use Rattle.test_runner_core_platforms.specs.declared.fact.PlatformFactsError.{PlatformFactsError}
use Rattle.test_runner_core_platforms.specs.declared.fact.PlatformFactsError.TheVariants as facts_error
use Rattle.test_runner_core_platforms.specs.declared.platform_spec.PlatformSpec.{PlatformSpec}
use Rattle.test_runner_core_settings.specs.Calls.{AnswersTests, Chooses, KnowsPlatform, KnowsTarget, error_of_facts, error_of_profile}
use Rattle.test_runner_core_settings.specs.Chosen.{Chosen}
use Rattle.test_runner_core_settings.specs.Holding.{IsDefaultText, RuleHolds, ScriptRuleHolds}
use Rattle.test_runner_core_settings.specs.Pass.{features_of}
use Rattle.test_runner_core_settings.specs.Platforms.{has_repeated_fact, platforms_of, repeats}
use Rattle.test_runner_core_settings.specs.Settings.{IsOfChain, owned_of}
use Rattle.test_runner_core_settings.specs.Sets.{IsAsked, IsChosen, IsDefault, IsEnabled, IsGroupOf, IsPlatformSpec, IsTooDeep, Reads, SetsTest, rules_in, script_rules_in}
use Rattle.test_runner_core_settings.specs.declared.configured.ChosenRun.{ChosenRun}
use Rattle.test_runner_core_settings.proofs.Alike.{put, rules_alike, value_on}
use Rattle.test_runner_core_settings.proofs.Mapped.{Alike, contained_has, contains_mapped, held_mapped, mapped_contains}
use Rattle.test_runner_core_settings.proofs.Once.{one_asked}
use Rattle.test_runner_core_settings.proofs.Profile.{default_text, each_read, each_script_read, own, own_scripts, put_own, put_scripts, rules_placed, scripts_placed}

-- no profile has the chosen name, or there was no memory
pub never_chosen : (cx : Context) (inputs : Inputs) (config : Whole Filterset PlatformSpec) (name : List ℕ) (error : ProfileError) → Reads cx inputs config → name ≡ inputs.profile
    → IsProfile config name (Err error) → Chooses cx inputs (Err (error_of_profile error))
never_chosen cx inputs config name (profile_error.NotFound told) reads is missing = record {
  config = config;
  reads = reads;
  name = missing.0 ∙ is;
  known = missing.1;
  none = subst (λ (n : List ℕ). ¬ Contains (names_of config) n) is missing.2;
}
never_chosen cx inputs config name profile_error.OutOfMemory reads is missing = tt

-- layers of these parts
abbrev layers_with : List (NamedScript WrapperScriptConfig) → List ProfileConfig → List PlacedOverride → List PlacedScriptRule → Layers
layers_with wrappers chain held scripts = record { overrides = held; scripts = scripts; wrappers = wrappers; chain = chain }

module _ (cx : Context) (inputs : Inputs) (config : Whole Filterset PlatformSpec) (reads : Reads cx inputs config) (early : Early Filterset PlatformSpec) (is : IsEarly config inputs.profile early) where
  -- the chosen profile
  abbrev pub profile_of_early : Chosen
  profile_of_early = record {
    rules = rules_in inputs is.chained.names;
    script_rules = script_rules_in inputs is.chained.names;
    wrappers = config.loaded.scripts.wrapper;
    chain = early.chain;
  }

  abbrev pub chosen_early : IsChosen cx inputs profile_of_early
  chosen_early = record { config = config; reads = reads; chained = is.chained; ruled = refl; scripted = refl; defined = refl }

  -- two facts of a platform repeat, or there was no memory
  pub repeats_or_lacks : (error : PlatformFactsError) → (error ≡ facts_error.RepeatedFact → has_repeated_fact inputs ≡ true) → Chooses cx inputs (Err (error_of_facts error))
  repeats_or_lacks facts_error.RepeatedFact repeated = record { profile = profile_of_early; chosen = chosen_early; repeated = repeated refl }
  repeats_or_lacks facts_error.OutOfMemory repeated = tt

  module _ (profile : Evaluatable Filterset PlatformSpec) (on : IsPutOn value_on (platforms_of inputs).host (platforms_of inputs).target early profile) where
    abbrev filter : Filterset
    filter = profile.default_filter.filter.now

    abbrev tree : Tree
    tree = tree_of filter.parsed

    -- its rules are those of its chain
    own_rules : profile.rules ≡ put_own cx inputs config reads is.chained.names
    own_rules = on.rules ∙ ap (map (put cx (platforms_of inputs))) is.ruled

    own_script_rules : profile.script_rules ≡ put_scripts cx inputs config reads is.chained.names
    own_script_rules = on.script_rules ∙ ap (map (put cx (platforms_of inputs))) is.scripted

    -- its default filter is the one of the text that is set
    pub default_set : IsDefaultText (platforms_of inputs) (rules_in inputs is.chained.names) early.chain filter.input × IsDefault cx filter.input filter
    default_set =
        default_text cx inputs config reads inputs.profile early is profile.default_filter
        (subst (λ (rules : List (OverrideOn Filterset PlatformSpec)). IsChosenDefault early.default_filter rules profile.default_filter) own_rules on.default_filter)

    asked : IsAsked cx inputs profile_of_early tree
    asked = record { chosen = chosen_early; text = filter.input; set = default_set.0; read = default_set.1.1 }

    -- its rules hold on a test exactly if those that were read do
    overrides_alike : (test : Test) → AllByRecursion (Alike placed_of (Holds HasOnTest filter test) (RuleHolds cx (platforms_of inputs) tree test)) (put_own cx inputs config reads is.chained.names)
    overrides_alike test =
        rules_alike conditions_of cx (platforms_of inputs) filter tree default_set.1.3 test (own cx inputs config reads is.chained.names) (each_read cx inputs config reads is.chained.names)

    scripts_alike : (test : Test) → AllByRecursion (Alike placed_of (Holds HasOnTest filter test) (ScriptRuleHolds cx (platforms_of inputs) tree test)) (put_scripts cx inputs config reads is.chained.names)
    scripts_alike test =
        rules_alike script_conditions_of cx (platforms_of inputs) filter tree default_set.1.3 test (own_scripts cx inputs config reads is.chained.names)
        (each_script_read cx inputs config reads is.chained.names)

    -- what it answers of a test is what the inputs set for it
    settings_set : (test : Test) (it : TestSettings (Unit {0})) → AreSettingsFor HasOnTest TellsNothing profile inputs.mode test it → SetsTest cx inputs test (owned_of it)
    settings_set test it are =
        let platforms = platforms_of inputs in
        let here = subst (λ (rules : List (OverrideOn Filterset PlatformSpec)). AreHeld (Holds HasOnTest filter test) rules are.held) own_rules are.are in
        let held = held_mapped placed_of (Holds HasOnTest filter test) (RuleHolds cx platforms tree test) (overrides_alike test) here in
        let also = subst (λ (rules : List (ScriptRuleOn Filterset PlatformSpec)). AreHeld (Holds HasOnTest filter test) rules are.scripts) own_script_rules are.scripts_are in
        let scripts = held_mapped placed_of (Holds HasOnTest filter test) (ScriptRuleHolds cx platforms tree test) (scripts_alike test) also in
        record {
          profile = profile_of_early;
          default = tree;
          asked = asked;
          settings = record {
            held = map placed_of are.held;
            are = subst (λ (rules : List PlacedOverride). AreHeld (RuleHolds cx platforms tree test) rules (map placed_of are.held)) (rules_placed cx inputs config reads is.chained.names) held;
            scripts = map placed_of are.scripts;
            scripts_are = subst (λ (rules : List PlacedScriptRule). AreHeld (ScriptRuleHolds cx platforms tree test) rules (map placed_of are.scripts)) (scripts_placed cx inputs config reads is.chained.names) scripts;
            settings = record {
              lent = it;
              each = subst (λ (chain : List ProfileConfig). AreSettings TellsNothing inputs.mode (layers_with config.loaded.scripts.wrapper chain (map placed_of are.held) (map placed_of are.scripts)) it) on.chain
                  (subst (λ (wrappers : List (NamedScript WrapperScriptConfig)). AreSettings TellsNothing inputs.mode (layers_with wrappers profile.chain (map placed_of are.held) (map placed_of are.scripts)) it)
                  (ap (λ (scripts : ScriptConfig). scripts.wrapper) (on.scripts ∙ is.defined)) are.settings);
              owned = refl;
            };
          };
        }

    -- the scripts that it enables are those that tests need
    enabled_set : (tests : List Test) (id : List ℕ) → enabled_by.IsEnabled HasOnTest profile tests id ↔ IsEnabled cx inputs tests id
    enabled_set tests id = (there, back)
      where
        there : enabled_by.IsEnabled HasOnTest profile tests id → IsEnabled cx inputs tests id
        there it =
            let test = it.holds.0 in
            let of = subst (λ (rules : List (ScriptRuleOn Filterset PlatformSpec)). Contains rules it.rule) own_script_rules it.of_profile in (
              test,
              it.holds.1,
              record {
                profile = profile_of_early;
                default = tree;
                asked = asked;
                rule = placed_of it.rule;
                of_profile = subst (λ (rules : List PlacedScriptRule). Contains rules (placed_of it.rule)) (scripts_placed cx inputs config reads is.chained.names)
                    (contains_mapped placed_of (put_scripts cx inputs config reads is.chained.names) it.rule of);
                names = it.names;
                holds = (contained_has (Alike placed_of (Holds HasOnTest filter test) (ScriptRuleHolds cx (platforms_of inputs) tree test)) (put_scripts cx inputs config reads is.chained.names) it.rule (scripts_alike test) of).0
                    it.holds.2;
              },
            )

        back : IsEnabled cx inputs tests id → enabled_by.IsEnabled HasOnTest profile tests id
        back (test, among, it) =
            let (same_profile, same_default) = one_asked cx inputs it.profile profile_of_early it.default tree it.asked asked in
            let of = subst (λ (rules : List PlacedScriptRule). Contains rules it.rule) (ap (λ (p : Chosen). p.script_rules) same_profile ∙ sym (scripts_placed cx inputs config reads is.chained.names)) it.of_profile in
            let (rule, has, same) = mapped_contains placed_of (put_scripts cx inputs config reads is.chained.names) it.rule of in
            let holds = subst (λ (t : Tree). ScriptRuleHolds cx (platforms_of inputs) t test it.rule) same_default it.holds in
            record {
              rule = rule;
              of_profile = subst (λ (rules : List (ScriptRuleOn Filterset PlatformSpec)). Contains rules rule) (sym own_script_rules) has;
              names = subst (λ (r : PlacedScriptRule). Contains r.config.setup id) (sym same) it.names;
              holds = (
                test,
                among,
                (contained_has (Alike placed_of (Holds HasOnTest filter test) (ScriptRuleHolds cx (platforms_of inputs) tree test)) (put_scripts cx inputs config reads is.chained.names) rule (scripts_alike test) has).1
                    (subst (λ (r : PlacedScriptRule). ScriptRuleHolds cx (platforms_of inputs) tree test r) (sym same) holds),
              );
            }

    some_lent : (test : Test) → (it : TestSettings (Unit {0})) × AreSettingsFor HasOnTest TellsNothing profile inputs.mode test it
    some_lent test =
        some_settings_for filterset_laws cx IsPlatformSpec IsTooDeep value_on TellsNothing nothing_kept (features_of inputs) inputs.root inputs.sources config inputs.profile early (platforms_of inputs).host (platforms_of inputs).target
        profile inputs.mode test reads is on

    group_set : (test : Test) (it : TestGroup) → IsGroupFor HasOnTest profile test it → IsGroupOf cx inputs test it
    group_set test it is_group =
        let lent = some_lent test in
        (owned_of lent.0, settings_set test lent.0 lent.1, sym (group_of_settings HasOnTest PlatformSpec TellsNothing profile inputs.mode test lent.0 it lent.1 is_group))

    pub answers_tests : AnswersTests cx inputs profile
    answers_tests = record {
      settings = settings_set;
      group = group_set;
      some = λ test. let lent = some_lent test in (owned_of lent.0, settings_set test lent.0 lent.1);
      some_group = λ test.
          some_group_for filterset_laws cx IsPlatformSpec IsTooDeep value_on (features_of inputs) inputs.root inputs.sources config inputs.profile early (platforms_of inputs).host (platforms_of inputs).target
          profile test reads is on;
      enabled = enabled_set;
    }

    -- what is chosen, where no fact repeats
    pub chosen_run : (it : ChosenRun) → it.profile ≡ profile → has_repeated_fact inputs ≡ false → it.settings.default_filter ≡ filter.input → IsOfChain profile.chain it.settings
        → it.settings.known_groups ≡ Known (map (λ (group : NamedGroup). group.name) early.groups) → Chooses cx inputs (Ok it)
    chosen_run it same known text limits groups = record {
      sets = record {
        profile = profile_of_early;
        chosen = chosen_early;
        known = known;
        settings = record {
          default_filter = subst (IsDefaultText (platforms_of inputs) (rules_in inputs is.chained.names) early.chain) (sym text) default_set.0;
          limits = subst (λ (chain : List ProfileConfig). IsOfChain chain it.settings) on.chain limits;
        };
        groups = groups ∙ ap (λ (all : List NamedGroup). Known (map (λ group. group.name) all)) is.grouped;
      };
      default =
          subst (λ (p : Evaluatable Filterset PlatformSpec). IsDefault cx it.settings.default_filter p.default_filter.filter.now) (sym same)
          (subst (λ (t : List ℕ). IsDefault cx t filter) (sym text) default_set.1);
      answers = subst (AnswersTests cx inputs) (sym same) answers_tests;
    }

-- ---- what is known of platforms

-- of the host two facts repeat
pub host_repeats : (inputs : Inputs) → repeats inputs.host ≡ true → has_repeated_fact inputs ≡ true
host_repeats inputs e = ap (λ (b : Bool). b || option_map_or repeats inputs.target false) e

-- of the target
pub target_repeats : (inputs : Inputs) → repeats inputs.host ≡ false → option_map_or repeats inputs.target false ≡ true → has_repeated_fact inputs ≡ true
target_repeats inputs e f = ap (λ (b : Bool). b || option_map_or repeats inputs.target false) e ∙ f

-- of neither
pub none_repeats : (inputs : Inputs) → repeats inputs.host ≡ false → option_map_or repeats inputs.target false ≡ false → has_repeated_fact inputs ≡ false
none_repeats inputs e f = ap (λ (b : Bool). b || option_map_or repeats inputs.target false) e ∙ f

-- a call that refuses a platform does so since two facts repeat
pub refused_host : (platform : PlatformRecord) (error : PlatformFactsError) → KnowsPlatform platform (Err error) → error ≡ facts_error.RepeatedFact → repeats platform ≡ true
refused_host platform facts_error.RepeatedFact knows e = knows
refused_host platform facts_error.OutOfMemory knows e = absurd (let f = e in cc)

pub refused_target : (target : Option PlatformRecord) (error : PlatformFactsError) → KnowsTarget target (Err error) → error ≡ facts_error.RepeatedFact → option_map_or repeats target false ≡ true
refused_target target facts_error.RepeatedFact knows e = knows
refused_target target facts_error.OutOfMemory knows e = absurd (let f = e in cc)
