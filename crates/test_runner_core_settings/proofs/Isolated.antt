-- Profiles outside of the chosen one's chain change nothing.
use Rattle.std.proofs.Common.{◌≡◌, ℕ, List, map, sym, ap, ◌∙◌, subst}
use Rattle.std.specs.List.{All}
use Rattle.std.specs.Option.{option_map, unwrap_or}
use Rattle.nextest_config_elements_choices.specs.declared.run_mode.NextestRunMode.{NextestRunMode}
use Rattle.nextest_config_resolution_inheritance.specs.Inheritance.{IsChain, Name}
use Rattle.nextest_config_resolution_load.specs.Checks.{MergedConfig, parents_of}
use Rattle.nextest_config_resolution_overrides.specs.declared.groups.NamedGroup.{NamedGroup}
use Rattle.nextest_config_resolution_profiles.specs.Config.{IsChainOf, profiles_of, values_of}
use Rattle.nextest_config_resolution_profiles.specs.Whole.{Whole}
use Rattle.nextest_config_resolution_profiles.proofs.OneProfile.{one_chain_of, one_order}
use Rattle.nextest_config_resolution_profiles.proofs.SameChain.{same_chain, same_order}
use Rattle.nextest_config_resolution_keys.specs.File.{Named}
use Rattle.nextest_filtering_compiling.specs.Context.{Context}
use Rattle.nextest_filtering_compiling.specs.declared.filterset.Filterset.{Filterset}
use Rattle.nextest_filtering_filters.specs.Query.{Test}
use Rattle.nextest_filtering_ast.specs.Tree.{Tree}
use Rattle.nextest_filtering_filters.specs.declared.known_groups.KnownGroups.TheVariants.{Known}
use Rattle.test_runner_core_inputs.specs.declared.inputs.Inputs.{Inputs}
use Rattle.test_runner_core_platforms.specs.declared.platform_spec.PlatformSpec.{PlatformSpec}
use Rattle.test_runner_core_settings.specs.Holding.{IsDefaultText, ScriptRuleHolds}
use Rattle.test_runner_core_settings.specs.Chosen.{Chosen}
use Rattle.test_runner_core_settings.specs.Laws.{AgreeOnChain, Isolated, IsolatesScripts, IsolatesTests}
use Rattle.test_runner_core_settings.specs.Platforms.{Platforms, facts_of, platforms_of}
use Rattle.test_runner_core_settings.specs.Settings.{AreOfRun, AreOfTest}
use Rattle.test_runner_core_settings.specs.Sets.{IsAsked, IsChosen, NeedsScript, Reads, groups_in, rules_in, script_rules_in}
use Rattle.test_runner_core_settings.proofs.Once.{one_default_tree, one_run, one_test_by, same_chosen, same_seen}

same_groups : (cx : Context) (inputs : Inputs) (one other : Whole Filterset PlatformSpec) → Reads cx inputs one → Reads cx inputs other → groups_in one ≡ groups_in other
same_groups cx inputs one other a b = ap (λ (it : MergedConfig). Known (map (λ (group : NamedGroup). group.name) it.groups)) (same_seen cx inputs one other a b)

same_platforms : (inputs other : Inputs) → other.host ≡ inputs.host → other.target ≡ inputs.target → platforms_of other ≡ platforms_of inputs
same_platforms inputs other host target = λ i. record { host = facts_of (host i); target = unwrap_or (option_map facts_of (target i)) (facts_of (host i)) }

-- the chosen profile is the same in both
chosen_alike : (cx : Context) (inputs other : Inputs) (one second : Chosen) → AgreeOnChain cx inputs other → IsChosen cx inputs one → IsChosen cx other second → second ≡ one
chosen_alike cx inputs other one second agree a b =
    let others = profiles_of agree.second in
    let seen_here = same_seen cx inputs a.config agree.config a.reads agree.reads in
    let seen_there = same_seen cx other b.config agree.second b.reads agree.reads_second in
    let profiles : profiles_of a.config ≡ profiles_of agree.config = ap (λ (it : MergedConfig). it.profiles) seen_here in
    let own = subst (λ (all : List Named). IsChainOf all inputs.profile one.chain) profiles a.chained in
    let own_order = subst (λ (all : List Named). IsChain (parents_of all) inputs.profile a.chained.names) profiles a.chained.in_order in
    let names : agree.names ≡ own.names = one_order (parents_of (profiles_of agree.config)) agree.chain own.in_order in
    let own_names : agree.names ≡ a.chained.names = one_order (parents_of (profiles_of agree.config)) agree.chain own_order in
    let also = same_chain (profiles_of agree.config) others inputs.profile one.chain own
    (subst (λ (all : List Name). All (λ name. values_of others name ≡ values_of (profiles_of agree.config) name) all) names agree.each) in
    let also_order = same_order (profiles_of agree.config) others agree.each agree.chain in
    let there : profiles_of b.config ≡ others = ap (λ (it : MergedConfig). it.profiles) seen_there in
    let here = subst (λ (name : Name). IsChainOf others name second.chain) agree.profile (subst (λ (all : List Named). IsChainOf all other.profile second.chain) there b.chained) in
    let here_order = subst (λ (name : Name). IsChain (parents_of others) name b.chained.names) agree.profile
    (subst (λ (all : List Named). IsChain (parents_of all) other.profile b.chained.names) there b.chained.in_order) in
    let other_names : b.chained.names ≡ agree.names = one_order (parents_of others) here_order also_order in
    same_chosen second one
    (b.ruled ∙ ap (rules_in other) other_names ∙ agree.rules ∙ ap (rules_in inputs) own_names ∙ sym a.ruled)
    (b.scripted ∙ ap (script_rules_in other) other_names ∙ agree.script_rules ∙ ap (script_rules_in inputs) own_names ∙ sym a.scripted)
    (b.defined ∙ ap (λ (it : MergedConfig). it.scripts.wrapper) seen_there ∙ agree.wrappers ∙ sym (ap (λ (it : MergedConfig). it.scripts.wrapper) seen_here) ∙ sym a.defined)
    (one_chain_of others inputs.profile second.chain one.chain here also)

pub isolated : Isolated
isolated cx inputs other one second agree a b =
    let same = chosen_alike cx inputs other a.profile b.profile agree a.chosen b.chosen in
    let groups = a.groups ∙ same_groups cx inputs a.chosen.config agree.config a.chosen.reads agree.reads ∙ sym agree.groups
    ∙ same_groups cx other agree.second b.chosen.config agree.reads_second b.chosen.reads ∙ sym b.groups in
    one_run (platforms_of inputs) a.profile one second a.settings
    (subst (λ (platforms : Platforms). AreOfRun platforms a.profile second) (same_platforms inputs other agree.host agree.target)
    (subst (λ (profile : Chosen). AreOfRun (platforms_of other) profile second) same b.settings)) groups

-- what is asked is the same in both
asked_alike : (cx : Context) (inputs other : Inputs) (one second : Chosen) (default tree : Tree) → AgreeOnChain cx inputs other → IsAsked cx inputs one default → IsAsked cx other second tree
    → (second ≡ one) × (tree ≡ default)
asked_alike cx inputs other one second default tree agree a b =
    let same = chosen_alike cx inputs other one second agree a.chosen b.chosen in
    let set = subst (λ (p : Platforms). IsDefaultText p one.rules one.chain b.text) (same_platforms inputs other agree.host agree.target)
    (subst (λ (p : Chosen). IsDefaultText (platforms_of other) p.rules p.chain b.text) same b.set) in
    (same, one_default_tree cx (platforms_of inputs) one b.text a.text tree default set a.set b.read a.read)

pub isolates_tests : IsolatesTests
isolates_tests cx inputs other test one second agree a b =
    let (same, tree) = asked_alike cx inputs other a.profile b.profile a.default b.default agree a.asked b.asked in
    one_test_by cx (platforms_of inputs) inputs.mode a.profile b.profile a.default b.default test one second (sym same) (sym tree) a.settings
    (subst (λ (p : Platforms). AreOfTest cx p inputs.mode b.profile b.default test second) (same_platforms inputs other agree.host agree.target)
    (subst (λ (mode : NextestRunMode). AreOfTest cx (platforms_of other) mode b.profile b.default test second) agree.mode b.settings))

-- ---- setup scripts

-- what is asked of either inputs is asked of the other, where both choose a profile
asked_here : (cx : Context) (inputs other : Inputs) (one profile : Chosen) (default : Tree) → AgreeOnChain cx inputs other → IsChosen cx inputs one → IsAsked cx other profile default
    → IsAsked cx inputs profile default
asked_here cx inputs other one profile default agree a b = record {
  chosen = subst (IsChosen cx inputs) (sym (chosen_alike cx inputs other one profile agree a b.chosen)) a;
  text = b.text;
  set = subst (λ (p : Platforms). IsDefaultText p profile.rules profile.chain b.text) (same_platforms inputs other agree.host agree.target) b.set;
  read = b.read;
}

asked_there : (cx : Context) (inputs other : Inputs) (profile second : Chosen) (default : Tree) → AgreeOnChain cx inputs other → IsAsked cx inputs profile default → IsChosen cx other second
    → IsAsked cx other profile default
asked_there cx inputs other profile second default agree a b = record {
  chosen = subst (IsChosen cx other) (chosen_alike cx inputs other profile second agree a.chosen b) b;
  text = a.text;
  set = subst (λ (p : Platforms). IsDefaultText p profile.rules profile.chain a.text) (sym (same_platforms inputs other agree.host agree.target)) a.set;
  read = a.read;
}

-- a script that one test needs, where the same is asked on the same platforms
needs_across : (cx : Context) (inputs other : Inputs) (test : Test) (id : List ℕ) → (it : NeedsScript cx inputs test id) → IsAsked cx other it.profile it.default → platforms_of inputs ≡ platforms_of other
    → NeedsScript cx other test id
needs_across cx inputs other test id it asked same = record {
  profile = it.profile;
  default = it.default;
  asked = asked;
  rule = it.rule;
  of_profile = it.of_profile;
  names = it.names;
  holds = subst (λ (p : Platforms). ScriptRuleHolds cx p it.default test it.rule) same it.holds;
}

pub isolates_scripts : IsolatesScripts
isolates_scripts cx inputs other one second tests id agree a b =
    let same = same_platforms inputs other agree.host agree.target in (
      (λ (test, among, it).
          (test, among, needs_across cx other inputs test id it (asked_here cx inputs other a.profile it.profile it.default agree a.chosen it.asked) same)),
      (λ (test, among, it).
          (test, among, needs_across cx inputs other test id it (asked_there cx inputs other it.profile b.profile it.default agree it.asked b.chosen) (sym same))),
    )
