-- Profiles on platforms that no call tells apart, and which are such.
use Rattle.std.specs.Prelude.{◌≡◌, ◌↔◌, ℕ, Bool, List, Option, Ok}
use Rattle.nextest_config_elements_identifiers.specs.declared.test_group.TestGroup.{TestGroup}
use Rattle.nextest_config_elements_choices.specs.declared.run_mode.NextestRunMode.{NextestRunMode}
use Rattle.nextest_config_elements_versions.specs.declared.feature.FeatureSet.{FeatureSet}
use Rattle.nextest_config_resolution_filters.specs.Filters.{AreAlike}
use Rattle.nextest_config_resolution_inheritance.specs.Inheritance.{Name}
use Rattle.nextest_config_resolution_load.specs.Load.{IsFilterBy, IsSpecBy}
use Rattle.nextest_config_resolution_profiles.specs.Agreeing.{SourcesAgree}
use Rattle.nextest_config_resolution_profiles.specs.Config.{IsConfig, IsEarly}
use Rattle.nextest_config_resolution_profiles.specs.Early.{Early}
use Rattle.nextest_config_resolution_profiles.specs.Enabled.{AreEnabled, IsListWrapper}
use Rattle.nextest_config_resolution_profiles.specs.Evaluatable.{Evaluatable, IsPutOn}
use Rattle.nextest_config_resolution_profiles.specs.Held.{AreSettingsFor, IsGroupFor}
use Rattle.nextest_config_resolution_profiles.specs.Memberships.{ArePrecomputed}
use Rattle.nextest_config_resolution_profiles.specs.Whole.{Whole}
use Rattle.nextest_config_resolution_profiles.specs.declared.memberships.PrecomputedGroupMembership.{PrecomputedGroupMembership}
use Rattle.nextest_config_resolution_scripts.specs.declared.setup_script.SetupScriptConfig.{SetupScriptConfig}
use Rattle.nextest_config_resolution_scripts.specs.declared.wrapper_script.WrapperScriptConfig.{WrapperScriptConfig}
use Rattle.nextest_config_resolution_settings.specs.Nearest.{Source}
use Rattle.nextest_config_resolution_settings.specs.declared.default_filter.CompiledDefaultFilter.{CompiledDefaultFilter}
use Rattle.nextest_config_resolution_settings.specs.declared.test_settings.TestSettings.{TestSettings}
use Rattle.nextest_config_resolution_sources.specs.declared.source.ConfigSource.{ConfigSource}
use Rattle.nextest_filtering_filters.specs.Query.{Binary, Test}

-- two default filters are set in one place, and no question tells them apart
pub record AreDefaultsAlike {F : Type 0} (Alike : F → F → Type 0) (one other : CompiledDefaultFilter F) : Type 0 where
  pub filter : Alike one.filter.now other.filter.now
  pub profile : other.profile.now ≡ one.profile.now
  pub section : other.section ≡ one.section

-- Two profiles have the same name, directory, chain, groups and scripts, and default filters that
-- are alike; and whatever is asked of tests or of binaries, what the one answers the other does.
-- The limit, the levels, the report in JUnit's form and the other settings of a profile itself
-- follow from its chain.
pub record AnswerAlike {F S T : Type 0} (OnBinary : F → F → Binary → Option Bool → Type 0) (OnTest : F → F → Test → Bool → Type 0)
    (asks_groups has_runtime_leaves serves_as_default : F → Bool) (Tells : T → Source → Type 0) (one other : Evaluatable F S) : Type 0 where
  pub name : other.name ≡ one.name
  pub store_dir : other.store_dir ≡ one.store_dir
  pub chain : other.chain ≡ one.chain
  pub default_filter : AreDefaultsAlike (AreAlike OnBinary OnTest asks_groups has_runtime_leaves serves_as_default) one.default_filter other.default_filter
  pub groups : other.groups ≡ one.groups
  pub scripts : other.scripts ≡ one.scripts
  pub settings : (mode : NextestRunMode) (test : Test) (it : TestSettings T)
      → AreSettingsFor OnTest Tells one mode test it ↔ AreSettingsFor OnTest Tells other mode test it
  pub group : (test : Test) (it : TestGroup) → IsGroupFor OnTest one test it ↔ IsGroupFor OnTest other test it
  pub memberships : (tests : List Test) (it : PrecomputedGroupMembership) → ArePrecomputed OnTest one tests it ↔ ArePrecomputed OnTest other tests it
  pub enabled : (tests : List Test) (it : List (List ℕ × SetupScriptConfig)) → AreEnabled OnTest one tests it ↔ AreEnabled OnTest other tests it
  pub list_wrapper : (binary : Binary) (it : Option WrapperScriptConfig) → IsListWrapper OnBinary one binary it ↔ IsListWrapper OnBinary other binary it

-- the profile of a name, in the configuration that sources come to, on platforms
pub record IsProfileOn {F S Facts : Type 0} (Is : IsFilterBy F) (IsSpec : IsSpecBy S) (IsTooDeep : List ℕ → Type 0) (value_on : S → Facts → Option Bool)
    (features : FeatureSet) (root : List ℕ) (sources : List ConfigSource) (name : Name) (host target : Facts) (it : Evaluatable F S) : Type 0 where
  pub config : Whole F S
  pub loaded : IsConfig Is IsSpec IsTooDeep features root sources (Ok config)
  pub early : Early F S
  pub is : IsEarly config name early
  pub put : IsPutOn value_on host target early it

-- sources that agree but in profiles outside of a profile's chain come to configurations in which
-- the profiles of its name answer alike
abbrev pub IsolatesProfiles : {F S Facts T : Type 0} → (F → F → Binary → Option Bool → Type 0) → (F → F → Test → Bool → Type 0) → (F → Bool) → (F → Bool) → (F → Bool)
    → (T → Source → Type 0) → (S → Facts → Option Bool) → IsFilterBy F → IsSpecBy S → (List ℕ → Type 0) → Type 0
IsolatesProfiles {F} {S} {Facts} {T} OnBinary OnTest asks_groups has_runtime_leaves serves_as_default Tells value_on Is IsSpec IsTooDeep =
    (features other_features : FeatureSet) (root : List ℕ) (sources others : List ConfigSource) (name : Name) (host target : Facts) (one other : Evaluatable F S)
    → (here : IsProfileOn Is IsSpec IsTooDeep value_on features root sources name host target one)
    → IsProfileOn Is IsSpec IsTooDeep value_on other_features root others name host target other
    → SourcesAgree here.is.chained.names sources others
    → AnswerAlike OnBinary OnTest asks_groups has_runtime_leaves serves_as_default Tells one other
