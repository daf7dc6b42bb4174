-- What the laws say of rules.
use Rattle.std.specs.Prelude.{◌≡◌, ℕ, ◌≤◌, Bool, List, [], length, Option, Ok, Contains}
use Rattle.nextest_config_elements_identifiers.specs.declared.test_group.TestGroup.{TestGroup}
use Rattle.nextest_config_elements_choices.specs.declared.run_mode.NextestRunMode.{NextestRunMode}
use Rattle.nextest_config_resolution_load.specs.Laws.{IsFound}
use Rattle.nextest_config_resolution_load.specs.Load.{IsFilterBy, IsSpecBy}
use Rattle.nextest_config_resolution_profiles.specs.Config.{IsConfig, IsEarly}
use Rattle.nextest_config_resolution_profiles.specs.Early.{Early}
use Rattle.nextest_config_resolution_profiles.specs.Evaluatable.{Evaluatable, IsPutOn}
use Rattle.nextest_config_resolution_profiles.specs.Enabled.{IsEnabled}
use Rattle.nextest_config_resolution_profiles.specs.Held.{AreHeldOn, AreScriptsHeldOn, AreSettingsFor, IsGroupFor, layers_of}
use Rattle.nextest_config_resolution_profiles.specs.HeldRules.{row_number}
use Rattle.nextest_config_resolution_profiles.specs.Platforms.{ForTarget, IsChosenDefault, OverrideOn, ScriptRuleOn, default_set}
use Rattle.nextest_config_resolution_settings.specs.Nearest.{Source}
use Rattle.nextest_config_resolution_settings.specs.Rules.{NoneHoldsAndSets}
use Rattle.nextest_config_resolution_settings.specs.TestSettings.{AreSame, AreSettings, HaveSameSources, group_of}
use Rattle.nextest_config_resolution_settings.specs.declared.default_filter.CompiledDefaultFilter.{CompiledDefaultFilter}
use Rattle.nextest_config_resolution_settings.specs.declared.test_settings.TestSettings.{TestSettings}
use Rattle.nextest_config_resolution_profiles.specs.Whole.{Whole}
use Rattle.nextest_config_resolution_sources.specs.declared.source.ConfigSource.{ConfigSource}
use Rattle.nextest_filtering_filters.specs.Query.{Test}
use Rattle.nextest_config_elements_versions.specs.declared.feature.FeatureSet.{FeatureSet}

-- where no rule holds for the target and sets a default filter, it is that of the profiles
abbrev pub EarlyDefault : Type 0 → Type 0 → Type 0
EarlyDefault F S = (early it : CompiledDefaultFilter F) (rules : List (OverrideOn F S))
    → NoneHoldsAndSets ForTarget default_set rules → IsChosenDefault early rules it → it ≡ early

-- the overrides that hold on a test are one list, and so are the script rules
abbrev pub OneHeld : {F : Type 0} → (F → F → Test → Bool → Type 0) → Type 0 → Type 0
OneHeld {F} OnTest S = (profile : Evaluatable F S) (test : Test) (one other : List (OverrideOn F S))
    → AreHeldOn OnTest profile test one → AreHeldOn OnTest profile test other → one ≡ other

abbrev pub OneScriptsHeld : {F : Type 0} → (F → F → Test → Bool → Type 0) → Type 0 → Type 0
OneScriptsHeld {F} OnTest S = (profile : Evaluatable F S) (test : Test) (one other : List (ScriptRuleOn F S))
    → AreScriptsHeldOn OnTest profile test one → AreScriptsHeldOn OnTest profile test other → one ≡ other

-- a test has the same settings, whatever is kept of where they are taken from
abbrev pub SameSettingsFor : {F T U : Type 0} → (F → F → Test → Bool → Type 0) → Type 0 → (T → Source → Type 0) → (U → Source → Type 0) → Type 0
SameSettingsFor {F} {T} {U} OnTest S Tells Also = (profile : Evaluatable F S) (mode : NextestRunMode) (test : Test) (one : TestSettings T) (other : TestSettings U)
    → AreSettingsFor OnTest Tells profile mode test one → AreSettingsFor OnTest Also profile mode test other → AreSame one other

-- and each is taken from one place
abbrev pub SameSourcesFor : {F T : Type 0} → (F → F → Test → Bool → Type 0) → Type 0 → (T → Source → Type 0) → Type 0
SameSourcesFor {F} {T} OnTest S Tells = (profile : Evaluatable F S) (mode : NextestRunMode) (test : Test) (one other : TestSettings T)
    → AreSettingsFor OnTest Tells profile mode test one → AreSettingsFor OnTest Tells profile mode test other → HaveSameSources Tells one other

-- the group of a test is the one that its settings have
abbrev pub GroupOfSettings : {F T : Type 0} → (F → F → Test → Bool → Type 0) → Type 0 → (T → Source → Type 0) → Type 0
GroupOfSettings {F} {T} OnTest S Tells = (profile : Evaluatable F S) (mode : NextestRunMode) (test : Test) (settings : TestSettings T) (group : TestGroup)
    → AreSettingsFor OnTest Tells profile mode test settings → IsGroupFor OnTest profile test group → group_of settings.test_group.0 ≡ group

-- a profile without rules has the settings of its chain
abbrev pub NoRules : {F T : Type 0} → (F → F → Test → Bool → Type 0) → Type 0 → (T → Source → Type 0) → Type 0
NoRules {F} {T} OnTest S Tells = (profile : Evaluatable F S) (mode : NextestRunMode) (test : Test) (settings : TestSettings T) → profile.rules ≡ [] → profile.script_rules ≡ []
    → AreSettingsFor OnTest Tells profile mode test settings → AreSettings Tells mode (layers_of profile [] []) settings

-- more tests enable no fewer scripts
abbrev pub MoreEnableNoFewer : {F : Type 0} → (F → F → Test → Bool → Type 0) → Type 0 → Type 0
MoreEnableNoFewer {F} OnTest S = (profile : Evaluatable F S) (some more : List Test) (id : List ℕ)
    → ((test : Test) → Contains some test → Contains more test) → IsEnabled OnTest profile some id → IsEnabled OnTest profile more id

-- an enabled setup script is a defined one, by each profile of a configuration and on each platforms
abbrev pub EnabledIsDefined : {F S Facts : Type 0} → IsFilterBy F → IsSpecBy S → (List ℕ → Type 0) → (S → Facts → Option Bool) → (F → F → Test → Bool → Type 0) → Type 0
EnabledIsDefined {F} {S} {Facts} Is IsSpec IsTooDeep value_on OnTest =
    (features : FeatureSet) (root : List ℕ) (sources : List ConfigSource) (config : Whole F S) (name : List ℕ) (early : Early F S) (host target : Facts) (profile : Evaluatable F S) (tests : List Test) (id : List ℕ)
    → IsConfig Is IsSpec IsTooDeep features root sources (Ok config) → IsEarly config name early → IsPutOn value_on host target early profile
    → IsEnabled OnTest profile tests id → IsFound profile.scripts.setup id

-- each test has settings, by each profile of a configuration and on each platforms, and so it has a
-- group
abbrev pub SomeSettingsFor : {F S Facts T : Type 0} → IsFilterBy F → IsSpecBy S → (List ℕ → Type 0) → (S → Facts → Option Bool) → (F → F → Test → Bool → Type 0) → (T → Source → Type 0) → Type 0
SomeSettingsFor {F} {S} {Facts} {T} Is IsSpec IsTooDeep value_on OnTest Tells =
    (features : FeatureSet) (root : List ℕ) (sources : List ConfigSource) (config : Whole F S) (name : List ℕ) (early : Early F S) (host target : Facts) (profile : Evaluatable F S) (mode : NextestRunMode) (test : Test)
    → IsConfig Is IsSpec IsTooDeep features root sources (Ok config) → IsEarly config name early → IsPutOn value_on host target early profile
    → (it : TestSettings T) × AreSettingsFor OnTest Tells profile mode test it

abbrev pub SomeGroupFor : {F S Facts : Type 0} → IsFilterBy F → IsSpecBy S → (List ℕ → Type 0) → (S → Facts → Option Bool) → (F → F → Test → Bool → Type 0) → Type 0
SomeGroupFor {F} {S} {Facts} Is IsSpec IsTooDeep value_on OnTest =
    (features : FeatureSet) (root : List ℕ) (sources : List ConfigSource) (config : Whole F S) (name : List ℕ) (early : Early F S) (host target : Facts) (profile : Evaluatable F S) (test : Test)
    → IsConfig Is IsSpec IsTooDeep features root sources (Ok config) → IsEarly config name early → IsPutOn value_on host target early profile
    → (group : TestGroup) × IsGroupFor OnTest profile test group

-- rows of as many rules, at most 64, are one where their numbers are
abbrev pub NumberedRows : Type 0
NumberedRows = (row other : List Bool) → length row ≡ length other → length row ≤ 64 → row_number row ≡ row_number other → row ≡ other
