-- A profile on platforms, as clauses see it, and its report in JUnit's form.
use Rattle.std.specs.Prelude.{◌≡◌, ℕ, Bool, List, [], ◌∷◌, Option, Some, None, map}
use Rattle.nextest_config_elements_values.specs.declared.junit.JunitConfig.{JunitConfig}
use Rattle.nextest_config_resolution_overrides.specs.declared.groups.NamedGroup.{NamedGroup}
use Rattle.nextest_config_resolution_profiles.specs.Early.{Early}
use Rattle.nextest_config_resolution_profiles.specs.Platforms.{IsChosenDefault, OverrideOn, ScriptRuleOn, on_platforms}
use Rattle.nextest_config_resolution_scripts.specs.declared.script_config.ScriptConfig.{ScriptConfig}
use Rattle.nextest_config_resolution_settings.specs.Layers.{in_own, in_report}
use Rattle.nextest_config_resolution_keys.specs.Junit as junit_key
use Rattle.nextest_config_resolution_settings.specs.Nearest.{SetsNone}
use Rattle.nextest_config_resolution_settings.specs.Profile.{IsSetTo, OfProfiles}
use Rattle.nextest_config_resolution_settings.specs.declared.default_filter.CompiledDefaultFilter.{CompiledDefaultFilter}
use Rattle.nextest_config_resolution_keys.specs.File.{inherits_in}
use Rattle.nextest_config_resolution_keys.specs.declared.profile_config.ProfileConfig.{ProfileConfig}
use Rattle.nextest_config_resolution_keys.specs.Own as own_key
use Rattle.nextest_config_resolution_keys.specs.Report as report_key

-- its name, the directory of its files, the profiles that it is read from, its default filter, its
-- rules in the order in which they are asked, and all groups of tests and scripts
pub record Evaluatable (F S : Type 0) : Type 0 where
  pub name : List ℕ
  pub store_dir : List ℕ
  pub chain : List ProfileConfig
  pub default_filter : CompiledDefaultFilter F
  pub rules : List (OverrideOn F S)
  pub script_rules : List (ScriptRuleOn F S)
  pub groups : List NamedGroup
  pub scripts : ScriptConfig

-- a profile, put on platforms: its rules hold there or don't, and by that its default filter is
-- chosen
pub record IsPutOn {F S Facts : Type 0} (value_on : S → Facts → Option Bool) (host target : Facts) (early : Early F S) (it : Evaluatable F S) : Type 0 where
  pub name : it.name ≡ early.name
  pub store_dir : it.store_dir ≡ early.store_dir
  pub chain : it.chain ≡ early.chain
  pub default_filter : IsChosenDefault early.default_filter it.rules it.default_filter
  pub rules : it.rules ≡ map (on_platforms value_on host target) early.rules
  pub script_rules : it.script_rules ≡ map (on_platforms value_on host target) early.script_rules
  pub groups : it.groups ≡ early.groups
  pub scripts : it.scripts ≡ early.scripts

-- the parent that the first of a chain sets
abbrev pub inherits_of : List ProfileConfig → Option (List ℕ)
inherits_of [] = None
inherits_of (profile ∷ parents) = inherits_in profile

-- a report in JUnit's form, by what a chain sets
pub record IsJunitOf (chain : List ProfileConfig) (config : JunitConfig) : Type 0 where
  pub file : IsSetTo (in_own own_key.junit_path_of) chain config.path.now
  pub title : OfProfiles (in_own own_key.junit_report_name_of) chain junit_key.junit_report_name_fallback config.report_name.now
  pub stores_success : OfProfiles (in_report report_key.junit_store_success_output_of) chain junit_key.junit_store_success_output_fallback config.store_success_output
  pub stores_failure : OfProfiles (in_report report_key.junit_store_failure_output_of) chain junit_key.junit_store_failure_output_fallback config.store_failure_output
  pub skipped : OfProfiles (in_report report_key.junit_report_skipped_of) chain junit_key.junit_report_skipped_fallback config.report_skipped
  pub flaky : OfProfiles (in_report report_key.junit_flaky_fail_status_of) chain junit_key.junit_flaky_fail_status_fallback config.flaky_fail_status

-- there is a report exactly if a profile of the chain sets its path
abbrev pub MayHaveJunit : List ProfileConfig → Option JunitConfig → Type 0
MayHaveJunit chain None = SetsNone (in_own own_key.junit_path_of) chain
MayHaveJunit chain (Some config) = IsJunitOf chain config
