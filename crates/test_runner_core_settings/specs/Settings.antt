-- What the rules and the chain of a profile set for a run and for its tests.
use Rattle.std.specs.Prelude.{◌≡◌, List}
use Rattle.std.specs.Option.{option_copied}
use Rattle.nextest_config_elements_choices.specs.declared.run_mode.NextestRunMode.{NextestRunMode}
use Rattle.nextest_config_resolution_overrides.specs.declared.placed_override.PlacedOverride.{PlacedOverride}
use Rattle.nextest_config_resolution_scripts.specs.declared.script_rule.PlacedScriptRule.{PlacedScriptRule}
use Rattle.nextest_config_resolution_settings.specs.Layers.{in_own}
use Rattle.nextest_config_resolution_keys.specs.Output as output_key
use Rattle.nextest_config_resolution_keys.specs.Run as run_key
use Rattle.nextest_config_resolution_settings.specs.Layers.{Layers}
use Rattle.nextest_config_resolution_settings.specs.Profile.{OfProfiles}
use Rattle.nextest_config_resolution_settings.specs.Rules.{AreHeld}
use Rattle.nextest_config_resolution_settings.specs.TestSettings.{AreSettings, group_of}
use Rattle.nextest_config_resolution_settings.specs.Tracking.{TellsNothing}
use Rattle.nextest_config_resolution_settings.specs.declared.test_settings.TestSettings.{TestSettings}
use Rattle.nextest_config_resolution_keys.specs.declared.profile_config.ProfileConfig.{ProfileConfig}
use Rattle.nextest_config_resolution_keys.specs.Own as own_key
use Rattle.nextest_filtering_compiling.specs.Context.{Context}
use Rattle.nextest_filtering_filters.specs.Query.{Test}
use Rattle.nextest_filtering_ast.specs.Tree.{Tree}
use Rattle.test_runner_core_plan.specs.declared.plan_settings.PlanSettings.{PlanSettings}
use Rattle.test_runner_core_settings.specs.Chosen.{Chosen, layers_of}
use Rattle.test_runner_core_settings.specs.Holding.{IsDefaultText, RuleHolds, ScriptRuleHolds}
use Rattle.test_runner_core_settings.specs.Platforms.{Platforms}
use Rattle.test_runner_core_settings.specs.declared.configured.RunSettings.{RunSettings}

-- settings of a test that were lent
abbrev pub owned_of : TestSettings (Unit {0}) → PlanSettings
owned_of it = record {
  priority = it.priority.0;
  threads_required = it.threads_required.0;
  run_wrapper = option_copied it.run_wrapper.0;
  run_extra_args = it.run_extra_args.0.now;
  retries = it.retries.0;
  flaky_result = it.flaky_result.0;
  fail_weight = it.fail_weight.0;
  slow_timeout = it.slow_timeout.0;
  leak_timeout = it.leak_timeout.0;
  test_group = group_of it.test_group.0;
  success_output = it.success_output.0;
  failure_output = it.failure_output.0;
  junit_store_success_output = it.junit_store_success_output.0;
  junit_store_failure_output = it.junit_store_failure_output.0;
  junit_report_skipped = it.junit_report_skipped.0;
  junit_flaky_fail_status = it.junit_flaky_fail_status.0;
}

-- each setting is what these layers have
pub record AreOwned (mode : NextestRunMode) (layers : Layers) (it : PlanSettings) : Type 0 where
  pub lent : TestSettings (Unit {0})
  pub each : AreSettings TellsNothing mode layers lent
  pub owned : it ≡ owned_of lent

-- the settings of a test, by the rules of a profile that hold on it, beside a default filter, and
-- by its chain
pub record AreOfTest (cx : Context) (platforms : Platforms) (mode : NextestRunMode) (profile : Chosen) (default : Tree) (test : Test) (it : PlanSettings) : Type 0 where
  pub held : List PlacedOverride
  pub are : AreHeld (RuleHolds cx platforms default test) profile.rules held
  pub scripts : List PlacedScriptRule
  pub scripts_are : AreHeld (ScriptRuleHolds cx platforms default test) profile.script_rules scripts
  pub settings : AreOwned mode (layers_of profile held scripts) it

-- at which weight failing tests stop a run, and what is shown of it, is what the chain has
pub record IsOfChain (chain : List ProfileConfig) (it : RunSettings) : Type 0 where
  pub max_fail : OfProfiles (in_own own_key.fail_fast_of) chain run_key.fail_fast_fallback it.max_fail
  pub status_level : OfProfiles (in_own own_key.status_level_of) chain output_key.status_level_fallback it.levels.status_level
  pub final_status_level : OfProfiles (in_own own_key.final_status_level_of) chain output_key.final_status_level_fallback it.levels.final_status_level

-- what a profile sets for a run
pub record AreOfRun (platforms : Platforms) (profile : Chosen) (it : RunSettings) : Type 0 where
  pub default_filter : IsDefaultText platforms profile.rules profile.chain it.default_filter
  pub limits : IsOfChain profile.chain it
