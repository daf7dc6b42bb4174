-- Setup scripts that are enabled: more tests enable no fewer, and each is a defined one.
use Rattle.std.proofs.Common.{List, [], ◌∷◌, map, subst}
use Rattle.std.specs.List.{AllByRecursion, Contains}
use Rattle.nextest_config_resolution_load.specs.Checks.{script_rules_downward}
use Rattle.nextest_config_resolution_load.specs.Laws.{HasScripts, IsFound}
use Rattle.nextest_config_resolution_load.specs.Load.{LoadedScriptRule}
use Rattle.nextest_config_resolution_load.specs.Rules.{script_conditions_of}
use Rattle.nextest_config_resolution_load.proofs.Defining.{scripts_are_defined}
use Rattle.nextest_config_resolution_profiles.proofs.PutOn.{named_have}
use Rattle.nextest_config_resolution_scripts.specs.declared.script_config.ScriptConfig.{ScriptConfig}
use Rattle.nextest_config_resolution_scripts.specs.declared.script_rule.PlacedScriptRule.{PlacedScriptRule}
use Rattle.nextest_config_resolution_settings.specs.Rules.{script_profile_of}
use Rattle.nextest_filtering_compiling.specs.declared.filterset.Filterset.{Filterset}
use Rattle.test_runner_core_platforms.specs.declared.platform_spec.PlatformSpec.{PlatformSpec}
use Rattle.test_runner_core_settings.specs.Laws.{EnabledIsDefined, MoreEnableNoFewer}
use Rattle.test_runner_core_settings.specs.Pass.{features_of}
use Rattle.test_runner_core_settings.specs.Sets.{IsFilter, IsPlatformSpec}
use Rattle.test_runner_core_settings.proofs.Mapped.{contained_has}
use Rattle.test_runner_core_settings.proofs.Profile.{placed_all}

pub more_enable_no_fewer : MoreEnableNoFewer
more_enable_no_fewer cx inputs some more id among (test, has, it) = (test, among test has, it)

-- what rules say has its scripts
placed_have : (scripts : ScriptConfig) (loaded : List (LoadedScriptRule Filterset PlatformSpec)) → AllByRecursion (λ (rule : LoadedScriptRule Filterset PlatformSpec). HasScripts scripts rule.placed.config) loaded
    → AllByRecursion (λ (rule : PlacedScriptRule). HasScripts scripts rule.config) (map (λ (rule : LoadedScriptRule Filterset PlatformSpec). rule.placed) loaded)
placed_have scripts [] each = tt
placed_have scripts (rule ∷ loaded) each = (each.0, placed_have scripts loaded each.1)

pub enabled_is_defined : EnabledIsDefined
enabled_is_defined cx inputs config tests id reads (test, among, it) =
    let Has : PlacedScriptRule → Type 0 = λ rule. HasScripts config.loaded.scripts rule.config in
    let chosen = it.asked.chosen in
    let all = placed_have config.loaded.scripts config.loaded.script_rules (scripts_are_defined (IsFilter cx) IsPlatformSpec (features_of inputs) _ inputs.sources config.loaded reads.1) in
    let down = subst (AllByRecursion Has) (placed_all script_conditions_of script_profile_of cx (script_rules_downward inputs.sources) config.loaded.script_rules reads.1.script_rules) all in
    let own = named_have script_profile_of Has (script_rules_downward inputs.sources) chosen.chained.names down in
    let of = subst (λ (rules : List PlacedScriptRule). Contains rules it.rule) chosen.scripted it.of_profile in
    contained_has (IsFound config.loaded.scripts.setup) it.rule.config.setup id (contained_has Has _ it.rule own of).setup it.names
