-- What the rules of a profile name is defined.
use Rattle.std.proofs.Common.{ℕ, List, [], ◌∷◌, Bool, Option, map, sym, subst}
use Rattle.std.proofs.lemmas.List.Elements.{All-contains, All-from_recursion}
use Rattle.std.specs.List.{AllByRecursion}
use Rattle.nextest_config_resolution_load.specs.Laws.{HasGroup, HasScripts, IsFound}
use Rattle.nextest_config_resolution_load.specs.Load.{IsFilterBy, IsSpecBy, LoadedOverride, LoadedScriptRule}
use Rattle.nextest_config_resolution_load.proofs.Defining.{groups_are_defined, scripts_are_defined}
use Rattle.nextest_config_resolution_overrides.specs.declared.groups.NamedGroup.{NamedGroup}
use Rattle.nextest_config_resolution_scripts.specs.declared.script_config.ScriptConfig.{ScriptConfig}
use Rattle.nextest_config_resolution_settings.specs.Rules.{profile_of, script_profile_of}
use Rattle.nextest_config_resolution_profiles.specs.BuiltIn.{built_in_members}
use Rattle.nextest_config_resolution_profiles.specs.Early.{in_profile}
use Rattle.nextest_config_resolution_profiles.specs.Held.{placed_of}
use Rattle.nextest_config_resolution_profiles.specs.Laws.{NothingIsUndefined}
use Rattle.nextest_config_resolution_profiles.specs.Platforms.{ScriptRuleOn, on_platforms}
use Rattle.nextest_config_resolution_profiles.specs.RuleLaws.{EnabledIsDefined}
use Rattle.nextest_filtering_filters.specs.Query.{Test}
use Rattle.nextest_config_resolution_profiles.proofs.PutOn.{named_have}

pub nothing_is_undefined : {F S : Type 0} (Is : IsFilterBy F) (IsSpec : IsSpecBy S) (IsTooDeep : List ℕ → Type 0) → NothingIsUndefined Is IsSpec IsTooDeep
nothing_is_undefined {F} {S} Is IsSpec IsTooDeep features root sources config name it loaded early =
    let names = early.chained.names in
    let So : ScriptConfig → LoadedScriptRule F S → Type 0 = λ scripts rule. HasScripts scripts rule.placed.config in
    let In : List NamedGroup → LoadedOverride F S → Type 0 = λ groups rule. HasGroup groups rule.placed.config.rule.test_group in record {
      scripts = subst (AllByRecursion (So it.scripts)) (sym early.scripted)
          (named_have (in_profile script_profile_of) (So it.scripts) config.loaded.script_rules names
          (subst (λ (scripts : ScriptConfig). AllByRecursion (So scripts) config.loaded.script_rules) (sym early.defined)
          (scripts_are_defined Is IsSpec features built_in_members sources config.loaded loaded.1)));
      groups = subst (AllByRecursion (In it.groups)) (sym early.ruled)
          (named_have (in_profile profile_of) (In it.groups) config.loaded.rules names
          (subst (λ (groups : List NamedGroup). AllByRecursion (In groups) config.loaded.rules) (sym early.grouped)
          (groups_are_defined Is IsSpec features built_in_members sources config.loaded loaded.1)));
    }

-- what holds of what rules say holds of it on platforms
said_on : {F S Facts : Type 0} (So : LoadedScriptRule F S → Type 0) (value_on : S → Facts → Option Bool) (host target : Facts) (rules : List (LoadedScriptRule F S))
    → AllByRecursion So rules → AllByRecursion (λ (it : ScriptRuleOn F S). So it.rule) (map (on_platforms value_on host target) rules)
said_on So value_on host target [] all = tt
said_on So value_on host target (rule ∷ rules) all = (all.0, said_on So value_on host target rules all.1)

pub enabled_is_defined : {F S Facts : Type 0} (Is : IsFilterBy F) (IsSpec : IsSpecBy S) (IsTooDeep : List ℕ → Type 0) (value_on : S → Facts → Option Bool) (OnTest : F → F → Test → Bool → Type 0)
    → EnabledIsDefined Is IsSpec IsTooDeep value_on OnTest
enabled_is_defined {F} {S} Is IsSpec IsTooDeep value_on OnTest features root sources config name early host target profile tests id loaded is_early put enabled =
    let defined = (nothing_is_undefined Is IsSpec IsTooDeep features root sources config name early loaded is_early).scripts in
    let on = said_on (λ (rule : LoadedScriptRule F S). HasScripts early.scripts rule.placed.config) value_on host target early.script_rules defined in
    let of_rules = subst (λ (rules : List (ScriptRuleOn F S)). AllByRecursion (λ (it : ScriptRuleOn F S). HasScripts early.scripts (placed_of it).config) rules) (sym put.script_rules) on in
    let of_rule = All-contains (λ (it : ScriptRuleOn F S). HasScripts early.scripts (placed_of it).config) profile.script_rules enabled.rule
    (All-from_recursion (λ (it : ScriptRuleOn F S). HasScripts early.scripts (placed_of it).config) profile.script_rules of_rules) enabled.of_profile in
    subst (λ (scripts : ScriptConfig). IsFound scripts.setup id) (sym put.scripts)
    (All-contains (IsFound early.scripts.setup) (placed_of enabled.rule).config.setup id
    (All-from_recursion (IsFound early.scripts.setup) (placed_of enabled.rule).config.setup of_rule.setup) enabled.names)
