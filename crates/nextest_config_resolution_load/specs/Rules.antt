-- The rules of files, overrides and script rules, and what is checked of each.
use Rattle.std.specs.Prelude.{ℕ, Bool, true, false, not, ◌&&◌, ◌||◌, List, [], ◌++◌, map, Option, None, Some, is_some, option_and_then, option_map, option_to_list}
use Rattle.std.specs.List.{enumerate_from, flat_map, list_any}
use Rattle.std.specs.Str.{bytes_eq}
use Rattle.nextest_config_elements_identifiers.specs.declared.test_group.TestGroup.{TestGroup}
use Rattle.nextest_config_elements_identifiers.specs.declared.test_group.TestGroup.TheVariants as group
use Rattle.nextest_config_resolution_load.specs.Refusal.{Check, is_filter, is_spec, bad_rule_filter, bad_spec, filter_and_default_filter, must_hold, no_constraint, unknown_group, unknown_script, unknown_wrapper}
use Rattle.nextest_config_resolution_load.specs.declared.file_config.ProfileRules.{ProfileRules}
use Rattle.nextest_config_resolution_load.specs.declared.languages.FilterPurpose.{FilterPurpose}
use Rattle.nextest_config_resolution_load.specs.declared.languages.FilterPurpose.TheVariants as purpose
use Rattle.nextest_config_resolution_load.specs.declared.load_fault.PlatformSide.{PlatformSide}
use Rattle.nextest_config_resolution_load.specs.declared.load_fault.PlatformSide.TheVariants as side
use Rattle.nextest_config_resolution_load.specs.declared.rule_id.RuleId.{RuleId}
use Rattle.nextest_config_resolution_load.specs.declared.rule_id.RuleId.TheVariants as rule_of
use Rattle.nextest_config_resolution_overrides.specs.declared.groups.NamedGroup.{NamedGroup}
use Rattle.nextest_config_resolution_overrides.specs.declared.override_config.OverrideConfig.{OverrideConfig}
use Rattle.nextest_config_resolution_overrides.specs.declared.override_id.OverrideId.{OverrideId}
use Rattle.nextest_config_resolution_overrides.specs.declared.placed_override.PlacedOverride.{PlacedOverride}
use Rattle.nextest_config_resolution_overrides.specs.declared.platforms.OverridePlatforms.{OverridePlatforms}
use Rattle.nextest_config_resolution_scripts.specs.declared.script_config.NamedScript.{NamedScript}
use Rattle.nextest_config_resolution_scripts.specs.declared.script_config.ScriptType.{ScriptType}
use Rattle.nextest_config_resolution_scripts.specs.declared.script_config.ScriptType.TheVariants as kind
use Rattle.nextest_config_resolution_scripts.specs.declared.script_rule.PlacedScriptRule.{PlacedScriptRule}
use Rattle.nextest_config_resolution_scripts.specs.declared.script_rule.ScriptRuleConfig.{ScriptRuleConfig}
use Rattle.nextest_config_resolution_scripts.specs.declared.script_rule.ScriptRuleId.{ScriptRuleId}

-- an override of a profile in the file at a path, with where it is written
abbrev pub placed_at : List ℕ → List ℕ → ℕ × OverrideConfig → PlacedOverride
placed_at path profile it = record { id = record { file = path; profile = profile; index = it.0 }; config = it.1 }

-- those of a profile, and of all profiles of the file, by the names of the profiles
abbrev pub placed_in : List ℕ → ProfileRules → List PlacedOverride
placed_in path it = map (placed_at path it.profile) (enumerate_from 0 it.overrides)

abbrev pub rules_at : List ℕ → List ProfileRules → List PlacedOverride
rules_at path profiles = flat_map (placed_in path) profiles

-- the script rules, likewise
abbrev pub script_placed_at : List ℕ → List ℕ → ℕ × ScriptRuleConfig → PlacedScriptRule
script_placed_at path profile it = record { id = record { file = path; profile = profile; index = it.0 }; config = it.1 }

abbrev pub script_placed_in : List ℕ → ProfileRules → List PlacedScriptRule
script_placed_in path it = map (script_placed_at path it.profile) (enumerate_from 0 it.scripts)

abbrev pub script_rules_at : List ℕ → List ProfileRules → List PlacedScriptRule
script_rules_at path profiles = flat_map (script_placed_in path) profiles

-- ---- where rules hold

-- the texts that say on which platforms and tests a rule holds, and which tests are run by default
pub record Conditions : Type 0 where
  pub host : Option (List ℕ)
  pub target : Option (List ℕ)
  pub filter : Option (List ℕ)
  pub default_filter : Option (List ℕ)

-- the specs of the platforms on which a rule holds
abbrev pub host_in : Option OverridePlatforms → Option (List ℕ)
host_in platform = option_and_then (λ platforms. platforms.host) platform

abbrev pub target_in : Option OverridePlatforms → Option (List ℕ)
target_in platform = option_and_then (λ platforms. platforms.target) platform

abbrev pub host_of : OverrideConfig → Option (List ℕ)
host_of config = host_in config.rule.platform

abbrev pub target_of : OverrideConfig → Option (List ℕ)
target_of config = target_in config.rule.platform

-- those of an override, and of a script rule, which has no default filter
abbrev pub conditions_of : PlacedOverride → Conditions
conditions_of rule = record {
  host = host_of rule.config;
  target = target_of rule.config;
  filter = rule.config.rule.filter;
  default_filter = rule.config.command.default_filter;
}

abbrev pub script_conditions_of : PlacedScriptRule → Conditions
script_conditions_of rule = record {
  host = host_in rule.config.platform;
  target = target_in rule.config.platform;
  filter = rule.config.filter;
  default_filter = None;
}

-- ---- what is checked of a rule

-- it says on which platforms or tests it holds
abbrev pub is_constrained : Conditions → Bool
is_constrained it = (is_some it.host || is_some it.target) || is_some it.filter

abbrev pub constraint_checks : RuleId → Conditions → List Check
constraint_checks id it = must_hold (is_constrained it) (no_constraint id)

-- one with a default filter has no filter of its own
abbrev pub sets_both : Conditions → Bool
sets_both it = is_some it.filter && is_some it.default_filter

abbrev pub both_checks : RuleId → Conditions → List Check
both_checks id it = must_hold (not (sets_both it)) (filter_and_default_filter id)

-- a spec that it has is one
abbrev pub spec_checks : RuleId → PlatformSide → Option (List ℕ) → List Check
spec_checks id of_side text = option_to_list (option_map (λ it. is_spec it (bad_spec id of_side)) text)

-- a filter that it has is one
abbrev pub filter_checks : RuleId → FilterPurpose → Option (List ℕ) → List Check
filter_checks id of_purpose text = option_to_list (option_map (λ it. is_filter of_purpose it (bad_rule_filter id of_purpose)) text)

-- the filter of a rule with `list-wrapper`, which is asked of binaries, asks nothing that only
-- tests tell
abbrev pub listing_checks : Bool → RuleId → Option (List ℕ) → List Check
listing_checks true id text = filter_checks id purpose.ListWrapper text
listing_checks false id text = []

-- all of these, in this order
abbrev pub text_checks : Bool → RuleId → Conditions → List Check
text_checks wraps id it =
    spec_checks id side.Host it.host
    ++ (spec_checks id side.Target it.target
    ++ (filter_checks id purpose.Override it.filter
    ++ (filter_checks id purpose.Default it.default_filter
    ++ listing_checks wraps id it.filter)))

abbrev pub condition_checks : Bool → RuleId → Conditions → List Check
condition_checks wraps id it = constraint_checks id it ++ (both_checks id it ++ text_checks wraps id it)

abbrev pub rule_checks : PlacedOverride → List Check
rule_checks rule = condition_checks false (rule_of.Override rule.id) (conditions_of rule)

abbrev pub wraps_lists : PlacedScriptRule → Bool
wraps_lists rule = is_some rule.config.list_wrapper

abbrev pub script_rule_checks : PlacedScriptRule → List Check
script_rule_checks rule = condition_checks (wraps_lists rule) (rule_of.Script rule.id) (script_conditions_of rule)

-- of each profile of a file: its overrides, and then its script rules
abbrev pub profile_checks : List ℕ → ProfileRules → List Check
profile_checks path it = flat_map rule_checks (placed_in path it) ++ flat_map script_rule_checks (script_placed_in path it)

-- ---- what rules name is defined

-- the group that an override puts tests into
abbrev pub is_defined : List NamedGroup → List ℕ → Bool
is_defined groups name = list_any (λ it. bytes_eq name it.name) groups

abbrev pub group_checks_of : (List ℕ → Bool) → OverrideId → Option TestGroup → List Check
group_checks_of is_known id None = []
group_checks_of is_known id (Some group.Global) = []
group_checks_of is_known id (Some (group.Custom name)) = must_hold (is_known name) (unknown_group id name)

abbrev pub group_checks : (List ℕ → Bool) → PlacedOverride → List Check
group_checks is_known rule = group_checks_of is_known rule.id rule.config.rule.test_group

-- a script is defined
abbrev pub has_script : {A : Type 0} → List (NamedScript A) → List ℕ → Bool
has_script scripts id = list_any (λ it. bytes_eq id it.id) scripts

-- the setup scripts that a script rule names
abbrev pub setup_check : (List ℕ → Bool) → ScriptRuleId → List ℕ → List Check
setup_check is_known rule id = must_hold (is_known id) (unknown_script rule id)

abbrev pub setup_checks : (List ℕ → Bool) → PlacedScriptRule → List Check
setup_checks is_known rule = flat_map (setup_check is_known rule.id) rule.config.setup

-- and its wrapper scripts
abbrev pub wrapper_check : (List ℕ → Bool) → ScriptRuleId → Option (List ℕ) → List Check
wrapper_check is_known rule None = []
wrapper_check is_known rule (Some id) = must_hold (is_known id) (unknown_wrapper rule id)

abbrev pub wrapper_checks : (List ℕ → Bool) → PlacedScriptRule → List Check
wrapper_checks is_known rule = wrapper_check is_known rule.id rule.config.list_wrapper ++ wrapper_check is_known rule.id rule.config.run_wrapper

-- its scripts of one kind
abbrev pub script_checks : ScriptType → (List ℕ → Bool) → PlacedScriptRule → List Check
script_checks kind.Setup is_known rule = setup_checks is_known rule
script_checks kind.Wrapper is_known rule = wrapper_checks is_known rule
