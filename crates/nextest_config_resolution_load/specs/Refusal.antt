-- Why sources are refused, and what can be checked of them.
use Rattle.std.specs.Prelude.{ℕ, Bool, true, false, List, [], ◌∷◌}
use Rattle.nextest_config_elements_toml.specs.Reading.{Path}
use Rattle.nextest_config_resolution_inheritance.specs.Inheritance.{Parents}
use Rattle.nextest_config_resolution_inheritance.specs.declared.inheritance_fault.InheritanceFault.{InheritanceFault}
use Rattle.nextest_config_resolution_load.specs.declared.languages.FilterPurpose.{FilterPurpose}
use Rattle.nextest_config_resolution_load.specs.declared.load_fault.PlatformSide.{PlatformSide}
use Rattle.nextest_config_elements_versions.specs.declared.feature.ConfigExperimental.{ConfigExperimental}
use Rattle.nextest_config_resolution_load.specs.declared.rule_id.RuleId.{RuleId}
use Rattle.nextest_config_resolution_overrides.specs.declared.override_id.OverrideId.{OverrideId}
use Rattle.nextest_config_resolution_scripts.specs.declared.script_rule.ScriptRuleId.{ScriptRuleId}

-- why sources are refused: what is broken, by the path of a file, by keys, by a feature, by a rule,
-- or by the name of a profile, a group or a script
pub data Refusal : Type 0 where
  unread : List ℕ → Refusal
  no_toml : List ℕ → Refusal
  bad_value : List ℕ → Path → Refusal
  both_script_tables : List ℕ → Refusal
  feature_not_enabled : List ℕ → ConfigExperimental → Refusal
  bad_name : List ℕ → List ℕ → Refusal
  repeated_script : List ℕ → List ℕ → Refusal
  no_constraint : RuleId → Refusal
  filter_and_default_filter : RuleId → Refusal
  bad_spec : RuleId → PlatformSide → Refusal
  bad_rule_filter : RuleId → FilterPurpose → Refusal
  bad_merged : Path → Refusal
  unknown_group : OverrideId → List ℕ → Refusal
  unknown_script : ScriptRuleId → List ℕ → Refusal
  unknown_wrapper : ScriptRuleId → List ℕ → Refusal
  inherits_badly : InheritanceFault → Refusal
  bad_filter : List ℕ → Refusal

-- a check, with the refusal where it is broken: one that the files alone break; that a text is a
-- filter, or a platform spec; that profiles inherit as they may, which has a refusal of its own
pub data Check : Type 0 where
  broken : Refusal → Check
  is_filter : FilterPurpose → List ℕ → Refusal → Check
  is_spec : List ℕ → Refusal → Check
  inheritance : Parents → Check

-- where this doesn't hold, that is broken
abbrev pub must_hold : Bool → Refusal → List Check
must_hold true refusal = []
must_hold false refusal = broken refusal ∷ []
