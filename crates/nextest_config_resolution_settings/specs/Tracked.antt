-- Settings that are told with what is kept of where they are taken from.
use Rattle.std.specs.Prelude.{List, [], Option}
use Rattle.nextest_config_resolution_keys.specs.declared.command.CommandValues.{CommandValues}
use Rattle.nextest_config_resolution_keys.specs.declared.report.ReportValues.{ReportValues}
use Rattle.nextest_config_resolution_keys.specs.declared.test.TestValues.{TestValues}
use Rattle.nextest_config_resolution_overrides.specs.declared.rule.RuleValues.{RuleValues}
use Rattle.nextest_config_resolution_overrides.specs.declared.override_id.OverrideId.{OverrideId}
use Rattle.nextest_config_resolution_settings.specs.Layers.{Layers, in_command, in_report, in_rule, in_test}
use Rattle.nextest_config_resolution_settings.specs.Nearest.{IsSetting, Source}
use Rattle.nextest_config_resolution_settings.specs.Rules.{id_of}

-- the value of a setting over rules that hold, then profiles, then a fallback, and what is kept of
-- where it is taken from
pub record IsTracked {R P V S : Type 0} (Tells : S → Source → Type 0)
    (id_of : R → OverrideId) (by_rule : R → Option V) (by_profile : P → Option V)
    (rules : List R) (profiles : List P) (fallback : V) (it : V × S) : Type 0 where
  pub from : Source
  pub is : IsSetting id_of by_rule by_profile rules profiles fallback it.0 from
  pub kept : Tells it.1 from

-- ---- by the list that the key is of

-- a setting that overrides alone set: no profile is asked
abbrev pub IsRuleSetting : {S V : Type 0} → (S → Source → Type 0) → Layers → (RuleValues → Option V) → V → V × S → Type 0
IsRuleSetting Tells layers value_of fallback it = IsTracked Tells id_of (in_rule value_of) (in_rule value_of) layers.overrides [] fallback it

-- a setting that overrides and profiles set
abbrev pub IsCommandSetting : {S V : Type 0} → (S → Source → Type 0) → Layers → (CommandValues → Option V) → V → V × S → Type 0
IsCommandSetting Tells layers value_of fallback it =
    IsTracked Tells id_of (λ rule. value_of rule.config.command) (in_command value_of) layers.overrides layers.chain fallback it

abbrev pub IsTestSetting : {S V : Type 0} → (S → Source → Type 0) → Layers → (TestValues → Option V) → V → V × S → Type 0
IsTestSetting Tells layers value_of fallback it =
    IsTracked Tells id_of (λ rule. value_of rule.config.test) (in_test value_of) layers.overrides layers.chain fallback it

abbrev pub IsReportSetting : {S V : Type 0} → (S → Source → Type 0) → Layers → (ReportValues → Option V) → V → V × S → Type 0
IsReportSetting Tells layers value_of fallback it =
    IsTracked Tells id_of (λ rule. value_of rule.config.report) (in_report value_of) layers.overrides layers.chain fallback it
