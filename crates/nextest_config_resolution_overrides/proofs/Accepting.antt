-- Which tables are overrides.
use Rattle.std.proofs.Common.{◌≡◌, ◌↔◌, Ok, refl}
use Rattle.toml.specs.Data.{Members}
use Rattle.nextest_config_resolution_keys.specs.Command.{command_made, command_read}
use Rattle.nextest_config_resolution_keys.specs.Report.{report_made, report_read}
use Rattle.nextest_config_resolution_keys.specs.Test.{test_made, test_read}
use Rattle.nextest_config_resolution_overrides.specs.Overrides.{IsOverride, override_in, override_read}
use Rattle.nextest_config_resolution_overrides.specs.RuleKeys.{rule_made, rule_read}
use Rattle.nextest_config_resolution_overrides.specs.declared.override_config.OverrideConfig.{OverrideConfig}

override_parts : (given : Members) (it : OverrideConfig) → override_in given ≡ Ok it → IsOverride given it
override_parts given it is = let read = override_read given it is in record {
  rule = rule_read given it.rule read.rule;
  command = command_read given it.command read.command;
  test = test_read given it.test read.test;
  report = report_read given it.report read.report;
}

override_made : (given : Members) (it : OverrideConfig) → IsOverride given it → override_in given ≡ Ok it
unfolding override_in
override_made given it is =
    rw (rule_made given it.rule is.rule, command_made given it.command is.command, test_made given it.test is.test, report_made given it.report is.report) refl

pub accepted_override : (given : Members) (it : OverrideConfig) → (override_in given ≡ Ok it) ↔ IsOverride given it
accepted_override given it = (override_parts given it, override_made given it)
