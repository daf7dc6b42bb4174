use Rattle.nextest_config_resolution_profiles.specs.Languages.{IsFilterIn}
use Rattle.nextest_config_resolution_profiles.proofs.RulesRead.{rules_are_read, script_rules_are_read}
use Rattle.nextest_config_resolution_profiles.proofs.laws.rules_are_read.Goals as goal

pub returns-clause-overrides : goal.returns-clause-overrides
returns-clause-overrides g c = λ cx. rules_are_read (IsFilterIn g.F.Filters.is_parsed g.F.Filters.has_runtime_leaves cx) g.S.Specs.is_parsed g.F.Filters.is_too_deep

pub returns-clause-scripts : goal.returns-clause-scripts
returns-clause-scripts g c = λ cx. script_rules_are_read (IsFilterIn g.F.Filters.is_parsed g.F.Filters.has_runtime_leaves cx) g.S.Specs.is_parsed g.F.Filters.is_too_deep
