use Rattle.std.proofs.Common.{◌≡◌, ◌∙◌, rules}
use Rattle.std.specs.List.{count_by}
use Rattle.toml.specs.View.{view}
use Rattle.nextest_config_resolution_warnings.proofs.Rules.{empty_rules_are}
use Rattle.nextest_config_resolution_warnings.specs.Scripts.{names_no_script}
use Rattle.nextest_config_resolution_warnings.proofs.scripts.empty_rules.Goals as goal

pub returns : goal.returns
returns c =
    let rules_are = c.args.rules.now in
    let counted : c.count.result ≡ count_by (λ rule. names_no_script (view rule)) rules_are = search rules in
    counted ∙ empty_rules_are rules_are
