-- What is checked of a rule, whichever kind it is of.
use Rattle.std.specs.Prelude.{Bool, List, option_copied}
use Rattle.nextest_config_resolution_load.specs.Refusal.{Check}
use Rattle.nextest_config_resolution_load.specs.Rules.{Conditions, condition_checks}
use Rattle.nextest_config_resolution_load.specs.declared.placed_rule.RuleTexts.{RuleTexts}
use Rattle.nextest_config_resolution_load.specs.declared.rule_id.RuleId.{RuleId}

-- texts that are lent
abbrev pub texts_of : RuleTexts → Conditions
texts_of it = record {
  host = option_copied it.host;
  target = option_copied it.target;
  filter = option_copied it.filter;
  default_filter = option_copied it.default_filter;
}

-- by whether it has a `list-wrapper`, where it is written, and its texts
abbrev pub checks_by : {P : Type 0} → (P → Bool) → (P → RuleId) → (P → Conditions) → P → List Check
checks_by wraps id conditions rule = condition_checks (wraps rule) (id rule) (conditions rule)
