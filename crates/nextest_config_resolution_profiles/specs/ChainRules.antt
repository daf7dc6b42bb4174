-- The rules of a chain, as code keeps them.
use Rattle.std.specs.Prelude.{Bool, List, Option, map}
use Rattle.nextest_config_resolution_load.specs.declared.loaded_rule.LoadedRule.{LoadedRule}
use Rattle.nextest_config_resolution_profiles.specs.Platforms.{RuleOn, holds_for_host, holds_for_target}
use Rattle.nextest_config_resolution_profiles.specs.declared.chain_rule.ChainRule.{ChainRule}

-- the rules alone
abbrev pub rule_in : {P F S : Type 0} → ChainRule P F S → LoadedRule P F S
rule_in it = it.rule.now

abbrev pub rules_in : {P F S : Type 0} → List (ChainRule P F S) → List (LoadedRule P F S)
rules_in rules = map rule_in rules

-- and with the platforms on which they hold
abbrev pub seen_rule : {P F S : Type 0} → ChainRule P F S → RuleOn P F S
seen_rule it = record { rule = it.rule.now; for_host = it.for_host; for_target = it.for_target }

abbrev pub seen_rules : {P F S : Type 0} → List (ChainRule P F S) → List (RuleOn P F S)
seen_rules rules = map seen_rule rules

-- a rule, put on platforms
abbrev pub put_on : {P F S Facts : Type 0} → (S → Facts → Option Bool) → Facts → Facts → ChainRule P F S → ChainRule P F S
put_on value_on host target it =
    record it { for_host = holds_for_host value_on host it.rule.now; for_target = holds_for_target value_on host target it.rule.now }
