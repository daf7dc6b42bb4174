-- Where a rule is written, of one that is lent.
use Rattle.nextest_config_resolution_load.specs.declared.rule_id.RuleId.{RuleId}
use Rattle.nextest_config_resolution_load.specs.declared.rule_id.RuleId.TheVariants as id
use Rattle.nextest_config_resolution_load.specs.declared.rule_id.RuleRef.{RuleRef}
use Rattle.nextest_config_resolution_load.specs.declared.rule_id.RuleRef.TheVariants as lent

abbrev pub rule_of : RuleRef → RuleId
rule_of (lent.Override it) = id.Override it.now
rule_of (lent.Script it) = id.Script it.now
