use Rattle.test_runner_core_platforms.proofs.Beginnings.{no_condition, no_operation, value_found, fact_found}
use Rattle.test_runner_core_platforms.proofs.parser.begin.Goals as goal

pub returns-in_default : goal.returns-in_default
returns-in_default c = no_condition _ c.in_default.ensures

pub returns-in-None : goal.returns-in-None
returns-in-None c = no_operation _ _ _ _ c.in-Some.ensures c.in-Some-token.ensures.some c.in-None.ensures

pub returns-in-Some-token-2 : goal.returns-in-Some-token-2
returns-in-Some-token-2 c = value_found _ _ _ _ _ c.in-Some.ensures c.in-Some-token-2.ensures.some c.with_value.ensures

pub returns : goal.returns
returns c = fact_found _ _ _ _ c.in-Some.ensures c.in_default-token.ensures.none c.in_default-token-2.ensures.none c.in_ok-from_str.ensures
