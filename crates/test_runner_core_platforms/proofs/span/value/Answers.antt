use Rattle.test_runner_core_platforms.proofs.Splits.{no_value}
use Rattle.test_runner_core_platforms.proofs.span.value.Goals as goal

pub returns-in-None : goal.returns-in-None
returns-in-None c = no_value _ _ _ _ c.in_ok-inside.ensures.some c.split.ensures c.in-None.ensures.none
