use Rattle.test_runner_core_platforms.proofs.Whole.{by_cfg, by_triple}
use Rattle.test_runner_core_platforms.proofs.platform_spec.read.Goals as goal

pub returns-in-Some : goal.returns-in-Some
returns-in-Some c = by_cfg _ c.in-Some.ensures.0 _ _ c.in-Some.ensures.1 c.in-Some.ensures.2 c.cfg.ensures

pub returns-in-None : goal.returns-in-None
returns-in-None c = by_triple _ _ c.in-None.ensures c.triple.ensures
