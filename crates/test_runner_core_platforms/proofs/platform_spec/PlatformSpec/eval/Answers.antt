use Rattle.test_runner_core_platforms.specs.Trees.{spec_of}
use Rattle.test_runner_core_platforms.proofs.Values.{value_stands}
use Rattle.test_runner_core_platforms.proofs.platform_spec.PlatformSpec.eval.Goals as goal

pub returns-in-Cfg-clause-only : goal.returns-in-Cfg-clause-only
returns-in-Cfg-clause-only c = value_stands c.args.facts.now (spec_of c.args.self.now) c.value.result (Prim.rw c.in-Cfg.is c.value.ensures)
