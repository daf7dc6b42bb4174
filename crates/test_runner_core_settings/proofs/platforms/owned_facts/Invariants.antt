use Rattle.std.proofs.Common.{◌≡◌, map, take}
use Rattle.test_runner_core_settings.specs.Platforms.{fact_of}
use Rattle.test_runner_core_settings.proofs.platforms.owned_facts.Given as goal

abbrev pub invariant-loop-fact : goal.invariant-loop-fact
invariant-loop-fact l = l.owned ≡ map fact_of (take l.fact-index l.facts)
