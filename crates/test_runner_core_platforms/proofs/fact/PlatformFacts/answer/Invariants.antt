use Rattle.std.proofs.Common.{◌≡◌, option_copied, drop}
use Rattle.test_runner_core_platforms.specs.Facts.{answer_of}
use Rattle.test_runner_core_platforms.proofs.fact.PlatformFacts.answer.Given as goal

abbrev pub invariant-loop-fact : goal.invariant-loop-fact
invariant-loop-fact l = answer_of (drop l.fact-index l.fact-items) l.name (option_copied l.value) ≡ answer_of l.fact-items l.name (option_copied l.value)
