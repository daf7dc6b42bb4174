use Rattle.std.proofs.Common.{◌≡◌, take}
use Rattle.test_runner_core_settings.proofs.owned.owned_texts.Given as goal

abbrev pub invariant-loop-text : goal.invariant-loop-text
invariant-loop-text l = l.owned ≡ take l.text-index l.texts
