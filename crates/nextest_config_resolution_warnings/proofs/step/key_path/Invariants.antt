use Rattle.std.proofs.Common.{◌≡◌, map, take}
use Rattle.nextest_config_resolution_warnings.specs.Steps.{text_of}
use Rattle.nextest_config_resolution_warnings.proofs.step.key_path.Given as goal

abbrev pub invariant-loop-step : goal.invariant-loop-step
invariant-loop-step l = l.keys ≡ map text_of (take l.step-index l.steps)
