use Rattle.std.proofs.Common.{◌≡◌, map, take}
use Rattle.test_runner_core_workspace.specs.Ids.{lent_texts}
use Rattle.test_runner_core_workspace.proofs.ids.ids_of_binaries.Given as goal

abbrev pub invariant-loop-binary : goal.invariant-loop-binary
invariant-loop-binary l = lent_texts l.ids.items ≡ map (λ p. p.id) (take l.binary-index l.binaries)
