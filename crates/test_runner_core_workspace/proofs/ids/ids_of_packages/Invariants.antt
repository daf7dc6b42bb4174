use Rattle.std.proofs.Common.{◌≡◌, map, take}
use Rattle.test_runner_core_workspace.specs.Ids.{lent_texts}
use Rattle.test_runner_core_workspace.proofs.ids.ids_of_packages.Given as goal

abbrev pub invariant-loop-package : goal.invariant-loop-package
invariant-loop-package l = lent_texts l.ids.items ≡ map (λ p. p.id) (take l.package-index l.packages)
