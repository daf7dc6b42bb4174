use Rattle.std.proofs.Common.{take}
use Rattle.test_runner_core_workspace.specs.Lister.{IsIndex}
use Rattle.test_runner_core_workspace.proofs.table_lister.index_of.Given as goal

abbrev pub invariant-loop-binary : goal.invariant-loop-binary
invariant-loop-binary l = IsIndex l.index (take l.binary-index l.binaries)
