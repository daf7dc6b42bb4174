use Rattle.std.proofs.Common.{take}
use Rattle.std.specs.List.{All}
use Rattle.nextest_filtering_compiling.specs.Asking.{IsAskedBy}
use Rattle.nextest_filtering_compiling.proofs.packages.is_asked.Given as goal

abbrev pub invariant-loop-other : goal.invariant-loop-other
invariant-loop-other l = All (λ one. IsAskedBy l.cx.graph.links l.asks one l.place → ⊥) (take l.other-index l.named)
