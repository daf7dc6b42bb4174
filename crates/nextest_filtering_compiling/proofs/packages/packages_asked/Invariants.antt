use Rattle.std.proofs.Common.{ℕ, ◌<◌, List}
use Rattle.std.specs.BTreeSet.{contains_text}
use Rattle.nextest_filtering_filters.specs.Meaning.{Tells}
use Rattle.nextest_filtering_compiling.specs.Asking.{IsAsked}
use Rattle.nextest_filtering_compiling.specs.Packages.{HasId}
use Rattle.nextest_filtering_compiling.proofs.packages.packages_asked.Given as goal

abbrev pub invariant-loop-place : goal.invariant-loop-place
invariant-loop-place l = (id : List ℕ) → Tells ((one : ℕ) × (one < l.place) × IsAsked l.cx.graph.links l.asks l.named one × HasId l.cx.graph id one) (contains_text l.ids id)
