-- What reading a whole text gives.
use Rattle.std.specs.Prelude.{◌≡◌, ◌≢◌, ℕ, ◌<◌, List, [], Some, IfSome, Result, Ok, Err}
use Rattle.nextest_filtering_syntax.specs.declared.tree.ParsedExpr.{ParsedExpr}
use Rattle.nextest_filtering_ast.specs.Tree.{Tree}
use Rattle.nextest_filtering_syntax.specs.Parsed.{tree_of}
use Rattle.nextest_filtering_ast.specs.Grammar.{IsFilterset}
use Rattle.nextest_filtering_arguments.specs.declared.stop.Stop.{Stop}
use Rattle.nextest_filtering_arguments.specs.declared.stop.Stop.TheVariants.{NoTree, Memory}
use Rattle.nextest_filtering_arguments.specs.Faults.{AreFaultsOf}
use Rattle.nextest_filtering_syntax.specs.Places.{ArePlaced, StandsWhole}
use Rattle.nextest_filtering_syntax.specs.declared.reading.Reading.{Reading}
use Rattle.nextest_filtering_syntax.specs.declared.reading.ParseError.{ParseError}
use Rattle.nextest_filtering_syntax.specs.declared.reading.ParseError.TheVariants.{Faults, OutOfMemory}

-- a tree was made, and so many faults were found
abbrev pub ReadsWhole : List ℕ → ℕ → Result ParsedExpr Stop → Type 0
ReadsWhole text count (Ok tree) = (count ≡ 0 → IsFilterset text (tree_of tree)) × ((other : Tree) → IsFilterset text other → (count ≡ 0) × (other ≡ tree_of tree))
ReadsWhole text count (Err NoTree) = (0 < count) × ((other : Tree) → IsFilterset text other → ⊥)
ReadsWhole text count (Err Memory) = Unit {0}

-- The text is a filterset exactly where no fault was found, and then the tree is the one that it
-- is, each predicate with the span from its name's first byte to behind its `)`. Each fault stands
-- in the text, and each predicate of a tree, recovered or not.
pub record IsReadingOf (text : List ℕ) (reading : Reading) : Type 0 where
  pub accepts : reading.faults.items ≡ [] → (t : ParsedExpr) × (reading.tree ≡ Some t) × IsFilterset text (tree_of t) × StandsWhole text t
  pub only : (other : Tree) → IsFilterset text other → (reading.faults.items ≡ []) × ((t : ParsedExpr) × (reading.tree ≡ Some t) × (other ≡ tree_of t))
  pub faithful : AreFaultsOf text reading.faults.items
  pub placed : IfSome reading.tree (ArePlaced text)

-- Where the text is a filterset, this is its tree, with the spans of its predicates, each of which
-- stands in it; where it gets no tree, it is none, for the faults, which stand in it.
abbrev pub Parses : List ℕ → Result ParsedExpr ParseError → Type 0
Parses text (Ok tree) = ((other : Tree) → IsFilterset text other → (other ≡ tree_of tree) × StandsWhole text tree) × ArePlaced text tree
Parses text (Err (Faults list)) = (list.items ≢ []) × AreFaultsOf text list.items × ((other : Tree) → IsFilterset text other → ⊥)
Parses text (Err OutOfMemory) = Unit {0}
