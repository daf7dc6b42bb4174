-- The workspace that filtersets are compiled for.
use Rattle.std.specs.Prelude.{ℕ, List}
use Rattle.nextest_filtering_graph.specs.Graph.{Graph}

-- packages and links, and test binaries, each by its id and its name
pub record Context : Type 0 where
  pub graph : Graph
  pub binaries : List (List ℕ × List ℕ)
