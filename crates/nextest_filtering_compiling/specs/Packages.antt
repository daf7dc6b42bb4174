-- The packages that predicates ask for.
use Rattle.std.specs.Prelude.{◌≡◌, ℕ, List, Some, slice_get}
use Rattle.nextest_filtering_graph.specs.Graph.{Graph}
use Rattle.nextest_filtering_graph.specs.Reaching.{Reaches}
use Rattle.nextest_filtering_ast.specs.Meaning.{MatchesName}
use Rattle.nextest_filtering_ast.specs.Tree.{Matcher, Subject, package_name, dependencies, dependents}

-- the package at a place has a name that the matcher matches
abbrev pub IsNamed : Graph → Matcher → ℕ → Type 0
IsNamed graph m place = (it : List ℕ × List ℕ) × (slice_get graph.packages place ≡ Some it) × MatchesName m it.1

-- the package at a place has this id
abbrev pub HasId : Graph → List ℕ → ℕ → Type 0
HasId graph id place = (it : List ℕ × List ℕ) × (slice_get graph.packages place ≡ Some it) × (it.0 ≡ id)

-- a predicate asks for the package of an id: `package` for those with such a name, `deps` for those
-- that one of these reaches by a path of links, perhaps an empty one, `rdeps` for those that reach
-- one of these
abbrev pub AsksFor : Graph → Subject → Matcher → List ℕ → Type 0
AsksFor graph package_name m id = (place : ℕ) × IsNamed graph m place × HasId graph id place
AsksFor graph dependencies m id = (from : ℕ) × (to : ℕ) × IsNamed graph m from × Reaches graph.links from to × HasId graph id to
AsksFor graph dependents m id = (from : ℕ) × (to : ℕ) × HasId graph id from × Reaches graph.links from to × IsNamed graph m to
AsksFor graph other m id = ⊥
