-- Packages that are asked for, by their places.
use Rattle.std.specs.Prelude.{◌≡◌, ◌↔◌, ℕ, List, Contains, String}
use Rattle.std.specs.BTreeSet.{BTreeSet, contains_text}
use Rattle.nextest_filtering_filters.specs.Meaning.{Tells}
use Rattle.nextest_filtering_graph.specs.Graph.{Graph}
use Rattle.nextest_filtering_graph.specs.Reaching.{Reaches}
use Rattle.nextest_filtering_ast.specs.Tree.{Matcher, Subject, package_name, dependencies, dependents}
use Rattle.nextest_filtering_compiling.specs.Packages.{HasId, IsNamed}
use Rattle.nextest_filtering_compiling.specs.declared.packages.Asks.{Asks}
use Rattle.nextest_filtering_compiling.specs.declared.packages.Asks.TheVariants as asks

-- the places of the packages with such a name
abbrev pub AreNamed : Graph → Matcher → List ℕ → Type 0
AreNamed graph m places = (place : ℕ) → Contains places place ↔ IsNamed graph m place

-- the predicate that asks so
abbrev pub subject_of : Asks → Subject
subject_of asks.Named = package_name
subject_of asks.Reached = dependencies
subject_of asks.Reaching = dependents

-- one package is asked for where another is named
abbrev pub IsAskedBy : List (ℕ × ℕ) → Asks → ℕ → ℕ → Type 0
IsAskedBy links asks.Named named place = named ≡ place
IsAskedBy links asks.Reached named place = Reaches links named place
IsAskedBy links asks.Reaching named place = Reaches links place named

abbrev pub IsAsked : List (ℕ × ℕ) → Asks → List ℕ → ℕ → Type 0
IsAsked links how named place = (one : ℕ) × Contains named one × IsAskedBy links how one place

-- the ids of the packages that are asked for
abbrev pub IsSetFor : {Y : Type 0} → Graph → Asks → List ℕ → BTreeSet (String Y) → Type 0
IsSetFor graph how named ids = (id : List ℕ) → Tells ((place : ℕ) × IsAsked graph.links how named place × HasId graph id place) (contains_text ids id)
