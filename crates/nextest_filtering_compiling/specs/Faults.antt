-- Predicates that nothing in a workspace can be.
use Rattle.std.specs.Prelude.{◌≡◌, ◌≢◌, ℕ, List, [], ◌∷◌, ◌++◌, Option, Some, None, Contains, codes}
use Rattle.nextest_filtering_arguments.specs.declared.error.ParseSingleError.{ParseSingleError}
use Rattle.nextest_filtering_arguments.specs.declared.error.ParseSingleError.TheVariants as fault
use Rattle.nextest_filtering_ast.specs.Meaning.{MatchesName}
use Rattle.nextest_filtering_ast.specs.Tree.{Leaf, Matcher, matching, package_name, dependencies, dependents, binary_name, binary_id, group, leaf_of}
use Rattle.nextest_filtering_ast.specs.declared.leaf.ParsedLeaf.{ParsedLeaf}
use Rattle.nextest_filtering_ast.specs.declared.leaf.SourceSpan.{SourceSpan}
use Rattle.nextest_filtering_compiling.specs.Bans.{place_of}
use Rattle.nextest_filtering_compiling.specs.Context.{Context}
use Rattle.nextest_filtering_compiling.specs.Packages.{IsNamed}
use Rattle.nextest_filtering_compiling.specs.declared.faults.BinaryPart.{BinaryPart}
use Rattle.nextest_filtering_compiling.specs.declared.faults.BinaryPart.TheVariants as parts
use Rattle.nextest_filtering_filters.specs.declared.known_groups.KnownGroups.{KnownGroups}
use Rattle.nextest_filtering_filters.specs.declared.known_groups.KnownGroups.TheVariants as groups

-- no package has such a name
abbrev pub NoPackage : Context → Matcher → Type 0
NoPackage cx m = (place : ℕ) → IsNamed cx.graph m place → ⊥

-- binaries are known, and none has such an id, or name
abbrev pub NoBinary : Context → (List ℕ × List ℕ → List ℕ) → Matcher → Type 0
NoBinary cx part m = (cx.binaries ≢ []) × ((binary : List ℕ × List ℕ) → Contains cx.binaries binary → MatchesName m (part binary) → ⊥)

-- the part of a binary that it is asked for by
abbrev pub asked_of : BinaryPart → List ℕ × List ℕ → List ℕ
asked_of parts.Id binary = binary.0
asked_of parts.Name binary = binary.1

-- the groups are known, and none has such a name; `@global` is always among them
abbrev pub NoGroup : KnownGroups → Matcher → Type 0
NoGroup (groups.Known names) m = (MatchesName m (codes "@global") → ⊥) × ((name : List ℕ) → Contains names name → MatchesName m name → ⊥)
NoGroup groups.Unavailable m = ⊥

-- the fault that a predicate has where this is so, and none where it isn't
abbrev pub Has : ParseSingleError → Type 0 → Option ParseSingleError → Type 0
Has it Bad None = Bad → ⊥
Has it Bad (Some fault) = (fault ≡ it) × Bad

-- the fault of a predicate, if it has one
abbrev pub LeafHas : Context → KnownGroups → SourceSpan → Leaf → Option ParseSingleError → Type 0
LeafHas cx known span (matching package_name m) = Has (fault.NoPackageMatch span) (NoPackage cx m)
LeafHas cx known span (matching dependencies m) = Has (fault.NoPackageMatch span) (NoPackage cx m)
LeafHas cx known span (matching dependents m) = Has (fault.NoPackageMatch span) (NoPackage cx m)
LeafHas cx known span (matching binary_id m) = Has (fault.NoBinaryIdMatch span) (NoBinary cx (λ it. it.0) m)
LeafHas cx known span (matching binary_name m) = Has (fault.NoBinaryNameMatch span) (NoBinary cx (λ it. it.1) m)
LeafHas cx known span (matching group m) = Has (fault.NoGroupMatch span) (NoGroup known m)
LeafHas cx known span other = (λ fault. fault ≡ None)

abbrev pub faults_of_option : Option ParseSingleError → List ParseSingleError
faults_of_option None = []
faults_of_option (Some fault) = fault ∷ []

-- the faults of predicates, from left to right
abbrev pub Have : Context → KnownGroups → List ParsedLeaf → List ParseSingleError → Type 0
Have cx known [] faults = faults ≡ []
Have cx known (it ∷ more) faults =
    (first : Option ParseSingleError) × (rest : List ParseSingleError) × (faults ≡ faults_of_option first ++ rest)
    × LeafHas cx known (place_of it) (leaf_of it) first × Have cx known more rest
