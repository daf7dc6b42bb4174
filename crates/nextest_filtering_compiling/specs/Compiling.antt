-- What trees are compiled to.
use Rattle.std.specs.Prelude.{◌≡◌, ℕ, List}
use Rattle.std.specs.BTreeSet.{contains_text}
use Rattle.std.specs.List.{AllZip}
use Rattle.nextest_filtering_filters.specs.Meaning.{Tells}
use Rattle.nextest_filtering_filters.specs.declared.leaf.FiltersetLeaf.{FiltersetLeaf}
use Rattle.nextest_filtering_filters.specs.declared.leaf.FiltersetLeaf.TheVariants as leaf
use Rattle.nextest_filtering_filters.specs.Formula as formula
use Rattle.nextest_filtering_filters.specs.Formula.{Formula}
use Rattle.nextest_filtering_graph.specs.Graph.{Graph}
use Rattle.nextest_filtering_ast.specs.Tree.{Leaf, Matcher, Subject, Tree, matcher_of, matching, built_for, default_filter, everything, nothing, package_name, dependencies, dependents, kind, binary_name, binary_id, test_name, group, negation, union, intersection, difference, parens, set, leaf_of}
use Rattle.nextest_filtering_ast.specs.declared.leaf.ParsedLeaf.{ParsedLeaf}
use Rattle.nextest_filtering_ast.specs.declared.leaf.SourceSpan.{SourceSpan}
use Rattle.nextest_filtering_ast.specs.declared.matcher.NameMatcher.{NameMatcher}
use Rattle.nextest_filtering_compiling.specs.Packages.{AsksFor}

-- a set of the packages that a predicate asks for
abbrev pub IsSetOf : Graph → Subject → Matcher → FiltersetLeaf → Type 0
IsSetOf graph subject m (leaf.Packages ids) = (id : List ℕ) → Tells (AsksFor graph subject m id) (contains_text ids id)
IsSetOf graph subject m other = ⊥

-- a predicate with this matcher
abbrev pub IsWith : (NameMatcher → SourceSpan → FiltersetLeaf) → Matcher → FiltersetLeaf → Type 0
IsWith predicate m it = (copy : NameMatcher) × (span : SourceSpan) × (it ≡ predicate copy span) × (matcher_of copy ≡ m)

-- what a predicate is compiled to: the packages that it asks for, or its like
abbrev pub IsCompiledLeaf : Graph → Leaf → FiltersetLeaf → Type 0
IsCompiledLeaf graph (matching package_name m) it = IsSetOf graph package_name m it
IsCompiledLeaf graph (matching dependencies m) it = IsSetOf graph dependencies m it
IsCompiledLeaf graph (matching dependents m) it = IsSetOf graph dependents m it
IsCompiledLeaf graph (matching kind m) it = IsWith leaf.Kind m it
IsCompiledLeaf graph (matching binary_name m) it = IsWith leaf.Binary m it
IsCompiledLeaf graph (matching binary_id m) it = IsWith leaf.BinaryId m it
IsCompiledLeaf graph (matching test_name m) it = IsWith leaf.Test m it
IsCompiledLeaf graph (matching group m) it = IsWith leaf.Group m it
IsCompiledLeaf graph (built_for platform) it = (span : SourceSpan) × (it ≡ leaf.Platform platform span)
IsCompiledLeaf graph default_filter it = it ≡ leaf.Default
IsCompiledLeaf graph everything it = it ≡ leaf.All
IsCompiledLeaf graph nothing it = it ≡ leaf.None

-- the predicates of a tree are compiled one by one, from left to right
abbrev pub AreCompiled : Graph → List ParsedLeaf → List FiltersetLeaf → Type 0
AreCompiled graph leaves made = AllZip (λ leaf it. IsCompiledLeaf graph (leaf_of leaf) it) leaves made

-- a tree is compiled part by part: `a - b` is `a and not b`
abbrev pub IsCompiled : Graph → Tree → Formula FiltersetLeaf → Type 0
IsCompiled graph (negation op t) it = (inside : Formula FiltersetLeaf) × (it ≡ formula.negated inside) × IsCompiled graph t inside
IsCompiled graph (union op a b) it =
    (left : Formula FiltersetLeaf) × (right : Formula FiltersetLeaf) × (it ≡ formula.either left right) × IsCompiled graph a left × IsCompiled graph b right
IsCompiled graph (intersection op a b) it =
    (left : Formula FiltersetLeaf) × (right : Formula FiltersetLeaf) × (it ≡ formula.both left right) × IsCompiled graph a left × IsCompiled graph b right
IsCompiled graph (difference op a b) it =
    (left : Formula FiltersetLeaf) × (right : Formula FiltersetLeaf) × (it ≡ formula.both left (formula.negated right)) × IsCompiled graph a left × IsCompiled graph b right
IsCompiled graph (parens t) it = IsCompiled graph t it
IsCompiled graph (set predicate) it = (made : FiltersetLeaf) × (it ≡ formula.leaf made) × IsCompiledLeaf graph predicate made
