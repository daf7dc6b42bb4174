-- Filters whose questions have answers.
use Rattle.std.specs.Prelude.{◌≡◌, ⊤}
use Rattle.nextest_filtering_filters.specs.Formula.{Formula, leaf, negated, either, both}
use Rattle.nextest_filtering_ast.specs.Tree.{IsGlobText, Matcher, glob, matcher_of}
use Rattle.nextest_filtering_filters.specs.declared.leaf.FiltersetLeaf.{FiltersetLeaf}
use Rattle.nextest_filtering_filters.specs.declared.leaf.FiltersetLeaf.TheVariants as predicate

-- where it compares by a glob, its text is one
abbrev pub IsReadable : Matcher → Type 0
IsReadable m = m.comparison ≡ glob → IsGlobText m.text

-- the same of the matcher of a predicate, where it has one
abbrev pub HasReadable : FiltersetLeaf → Type 0
HasReadable (predicate.Packages set) = ⊤
HasReadable (predicate.Kind m span) = IsReadable (matcher_of m)
HasReadable (predicate.Platform p span) = ⊤
HasReadable (predicate.Binary m span) = IsReadable (matcher_of m)
HasReadable (predicate.BinaryId m span) = IsReadable (matcher_of m)
HasReadable (predicate.Test m span) = IsReadable (matcher_of m)
HasReadable (predicate.Group m span) = IsReadable (matcher_of m)
HasReadable predicate.Default = ⊤
HasReadable predicate.All = ⊤
HasReadable predicate.None = ⊤

-- each leaf of a formula is so
abbrev pub AllLeaves : {L : Type 0} → (L → Type 0) → Formula L → Type 0
AllLeaves Holds (leaf it) = Holds it
AllLeaves Holds (negated inside) = AllLeaves Holds inside
AllLeaves Holds (either left right) = AllLeaves Holds left × AllLeaves Holds right
AllLeaves Holds (both left right) = AllLeaves Holds left × AllLeaves Holds right

-- the matchers of all predicates that occur in a filter are
abbrev pub AreReadable : Formula FiltersetLeaf → Type 0
AreReadable = AllLeaves HasReadable
