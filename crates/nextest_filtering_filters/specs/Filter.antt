-- Filters that are compiled.
use Rattle.std.specs.Prelude.{ℕ, Bool, true, false, List, slice_get, unwrap_or}
use Rattle.nextest_filtering_filters.specs.Formula.{Formula, with_leaves}
use Rattle.nextest_filtering_filters.specs.Steps.{formula_of}
use Rattle.nextest_filtering_filters.specs.declared.step.FormulaStep.{FormulaStep}
use Rattle.nextest_filtering_filters.specs.declared.leaf.FiltersetLeaf.{FiltersetLeaf}
use Rattle.nextest_filtering_filters.specs.declared.leaf.FiltersetLeaf.TheVariants as leaf

-- a formula over the places of predicates, by its steps
pub record Compiled : Type 0 where
  pub steps : List FormulaStep
  pub leaves : List FiltersetLeaf

-- the predicate at a place; where none stands, it holds nowhere
abbrev pub leaf_at : List FiltersetLeaf → ℕ → FiltersetLeaf
leaf_at leaves place = unwrap_or (slice_get leaves place) leaf.None

-- the formula over predicates
abbrev pub filter_of : Compiled → Formula FiltersetLeaf
filter_of it = with_leaves (leaf_at it.leaves) (formula_of it.steps)

-- the predicate asks for the group of a test
abbrev pub is_group : FiltersetLeaf → Bool
is_group (leaf.Packages set) = false
is_group (leaf.Kind m span) = false
is_group (leaf.Platform p span) = false
is_group (leaf.Binary m span) = false
is_group (leaf.BinaryId m span) = false
is_group (leaf.Test m span) = false
is_group (leaf.Group m span) = true
is_group leaf.Default = false
is_group leaf.All = false
is_group leaf.None = false

-- the predicate asks for the default filter
abbrev pub is_default : FiltersetLeaf → Bool
is_default (leaf.Packages set) = false
is_default (leaf.Kind m span) = false
is_default (leaf.Platform p span) = false
is_default (leaf.Binary m span) = false
is_default (leaf.BinaryId m span) = false
is_default (leaf.Test m span) = false
is_default (leaf.Group m span) = false
is_default leaf.Default = true
is_default leaf.All = false
is_default leaf.None = false

-- only a test tells whether the predicate holds
abbrev pub is_runtime_only : FiltersetLeaf → Bool
is_runtime_only (leaf.Packages set) = false
is_runtime_only (leaf.Kind m span) = false
is_runtime_only (leaf.Platform p span) = false
is_runtime_only (leaf.Binary m span) = false
is_runtime_only (leaf.BinaryId m span) = false
is_runtime_only (leaf.Test m span) = true
is_runtime_only (leaf.Group m span) = true
is_runtime_only leaf.Default = true
is_runtime_only leaf.All = false
is_runtime_only leaf.None = false
