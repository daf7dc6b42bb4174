-- What a copy of a filter is.
use Rattle.std.specs.Prelude.{◌≡◌, ℕ, List}
use Rattle.std.specs.BTreeSet.{contains_text}
use Rattle.std.specs.List.{AllZip}
use Rattle.nextest_filtering_filters.specs.Filter.{Compiled}
use Rattle.nextest_filtering_filters.specs.declared.leaf.FiltersetLeaf.{FiltersetLeaf}
use Rattle.nextest_filtering_filters.specs.declared.leaf.FiltersetLeaf.TheVariants as leaf

-- of a predicate: one of the same packages, or else the same
abbrev pub IsLeafCopy : FiltersetLeaf → FiltersetLeaf → Type 0
IsLeafCopy (leaf.Packages set) (leaf.Packages copy) = (id : List ℕ) → contains_text copy id ≡ contains_text set id
IsLeafCopy original copy = copy ≡ original

-- the same formula, over copies of the predicates
pub record IsCopy (original copy : Compiled) : Type 0 where
  pub steps : copy.steps ≡ original.steps
  pub leaves : AllZip IsLeafCopy original.leaves copy.leaves
