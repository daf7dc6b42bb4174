use Rattle.std.proofs.Common.{sym, subst}
use Rattle.nextest_filtering_filters.specs.Copies.{IsLeafCopy}
use Rattle.nextest_filtering_filters.specs.declared.leaf.FiltersetLeaf.{FiltersetLeaf}
use Rattle.nextest_filtering_filters.specs.declared.leaf.FiltersetLeaf.TheVariants as leaf
use Rattle.nextest_filtering_filters.proofs.Copies.{same_texts}
use Rattle.nextest_filtering_filters.proofs.leaf.FiltersetLeafClone.clone.Goals as goal

pub returns-in_ok-clone-in-Packages : goal.returns-in_ok-clone-in-Packages
returns-in_ok-clone-in-Packages c = record {
  cases =
      subst (λ (it : FiltersetLeaf). IsLeafCopy it (leaf.Packages c.in_ok-clone-in-Packages.field-0)) (sym c.in-Packages.is)
      (same_texts c.in-Packages.ids c.in_ok-clone-in-Packages.field-0 c.in_ok-clone-in-Packages.ensures.cases);
}
