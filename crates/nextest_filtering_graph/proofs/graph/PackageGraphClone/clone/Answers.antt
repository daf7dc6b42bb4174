use Rattle.std.proofs.Common.{◌≡◌, false, ℕ, List, length, sym, ap, ◌∙◌, subst}
use Rattle.nextest_filtering_graph.specs.Graph.{has_repeat, ids, place_of}
use Rattle.nextest_filtering_graph.specs.Reaching.{LinksBelow}
use Rattle.nextest_filtering_graph.proofs.Copies.{pairs_same, same_index}
use Rattle.nextest_filtering_graph.proofs.graph.PackageGraphClone.clone.Goals as goal

pub invariant_of-result : goal.invariant_of-result
invariant_of-result c =
    let packages = pairs_same c.self.inside.packages.items c.in_ok-clone.field-0.items c.in_ok-clone.ensures.cases.0 in
    let links = pairs_same c.self.inside.links.items c.in_ok-clone-2.field-0.items c.in_ok-clone-2.ensures.cases.0 in (
      λ id. same_index c.self.inside.index c.in_ok-clone-3.field-0 c.in_ok-clone-3.ensures.cases id ∙ c.self.invariant.0 id
          ∙ ap (λ (them : List (List ℕ × List ℕ)). place_of (ids them) id) (sym packages),
      subst (λ (them : List (ℕ × ℕ)). LinksBelow (length c.in_ok-clone.field-0.items) them) (sym links)
          (subst (λ (them : List (List ℕ × List ℕ)). LinksBelow (length them) c.self.inside.links.items) (sym packages) c.self.invariant.1),
      subst (λ (them : List (List ℕ × List ℕ)). has_repeat (ids them) ≡ false) (sym packages) c.self.invariant.2,
    )

pub returns : goal.returns
returns c =
    let packages = pairs_same c.self.inside.packages.items c.in_ok-clone.field-0.items c.in_ok-clone.ensures.cases.0 in
    let links = pairs_same c.self.inside.links.items c.in_ok-clone-2.field-0.items c.in_ok-clone-2.ensures.cases.0 in
    record { cases = (λ i. record { packages = packages i; links = links i }) ∙ c.self.view_is }
