use Rattle.std.proofs.Common.{List, ℕ, Err, ap, ◌∙◌, subst}
use Rattle.nextest_filtering_graph.specs.Making.{IsGraphOf, lent_pairs, Makes}
use Rattle.nextest_filtering_graph.specs.declared.graph_error.GraphError.{GraphError}
use Rattle.test_runner_core_planning.specs.Filtering.{pairs_of_links, pairs_of_packages}
use Rattle.test_runner_core_planning.proofs.Context.{never_refused, same_graph}
use Rattle.test_runner_core_planning.proofs.filtering.graph_of.Goals as goal

pub unreachable-requires : goal.unreachable-requires
unreachable-requires c =
    let workspace = c.args.workspace.now in
    let packages = ap lent_pairs c.as_slice-3.ensures.value ∙ c.in_ok-packages.ensures ∙ ap pairs_of_packages c.as_slice.ensures in
    let links = ap lent_pairs c.as_slice-4.ensures.value ∙ c.in_ok-links.ensures ∙ ap pairs_of_links c.as_slice-2.ensures in
    never_refused workspace c.in-Err-Refused.field-0-0 c.requires
    (subst (λ (e : GraphError). Makes (pairs_of_packages workspace.packages) (pairs_of_links workspace.links) (Err e)) c.in-Err-Refused.field-0-is
    (subst (λ (l : List (List ℕ × List ℕ)). Makes (pairs_of_packages workspace.packages) l (Err c.in-Err-Refused.field-0)) links
    (subst (λ (p : List (List ℕ × List ℕ)). Makes p (lent_pairs c.as_slice-4.result.now) (Err c.in-Err-Refused.field-0)) packages c.in-Err-Refused.ensures.exact)))

pub returns-in-Ok : goal.returns-in-Ok
returns-in-Ok c =
    let workspace = c.args.workspace.now in
    let graph = c.in-Ok.graph in
    let packages = ap lent_pairs c.as_slice-3.ensures.value ∙ c.in_ok-packages.ensures ∙ ap pairs_of_packages c.as_slice.ensures in
    let links = ap lent_pairs c.as_slice-4.ensures.value ∙ c.in_ok-links.ensures ∙ ap pairs_of_links c.as_slice-2.ensures in
    same_graph workspace graph
    (subst (λ (l : List (List ℕ × List ℕ)). IsGraphOf (pairs_of_packages workspace.packages) l graph) links
    (subst (λ (p : List (List ℕ × List ℕ)). IsGraphOf p (lent_pairs c.as_slice-4.result.now) graph) packages c.in-Ok.ensures.exact))
