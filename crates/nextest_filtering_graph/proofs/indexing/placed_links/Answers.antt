use Rattle.std.proofs.Common.{ℕ, List, [], get_or, map, Some, ap, sym, ◌∙◌}
use Rattle.nextest_filtering_graph.proofs.Places.{unknown_among, placed_more, placed_by}
use Rattle.nextest_filtering_graph.proofs.indexing.placed_links.Goals as goal
use denote.Ref.{Bor}

pub returns-in-None : goal.returns-in-None
returns-in-None c known is_index =
    let none : Bor (List ℕ) × Bor (List ℕ) = (record { ref_ptr = (0, 0); now = [] }, record { ref_ptr = (0, 0); now = [] }) in
    let link : Bor (List ℕ) × Bor (List ℕ) = get_or c.args.links.now c.loop-from.from-index none in
    unknown_among c.args.links.now c.loop-from.from-index none known c.loop-from-test.true
    (sym (placed_by c.args.index.now known link.0.now link.1.now is_index) ∙ sym c.placed_link.ensures ∙ c.in-None.is)

pub loop-from-preserved : goal.loop-from-preserved
loop-from-preserved c known is_index =
    let none : Bor (List ℕ) × Bor (List ℕ) = (record { ref_ptr = (0, 0); now = [] }, record { ref_ptr = (0, 0); now = [] }) in
    let link : Bor (List ℕ) × Bor (List ℕ) = get_or c.args.links.now c.loop-from.from-index none in
    ap (map Some) c.in_ok-push-in-Some.ensures.items
    ∙ placed_more c.args.links.now c.loop-from.from-index none known c.loop-from.places.items c.in-Some.link c.loop-from-test.true (c.loop-from.invariant known is_index)
    (sym (placed_by c.args.index.now known link.0.now link.1.now is_index) ∙ sym c.placed_link.ensures ∙ c.in-Some.is)
