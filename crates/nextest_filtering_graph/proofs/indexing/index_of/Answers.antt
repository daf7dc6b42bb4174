use Rattle.std.proofs.Common.{◌≡◌, ℕ, List, [], take, get_or, true, false, is_some, sym, subst}
use Rattle.nextest_filtering_graph.specs.Graph.{IsIndex, ids, place_of}
use Rattle.nextest_filtering_graph.specs.Making.{lent_pairs}
use Rattle.nextest_filtering_graph.proofs.Places.{ids_more, stands_twice, stands_once, index_more, looked_up, ids_length}
use Rattle.nextest_filtering_graph.proofs.indexing.index_of.Goals as goal
use denote.Ref.{Bor}

pub returns-then-is_some : goal.returns-then-is_some
returns-then-is_some c =
    stands_twice c.args.packages.now c.loop-place.place (record { ref_ptr = (0, 0); now = [] }, record { ref_ptr = (0, 0); now = [] }) c.loop-place-test.true
    (looked_up c.loop-place.index (ids (lent_pairs (take c.loop-place.place c.args.packages.now))) c.in_ok-from_str.field-0 _ c.in_ok-insert.field-0 c.is_some.result true
    c.loop-place.invariant.index c.in_ok-from_str.ensures.ok c.in_ok-insert.ensures.old c.is_some.ensures c.if-is_some.true)

pub loop-place-preserved : goal.loop-place-preserved
loop-place-preserved c =
    let none : Bor (List ℕ) × Bor (List ℕ) = (record { ref_ptr = (0, 0); now = [] }, record { ref_ptr = (0, 0); now = [] }) in
    let known : List (List ℕ) = ids (lent_pairs (take c.loop-place.place c.args.packages.now)) in
    let id : List ℕ = (get_or c.args.packages.now c.loop-place.place none).0.now in
    let unknown : is_some (place_of known id) ≡ false
    = looked_up c.loop-place.index known c.in_ok-from_str.field-0 id c.in_ok-insert.field-0 c.is_some.result false
    c.loop-place.invariant.index c.in_ok-from_str.ensures.ok c.in_ok-insert.ensures.old c.is_some.ensures c.if-is_some.false in
    record {
      index = subst (λ (all : List (List ℕ)). IsIndex c.insert.new.self all) (sym (ids_more c.args.packages.now c.loop-place.place none c.loop-place-test.true))
          (index_more c.loop-place.index c.insert.new.self known c.in_ok-from_str.field-0 id c.loop-place.place c.in_ok-from_str.ensures.ok
          (sym (ids_length c.args.packages.now c.loop-place.place c.loop-place-test.true)) c.loop-place.invariant.index unknown c.in_ok-insert.ensures.updates);
      once = stands_once c.args.packages.now c.loop-place.place none c.loop-place-test.true unknown c.loop-place.invariant.once;
    }
