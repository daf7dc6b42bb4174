use Rattle.std.proofs.Common.{◌≡◌, ℕ, List, length, replicate, arith, ap, subst, ◌∙◌}
use Rattle.std.proofs.lemmas.List.{length-replicate}
use Rattle.nextest_filtering_graph.specs.Rows.{HasBit}
use Rattle.nextest_filtering_graph.proofs.Rows.{rows_of_one}
use Rattle.nextest_filtering_graph.proofs.Words.{no_bits}
use Rattle.nextest_filtering_graph.proofs.closing.rows_of_places.Goals as goal

pub loop-place-init : goal.loop-place-init
loop-place-init c =
    let zeros : c.in_ok-words.words.items ≡ replicate c.in-Some.size 0 = c.in_ok-words.ensures.items_if_clones_equal (λ y h. h) in
    record {
      sized = ap length zeros ∙ length-replicate c.in-Some.size 0 ∙ c.in-Some.ensures.1;
      only = λ i j small has. absurd (no_bits c.in-Some.size c.args.width i j (subst (λ (words : List ℕ). HasBit words c.args.width i j) zeros has));
      stays = λ i none. absurd (omega arith);
    }

pub returns : goal.returns
returns c links = rows_of_one links c.args.width c.args.count c.loop-place.words.items c.loop-place.invariant.sized c.requires.room c.loop-place.invariant.only (λ i row. c.loop-place.invariant.stays i (omega arith))
