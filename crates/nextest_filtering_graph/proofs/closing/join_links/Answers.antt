use Rattle.std.proofs.Common.{◌≡◌, ℕ, ◌<◌, ◌≤◌, List, sum, take, get_or, arith, sym, ◌∙◌, refl, inr, subst}
use Rattle.std.proofs.lemmas.List.Elements.{Contains-get_or}
use Rattle.nextest_filtering_graph.specs.Reaching.{Reaches, stay, onward}
use Rattle.nextest_filtering_graph.specs.Rows.{HasBit, AreRows, AreClosed}
use Rattle.nextest_filtering_graph.proofs.Rows.{row_within, rows_after, closed_more}
use Rattle.nextest_filtering_graph.proofs.Words.{sum_at_least}
use Rattle.nextest_filtering_graph.proofs.closing.join_links.Goals.{then-join_rows, else-join_rows}
use Rattle.nextest_filtering_graph.proofs.closing.join_links.Goals as goal

pub join_rows-requires-clause-from_row : goal.join_rows-requires-clause-from_row
join_rows-requires-clause-from_row c =
    row_within c.args.links.now c.args.width c.args.count c.loop-from.words (get_or c.args.links.now c.loop-from.from-index (0, 0)).0 c.loop-from.invariant.rows
    (c.requires.links c.loop-from.from-index (0, 0) c.loop-from-test.true).0

pub join_rows-requires-clause-to_row : goal.join_rows-requires-clause-to_row
join_rows-requires-clause-to_row c =
    row_within c.args.links.now c.args.width c.args.count c.loop-from.words (get_or c.args.links.now c.loop-from.from-index (0, 0)).1 c.loop-from.invariant.rows
    (c.requires.links c.loop-from.from-index (0, 0) c.loop-from-test.true).1

pub loop-from-preserved : goal.loop-from-preserved
loop-from-preserved c =
    let link : ℕ × ℕ = get_or c.args.links.now c.loop-from.from-index (0, 0) in
    let below : (link.0 < c.args.count) × (link.1 < c.args.count) = c.requires.links c.loop-from.from-index (0, 0) c.loop-from-test.true in
    let reaches : Reaches c.args.links.now link.0 link.1
    = onward link.0 link.1 link.1 (Contains-get_or c.args.links.now c.loop-from.from-index (0, 0) c.loop-from-test.true) (stay link.1) in
    let rows : AreRows c.args.links.now c.args.width c.args.count c.join_rows.new.words
    = rows_after c.args.links.now c.args.width c.args.count c.loop-from.words c.join_rows.new.words link.0 link.1 c.loop-from.invariant.rows reaches below.1 c.join_rows.auto.words c.join_rows.ensures.joined in
    elim c.if-join_rows.branch [
      | then-join_rows w ↦ rw w.is_changed-is (record {
        rows = rows;
        closed = λ e. cc;
        kept = λ e. cc;
        grown = λ _.
            let more : sum c.loop-from.words < sum c.join_rows.new.words = c.join_rows.ensures.grown w.if-join_rows.true in
            let before : sum c.args.words.now ≤ sum c.loop-from.words
            = sum_at_least c.args.words.now c.loop-from.words c.loop-from.is_changed c.loop-from.invariant.kept c.loop-from.invariant.grown in
            omega arith;
      })
      | else-join_rows w ↦
          let same : c.join_rows.new.words ≡ c.loop-from.words = c.join_rows.ensures.kept w.if-join_rows.false in
          rw w.is_changed-is (record {
            rows = rows;
            closed = λ e.
                closed_more c.args.links.now c.args.width c.args.count c.join_rows.new.words c.loop-from.from-index (0, 0) c.loop-from-test.true
                (subst (λ (words : List ℕ). AreClosed (take c.loop-from.from-index c.args.links.now) c.args.width c.args.count words) (sym same) (c.loop-from.invariant.closed e))
                (λ k small has. (c.join_rows.ensures.joined link.0 k (omega (arith, rows.room))).1
                (inr (refl, subst (λ (words : List ℕ). HasBit words c.args.width link.1 k) same has)));
            kept = λ e. same ∙ c.loop-from.invariant.kept e;
            grown = λ e. subst (λ (words : List ℕ). sum c.args.words.now < sum words) (sym same) (c.loop-from.invariant.grown e);
          })
    ]
