use Rattle.std.proofs.Common.{ℕ, get_or}
use Rattle.nextest_filtering_graph.specs.Rows.{AreRows}
use Rattle.nextest_filtering_graph.proofs.Rows.{rows_after}
use Rattle.nextest_filtering_graph.proofs.closing.join_steps.Goals.{then-from-count+then-to-count+then-has_bit, else-from-count}
use Rattle.nextest_filtering_graph.proofs.closing.join_steps.Goals as goal

pub loop-from-preserved : goal.loop-from-preserved
loop-from-preserved c links first =
    let step : ℕ × ℕ = get_or c.args.steps.now c.loop-from.from-index (0, 0) in
    let rows : AreRows links c.args.width c.args.count c.loop-from.words = c.loop-from.invariant links first in
    elim c.if-from-count.branch [
      | then-from-count+then-to-count+then-has_bit w ↦ rw w.words-is
          (rows_after links c.args.width c.args.count c.loop-from.words w.join_rows.new.words step.0 step.1 rows
          (rows.sound step.0 step.1 w.if-from-count.true w.if-to-count.true (w.has_bit.ensures.0 w.if-has_bit.true)) w.if-to-count.true w.join_rows.auto.words w.join_rows.ensures.joined)
      | else-from-count w ↦ rw w.words-is rows
    ]
