use Rattle.std.proofs.Common.{ap, sym, ◌∙◌, arith, slice_set}
use Rattle.std.proofs.lemmas.List.Edits.{map_over_more}
use Rattle.nextest_run_events_results.specs.declared.record.Record.{Record}
use Rattle.test_runner_core_run_state.specs.Records.{unwritten}
use Rattle.test_runner_core_run_state.proofs.kept_records.forget_each.Goals as goal

pub loop-ended-preserved : goal.loop-ended-preserved
loop-ended-preserved c =
    ap (λ (e : Record). slice_set c.loop-ended.records c.loop-ended.ended-index e) (c.forget_output.ensures ∙ ap unwritten (sym c.ended-item.is))
    ∙ map_over_more unwritten c.args.records.now c.loop-ended.records c.loop-ended.ended-index c.ended-item.result (omega arith) c.loop-ended.invariant c.ended-item.is
