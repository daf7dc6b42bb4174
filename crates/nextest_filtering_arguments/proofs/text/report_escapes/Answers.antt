use Rattle.std.proofs.Common.{sym, subst}
use Rattle.std.specs.List.{AllByRecursion}
use Rattle.std.proofs.lemmas.Result.{on_ok_weaker}
use Rattle.nextest_filtering_escapes.specs.Spans.{IsSpanOf}
use Rattle.nextest_filtering_arguments.proofs.Escapes.{looked_at, spans_ahead}
use Rattle.nextest_filtering_arguments.proofs.text.report_escapes.Goals as goal

pub report_spans-requires-clause-spans : goal.report_spans-requires-clause-spans
report_spans-requires-clause-spans c =
    subst (AllByRecursion (IsSpanOf c.args.ahead.now)) (sym c.as_slice.ensures) (spans_ahead _ _ _ _ c.requires.front c.in_ok-read.ensures.read)

pub returns-clause-reported : goal.returns-clause-reported
returns-clause-reported c =
    on_ok_weaker c.report_spans.result (looked_at _ _ _ _ _ _ c.as_slice.ensures c.in_ok-read.ensures.text) c.report_spans.ensures.reported
