use Rattle.std.proofs.Common.{[], ◌∷◌, string_bytes}
use Rattle.test_runner_core_reporter.specs.Parts.{Done}
use Rattle.test_runner_core_reporter.proofs.Told.{fails, front_none, one_text, pushed, then_nothing}
use Rattle.test_runner_core_reporter.proofs.reporting.report_done.Goals as goal

pub returns-in_err-push_done-clause-writes : goal.returns-in_err-push_done-clause-writes
returns-in_err-push_done-clause-writes g c = fails c.from_residual.result _ _ _ _ _ c.from_residual.ensures.0 (front_none _ _ _)

pub returns-clause-writes : goal.returns-clause-writes
returns-clause-writes g c =
    let taken = g.W.ReportWriter.taken in
    let added = c.in_ok-push_done.ensures.ok in
    then_nothing c.write_if_long.result _ _ _ _ _ _ _
    (pushed (Done c.args.shows.now c.args.test.now ∷ []) (taken c.args.report.now) (string_bytes c.args.text.now) added.0 (string_bytes c.push_done.new.text)
    (one_text (Done c.args.shows.now c.args.test.now) added.0 added.1) added.2)
    c.write_if_long.ensures.writes
