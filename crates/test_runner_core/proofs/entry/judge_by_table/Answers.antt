use Rattle.std.proofs.Common.{List, ℕ, [], refl, inl, sym, subst}
use Rattle.test_runner_core_streams.specs.Left.{OfBytes}
use Rattle.test_runner_core_log_reader.specs.Cursor.{items_ahead}
use Rattle.test_runner_core_reporter.proofs.Told.{front_none}
use Rattle.test_runner_core.specs.Inside.{IsBegun, IsGot, IsGotOf, IsJudged}
use Rattle.test_runner_core.specs.Outcome.{table_of}
use Rattle.test_runner_core.specs.Report.{Begun, Composed, HasSoFar, IsStatus, refused_plan}
use Rattle.test_runner_core.proofs.Left.{given_any}
use Rattle.test_runner_core.proofs.NearCalls.{inputs_near, inputs_unread}
use Rattle.test_runner_core.proofs.OneReport.{never_planned}
use Rattle.test_runner_core.proofs.Reported.{all_is_written, begun_of, got_of, judged_composed, refused_as, refused_begun, refused_composed, reports_as, reports_front}
use Rattle.test_runner_core.proofs.Statuses.{of_refusal}
use Rattle.test_runner_core.proofs.entry.judge_by_table.Goals as goal

pub returns-in-Ok-clause-reports : goal.returns-in-Ok-clause-reports
returns-in-Ok-clause-reports g c =
    let left = g.R.LogReader.left in
    let taken = g.W.ReportWriter.taken in
    let inputs = c.args.inputs in
    let answer = table_of inputs in
    let known = left c.args.log.now in
    let rest = left c.judge_plan.new.log in
    let built = c.in-Ok.ensures in
    let begin = c.args.lines.now in
    reports_as c.judge_plan.result (IsJudged c.in-Ok.plan begin known) (λ parts code. OfBytes known (λ bytes. Composed answer inputs (items_ahead begin bytes) parts code))
    (IsGot c.in-Ok.plan begin known rest) (λ parts. (front : List (List ℕ)) × IsGotOf begin known rest front × HasSoFar answer inputs front parts)
    (IsBegun c.in-Ok.plan begin known) (λ parts. OfBytes known (λ bytes. Begun answer inputs (items_ahead begin bytes) parts))
    (taken c.args.report.now) (taken c.judge_plan.new.report)
    (judged_composed answer inputs c.in-Ok.plan begin known built) (got_of answer inputs c.in-Ok.plan begin known rest built) (begun_of answer inputs c.in-Ok.plan begin known built)
    c.judge_plan.ensures.reports

pub returns-in-Ok-clause-unread : goal.returns-in-Ok-clause-unread
returns-in-Ok-clause-unread g c = λ refusal refuses.
    absurd (never_planned (table_of c.args.inputs) c.args.inputs c.in-Ok.plan refusal refuses c.in-Ok.ensures)

pub returns-in_ok-refuse_plan-in-Err-Refused-clause-reports : goal.returns-in_ok-refuse_plan-in-Err-Refused-clause-reports
returns-in_ok-refuse_plan-in-Err-Refused-clause-reports g c =
    let inputs = c.args.inputs in
    let refusal = c.in-Err-Refused.refusal in
    let told = c.in_ok-refuse_plan-in-Err-Refused.ensures in
    let is = refused_as (table_of inputs) inputs c.in-Err-Refused.field-0 refusal c.in-Err-Refused.field-0-is c.in-Err-Refused.ensures in (
      refused_plan refusal,
      given_any (λ bytes. Composed (table_of inputs) inputs (items_ahead c.args.lines.now bytes) (refused_plan refusal) c.in_ok-refuse_plan-in-Err-Refused.field-0) (g.R.LogReader.left c.args.log.now)
          (λ bytes. refused_composed (table_of inputs) inputs refusal (items_ahead c.args.lines.now bytes) c.in_ok-refuse_plan-in-Err-Refused.field-0 is told.code),
      all_is_written (refused_plan refusal) (g.W.ReportWriter.taken c.args.report.now) (g.W.ReportWriter.taken c.refuse_plan.new.report) told.writes,
    )

pub returns-in_err-refuse_plan-in-Err-Refused-clause-reports : goal.returns-in_err-refuse_plan-in-Err-Refused-clause-reports
returns-in_err-refuse_plan-in-Err-Refused-clause-reports g c =
    let inputs = c.args.inputs in
    let known = g.R.LogReader.left c.args.log.now in
    let refusal = c.in-Err-Refused.refusal in
    let is = refused_as (table_of inputs) inputs c.in-Err-Refused.field-0 refusal c.in-Err-Refused.field-0-is c.in-Err-Refused.ensures in
    reports_front c.from_residual.result c.in_err-refuse_plan-in-Err-Refused.field-0.0 (refused_plan refusal) _ _ (λ parts. OfBytes known (λ bytes. Begun (table_of inputs) inputs (items_ahead c.args.lines.now bytes) parts))
    (g.W.ReportWriter.taken c.args.report.now) (g.W.ReportWriter.taken c.refuse_plan.new.report) c.from_residual.ensures.1
    (given_any (λ bytes. Begun (table_of inputs) inputs (items_ahead c.args.lines.now bytes) (refused_plan refusal)) known (λ bytes. refused_begun (table_of inputs) inputs refusal (items_ahead c.args.lines.now bytes) is))
    c.in_err-refuse_plan-in-Err-Refused.ensures.writes

pub returns-in-Err-OutOfMemory-clause-reports : goal.returns-in-Err-OutOfMemory-clause-reports
returns-in-Err-OutOfMemory-clause-reports g c =
    let inputs = c.args.inputs in
    ([], given_any (λ bytes. Begun (table_of inputs) inputs (items_ahead c.args.lines.now bytes) []) (g.R.LogReader.left c.args.log.now) (λ bytes. inl refl), front_none [] (g.W.ReportWriter.taken c.args.report.now) [])

pub returns-in_ok-refuse_plan-in-Err-Refused-clause-status : goal.returns-in_ok-refuse_plan-in-Err-Refused-clause-status
returns-in_ok-refuse_plan-in-Err-Refused-clause-status g c = subst IsStatus (sym c.in_ok-refuse_plan-in-Err-Refused.ensures.code) (of_refusal c.in-Err-Refused.refusal)

pub returns-in-Ok-clause-near : goal.returns-in-Ok-clause-near
returns-in-Ok-clause-near g c =
    let left = g.R.LogReader.left in
    let taken = g.W.ReportWriter.taken in
    inputs_near c.args.inputs c.in-Ok.plan c.args.lines.now (left c.args.log.now) (left c.judge_plan.new.log) (taken c.args.report.now) (taken c.judge_plan.new.report)
    c.in-Ok.ensures c.judge_plan.ensures.near

pub returns-in_ok-refuse_plan-in-Err-Refused-clause-near : goal.returns-in_ok-refuse_plan-in-Err-Refused-clause-near
returns-in_ok-refuse_plan-in-Err-Refused-clause-near g c =
    inputs_unread c.args.inputs c.args.lines.now (g.R.LogReader.left c.args.log.now) (g.W.ReportWriter.taken c.args.report.now) (g.W.ReportWriter.taken c.refuse_plan.new.report)

pub returns-in_err-refuse_plan-in-Err-Refused-clause-near : goal.returns-in_err-refuse_plan-in-Err-Refused-clause-near
returns-in_err-refuse_plan-in-Err-Refused-clause-near g c =
    inputs_unread c.args.inputs c.args.lines.now (g.R.LogReader.left c.args.log.now) (g.W.ReportWriter.taken c.args.report.now) (g.W.ReportWriter.taken c.refuse_plan.new.report)

pub returns-in-Err-OutOfMemory-clause-near : goal.returns-in-Err-OutOfMemory-clause-near
returns-in-Err-OutOfMemory-clause-near g c =
    inputs_unread c.args.inputs c.args.lines.now (g.R.LogReader.left c.args.log.now) (g.W.ReportWriter.taken c.args.report.now) (g.W.ReportWriter.taken c.args.report.now)
