use Rattle.std.proofs.Common.{[], Ok, Err, true, false, refl, inl, subst, sym}
use Rattle.test_runner_core_log_reader.specs.Cursor.{Cursor, items_ahead}
use Rattle.test_runner_core_log_reader.specs.Items.{items}
use Rattle.test_runner_core_reporter.proofs.Told.{front_none}
use Rattle.test_runner_core.specs.Faults.{lacks_memory}
use Rattle.test_runner_core.specs.Inside.{IsBegun, IsGot, IsJudged}
use Rattle.test_runner_core.specs.Report.{Begun, Composed, GotTo, IsStatus, OfLeft, refused_plan}
use Rattle.test_runner_core.proofs.Headline.{headline}
use Rattle.test_runner_core.proofs.Left.{of_any, of_both, of_given}
use Rattle.test_runner_core.proofs.NearCalls.{log_near, log_unread}
use Rattle.test_runner_core.proofs.OneReport.{never_planned}
use Rattle.test_runner_core.proofs.Reported.{all_is_written, asked_as, asked_in_part, asks_all, asks_with, begun_of, got_from_beginning, got_of, judged_composed, refused_as, refused_begun, refused_composed, reports_as, reports_front}
use Rattle.test_runner_core.proofs.Statuses.{of_refusal}
use Rattle.test_runner_core.proofs.entry.judge.Goals as goal

pub returns-in-Ok-clause-reports : goal.returns-in-Ok-clause-reports
returns-in-Ok-clause-reports g c =
    let left = g.R.LogReader.left in
    let taken = g.W.ReportWriter.taken in
    let answer = g.L.Lister.answer c.args.lister.now in
    let inputs = c.args.inputs.now in
    let known = left c.args.log.now in
    let rest = left c.judge_plan.new.log in
    let built = c.in-Ok.ensures.builds in
    let begin = c.new.result in
    let fresh = c.new.ensures in
    reports_as c.judge_plan.result (IsJudged c.in-Ok.plan begin known) (λ parts code. OfLeft known (λ bytes. Composed answer inputs (items 0 bytes) parts code))
    (IsGot c.in-Ok.plan begin known rest) (λ parts. OfLeft known (λ bytes. OfLeft rest (λ behind. GotTo answer inputs bytes behind parts)))
    (IsBegun c.in-Ok.plan begin known) (λ parts. OfLeft known (λ bytes. Begun answer inputs (items 0 bytes) parts))
    (taken c.args.report.now) (taken c.judge_plan.new.report)
    (λ parts code judged. subst (λ (v : Cursor). OfLeft known (λ bytes. Composed answer inputs (items_ahead v bytes) parts code)) fresh
    (of_given (λ bytes. Composed answer inputs (items_ahead begin bytes) parts code) known (judged_composed answer inputs c.in-Ok.plan begin known built parts code judged)))
    (λ parts had. of_both (λ bytes behind. GotTo answer inputs bytes behind parts) known rest
    (got_from_beginning answer inputs begin known rest fresh parts (got_of answer inputs c.in-Ok.plan begin known rest built parts had)))
    (λ parts begun. subst (λ (v : Cursor). OfLeft known (λ bytes. Begun answer inputs (items_ahead v bytes) parts)) fresh
    (of_given (λ bytes. Begun answer inputs (items_ahead begin bytes) parts) known (begun_of answer inputs c.in-Ok.plan begin known built parts begun)))
    c.judge_plan.ensures.reports

pub returns-in_ok-refuse_plan-in-Err-Refused-clause-reports : goal.returns-in_ok-refuse_plan-in-Err-Refused-clause-reports
returns-in_ok-refuse_plan-in-Err-Refused-clause-reports g c =
    let answer = g.L.Lister.answer c.args.lister.now in
    let inputs = c.args.inputs.now in
    let refusal = c.in-Err-Refused.refusal in
    let told = c.in_ok-refuse_plan-in-Err-Refused.ensures in
    let is = refused_as answer inputs c.in-Err-Refused.field-0 refusal c.in-Err-Refused.field-0-is c.in-Err-Refused.ensures.builds in (
      refused_plan refusal,
      of_any (λ bytes. Composed answer inputs (items 0 bytes) (refused_plan refusal) c.in_ok-refuse_plan-in-Err-Refused.field-0) (g.R.LogReader.left c.args.log.now)
          (λ bytes. refused_composed answer inputs refusal (items 0 bytes) c.in_ok-refuse_plan-in-Err-Refused.field-0 is told.code),
      all_is_written (refused_plan refusal) (g.W.ReportWriter.taken c.args.report.now) (g.W.ReportWriter.taken c.refuse_plan.new.report) told.writes,
    )

pub returns-in_err-refuse_plan-in-Err-Refused-clause-reports : goal.returns-in_err-refuse_plan-in-Err-Refused-clause-reports
returns-in_err-refuse_plan-in-Err-Refused-clause-reports g c =
    let answer = g.L.Lister.answer c.args.lister.now in
    let inputs = c.args.inputs.now in
    let known = g.R.LogReader.left c.args.log.now in
    let refusal = c.in-Err-Refused.refusal in
    let is = refused_as answer inputs c.in-Err-Refused.field-0 refusal c.in-Err-Refused.field-0-is c.in-Err-Refused.ensures.builds in
    reports_front c.from_residual.result c.in_err-refuse_plan-in-Err-Refused.field-0.0 (refused_plan refusal) _ _ (λ parts. OfLeft known (λ bytes. Begun answer inputs (items 0 bytes) parts))
    (g.W.ReportWriter.taken c.args.report.now) (g.W.ReportWriter.taken c.refuse_plan.new.report) c.from_residual.ensures.1
    (of_any (λ bytes. Begun answer inputs (items 0 bytes) (refused_plan refusal)) known (λ bytes. refused_begun answer inputs refusal (items 0 bytes) is))
    c.in_err-refuse_plan-in-Err-Refused.ensures.writes

pub returns-in_ok-refuse_plan-in-Err-Refused-clause-asks : goal.returns-in_ok-refuse_plan-in-Err-Refused-clause-asks
returns-in_ok-refuse_plan-in-Err-Refused-clause-asks g c =
    let asked = g.L.Lister.asked in
    let old = asked c.args.lister.now in
    let new = asked c.build.new.lister in
    let error = c.in-Err-Refused.field-0 in
    asks_with (g.L.Lister.answer c.args.lister.now) c.args.inputs.now (Err error) false old new
    (λ ids. asked_as error c.in-Err-Refused.refusal old ids new c.in-Err-Refused.field-0-is) c.in-Err-Refused.ensures.asks

pub returns-in_err-refuse_plan-in-Err-Refused-clause-asks : goal.returns-in_err-refuse_plan-in-Err-Refused-clause-asks
returns-in_err-refuse_plan-in-Err-Refused-clause-asks g c =
    let asked = g.L.Lister.asked in
    let old = asked c.args.lister.now in
    let new = asked c.build.new.lister in
    let error = c.in-Err-Refused.field-0 in
    let result = c.from_residual.result in
    asks_with (g.L.Lister.answer c.args.lister.now) c.args.inputs.now (Err error) (lacks_memory result) old new
    (λ ids asks. asks_all result old ids new (asked_as error c.in-Err-Refused.refusal old ids new c.in-Err-Refused.field-0-is asks)) c.in-Err-Refused.ensures.asks

pub returns-in-Ok-clause-asks : goal.returns-in-Ok-clause-asks
returns-in-Ok-clause-asks g c =
    let asked = g.L.Lister.asked in
    let old = asked c.args.lister.now in
    let new = asked c.build.new.lister in
    asks_with (g.L.Lister.answer c.args.lister.now) c.args.inputs.now (Ok c.in-Ok.plan) (lacks_memory c.judge_plan.result) old new
    (λ ids. asks_all c.judge_plan.result old ids new) c.in-Ok.ensures.asks

pub returns-in-Err-OutOfMemory-clause-asks : goal.returns-in-Err-OutOfMemory-clause-asks
returns-in-Err-OutOfMemory-clause-asks g c =
    let asked = g.L.Lister.asked in
    let old = asked c.args.lister.now in
    let new = asked c.build.new.lister in
    let error = c.in-Err-OutOfMemory.field-0 in
    asks_with (g.L.Lister.answer c.args.lister.now) c.args.inputs.now (Err error) true old new
    (λ ids. asked_in_part error old ids new c.in-Err-OutOfMemory.field-0-is) c.in-Err-OutOfMemory.ensures.asks

pub returns-in-Ok-clause-unread : goal.returns-in-Ok-clause-unread
returns-in-Ok-clause-unread g c = λ refusal refuses.
    absurd (never_planned (g.L.Lister.answer c.args.lister.now) c.args.inputs.now c.in-Ok.plan refusal refuses c.in-Ok.ensures.builds)

pub returns-in-Err-OutOfMemory-clause-reports : goal.returns-in-Err-OutOfMemory-clause-reports
returns-in-Err-OutOfMemory-clause-reports g c =
    let answer = g.L.Lister.answer c.args.lister.now in
    ([], of_any (λ bytes. Begun answer c.args.inputs.now (items 0 bytes) []) (g.R.LogReader.left c.args.log.now) (λ bytes. inl refl), front_none [] (g.W.ReportWriter.taken c.args.report.now) [])

pub returns-in_ok-refuse_plan-in-Err-Refused-clause-status : goal.returns-in_ok-refuse_plan-in-Err-Refused-clause-status
returns-in_ok-refuse_plan-in-Err-Refused-clause-status g c = subst IsStatus (sym c.in_ok-refuse_plan-in-Err-Refused.ensures.code) (of_refusal c.in-Err-Refused.refusal)

pub returns-in-Ok-clause-headline : goal.returns-in-Ok-clause-headline
returns-in-Ok-clause-headline g c =
    headline (g.L.Lister.answer c.args.lister.now) c.args.inputs.now (g.R.LogReader.left c.args.log.now) _ _ c.judge_plan.result (g.W.ReportWriter.taken c.args.report.now)
    (g.W.ReportWriter.taken c.judge_plan.new.report) (returns-in-Ok-clause-reports g c)

pub returns-in_ok-refuse_plan-in-Err-Refused-clause-headline : goal.returns-in_ok-refuse_plan-in-Err-Refused-clause-headline
returns-in_ok-refuse_plan-in-Err-Refused-clause-headline g c =
    headline (g.L.Lister.answer c.args.lister.now) c.args.inputs.now (g.R.LogReader.left c.args.log.now) (λ parts. ⊥) (λ parts. ⊥) (Ok c.in_ok-refuse_plan-in-Err-Refused.field-0) (g.W.ReportWriter.taken c.args.report.now)
    (g.W.ReportWriter.taken c.refuse_plan.new.report) (returns-in_ok-refuse_plan-in-Err-Refused-clause-reports g c)

pub returns-in-Ok-clause-near : goal.returns-in-Ok-clause-near
returns-in-Ok-clause-near g c =
    let left = g.R.LogReader.left in
    let taken = g.W.ReportWriter.taken in
    log_near (g.L.Lister.answer c.args.lister.now) c.args.inputs.now c.in-Ok.plan c.new.result (left c.args.log.now) (left c.judge_plan.new.log) (taken c.args.report.now)
    (taken c.judge_plan.new.report) c.new.ensures c.in-Ok.ensures.builds c.judge_plan.ensures.near

pub returns-in_ok-refuse_plan-in-Err-Refused-clause-near : goal.returns-in_ok-refuse_plan-in-Err-Refused-clause-near
returns-in_ok-refuse_plan-in-Err-Refused-clause-near g c =
    log_unread (g.L.Lister.answer c.args.lister.now) c.args.inputs.now (g.R.LogReader.left c.args.log.now) (g.W.ReportWriter.taken c.args.report.now)
    (g.W.ReportWriter.taken c.refuse_plan.new.report)

pub returns-in_err-refuse_plan-in-Err-Refused-clause-near : goal.returns-in_err-refuse_plan-in-Err-Refused-clause-near
returns-in_err-refuse_plan-in-Err-Refused-clause-near g c =
    log_unread (g.L.Lister.answer c.args.lister.now) c.args.inputs.now (g.R.LogReader.left c.args.log.now) (g.W.ReportWriter.taken c.args.report.now)
    (g.W.ReportWriter.taken c.refuse_plan.new.report)

pub returns-in-Err-OutOfMemory-clause-near : goal.returns-in-Err-OutOfMemory-clause-near
returns-in-Err-OutOfMemory-clause-near g c =
    log_unread (g.L.Lister.answer c.args.lister.now) c.args.inputs.now (g.R.LogReader.left c.args.log.now) (g.W.ReportWriter.taken c.args.report.now) (g.W.ReportWriter.taken c.args.report.now)
