use Rattle.std.proofs.Common.{◌≡◌, Err, string_bytes, refl, sym, ap, ◌∙◌, subst, inl}
use Rattle.std.proofs.lemmas.Result.{err_from_is_err_and}
use Rattle.test_runner_core_plan.specs.declared.plan.Plan.{Plan}
use Rattle.test_runner_core_session.specs.Session.{SessionState}
use Rattle.test_runner_core_reporter.specs.Writes.{WritesAll, WritesPrefix}
use Rattle.test_runner_core.specs.Inside.{JudgesLines, KeepsJudged}
use Rattle.test_runner_core.specs.Near.{LinesNear}
use Rattle.test_runner_core.specs.Report.{IsStatus, ending}
use Rattle.test_runner_core.proofs.Kept.{ended_as, exit_as, unended_as}
use Rattle.test_runner_core.proofs.Near.{ends_near, ends_on}
use Rattle.test_runner_core.proofs.Statuses.{of_report}
use Rattle.test_runner_core.proofs.Whole.{reports_none, reports_unended, reports_unjudged, reports_whole}
use Rattle.test_runner_core.proofs.whole_report.judge_plan.Goals as goal

pub returns-in_err-session-clause-reports : goal.returns-in_err-session-clause-reports
returns-in_err-session-clause-reports g c =
    let left = g.R.LogReader.left in
    let p = err_from_is_err_and c.from_residual.result c.from_residual.ensures.1 in
    rw (p.1, p.2) (reports_none c.args.plan.now c.args.lines.now (left c.args.log.now) (left c.args.log.now) (g.W.ReportWriter.taken c.args.report.now))

pub returns-in_err-found-clause-reports : goal.returns-in_err-found-clause-reports
returns-in_err-found-clause-reports g c =
    let left = g.R.LogReader.left in
    let taken = g.W.ReportWriter.taken in
    let plan : c.in_ok-session.session.plan ≡ c.args.plan.now = ap (λ (s : SessionState). s.plan) c.in_ok-session.ensures in
    let session = c.judge_lines.new.session in
    let fault = c.in_err-found.field-0.0 in
    let judges =
    subst (λ (p : Plan). JudgesLines (Err fault) p session.run c.args.lines.now (left c.args.log.now) (left c.judge_lines.new.log) (taken c.args.report.now) (taken c.judge_lines.new.report) (string_bytes c.judge_lines.new.text))
    plan c.in_err-found.ensures.judged in
    let p = err_from_is_err_and c.from_residual-in_err-found.result c.from_residual-in_err-found.ensures.1 in
    rw (p.1, p.2) (reports_unjudged fault c.args.plan.now session.run c.args.lines.now (left c.args.log.now) (left c.judge_lines.new.log) (taken c.args.report.now) (taken c.judge_lines.new.report)
    (string_bytes c.judge_lines.new.text) judges)

pub returns-in_err-end_report-clause-reports : goal.returns-in_err-end_report-clause-reports
returns-in_err-end_report-clause-reports g c =
    let left = g.R.LogReader.left in
    let taken = g.W.ReportWriter.taken in
    let plan : c.in_ok-session.session.plan ≡ c.args.plan.now = ap (λ (s : SessionState). s.plan) c.in_ok-session.ensures in
    let session = c.judge_lines.new.session in
    let found = c.in_ok-found.found in
    let judged =
    subst (λ (p : Plan). KeepsJudged p session.run found c.args.lines.now (left c.args.log.now) (taken c.args.report.now) (taken c.judge_lines.new.report) (string_bytes c.judge_lines.new.text))
    plan c.in_ok-found.ensures.judged in
    let failed =
    subst (λ (p : Plan). WritesPrefix (ending p session.run found) (taken c.judge_lines.new.report) (string_bytes c.judge_lines.new.text) (taken c.end_report.new.report))
    (c.in_ok-found.ensures.plan ∙ plan) c.in_err-end_report.ensures.writes in
    let p = err_from_is_err_and c.from_residual-in_err-end_report.result c.from_residual-in_err-end_report.ensures.1 in
    rw (p.1, p.2) (reports_unended c.in_err-end_report.field-0.0 c.args.plan.now judged.0 found c.args.lines.now (left c.args.log.now) (left c.judge_lines.new.log) (taken c.args.report.now)
    (taken c.judge_lines.new.report) (taken c.end_report.new.report) (string_bytes c.judge_lines.new.text) judged.2
    (unended_as c.args.plan.now session.run judged.0 found (taken c.judge_lines.new.report) (string_bytes c.judge_lines.new.text) (taken c.end_report.new.report) judged.1 failed))

pub returns-clause-reports : goal.returns-clause-reports
returns-clause-reports g c =
    let left = g.R.LogReader.left in
    let taken = g.W.ReportWriter.taken in
    let plan : c.in_ok-session.session.plan ≡ c.args.plan.now = ap (λ (s : SessionState). s.plan) c.in_ok-session.ensures in
    let session = c.judge_lines.new.session in
    let found = c.in_ok-found.found in
    let judged =
    subst (λ (p : Plan). KeepsJudged p session.run found c.args.lines.now (left c.args.log.now) (taken c.args.report.now) (taken c.judge_lines.new.report) (string_bytes c.judge_lines.new.text))
    plan c.in_ok-found.ensures.judged in
    let ended =
    subst (λ (p : Plan). WritesAll (ending p session.run found) (taken c.judge_lines.new.report) (string_bytes c.judge_lines.new.text) (taken c.end_report.new.report) (string_bytes c.end_report.new.text))
    (c.in_ok-found.ensures.plan ∙ plan) c.in_ok-end_report.ensures.writes in
    reports_whole c.args.plan.now judged.0 found c.args.lines.now (left c.args.log.now) (left c.judge_lines.new.log) (taken c.args.report.now) (taken c.judge_lines.new.report) (taken c.end_report.new.report)
    (string_bytes c.judge_lines.new.text) (string_bytes c.end_report.new.text) c.in_ok-end_report.field-0 judged.2
    (ended_as c.args.plan.now session.run judged.0 found (taken c.judge_lines.new.report) (string_bytes c.judge_lines.new.text) (taken c.end_report.new.report) (string_bytes c.end_report.new.text) judged.1 ended)
    c.in_ok-end_report.ensures.empty
    (c.in_ok-end_report.ensures.code ∙ exit_as c.args.plan.now judged.0 session.run found judged.1)

pub returns-clause-status : goal.returns-clause-status
returns-clause-status g c = subst IsStatus (sym c.in_ok-end_report.ensures.code) (of_report c.judge_lines.new.session.run c.in_ok-found.found)

-- how near to the line with which it ends it reads
pub returns-in_err-session-clause-near : goal.returns-in_err-session-clause-near
returns-in_err-session-clause-near g c =
    let known = g.R.LogReader.left c.args.log.now in
    let taken = g.W.ReportWriter.taken c.args.report.now in
    ends_near c.args.plan.now c.args.lines.now known taken known taken (inl refl)

pub returns-in_err-found-clause-near : goal.returns-in_err-found-clause-near
returns-in_err-found-clause-near g c =
    let left = g.R.LogReader.left in
    let taken = g.W.ReportWriter.taken in
    let plan : c.in_ok-session.session.plan ≡ c.args.plan.now = ap (λ (s : SessionState). s.plan) c.in_ok-session.ensures in
    subst (λ (p : Plan). LinesNear p c.args.lines.now (left c.args.log.now) (left c.judge_lines.new.log) (taken c.args.report.now) (taken c.judge_lines.new.report)) plan c.judge_lines.ensures.near

pub returns-in_err-end_report-clause-near : goal.returns-in_err-end_report-clause-near
returns-in_err-end_report-clause-near g c =
    let left = g.R.LogReader.left in
    let taken = g.W.ReportWriter.taken in
    let plan : c.in_ok-session.session.plan ≡ c.args.plan.now = ap (λ (s : SessionState). s.plan) c.in_ok-session.ensures in
    let moved = c.in_err-end_report.ensures.writes.moved in
    ends_on c.args.plan.now c.args.lines.now (left c.args.log.now) (left c.judge_lines.new.log) (taken c.args.report.now) (taken c.judge_lines.new.report) (taken c.end_report.new.report) moved.written moved.taken
    (subst (λ (p : Plan). LinesNear p c.args.lines.now (left c.args.log.now) (left c.judge_lines.new.log) (taken c.args.report.now) (taken c.judge_lines.new.report)) plan c.judge_lines.ensures.near)

pub returns-clause-near : goal.returns-clause-near
returns-clause-near g c =
    let left = g.R.LogReader.left in
    let taken = g.W.ReportWriter.taken in
    let plan : c.in_ok-session.session.plan ≡ c.args.plan.now = ap (λ (s : SessionState). s.plan) c.in_ok-session.ensures in
    let moved = c.in_ok-end_report.ensures.writes.moved in
    ends_on c.args.plan.now c.args.lines.now (left c.args.log.now) (left c.judge_lines.new.log) (taken c.args.report.now) (taken c.judge_lines.new.report) (taken c.end_report.new.report) moved.written moved.taken
    (subst (λ (p : Plan). LinesNear p c.args.lines.now (left c.args.log.now) (left c.judge_lines.new.log) (taken c.args.report.now) (taken c.judge_lines.new.report)) plan c.judge_lines.ensures.near)
