use Rattle.std.proofs.Common.{◌≤◌, length, string_bytes, ap, ◌∙◌, arith}
use Rattle.test_runner_core_plan.specs.declared.plan.Plan.{Plan}
use Rattle.test_runner_core_reporter.specs.Final.{shown_tests}
use Rattle.test_runner_core_reporter.proofs.Named.{all_next, all_written, front_here}
use Rattle.test_runner_core_reporter.proofs.Told.{fails}
use Rattle.test_runner_core_reporter.proofs.final_text.report_tests.Goals as goal

pub returns-in_err-report_shown_at-clause-writes : goal.returns-in_err-report_shown_at-clause-writes
returns-in_err-report_shown_at-clause-writes g c =
    let taken = g.W.ReportWriter.taken in
    let session = c.args.session.now in
    fails c.from_residual.result _ _ _ _ _ c.from_residual.ensures.0
    (front_here (shown_tests session.plan session.plan.tests session.run.tests) c.loop-place.place (taken c.args.report.now) (taken c.loop-place.report) (taken c.report_shown_at.new.report)
    (string_bytes c.args.text.now) (string_bytes c.loop-place.text) c.loop-place.invariant.told c.in_err-report_shown_at.ensures.writes)

pub loop-place-preserved : goal.loop-place-preserved
loop-place-preserved g c =
    let taken = g.W.ReportWriter.taken in
    let session = c.args.session.now in
    record {
      told = all_next (shown_tests session.plan session.plan.tests session.run.tests) c.loop-place.place (taken c.args.report.now) (taken c.loop-place.report) (taken c.report_shown_at.new.report)
          (string_bytes c.args.text.now) (string_bytes c.loop-place.text) (string_bytes c.report_shown_at.new.text) c.loop-place.invariant.told c.in_ok-report_shown_at.ensures.writes;
      unfailed = c.in_ok-report_shown_at.ensures.failures ∙ c.loop-place.invariant.unfailed;
    }

pub returns-clause-writes : goal.returns-clause-writes
returns-clause-writes g c =
    let taken = g.W.ReportWriter.taken in
    let session = c.args.session.now in
    let count = c.len-place-end.ensures ∙ ap (λ (p : Plan). length p.tests) c.plan.ensures in
    let over : length session.plan.tests ≤ c.loop-place.place = omega (arith, count, c.loop-place-test.false) in
    all_written session.plan session.plan.tests session.run.tests c.loop-place.place (taken c.args.report.now) (taken c.loop-place.report)
    (string_bytes c.args.text.now) (string_bytes c.loop-place.text) over c.loop-place.invariant.told
