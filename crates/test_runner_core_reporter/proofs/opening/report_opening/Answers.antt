use Rattle.std.proofs.Common.{◌∙◌, string_bytes}
use Rattle.test_runner_core_reporter.specs.Opening.{warning}
use Rattle.test_runner_core_reporter.proofs.Each.{lent_here, next_fails, next_told}
use Rattle.test_runner_core_reporter.proofs.Told.{fails}
use Rattle.test_runner_core_reporter.proofs.opening.report_opening.Goals as goal

pub returns-in_err-report_warning-clause-writes : goal.returns-in_err-report_warning-clause-writes
returns-in_err-report_warning-clause-writes g c =
    let taken = g.W.ReportWriter.taken in
    let warnings = c.args.plan.now.warnings in
    let here = lent_here warnings c.as_slice-told-items.result.now c.loop-told.told-index c.told-item.result c.as_slice-told-items.ensures c.loop-told-test.true c.told-item.is in
    fails c.from_residual.result _ _ _ _ _ c.from_residual.ensures.0
    (next_fails warning warnings c.loop-told.told-index c.told-item.result (taken c.args.report.now) (taken c.loop-told.report) (taken c.report_warning.new.report)
    (string_bytes c.args.text.now) (string_bytes c.loop-told.text) here c.loop-told.invariant.told c.in_err-report_warning.ensures.writes)

pub loop-told-preserved : goal.loop-told-preserved
loop-told-preserved g c =
    let taken = g.W.ReportWriter.taken in
    let warnings = c.args.plan.now.warnings in
    let here = lent_here warnings c.as_slice-told-items.result.now c.loop-told.told-index c.told-item.result c.as_slice-told-items.ensures c.loop-told-test.true c.told-item.is in
    record {
      told = next_told warning warnings c.loop-told.told-index c.told-item.result (taken c.args.report.now) (taken c.loop-told.report) (taken c.report_warning.new.report)
          (string_bytes c.args.text.now) (string_bytes c.loop-told.text) (string_bytes c.report_warning.new.text) here c.loop-told.invariant.told c.in_ok-report_warning.ensures.writes;
      unfailed = c.in_ok-report_warning.ensures.failures ∙ c.loop-told.invariant.unfailed;
    }
