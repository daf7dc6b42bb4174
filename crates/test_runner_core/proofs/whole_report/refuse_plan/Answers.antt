use Rattle.std.proofs.Common.{[]}
use Rattle.test_runner_core_reporter.proofs.Told.{fails, front_none}
use Rattle.test_runner_core.specs.Report.{refused_plan}
use Rattle.test_runner_core.proofs.whole_report.refuse_plan.Goals as goal

pub returns-in_err-words-clause-writes : goal.returns-in_err-words-clause-writes
returns-in_err-words-clause-writes g c =
    fails c.from_residual.result _ _ _ _ _ c.from_residual.ensures.0
    (front_none (refused_plan c.args.refusal.now) (g.W.ReportWriter.taken c.args.report.now) [])
