use Rattle.std.proofs.Common.{[]}
use Rattle.test_runner_core_reporter.proofs.Told.{fails, front_none}
use Rattle.test_runner_core.specs.Report.{refused_inputs}
use Rattle.test_runner_core.proofs.whole_report.write_refused_inputs.Goals as goal

pub returns-in_err-words-in-Field-clause-writes : goal.returns-in_err-words-in-Field-clause-writes
returns-in_err-words-in-Field-clause-writes g c =
    fails c.from_residual.result _ _ _ _ _ c.from_residual.ensures.0
    (front_none (refused_inputs c.args.refusal.now) (g.W.ReportWriter.taken c.args.report.now) [])

pub returns-in_err-words-in-Syntax-clause-writes : goal.returns-in_err-words-in-Syntax-clause-writes
returns-in_err-words-in-Syntax-clause-writes g c =
    fails c.from_residual-in_err-words-in-Syntax.result _ _ _ _ _ c.from_residual-in_err-words-in-Syntax.ensures.0
    (front_none (refused_inputs c.args.refusal.now) (g.W.ReportWriter.taken c.args.report.now) [])
