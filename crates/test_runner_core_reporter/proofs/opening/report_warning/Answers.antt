use Rattle.std.proofs.Common.{[], ◌∷◌, string_bytes}
use Rattle.test_runner_core_reporter.specs.Opening.{warning}
use Rattle.test_runner_core_reporter.proofs.Told.{fails, front_none}
use Rattle.test_runner_core_reporter.proofs.opening.report_warning.Goals as goal

pub returns-in_err-words-clause-writes : goal.returns-in_err-words-clause-writes
returns-in_err-words-clause-writes g c =
    fails c.from_residual.result _ _ _ _ _ c.from_residual.ensures.0
    (front_none (warning c.args.told.now ∷ []) (g.W.ReportWriter.taken c.args.report.now) (string_bytes c.args.text.now))
