use Rattle.std.proofs.Common.{[], ◌∷◌, refl, string_bytes}
use Rattle.test_runner_core_run_state.specs.Statuses.{script_record_in}
use Rattle.test_runner_core_report_lines.specs.Texts.{script_text}
use Rattle.test_runner_core_reporter.specs.Parts.{Said}
use Rattle.test_runner_core_reporter.proofs.Told.{fails, front_none, one_text, pushed, then_nothing}
use Rattle.test_runner_core_reporter.proofs.reporting.report_script.Goals as goal

pub returns-in_err-push_script-clause-writes : goal.returns-in_err-push_script-clause-writes
returns-in_err-push_script-clause-writes g c = fails c.from_residual.result _ _ _ _ _ c.from_residual.ensures.0 (front_none _ _ _)

pub returns-clause-writes : goal.returns-clause-writes
returns-clause-writes g c =
    let taken = g.W.ReportWriter.taken in
    let words = script_text c.args.id.now (script_record_in c.args.status) in
    then_nothing c.write_if_long.result _ _ _ _ _ _ _
    (pushed (Said words ∷ []) (taken c.args.report.now) (string_bytes c.args.text.now) words (string_bytes c.push_script.new.text)
    (one_text (Said words) words refl) c.in_ok-push_script.ensures.ok)
    c.write_if_long.ensures.writes
