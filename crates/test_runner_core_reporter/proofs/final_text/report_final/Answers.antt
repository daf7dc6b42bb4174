use Rattle.std.proofs.Common.{[], ◌∷◌, ◌++◌, string_bytes}
use Rattle.test_runner_core_reporter.specs.Final.{script_parts, test_parts}
use Rattle.test_runner_core_reporter.specs.Parts.{Said}
use Rattle.test_runner_core_reporter.specs.RunEnd.{end_of, end_text}
use Rattle.test_runner_core_reporter.proofs.Told.{fails, front_more, front_then, tells_then}
use Rattle.test_runner_core_reporter.proofs.final_text.report_final.Goals as goal

pub returns-in_err-report_end-clause-writes : goal.returns-in_err-report_end-clause-writes
returns-in_err-report_end-clause-writes g c =
    let taken = g.W.ReportWriter.taken in
    let session = c.args.session.now in
    fails c.from_residual.result _ _ _ _ _ c.from_residual.ensures.0
    (front_more (Said (end_text (end_of session.run)) ∷ []) (script_parts session.plan session.run ++ test_parts session.plan session.run)
    (taken c.args.report.now) (taken c.report_end.new.report) (string_bytes c.args.text.now) c.in_err-report_end.ensures.writes)

pub returns-in_err-report_scripts-clause-writes : goal.returns-in_err-report_scripts-clause-writes
returns-in_err-report_scripts-clause-writes g c =
    let taken = g.W.ReportWriter.taken in
    let session = c.args.session.now in
    fails c.from_residual-in_err-report_scripts.result _ _ _ _ _ c.from_residual-in_err-report_scripts.ensures.0
    (front_then (Said (end_text (end_of session.run)) ∷ []) (script_parts session.plan session.run ++ test_parts session.plan session.run)
    (taken c.args.report.now) (taken c.report_end.new.report) (taken c.report_scripts.new.report) (string_bytes c.args.text.now) (string_bytes c.report_end.new.text) c.in_ok-report_end.ensures.writes
    (front_more (script_parts session.plan session.run) (test_parts session.plan session.run)
    (taken c.report_end.new.report) (taken c.report_scripts.new.report) (string_bytes c.report_end.new.text) c.in_err-report_scripts.ensures.writes))

pub returns-clause-writes : goal.returns-clause-writes
returns-clause-writes g c =
    let taken = g.W.ReportWriter.taken in
    let session = c.args.session.now in
    tells_then c.report_tests.result (Said (end_text (end_of session.run)) ∷ []) (script_parts session.plan session.run ++ test_parts session.plan session.run)
    (taken c.args.report.now) (taken c.report_end.new.report) (taken c.report_tests.new.report)
    (string_bytes c.args.text.now) (string_bytes c.report_end.new.text) (string_bytes c.report_tests.new.text) c.in_ok-report_end.ensures.writes
    (tells_then c.report_tests.result (script_parts session.plan session.run) (test_parts session.plan session.run)
    (taken c.report_end.new.report) (taken c.report_scripts.new.report) (taken c.report_tests.new.report)
    (string_bytes c.report_end.new.text) (string_bytes c.report_scripts.new.text) (string_bytes c.report_tests.new.text) c.in_ok-report_scripts.ensures.writes c.report_tests.ensures.writes)
