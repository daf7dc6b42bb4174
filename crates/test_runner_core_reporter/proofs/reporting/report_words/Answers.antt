use Rattle.std.proofs.Common.{[], ◌∷◌, string_bytes, refl}
use Rattle.test_runner_core_reporter.specs.Parts.{Said}
use Rattle.test_runner_core_reporter.proofs.Told.{fails, front_none, one_text, pushed, then_nothing}
use Rattle.test_runner_core_reporter.proofs.reporting.report_words.Goals as goal

pub returns-in_err-push_str-clause-writes : goal.returns-in_err-push_str-clause-writes
returns-in_err-push_str-clause-writes g c = fails c.from_residual.result _ _ _ _ _ c.from_residual.ensures.0 (front_none _ _ _)

pub returns-clause-writes : goal.returns-clause-writes
returns-clause-writes g c =
    let taken = g.W.ReportWriter.taken in
    then_nothing c.write_if_long.result _ _ _ _ _ _ _
    (pushed (Said c.args.words.now ∷ []) (taken c.args.report.now) (string_bytes c.args.text.now) c.args.words.now (string_bytes c.push_str.new.self)
    (one_text (Said c.args.words.now) c.args.words.now refl) c.in_ok-push_str.ensures.bytes)
    c.write_if_long.ensures.writes
