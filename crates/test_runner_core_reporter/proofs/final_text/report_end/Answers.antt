use Rattle.std.proofs.Common.{◌≡◌, List, ℕ, [], ◌∷◌, string_bytes, ap, ◌∙◌, subst}
use Rattle.nextest_run_events_counters.specs.declared.run_stats.RunStats.{RunStats}
use Rattle.nextest_run_events_counters.specs.declared.summary.FinalRunStats.{FinalRunStats}
use Rattle.test_runner_core_run_model.specs.Counters.{summary}
use Rattle.test_runner_core_reporter.specs.Parts.{Said}
use Rattle.test_runner_core_reporter.specs.RunEnd.{end_of, end_text}
use Rattle.test_runner_core_reporter.specs.Writes.{WritesParts}
use Rattle.test_runner_core_reporter.proofs.Told.{fails, front_none}
use Rattle.test_runner_core_reporter.proofs.final_text.report_end.Goals as goal

pub returns-in_err-words-clause-writes : goal.returns-in_err-words-clause-writes
returns-in_err-words-clause-writes g c =
    fails c.from_residual.result _ _ _ _ _ c.from_residual.ensures.0
    (front_none (Said (end_text (end_of c.args.session.now.run)) ∷ []) (g.W.ReportWriter.taken c.args.report.now) (string_bytes c.args.text.now))

pub returns-clause-writes : goal.returns-clause-writes
returns-clause-writes g c =
    let words : c.as_str.result.now ≡ end_text (record { outcome = c.summary.result; stats = c.stats.result }) = c.as_str.ensures.value ∙ c.in_ok-words.ensures.ok in
    let same : c.as_str.result.now ≡ end_text (end_of c.args.session.now.run) =
    words ∙ ap (λ (o : FinalRunStats). end_text (record { outcome = o; stats = c.stats.result })) c.summary.ensures
    ∙ ap (λ (s : RunStats). end_text (record { outcome = summary c.args.session.now.run; stats = s })) c.stats.ensures in
    subst (λ (said : List ℕ). WritesParts c.report_words.result (Said said ∷ []) (g.W.ReportWriter.taken c.args.report.now) (string_bytes c.args.text.now)
    (g.W.ReportWriter.taken c.report_words.new.report) (string_bytes c.report_words.new.text)) same c.report_words.ensures.writes
