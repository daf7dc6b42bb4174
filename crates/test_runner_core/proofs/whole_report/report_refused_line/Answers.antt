use Rattle.std.proofs.Common.{◌≡◌, List, ℕ, [], ◌∷◌, ◌++◌, codes, decimal, string_bytes, ◌∙◌, subst}
use Rattle.test_runner_core_reporter.specs.Parts.{Said}
use Rattle.test_runner_core_reporter.specs.Writes.{WritesParts}
use Rattle.test_runner_core_reporter.proofs.Told.{fails, front_none}
use Rattle.test_runner_core.specs.Report.{refused_line}
use Rattle.test_runner_core.specs.Texts.{text_of}
use Rattle.test_runner_core.proofs.Whole.{line_words}
use Rattle.test_runner_core.proofs.whole_report.report_refused_line.Goals as goal

pub returns-in_err-words-clause-writes : goal.returns-in_err-words-clause-writes
returns-in_err-words-clause-writes g c =
    fails c.from_residual.result _ _ _ _ _ c.from_residual.ensures.0
    (front_none (refused_line c.args.found) (g.W.ReportWriter.taken c.args.report.now) (string_bytes c.args.text.now))

pub returns-clause-writes : goal.returns-clause-writes
returns-clause-writes g c =
    let taken = g.W.ReportWriter.taken in
    let found = c.args.found in
    let shown : string_bytes c.in_ok-words.words ≡ codes "refused\tline\t" ++ (decimal found.line ++ (codes "\t" ++ (text_of found.refusal ++ codes "\n"))) = c.in_ok-words.ensures.ok in
    let words = c.as_str.ensures.value ∙ shown in
    subst (λ (said : List ℕ). WritesParts c.report_words.result (Said said ∷ []) (taken c.args.report.now) (string_bytes c.args.text.now)
    (taken c.report_words.new.report) (string_bytes c.report_words.new.text)) (words ∙ line_words (decimal found.line) (text_of found.refusal)) c.report_words.ensures.writes
