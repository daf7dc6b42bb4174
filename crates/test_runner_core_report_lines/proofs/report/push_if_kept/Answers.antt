use Rattle.std.proofs.Common.{sym, subst, ap, ◌∙◌, string_bytes}
use Rattle.std.specs.Prelude.{OnOk}
use Rattle.nextest_run_events_visibility.specs.declared.visibility.OutputStoreFinal.{OutputStoreFinal}
use Rattle.test_runner_core_report_lines.specs.Report.{IsShownBy, kept_of}
use Rattle.test_runner_core_report_lines.specs.Writing.{Adds}
use Rattle.test_runner_core_report_lines.proofs.report.push_if_kept.Goals as goal

pub returns-in-Yes-clause-ok : goal.returns-in-Yes-clause-ok
returns-in-Yes-clause-ok c =
    subst (λ (kept : OutputStoreFinal). OnOk c.push_kept.result (Adds (IsShownBy kept c.args.test.now) (string_bytes c.args.text.now) (string_bytes c.push_kept.new.text)))
    (sym c.in-Yes.is ∙ c.kept_of.ensures ∙ ap kept_of c.due.ensures) c.push_kept.ensures.ok
