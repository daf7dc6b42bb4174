use Rattle.std.proofs.Common.{Option, sym, subst, ◌∙◌, string_bytes}
use Rattle.std.specs.Prelude.{OnOk}
use Rattle.nextest_run_events_visibility.specs.declared.visibility.OutputOnTestFinished.{OutputOnTestFinished}
use Rattle.test_runner_core_report_lines.specs.Report.{IsDoneBy}
use Rattle.test_runner_core_report_lines.specs.Writing.{Adds}
use Rattle.test_runner_core_report_lines.proofs.report.push_if_due.Goals as goal

pub returns-in-Some-clause-ok : goal.returns-in-Some-clause-ok
returns-in-Some-clause-ok c =
    subst (λ (due : Option OutputOnTestFinished). OnOk c.push_due.result (Adds (IsDoneBy due c.args.test.now) (string_bytes c.args.text.now) (string_bytes c.push_due.new.text)))
    (sym c.in-Some.is ∙ c.due.ensures) c.push_due.ensures.ok
