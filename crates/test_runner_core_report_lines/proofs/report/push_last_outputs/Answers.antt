use Rattle.std.proofs.Common.{◌≡◌, Option, Some, true, subst, ap, ◌∙◌, string_bytes}
use Rattle.std.specs.Prelude.{OnOk}
use Rattle.nextest_run_events_results.specs.declared.record.Record.{Record}
use Rattle.test_runner_core_run_model.specs.State.{last_record}
use Rattle.test_runner_core_report_lines.specs.Report.{IsShownOutputs}
use Rattle.test_runner_core_report_lines.specs.Writing.{Adds}
use Rattle.test_runner_core_report_lines.proofs.report.push_last_outputs.Goals as goal

pub returns-in-Some-clause-ok : goal.returns-in-Some-clause-ok
returns-in-Some-clause-ok c =
    let found : Some c.in-Some.last.now ≡ last_record c.args.test.now.state.records = c.in-Some.ensures.value ∙ ap last_record c.records.ensures in
    subst (λ (ended : Option Record). OnOk c.push_outputs.result (Adds (IsShownOutputs true ended) (string_bytes c.args.text.now) (string_bytes c.push_outputs.new.text)))
    found c.push_outputs.ensures.ok
