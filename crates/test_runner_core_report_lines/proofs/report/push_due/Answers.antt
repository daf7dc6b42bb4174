use Rattle.std.proofs.Common.{string_bytes}
use Rattle.std.proofs.lemmas.Result.{on_ok_weaker}
use Rattle.test_runner_core_run_model.specs.State.{last_record}
use Rattle.test_runner_core_report_lines.specs.Report.{IsShownOutputs}
use Rattle.test_runner_core_report_lines.proofs.Tries.{added_behind}
use Rattle.test_runner_core_report_lines.proofs.report.push_due.Goals as goal

pub returns-clause-ok : goal.returns-clause-ok
returns-clause-ok c =
    on_ok_weaker c.push_shown_outputs.result
    (added_behind (IsShownOutputs c.args.due.now.show_immediate (last_record c.args.test.now.state.records)) _ (string_bytes c.args.text.now) (string_bytes c.push_done_line.new.text) (string_bytes c.push_shown_outputs.new.text) c.in_ok-push_done_line.ensures.ok)
    c.push_shown_outputs.ensures.ok
