use Rattle.std.proofs.Common.{string_bytes}
use Rattle.std.proofs.lemmas.Result.{on_ok_weaker}
use Rattle.test_runner_core_run_model.specs.State.{last_record}
use Rattle.test_runner_core_report_lines.specs.Report.{IsShownOutputs}
use Rattle.test_runner_core_report_lines.proofs.Tries.{added_last}
use Rattle.test_runner_core_report_lines.proofs.report.push_kept.Goals as goal

pub returns-clause-ok : goal.returns-clause-ok
returns-clause-ok c =
    on_ok_weaker c.push_shown_outputs.result
    (added_last (IsShownOutputs c.args.is_shown (last_record c.args.test.now.state.records)) _ _ (string_bytes c.args.text.now) (string_bytes c.push_test_line.new.text) (string_bytes c.push_each_attempt.new.text) (string_bytes c.push_shown_outputs.new.text)
    c.in_ok-push_test_line.ensures.ok c.in_ok-push_each_attempt.ensures.ok)
    c.push_shown_outputs.ensures.ok
