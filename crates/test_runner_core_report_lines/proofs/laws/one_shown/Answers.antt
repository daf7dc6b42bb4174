use Rattle.test_runner_core_report_lines.proofs.OneText.{one_shown}
use Rattle.test_runner_core_report_lines.proofs.SomeText.{some_shown}
use Rattle.test_runner_core_report_lines.proofs.laws.one_shown.Goals as goal

pub returns : goal.returns
returns c = record { one = one_shown; some = some_shown }
