use Rattle.test_runner_core_report_lines.proofs.OneText.{one_done}
use Rattle.test_runner_core_report_lines.proofs.SomeText.{some_done}
use Rattle.test_runner_core_report_lines.proofs.laws.one_done.Goals as goal

pub returns : goal.returns
returns c = record { one = one_done; some = some_done }
