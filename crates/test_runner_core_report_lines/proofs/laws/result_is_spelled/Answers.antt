use Rattle.test_runner_core_report_lines.proofs.Spelled.{result_is_spelled}
use Rattle.test_runner_core_report_lines.proofs.laws.result_is_spelled.Goals as goal

pub returns : goal.returns
returns c = result_is_spelled
