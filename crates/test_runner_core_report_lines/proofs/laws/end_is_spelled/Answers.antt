use Rattle.test_runner_core_report_lines.proofs.Spelled.{end_is_spelled}
use Rattle.test_runner_core_report_lines.proofs.laws.end_is_spelled.Goals as goal

pub returns : goal.returns
returns c = end_is_spelled
