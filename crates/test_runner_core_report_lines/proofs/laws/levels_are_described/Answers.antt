use Rattle.test_runner_core_report_lines.proofs.Levels.{levels_are_described}
use Rattle.test_runner_core_report_lines.proofs.laws.levels_are_described.Goals as goal

pub returns : goal.returns
returns c = levels_are_described
