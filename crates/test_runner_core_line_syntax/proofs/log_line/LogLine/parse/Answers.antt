use Rattle.test_runner_core_line_syntax.proofs.Lines.{only_event}
use Rattle.test_runner_core_line_syntax.proofs.log_line.LogLine.parse.Goals as goal

pub returns-clause-only : goal.returns-clause-only
returns-clause-only c = only_event c.args.bytes.now c.line_of.result c.line_of.ensures.exact
