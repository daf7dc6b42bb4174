-- What an attempt or a script wrote, as it is lent.
use Rattle.std.specs.Prelude.{option_copied}
use Rattle.nextest_run_events_results.specs.declared.record.RecordOutput.{RecordOutput}
use Rattle.nextest_run_events_results.specs.declared.record.RecordOutput.TheVariants as wrote
use Rattle.test_runner_core_report_lines.specs.declared.written.Written.{Written}
use Rattle.test_runner_core_report_lines.specs.declared.written.Written.TheVariants as lent

-- what it lends, as a record owns it
abbrev pub written_meant : Written → RecordOutput
written_meant (lent.Streams out err) = wrote.Streams (option_copied out) (option_copied err)
written_meant (lent.Message message) = wrote.Message message.now
