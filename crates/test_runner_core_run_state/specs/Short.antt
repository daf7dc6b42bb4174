-- A record in less memory.
use Rattle.std.specs.Prelude.{None}
use Rattle.nextest_run_events_results.specs.declared.record.Record.{Record}
use Rattle.nextest_run_events_results.specs.declared.record.RecordOutput.TheVariants as wrote
use Rattle.nextest_run_events_results.specs.declared.result.ExecutionResultDescription.TheVariants as ended
use Rattle.test_runner_core_run_state.specs.declared.kept_record.ShortRecord.{ShortRecord}
use Rattle.test_runner_core_run_state.specs.declared.kept_record.ShortRecord.TheVariants as short

-- the record that is kept: a pass without outputs, or any other
abbrev pub record_kept : ShortRecord → Record
record_kept (short.Passed slow nanos) = record { result = ended.Pass; slow = slow; nanos = nanos; output = wrote.Streams None None }
record_kept (short.Whole whole) = whole.value
