-- What the parts of an event that still stand in their line mean.
use Rattle.std.specs.Prelude.{ℕ, Bool, List, Option, Some, None}
use Rattle.nextest_run_events_results.specs.Described.{result_description_of, described_failure}
use Rattle.nextest_run_events_results.specs.declared.execution_result.FailureStatus.{FailureStatus}
use Rattle.nextest_run_events_results.specs.declared.result.FailureDescription.{FailureDescription}
use Rattle.nextest_run_events_results.specs.declared.record.Record.{Record}
use Rattle.nextest_run_events_results.specs.declared.record.RecordOutput.{RecordOutput}
use Rattle.nextest_run_events_results.specs.declared.record.RecordOutput.TheVariants as wrote
use Rattle.test_runner_core_line_syntax.specs.Hex.{bytes_of_hex}
use Rattle.test_runner_core_line_syntax.specs.declared.hex_digits.HexDigits.{HexDigits}
use Rattle.test_runner_core_line_syntax.specs.declared.hex_text.HexText.{HexText}
use Rattle.test_runner_core_line_syntax.specs.declared.log_line.LogLine.{LogLine}
use Rattle.test_runner_core_line_syntax.specs.declared.log_line.LogLine.TheVariants as line
use Rattle.test_runner_core_line_syntax.specs.declared.lent.LentStream.{LentStream}
use Rattle.test_runner_core_line_syntax.specs.declared.lent.LentStream.TheVariants as lent_stream
use Rattle.test_runner_core_line_syntax.specs.declared.lent.LentOutput.{LentOutput}
use Rattle.test_runner_core_line_syntax.specs.declared.lent.LentOutput.TheVariants as lent_output
use Rattle.test_runner_core_line_syntax.specs.declared.lent.LentRecord.{LentRecord}
use Rattle.test_runner_core_line_syntax.specs.declared.lent.LentLine.{LentLine}
use Rattle.test_runner_core_line_syntax.specs.declared.lent.LentLine.TheVariants as lent_line

-- a failure, and whether handles were left open too
abbrev pub failed_meant : FailureStatus × Bool → FailureDescription × Bool
failed_meant parts = (described_failure parts.0, parts.1)

abbrev pub digits_meant : HexDigits → List ℕ
digits_meant hex = bytes_of_hex hex.digits.now

abbrev pub text_meant : HexText → List ℕ
text_meant text = digits_meant text.hex

abbrev pub stream_meant : LentStream → Option (List ℕ)
stream_meant lent_stream.NotCaptured = None
stream_meant (lent_stream.Captured hex) = Some (digits_meant hex)

abbrev pub output_meant : LentOutput → RecordOutput
output_meant (lent_output.Streams out err) = wrote.Streams (stream_meant out) (stream_meant err)
output_meant (lent_output.Message text) = wrote.Message (text_meant text)

abbrev pub record_meant : LentRecord → Record
record_meant lent = record {
  result = result_description_of lent.result;
  slow = lent.slow;
  nanos = lent.nanos;
  output = output_meant lent.output;
}

abbrev pub line_meant : LentLine → LogLine
line_meant (lent_line.Script id lent) = line.Script id.now (record_meant lent)
line_meant (lent_line.Start binary name) = line.Start binary.now name.now
line_meant (lent_line.End binary name lent) = line.End binary.now name.now (record_meant lent)
line_meant (lent_line.Stop reason) = line.Stop reason
