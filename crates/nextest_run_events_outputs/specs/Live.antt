-- How what a process that runs gives is described. Nothing of it is lost, and each error is told as
-- its own kind.
use Rattle.std.specs.Prelude.{map}
use Rattle.std.specs.Option.{option_map}
use Rattle.nextest_run_events_results.specs.Described.{result_description_of}
use Rattle.nextest_run_events_outputs.specs.declared.error_list.ErrorList.{ErrorList}
use Rattle.nextest_run_events_outputs.specs.declared.live_error.ChildStartError.{ChildStartError}
use Rattle.nextest_run_events_outputs.specs.declared.live_error.ChildStartError.TheVariants as no_start
use Rattle.nextest_run_events_outputs.specs.declared.live_error.ChildError.{ChildError}
use Rattle.nextest_run_events_outputs.specs.declared.live_error.ChildError.TheVariants as error
use Rattle.nextest_run_events_outputs.specs.declared.live_error.ChildFdError.TheVariants as stream
use Rattle.nextest_run_events_outputs.specs.declared.live_output.ChildOutput.{ChildOutput}
use Rattle.nextest_run_events_outputs.specs.declared.live_output.ChildOutput.TheVariants as wrote
use Rattle.nextest_run_events_outputs.specs.declared.live_output.ChildExecutionOutput.{ChildExecutionOutput}
use Rattle.nextest_run_events_outputs.specs.declared.live_output.ChildExecutionOutput.TheVariants as ran
use Rattle.nextest_run_events_outputs.specs.declared.child_error.ChildStartErrorDescription.{ChildStartErrorDescription}
use Rattle.nextest_run_events_outputs.specs.declared.child_error.ChildStartErrorDescription.TheVariants as start
use Rattle.nextest_run_events_outputs.specs.declared.child_error.ChildErrorDescription.{ChildErrorDescription}
use Rattle.nextest_run_events_outputs.specs.declared.child_error.ChildErrorDescription.TheVariants as child
use Rattle.nextest_run_events_outputs.specs.declared.output.LiveSpec.{LiveSpec}
use Rattle.nextest_run_events_outputs.specs.declared.output.ChildOutputDescription.{ChildOutputDescription}
use Rattle.nextest_run_events_outputs.specs.declared.output.ChildOutputDescription.TheVariants as written
use Rattle.nextest_run_events_outputs.specs.declared.output.ChildExecutionOutputDescription.{ChildExecutionOutputDescription}
use Rattle.nextest_run_events_outputs.specs.declared.output.ChildExecutionOutputDescription.TheVariants as came

abbrev pub described_start : ChildStartError → ChildStartErrorDescription
described_start (no_start.TempPath chain) = start.TempPath chain
described_start (no_start.Spawn chain) = start.Spawn chain

abbrev pub described_error : ChildError → ChildErrorDescription
described_error (error.Fd (stream.ReadStdout chain)) = child.ReadStdout chain
described_error (error.Fd (stream.ReadStderr chain)) = child.ReadStderr chain
described_error (error.Fd (stream.ReadCombined chain)) = child.ReadCombined chain
described_error (error.Fd (stream.Wait chain)) = child.Wait chain
described_error (error.SetupScriptOutput chain) = child.SetupScriptOutput chain

-- each error of a list, in its place
abbrev pub described_errors : ErrorList ChildError → ErrorList ChildErrorDescription
described_errors errors = record { description = errors.description; items = map described_error errors.items }

abbrev pub described_output : ChildOutput → ChildOutputDescription
described_output (wrote.Split streams) = written.Split streams.stdout streams.stderr
described_output (wrote.Combined output) = written.Combined output

abbrev pub described_run : ChildExecutionOutput → ChildExecutionOutputDescription LiveSpec ChildOutputDescription
described_run (ran.Output result output errors) = came.Output (option_map result_description_of result) (described_output output) (option_map described_errors errors)
described_run (ran.StartError why) = came.StartError (described_start why)
