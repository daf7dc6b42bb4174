-- What errors around a child process came from.
use Rattle.nextest_run_events_outputs.specs.declared.serializable_error.ErrorChain.{ErrorChain}
use Rattle.nextest_run_events_outputs.specs.declared.child_error.ChildStartErrorDescription.{ChildStartErrorDescription}
use Rattle.nextest_run_events_outputs.specs.declared.child_error.ChildStartErrorDescription.TheVariants as start
use Rattle.nextest_run_events_outputs.specs.declared.child_error.ChildErrorDescription.{ChildErrorDescription}
use Rattle.nextest_run_events_outputs.specs.declared.child_error.ChildErrorDescription.TheVariants as child

abbrev pub start_source_of : ChildStartErrorDescription → ErrorChain
start_source_of (start.TempPath source) = source
start_source_of (start.Spawn source) = source

abbrev pub source_of : ChildErrorDescription → ErrorChain
source_of (child.ReadStdout source) = source
source_of (child.ReadStderr source) = source
source_of (child.ReadCombined source) = source
source_of (child.Wait source) = source
source_of (child.SetupScriptOutput source) = source
