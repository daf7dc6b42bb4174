-- What copies of events are.
use Rattle.std.specs.Prelude.{◌≡◌}
use Rattle.nextest_run_events_counters.specs.Attempts.{Attempts}
use Rattle.nextest_run_events_outputs.specs.declared.execute_status.ExecuteStatus.{ExecuteStatus}
use Rattle.nextest_run_events_outputs.specs.declared.execute_status.SetupScriptExecuteStatus.{SetupScriptExecuteStatus}
use Rattle.nextest_run_events_outputs.specs.declared.output.ChildOutputDescription.{ChildOutputDescription}
use Rattle.nextest_run_events_outputs.specs.declared.output.LiveSpec.{LiveSpec}
use Rattle.nextest_run_events_reporting.specs.Parts.{IsScriptRunCopy, IsAttemptsCopy}
use Rattle.nextest_run_events_reporting.specs.declared.kind.TestEventKind.{TestEventKind}
use Rattle.nextest_run_events_reporting.specs.declared.kind.TestEventKind.TheVariants as kind

-- an event and a copy: equal, but for what a script's run or a test's attempts leave open
abbrev pub IsEventCopy : TestEventKind → TestEventKind → Type 0
IsEventCopy (kind.SetupScriptFinished stress index total script program args store_success store_failure no_capture run) copy =
    (run_copy : SetupScriptExecuteStatus LiveSpec ChildOutputDescription) × IsScriptRunCopy run run_copy × (copy ≡ kind.SetupScriptFinished stress index total script program args store_success store_failure no_capture run_copy)
IsEventCopy (kind.TestFinished stress test success failure store_success store_failure flaky attempts stats running) copy =
    (attempts_copy : Attempts (ExecuteStatus LiveSpec ChildOutputDescription)) × IsAttemptsCopy attempts attempts_copy × (copy ≡ kind.TestFinished stress test success failure store_success store_failure flaky attempts_copy stats running)
IsEventCopy original copy = copy ≡ original
