-- How what a log tells of an end is kept.
use Rattle.std.specs.Prelude.{◌≡◌, ℕ, ◌+◌, List, [], ◌∷◌, Option, None, Some, ⊤}
use denote.Ref.{Bor}
use Rattle.std.specs.Duration.{as_nanos}
use Rattle.nextest_config_elements_choices.specs.declared.timeouts.FlakyResult.{FlakyResult}
use Rattle.nextest_run_events_counters.specs.Attempts.{Attempts}
use Rattle.nextest_run_events_outputs.specs.declared.child_error.ChildStartErrorDescription.TheVariants as start
use Rattle.nextest_run_events_outputs.specs.declared.execute_status.ExecuteStatus.{ExecuteStatus}
use Rattle.nextest_run_events_outputs.specs.declared.execute_status.SetupScriptExecuteStatus.{SetupScriptExecuteStatus}
use Rattle.nextest_run_events_outputs.specs.declared.output.ChildOutputDescription.{ChildOutputDescription}
use Rattle.nextest_run_events_outputs.specs.declared.output.ChildOutputDescription.TheVariants as written
use Rattle.nextest_run_events_outputs.specs.declared.output.ChildExecutionOutputDescription.{ChildExecutionOutputDescription}
use Rattle.nextest_run_events_outputs.specs.declared.output.ChildExecutionOutputDescription.TheVariants as came
use Rattle.nextest_run_events_outputs.specs.declared.output.LiveSpec.{LiveSpec}
use Rattle.nextest_run_events_results.specs.declared.record.Record.{Record}
use Rattle.nextest_run_events_results.specs.declared.record.RecordOutput.{RecordOutput}
use Rattle.nextest_run_events_results.specs.declared.record.RecordOutput.TheVariants as wrote
use Rattle.test_runner_core_run_model.specs.State.{TestState}

abbrev pub Output : Type 0
Output = ChildExecutionOutputDescription LiveSpec ChildOutputDescription

abbrev pub Status : Type 0
Status = ExecuteStatus LiveSpec ChildOutputDescription

abbrev pub ScriptStatus : Type 0
ScriptStatus = SetupScriptExecuteStatus LiveSpec ChildOutputDescription

-- two streams of a process that was started, or why it could not be started
abbrev pub output_of : RecordOutput → Output
output_of (wrote.Streams out err) = came.Output None (written.Split out err) None
output_of (wrote.Message message) = came.StartError (start.Spawn (record { message = message; causes = [] }))

-- the status of an attempt keeps what is told of its end, and nothing else
pub record IsStatusOf (attempt total : ℕ) (ending : Record) (status : Status) : Type 0 where
  pub retry_data : status.retry_data ≡ record { attempt = attempt; total_attempts = total }
  pub output : status.output ≡ output_of ending.output
  pub result : status.result ≡ ending.result
  pub is_slow : status.is_slow ≡ ending.slow
  pub time_taken : as_nanos status.time_taken ≡ ending.nanos
  pub start_time : status.start_time ≡ None
  pub delay_before_start : as_nanos status.delay_before_start ≡ 0
  pub error_summary : status.error_summary ≡ None
  pub output_error_slice : status.output_error_slice ≡ None

-- the statuses of attempts that follow one another, the first of which has this number
abbrev pub AreStatusesFrom : ℕ → ℕ → List Record → List Status → Type 0
AreStatusesFrom attempt total [] [] = ⊤
AreStatusesFrom attempt total [] (status ∷ statuses) = ⊥
AreStatusesFrom attempt total (ending ∷ records) [] = ⊥
AreStatusesFrom attempt total (ending ∷ records) (status ∷ statuses) = IsStatusOf attempt total ending status × AreStatusesFrom (attempt + 1) total records statuses

-- the attempts of a test with these records, so many tries at most and this flaky rule
pub record AreAttempts (total : ℕ) (flaky : FlakyResult) (records : List Record) (attempts : Attempts Status) : Type 0 where
  pub statuses : AreStatusesFrom 1 total records attempts.statuses
  pub flaky_result : attempts.flaky_result ≡ flaky

-- the ended attempts of a test, if there is one: none where no attempt ended
abbrev pub IsAttempts : Option TestState → Option (Bor (Attempts Status)) → Type 0
IsAttempts None None = ⊤
IsAttempts None (Some attempts) = ⊥
IsAttempts (Some test) None = test.records ≡ []
IsAttempts (Some test) (Some attempts) = AreAttempts test.plan.tries test.plan.flaky test.records attempts.now

-- the status of a script
pub record IsScriptStatusOf (ending : Record) (status : ScriptStatus) : Type 0 where
  pub output : status.output ≡ output_of ending.output
  pub result : status.result ≡ ending.result
  pub is_slow : status.is_slow ≡ ending.slow
  pub time_taken : as_nanos status.time_taken ≡ ending.nanos
  pub start_time : status.start_time ≡ None
  pub env_map : status.env_map ≡ None
  pub error_summary : status.error_summary ≡ None

-- the status of a script that ended, if it did
abbrev pub IsScriptStatus : Option Record → Option (Bor ScriptStatus) → Type 0
IsScriptStatus None None = ⊤
IsScriptStatus None (Some status) = ⊥
IsScriptStatus (Some ending) None = ⊥
IsScriptStatus (Some ending) (Some status) = IsScriptStatusOf ending status.now

abbrev pub AreScriptStatuses : List Record → List ScriptStatus → Type 0
AreScriptStatuses [] [] = ⊤
AreScriptStatuses [] (status ∷ statuses) = ⊥
AreScriptStatuses (ending ∷ records) [] = ⊥
AreScriptStatuses (ending ∷ records) (status ∷ statuses) = IsScriptStatusOf ending status × AreScriptStatuses records statuses

-- what a status tells of an end: of each that was made of a record, that record
abbrev pub record_output_of : Output → RecordOutput
record_output_of (came.Output result (written.Split out err) errors) = wrote.Streams out err
record_output_of (came.Output result (written.Combined output) errors) = wrote.Streams (Some output) None
record_output_of (came.Output result written.NotLoaded errors) = wrote.Streams None None
record_output_of (came.StartError (start.TempPath source)) = wrote.Message source.message
record_output_of (came.StartError (start.Spawn source)) = wrote.Message source.message

abbrev pub record_of : Status → Record
record_of status = record { result = status.result; slow = status.is_slow; nanos = as_nanos status.time_taken; output = record_output_of status.output }

abbrev pub script_record_of : ScriptStatus → Record
script_record_of status = record { result = status.result; slow = status.is_slow; nanos = as_nanos status.time_taken; output = record_output_of status.output }

-- the record that a script's status tells, where it has one
abbrev pub script_record_in : Option (Bor ScriptStatus) → Option Record
script_record_in None = None
script_record_in (Some status) = Some (script_record_of status.now)
