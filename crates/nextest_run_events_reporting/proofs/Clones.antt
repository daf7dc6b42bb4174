-- Clones of what runs left: derived clones say of each part that it is a clone, so the whole is
-- again what it was made of.
use Rattle.std.proofs.Common.{rules, Option, None, Some, ◌≡◌, refl, ap, option_map}
use Rattle.std.proofs.lemmas.List.Elements.{same_from_all_zip}
use Rattle.std.specs.contracts.prelude.OptionClone.TheImpl as options
use Rattle.nextest_run_events_counters.specs.Attempts.{Attempts}
use Rattle.nextest_run_events_outcomes.specs.contracts.unit_state.UnitStateClone.TheImpl as states
use Rattle.nextest_run_events_outcomes.specs.declared.unit_state.UnitState.{UnitState}
use Rattle.nextest_run_events_outcomes.specs.declared.unit_state.UnitState.TheVariants as unit
use Rattle.nextest_run_events_outputs.specs.contracts.execute_status.ExecuteStatusClone.TheImpl as attempts
use Rattle.nextest_run_events_outputs.specs.contracts.execute_status.SetupScriptEnvMap as variable_map
use Rattle.nextest_run_events_outputs.specs.contracts.execute_status.SetupScriptEnvMapClone.TheImpl as variable_maps
use Rattle.nextest_run_events_outputs.specs.contracts.execute_status.SetupScriptExecuteStatusClone.TheImpl as script_runs
use Rattle.nextest_run_events_outputs.specs.contracts.output.ChildExecutionOutputDescriptionClone.TheImpl as runs
use Rattle.nextest_run_events_outputs.specs.contracts.output.ChildOutputDescription as output
use Rattle.nextest_run_events_outputs.specs.contracts.output.ChildOutputDescriptionClone.TheImpl as outputs
use Rattle.nextest_run_events_outputs.specs.contracts.output.LiveSpec as live
use Rattle.nextest_run_events_outputs.specs.contracts.output.LiveSpecOutputSpec.TheImpl as kept
use Rattle.nextest_run_events_outputs.specs.declared.execute_status.ExecuteStatus.{ExecuteStatus}
use Rattle.nextest_run_events_outputs.specs.declared.execute_status.SetupScriptEnvMap.{SetupScriptEnvMap}
use Rattle.nextest_run_events_outputs.specs.declared.execute_status.SetupScriptExecuteStatus.{SetupScriptExecuteStatus}
use Rattle.nextest_run_events_outputs.specs.declared.output.ChildExecutionOutputDescription.{ChildExecutionOutputDescription}
use Rattle.nextest_run_events_outputs.specs.declared.output.ChildExecutionOutputDescription.TheVariants as run
use Rattle.nextest_run_events_outputs.specs.declared.output.ChildOutputDescription.{ChildOutputDescription}
use Rattle.nextest_run_events_outputs.specs.declared.output.LiveSpec.{LiveSpec}
use Rattle.nextest_run_events_reporting.specs.Parts.{variables, IsScriptRunCopy, IsAttemptsCopy}

-- of what came of running a process
pub same_run : (x y : ChildExecutionOutputDescription LiveSpec ChildOutputDescription)
    → (runs.ghosts live.the_row output.the_row kept.ghosts kept.dict outputs.ghosts outputs.dict kept.dict).is_clone x y → y ≡ x
same_run (run.Output result output errors) (run.Output result' output' errors') is =
    let ended : result' ≡ result = search (rules, is.0) in
    let wrote : output' ≡ output = search (rules, is.1.0) in
    let erred : errors' ≡ errors = search (rules, is.1.1) in
    rw (ended, wrote, erred) refl
same_run (run.Output _ _ _) (run.StartError _) is = absurd is
same_run (run.StartError _) (run.Output _ _ _) is = absurd is
same_run (run.StartError error) (run.StartError error') is =
    let only : error' ≡ error = search (rules, is) in ap run.StartError only

-- of an attempt
pub same_attempt : (x y : ExecuteStatus LiveSpec ChildOutputDescription)
    → (attempts.ghosts live.the_row output.the_row kept.ghosts kept.dict outputs.ghosts outputs.dict kept.dict).is_clone x y → y ≡ x
same_attempt x y is =
    let start_time : y.start_time ≡ x.start_time = search (rules, is.0) in
    let retry_data : y.retry_data ≡ x.retry_data = search (rules, is.1.0) in
    let output : y.output ≡ x.output = same_run x.output y.output is.1.1.0 in
    let result : y.result ≡ x.result = search (rules, is.1.1.1.0) in
    let time_taken : y.time_taken ≡ x.time_taken = search (rules, is.1.1.1.1.0) in
    let is_slow : y.is_slow ≡ x.is_slow = search (rules, is.1.1.1.1.1.0) in
    let delay : y.delay_before_start ≡ x.delay_before_start = search (rules, is.1.1.1.1.1.1.0) in
    let error_summary : y.error_summary ≡ x.error_summary = search (rules, is.1.1.1.1.1.1.1.0) in
    let slice : y.output_error_slice ≡ x.output_error_slice = search (rules, is.1.1.1.1.1.1.1.1) in
    rw (start_time, retry_data, output, result, time_taken, is_slow, delay, error_summary, slice) refl

-- attempts, by what they are but for their room
pub same_attempts : (x y : Attempts (ExecuteStatus LiveSpec ChildOutputDescription)) → y.statuses ≡ x.statuses → y.flaky_result ≡ x.flaky_result → IsAttemptsCopy x y
same_attempts x y statuses flaky_result = λ i. record { statuses = statuses i; flaky_result = flaky_result i; room = y.room }

-- of the variables that a script sets
same_variables : (x y : Option SetupScriptEnvMap)
    → (options.ghosts variable_map.the_row variable_maps.ghosts variable_maps.dict kept.dict).is_clone x y → option_map variables y ≡ option_map variables x
same_variables None None _ = refl
same_variables None (Some _) is = absurd is
same_variables (Some _) None is = absurd is
same_variables (Some x) (Some y) is =
    ap Some (same_from_all_zip _ (variables x) (variables y) is (λ p q told. λ i. (told.0 i, told.1 i)))

-- of a run of a setup script
pub same_script_run : (x y : SetupScriptExecuteStatus LiveSpec ChildOutputDescription)
    → (script_runs.ghosts live.the_row output.the_row kept.ghosts kept.dict outputs.ghosts outputs.dict kept.dict).is_clone x y → IsScriptRunCopy x y
same_script_run x y is =
    let output : y.output ≡ x.output = same_run x.output y.output is.0 in
    let result : y.result ≡ x.result = search (rules, is.1.0) in
    let start_time : y.start_time ≡ x.start_time = search (rules, is.1.1.0) in
    let time_taken : y.time_taken ≡ x.time_taken = search (rules, is.1.1.1.0) in
    let is_slow : y.is_slow ≡ x.is_slow = search (rules, is.1.1.1.1.0) in
    let error_summary : y.error_summary ≡ x.error_summary = search (rules, is.1.1.1.1.1.1) in (
      (λ i. record { output = output i; result = result i; start_time = start_time i; time_taken = time_taken i; is_slow = is_slow i; env_map = y.env_map; error_summary = error_summary i }),
      same_variables x.env_map y.env_map is.1.1.1.1.1.0,
    )

-- of what a unit is doing
pub same_state : (x y : UnitState) → states.ghosts.is_clone x y → y ≡ x
same_state (unit.Running pid taken slow) (unit.Running pid' taken' slow') is =
    let pids : pid' ≡ pid = search (rules, is.0) in
    let times : taken' ≡ taken = search (rules, is.1.0) in
    let slows : slow' ≡ slow = search (rules, is.1.1) in
    λ i. unit.Running (pids i) (times i) (slows i)
same_state (unit.Exiting pid taken slow result waiting remaining) (unit.Exiting pid' taken' slow' result' waiting' remaining') is =
    let pids : pid' ≡ pid = search (rules, is.0) in
    let times : taken' ≡ taken = search (rules, is.1.0) in
    let slows : slow' ≡ slow = search (rules, is.1.1.0) in
    let results : result' ≡ result = search (rules, is.1.1.1.0) in
    let waits : waiting' ≡ waiting = search (rules, is.1.1.1.1.0) in
    let rests : remaining' ≡ remaining = search (rules, is.1.1.1.1.1) in
    λ i. unit.Exiting (pids i) (times i) (slows i) (results i) (waits i) (rests i)
same_state (unit.Terminating state) (unit.Terminating state') is =
    let only : state' ≡ state = search (rules, is) in ap unit.Terminating only
same_state (unit.Exited result taken slow) (unit.Exited result' taken' slow') is =
    let results : result' ≡ result = search (rules, is.0) in
    let times : taken' ≡ taken = search (rules, is.1.0) in
    let slows : slow' ≡ slow = search (rules, is.1.1) in
    λ i. unit.Exited (results i) (times i) (slows i)
same_state (unit.DelayBeforeNextAttempt result slow waiting remaining) (unit.DelayBeforeNextAttempt result' slow' waiting' remaining') is =
    let results : result' ≡ result = search (rules, is.0) in
    let slows : slow' ≡ slow = search (rules, is.1.0) in
    let waits : waiting' ≡ waiting = search (rules, is.1.1.0) in
    let rests : remaining' ≡ remaining = search (rules, is.1.1.1) in
    λ i. unit.DelayBeforeNextAttempt (results i) (slows i) (waits i) (rests i)
same_state _ _ is = absurd is
