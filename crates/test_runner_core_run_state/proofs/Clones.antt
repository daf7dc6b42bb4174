-- Clones of statuses: a derived clone says of each part that it is a clone, so the whole is again
-- what it was made of.
use Rattle.std.proofs.Common.{rules, List, [], ◌∷◌, Option, None, Some, ◌≡◌, refl, ap, subst}
use Rattle.std.specs.List.{AllZip}
use Rattle.std.proofs.lemmas.List.Elements.{same_from_all_zip}
use Rattle.std.specs.contracts.prelude.OptionClone.TheImpl as options
use Rattle.nextest_run_events_outputs.specs.contracts.execute_status.ExecuteStatusClone.TheImpl as attempts
use Rattle.nextest_run_events_outputs.specs.contracts.execute_status.SetupScriptEnvMap as variable_map
use Rattle.nextest_run_events_outputs.specs.contracts.execute_status.SetupScriptEnvMapClone.TheImpl as variable_maps
use Rattle.nextest_run_events_outputs.specs.contracts.execute_status.SetupScriptExecuteStatusClone.TheImpl as script_runs
use Rattle.nextest_run_events_outputs.specs.contracts.output.ChildExecutionOutputDescriptionClone.TheImpl as runs
use Rattle.nextest_run_events_outputs.specs.contracts.output.ChildOutputDescription as output
use Rattle.nextest_run_events_outputs.specs.contracts.output.ChildOutputDescriptionClone.TheImpl as outputs
use Rattle.nextest_run_events_outputs.specs.contracts.output.LiveSpec as live
use Rattle.nextest_run_events_outputs.specs.contracts.output.LiveSpecOutputSpec.TheImpl as kept
use Rattle.nextest_run_events_outputs.specs.declared.execute_status.SetupScriptEnvMap.{SetupScriptEnvMap}
use Rattle.nextest_run_events_outputs.specs.declared.output.ChildExecutionOutputDescription.TheVariants as run
use Rattle.nextest_run_events_results.specs.declared.record.Record.{Record}
use Rattle.test_runner_core_run_state.specs.Statuses.{AreScriptStatuses, Output, ScriptStatus, Status}

abbrev IsAttemptClone : Status → Status → Type 0
IsAttemptClone = (attempts.ghosts live.the_row output.the_row kept.ghosts kept.dict outputs.ghosts outputs.dict kept.dict).is_clone

abbrev IsScriptRunClone : ScriptStatus → ScriptStatus → Type 0
IsScriptRunClone = (script_runs.ghosts live.the_row output.the_row kept.ghosts kept.dict outputs.ghosts outputs.dict kept.dict).is_clone

-- of what came of running a process
same_run : (x y : Output) → (runs.ghosts live.the_row output.the_row kept.ghosts kept.dict outputs.ghosts outputs.dict kept.dict).is_clone x y → y ≡ x
same_run (run.Output result output errors) (run.Output result' output' errors') is =
    let ended : result' ≡ result = search (rules, is.0) in
    let wrote : output' ≡ output = search (rules, is.1.0) in
    let erred : errors' ≡ errors = search (rules, is.1.1) in
    rw (ended, wrote, erred) refl
same_run (run.Output _ _ _) (run.StartError _) is = absurd is
same_run (run.StartError _) (run.Output _ _ _) is = absurd is
same_run (run.StartError error) (run.StartError error') is =
    let only : error' ≡ error = search (rules, is) in ap run.StartError only

-- of an attempt
same_attempt : (x y : Status) → IsAttemptClone x y → y ≡ x
same_attempt x y is =
    let start_time : y.start_time ≡ x.start_time = search (rules, is.0) in
    let retry_data : y.retry_data ≡ x.retry_data = search (rules, is.1.0) in
    let output : y.output ≡ x.output = same_run x.output y.output is.1.1.0 in
    let result : y.result ≡ x.result = search (rules, is.1.1.1.0) in
    let time_taken : y.time_taken ≡ x.time_taken = search (rules, is.1.1.1.1.0) in
    let is_slow : y.is_slow ≡ x.is_slow = search (rules, is.1.1.1.1.1.0) in
    let delay : y.delay_before_start ≡ x.delay_before_start = search (rules, is.1.1.1.1.1.1.0) in
    let error_summary : y.error_summary ≡ x.error_summary = search (rules, is.1.1.1.1.1.1.1.0) in
    let slice : y.output_error_slice ≡ x.output_error_slice = search (rules, is.1.1.1.1.1.1.1.1) in
    rw (start_time, retry_data, output, result, time_taken, is_slow, delay, error_summary, slice) refl

-- of attempts
pub same_attempts : (xs ys : List Status) → AllZip IsAttemptClone xs ys → ys ≡ xs
same_attempts xs ys each = same_from_all_zip IsAttemptClone xs ys each same_attempt

-- of a run of a setup script that sets no variables
same_script_run : (x y : ScriptStatus) → x.env_map ≡ None → IsScriptRunClone x y → y ≡ x
same_script_run x y no_map is =
    let output : y.output ≡ x.output = same_run x.output y.output is.0 in
    let result : y.result ≡ x.result = search (rules, is.1.0) in
    let start_time : y.start_time ≡ x.start_time = search (rules, is.1.1.0) in
    let time_taken : y.time_taken ≡ x.time_taken = search (rules, is.1.1.1.0) in
    let is_slow : y.is_slow ≡ x.is_slow = search (rules, is.1.1.1.1.0) in
    let env_map : y.env_map ≡ x.env_map = none_of x.env_map y.env_map no_map is.1.1.1.1.1.0 in
    let error_summary : y.error_summary ≡ x.error_summary = search (rules, is.1.1.1.1.1.1) in
    rw (output, result, start_time, time_taken, is_slow, env_map, error_summary) refl
  where
    none_of : (x y : Option SetupScriptEnvMap) → x ≡ None → (options.ghosts variable_map.the_row variable_maps.ghosts variable_maps.dict kept.dict).is_clone x y → y ≡ x
    none_of None None no_map is = refl
    none_of None (Some _) no_map is = absurd is
    none_of (Some _) y no_map is = cc

-- of those of the setup scripts that ended, which are lent
pub same_script_runs : (records : List Record) (lent xs ys : List ScriptStatus) → lent ≡ xs → AreScriptStatuses records xs → AllZip IsScriptRunClone lent ys → ys ≡ xs
same_script_runs records lent xs ys one made each = same records xs ys made (subst (λ (them : List ScriptStatus). AllZip IsScriptRunClone them ys) one each)
  where
    same : (records : List Record) (xs ys : List ScriptStatus) → AreScriptStatuses records xs → AllZip IsScriptRunClone xs ys → ys ≡ xs
    same records [] [] made each = refl
    same records [] (y ∷ ys) made each = absurd each
    same records (x ∷ xs) [] made each = absurd each
    same [] (x ∷ xs) (y ∷ ys) made each = absurd made
    same (ending ∷ records) (x ∷ xs) (y ∷ ys) made each =
        let first : y ≡ x = same_script_run x y made.0.env_map each.0 in
        let others : ys ≡ xs = same records xs ys made.1 each.1 in
        cc
