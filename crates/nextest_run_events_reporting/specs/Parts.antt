-- What copies of the parts of events are, where they aren't plainly equal.
use Rattle.std.specs.Prelude.{ℕ, List, ◌≡◌, option_map}
use Rattle.nextest_run_events_counters.specs.Attempts.{Attempts}
use Rattle.nextest_run_events_outputs.specs.declared.execute_status.ExecuteStatus.{ExecuteStatus}
use Rattle.nextest_run_events_outputs.specs.declared.execute_status.SetupScriptEnvMap.{SetupScriptEnvMap}
use Rattle.nextest_run_events_outputs.specs.declared.execute_status.SetupScriptExecuteStatus.{SetupScriptExecuteStatus}
use Rattle.nextest_run_events_outputs.specs.declared.output.ChildOutputDescription.{ChildOutputDescription}
use Rattle.nextest_run_events_outputs.specs.declared.output.LiveSpec.{LiveSpec}

-- the variables that a setup script sets, with their values
abbrev pub variables : SetupScriptEnvMap → List (List ℕ × List ℕ)
variables it = it.env_map.entries

-- a run of a setup script and a copy: equal, but for how the variables lie in memory
abbrev pub IsScriptRunCopy : SetupScriptExecuteStatus LiveSpec ChildOutputDescription → SetupScriptExecuteStatus LiveSpec ChildOutputDescription → Type 0
IsScriptRunCopy original copy = (copy ≡ record original { env_map = copy.env_map }) × (option_map variables copy.env_map ≡ option_map variables original.env_map)

-- the attempts of a test and a copy: equal, but for how many more attempts there is room for
abbrev pub IsAttemptsCopy : Attempts (ExecuteStatus LiveSpec ChildOutputDescription) → Attempts (ExecuteStatus LiveSpec ChildOutputDescription) → Type 0
IsAttemptsCopy original copy = copy ≡ record original { room = copy.room }
