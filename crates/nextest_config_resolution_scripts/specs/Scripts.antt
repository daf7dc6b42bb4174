-- The scripts that a configuration defines, as its tree says them.
use Rattle.std.specs.Prelude.{ℕ, List, [], ◌∷◌, true, false, Option, None, Some, Ok, codes}
use Rattle.toml.specs.Data.{Data, Members, no_members, member, get_member}
use Rattle.nextest_config_elements_values.specs.declared.timeouts.SlowTimeout.{SlowTimeout}
use Rattle.nextest_config_elements_identifiers.specs.Config.{identifier}
use Rattle.nextest_config_elements_toml.specs.Reading.{Reading, ◌>>=◌, defaulted, under}
use Rattle.nextest_config_elements_deserialize.specs.Keys.{optional_by, table_by}
use Rattle.nextest_config_elements_deserialize.specs.Timeouts.{leak_timeout_in, slow_timeout_in}
use Rattle.nextest_config_elements_deserialize.specs.Values.{truth}
use Rattle.nextest_config_elements_deserialize.specs.Words.{one_of}
use Rattle.nextest_config_elements_deserialize.specs.Below.{defaulted_by, required_by}
use Rattle.nextest_config_resolution_commands.specs.Commands.{command_in}
use Rattle.nextest_config_resolution_overrides.specs.Groups.{name_of_identifier}
use Rattle.nextest_config_resolution_scripts.specs.declared.script_config.NamedScript.{NamedScript}
use Rattle.nextest_config_resolution_scripts.specs.declared.script_config.ScriptConfig.{ScriptConfig}
use Rattle.nextest_config_resolution_scripts.specs.declared.setup_script.SetupScriptConfig.{SetupScriptConfig}
use Rattle.nextest_config_resolution_scripts.specs.declared.setup_script.SetupScriptJunitConfig.{SetupScriptJunitConfig}
use Rattle.nextest_config_resolution_scripts.specs.declared.setup_script.SetupScriptSlowTimeout.{SetupScriptSlowTimeout}
use Rattle.nextest_config_resolution_scripts.specs.declared.wrapper_script.WrapperScriptConfig.{WrapperScriptConfig}
use Rattle.nextest_config_resolution_scripts.specs.declared.wrapper_script.WrapperScriptTargetRunner.{WrapperScriptTargetRunner}
use Rattle.nextest_config_resolution_scripts.specs.declared.wrapper_script.WrapperScriptTargetRunner.TheVariants as runner

-- what the report in JUnit's form has of a script: its outputs, where it fails and where it passes
abbrev pub has_all : SetupScriptJunitConfig
has_all = record { store_success_output = true; store_failure_output = true }

unfoldable pub junit_in : Members → Reading SetupScriptJunitConfig
junit_in members = do
  failing ← defaulted (codes "store-failure-output") truth true members
  passing ← defaulted (codes "store-success-output") truth true members
  Ok (record { store_success_output = passing; store_failure_output = failing })

-- when a script is slow, as a test is
abbrev pub slow_script : SlowTimeout → SetupScriptSlowTimeout
slow_script it = record {
  period = it.period;
  terminate_after = it.terminate_after;
  grace_period = it.grace_period;
  on_timeout = it.on_timeout;
}

abbrev pub slow_script_in : Data → Reading SetupScriptSlowTimeout
slow_script_in given = do
  timeout ← slow_timeout_in given
  Ok (slow_script timeout)

-- a setup script, by the bytes of its keys
unfoldable pub setup_script_in : Members → Reading SetupScriptConfig
setup_script_in members = do
  capture_stderr ← defaulted (codes "capture-stderr") truth false members
  capture_stdout ← defaulted (codes "capture-stdout") truth false members
  command ← required_by (codes "command") command_in members
  junit ← defaulted_by (codes "junit") (table_by junit_in) has_all members
  leak_timeout ← optional_by (codes "leak-timeout") leak_timeout_in members
  slow_timeout ← optional_by (codes "slow-timeout") slow_script_in members
  Ok (record {
    command = command;
    slow_timeout = slow_timeout;
    leak_timeout = leak_timeout;
    capture_stdout = capture_stdout;
    capture_stderr = capture_stderr;
    junit = junit;
  })

-- what becomes of the runner of a target
abbrev pub target_runner : Data → Option WrapperScriptTargetRunner
target_runner = one_of (
    (codes "ignore", runner.Ignore)
    ∷ (codes "overrides-wrapper", runner.OverridesWrapper)
    ∷ (codes "within-wrapper", runner.WithinWrapper)
    ∷ (codes "around-wrapper", runner.AroundWrapper)
    ∷ [])

-- a wrapper script
unfoldable pub wrapper_script_in : Members → Reading WrapperScriptConfig
wrapper_script_in members = do
  command ← required_by (codes "command") command_in members
  runner ← defaulted (codes "target-runner") target_runner runner.Ignore members
  Ok (record { command = command; target_runner = runner })

-- ---- scripts by their names

-- a script: its key is its name, an identifier, and what stands there is read so
abbrev pub script_of : {A : Type 0} → (Data → Reading A) → List ℕ → Data → Reading (NamedScript A)
script_of reading key given = do
  id ← name_of_identifier (identifier key)
  config ← reading given
  Ok (record { id = id; config = config })

-- those of a table, in the order of its keys; what is wrong in one stands below its key
abbrev pub scripts_in : {A : Type 0} → (Data → Reading A) → Members → Reading (List (NamedScript A))
scripts_in reading no_members = Ok []
scripts_in reading (member key given more) = do
  script ← under key (script_of reading key given)
  scripts ← scripts_in reading more
  Ok (script ∷ scripts)

-- a table of them, or nothing
abbrev pub scripts_by : {A : Type 0} → (Data → Reading A) → Option Data → Reading (List (NamedScript A))
scripts_by reading None = Ok []
scripts_by reading (Some given) = table_by (scripts_in reading) given

-- the setup scripts of a table of both kinds, and its wrapper scripts
abbrev pub setup_in : Members → Reading (List (NamedScript SetupScriptConfig))
setup_in kinds = under (codes "setup") (scripts_by (table_by setup_script_in) (get_member (codes "setup") kinds))

abbrev pub wrapper_in : Members → Reading (List (NamedScript WrapperScriptConfig))
wrapper_in kinds = under (codes "wrapper") (scripts_by (table_by wrapper_script_in) (get_member (codes "wrapper") kinds))

abbrev pub kinds_in : Members → Reading ScriptConfig
kinds_in kinds = do
  setup ← setup_in kinds
  wrapper ← wrapper_in kinds
  Ok (record { setup = setup; wrapper = wrapper })

-- what stands under `scripts`: a table of both kinds, or nothing
abbrev pub scripts_of : Option Data → Reading ScriptConfig
scripts_of None = Ok (record { setup = []; wrapper = [] })
scripts_of (Some given) = table_by kinds_in given

abbrev pub scripts_at : Members → Reading ScriptConfig
scripts_at top = under (codes "scripts") (scripts_of (get_member (codes "scripts") top))

-- what stands under `script`, where setup scripts stood before: a table of them, or nothing
abbrev pub old_scripts_of : Option Data → Reading (List (NamedScript SetupScriptConfig))
old_scripts_of = scripts_by (table_by setup_script_in)

abbrev pub old_scripts_at : Members → Reading (List (NamedScript SetupScriptConfig))
old_scripts_at top = under (codes "script") (old_scripts_of (get_member (codes "script") top))
