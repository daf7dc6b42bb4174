-- Which tables are setup scripts and wrapper scripts, key by key and in no order, and which values
-- name setup scripts.
use Rattle.std.specs.Prelude.{◌≡◌, ℕ, true, false, List, [], ◌∷◌, Some, codes, ⊤}
use Rattle.toml.specs.Data.{Data, array, Items, no_items, item, Members}
use Rattle.nextest_config_elements_values.specs.declared.timeouts.SlowTimeout.{SlowTimeout}
use Rattle.nextest_config_elements_deserialize.specs.Accepted.{HasOr, IsSlowTimeout}
use Rattle.nextest_config_elements_deserialize.specs.Names.{name}
use Rattle.nextest_config_elements_deserialize.specs.Tables.{IsTable, MayBe, Reads}
use Rattle.nextest_config_elements_deserialize.specs.Timeouts.{leak_timeout_in}
use Rattle.nextest_config_elements_deserialize.specs.Values.{truth}
use Rattle.nextest_config_resolution_commands.specs.Accepted.{IsCommand, MayBeOr, MustBe}
use Rattle.nextest_config_resolution_scripts.specs.Scripts.{has_all, target_runner}
use Rattle.nextest_config_resolution_scripts.specs.declared.setup_script.SetupScriptConfig.{SetupScriptConfig}
use Rattle.nextest_config_resolution_scripts.specs.declared.setup_script.SetupScriptJunitConfig.{SetupScriptJunitConfig}
use Rattle.nextest_config_resolution_scripts.specs.declared.setup_script.SetupScriptSlowTimeout.{SetupScriptSlowTimeout}
use Rattle.nextest_config_resolution_scripts.specs.declared.wrapper_script.WrapperScriptConfig.{WrapperScriptConfig}
use Rattle.nextest_config_resolution_scripts.specs.declared.wrapper_script.WrapperScriptTargetRunner.TheVariants as runner

-- what the report in JUnit's form has of a script: all of its outputs, where nothing else is said
pub record IsScriptJunit (members : Members) (it : SetupScriptJunitConfig) : Type 0 where
  pub store_failure_output : HasOr members (codes "store-failure-output") truth true it.store_failure_output
  pub store_success_output : HasOr members (codes "store-success-output") truth true it.store_success_output

-- a value says when a script is slow, as it would of a test
abbrev pub slow_test : SetupScriptSlowTimeout → SlowTimeout
slow_test it = record {
  period = it.period;
  terminate_after = it.terminate_after;
  grace_period = it.grace_period;
  on_timeout = it.on_timeout;
}

abbrev pub IsSlowScript : Data → SetupScriptSlowTimeout → Type 0
IsSlowScript given it = IsSlowTimeout given (slow_test it)

-- a table is a setup script: only `command` must stand there
pub record IsSetupScript (members : Members) (it : SetupScriptConfig) : Type 0 where
  pub capture_stderr : HasOr members (codes "capture-stderr") truth false it.capture_stderr
  pub capture_stdout : HasOr members (codes "capture-stdout") truth false it.capture_stdout
  pub command : MustBe members (codes "command") IsCommand it.command
  pub junit : MayBeOr members (codes "junit") (IsTable IsScriptJunit) has_all it.junit
  pub leak_timeout : MayBe members (codes "leak-timeout") (Reads leak_timeout_in) it.leak_timeout
  pub slow_timeout : MayBe members (codes "slow-timeout") IsSlowScript it.slow_timeout

-- a table is a wrapper script, and so is what becomes of the runner of a target
pub record IsWrapperScript (members : Members) (it : WrapperScriptConfig) : Type 0 where
  pub command : MustBe members (codes "command") IsCommand it.command
  pub target_runner : HasOr members (codes "target-runner") target_runner runner.Ignore it.target_runner

-- the items of a list are these names, one by one
abbrev pub AreNames : Items → List (List ℕ) → Type 0
AreNames no_items [] = ⊤
AreNames no_items (id ∷ ids) = ⊥
AreNames (item given more) [] = ⊥
AreNames (item given more) (id ∷ ids) = (name given ≡ Some id) × AreNames more ids

-- a value names these scripts: a list each of them, and a text one
abbrev pub NamesScripts : Data → List (List ℕ) → Type 0
NamesScripts (array items) ids = AreNames items ids
NamesScripts given ids = (id : List ℕ) × (name given ≡ Some id) × (ids ≡ id ∷ [])
