-- Which scripts are defined.
use Rattle.std.specs.Prelude.{ℕ, Bool, List, [], ◌∷◌, Option, None, Some, codes, not, ◌&&◌, if◌then◌else◌}
use Rattle.std.specs.Str.{bytes_eq}
use Rattle.nextest_config_resolution_scripts.specs.declared.script_config.NamedScript.{NamedScript}
use Rattle.nextest_config_resolution_scripts.specs.declared.script_config.ProfileScriptType.{ProfileScriptType}
use Rattle.nextest_config_resolution_scripts.specs.declared.script_config.ProfileScriptType.TheVariants as use_as
use Rattle.nextest_config_resolution_scripts.specs.declared.script_config.ScriptType.{ScriptType}
use Rattle.nextest_config_resolution_scripts.specs.declared.script_config.ScriptType.TheVariants as kind
use Rattle.nextest_config_resolution_scripts.specs.declared.setup_script.SetupScriptConfig.{SetupScriptConfig}

-- what a script is set to, if it has the name, and else what was found before it
abbrev pub or_earlier : {A : Type 0} → NamedScript A → List ℕ → Option A → Option A
or_earlier it id found = if bytes_eq id it.id then Some it.config else found

-- the script of a name, the last one of several
abbrev pub found_behind : {A : Type 0} → List (NamedScript A) → List ℕ → Option A → Option A
found_behind [] id found = found
found_behind (it ∷ scripts) id found = found_behind scripts id (or_earlier it id found)

abbrev pub script_named : {A : Type 0} → List (NamedScript A) → List ℕ → Option A
script_named scripts id = found_behind scripts id None

-- not both streams are captured
abbrev pub lets_through : SetupScriptConfig → Bool
lets_through it = not (it.capture_stdout && it.capture_stderr)

-- the word for a kind of scripts, and for what a rule names a script as
abbrev pub kind_word : ScriptType → List ℕ
kind_word kind.Setup = codes "setup"
kind_word kind.Wrapper = codes "wrapper"

abbrev pub use_word : ProfileScriptType → List ℕ
use_word use_as.Setup = codes "setup"
use_word use_as.ListWrapper = codes "list-wrapper"
use_word use_as.RunWrapper = codes "run-wrapper"
