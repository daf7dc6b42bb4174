-- Which values are commands, key by key and in no order.
use Rattle.std.specs.Prelude.{◌≡◌, ◌⊎◌, ℕ, false, List, [], ◌∷◌, Some, codes, nat_eq, ⊤}
use Rattle.std.specs.List.{starts_with}
use Rattle.toml.specs.Data.{Data, string, table, Members, no_members, member, get_member}
use Rattle.nextest_config_elements_deserialize.specs.Accepted.{HasOr, IsLeftOut}
use Rattle.nextest_config_elements_deserialize.specs.Keys.{texts_of}
use Rattle.nextest_config_elements_deserialize.specs.Tables.{IsTable, Reads}
use Rattle.nextest_config_resolution_commands.specs.Commands.{no_variables, relative_to}
use Rattle.nextest_config_resolution_commands.specs.Words.{AreWords}
use Rattle.nextest_config_resolution_commands.specs.declared.script_command.ScriptCommand.{ScriptCommand}
use Rattle.nextest_config_resolution_commands.specs.declared.script_command.ScriptCommandEnvMap.{ScriptCommandEnvMap}
use Rattle.nextest_config_resolution_commands.specs.declared.script_command.ScriptCommandRelativeTo.TheVariants as place

-- a key has what is such a value
abbrev pub MustBe : {A : Type 0} → Members → List ℕ → (Data → A → Type 0) → A → Type 0
MustBe members key Is x = (given : Data) × (get_member key members ≡ Some given) × Is given x

-- a key has what is such a value, or is left out and has this one
abbrev pub MayBeOr : {A : Type 0} → Members → List ℕ → (Data → A → Type 0) → A → A → Type 0
MayBeOr members key Is otherwise x = (IsLeftOut members key × (x ≡ otherwise)) ⊎ MustBe members key Is x

-- a value has these words: those of a text, by its pieces, or the texts of a list
abbrev pub HasWords : Data → List (List ℕ) → Type 0
HasWords (string text) words = AreWords text words
HasWords given words = Reads texts_of given words

-- a name that doesn't begin with `NEXTEST`, with a text, is this variable
pub record IsVariable (name : List ℕ) (given : Data) (variable : List ℕ × List ℕ) : Type 0 where
  pub named : variable.0 ≡ name
  pub untaken : starts_with nat_eq name (codes "NEXTEST") ≡ false
  pub set : given ≡ string variable.1

-- the members of a table are these variables, one by one
abbrev pub AreVariables : Members → List (List ℕ × List ℕ) → Type 0
AreVariables no_members [] = ⊤
AreVariables no_members (variable ∷ variables) = ⊥
AreVariables (member name given more) [] = ⊥
AreVariables (member name given more) (variable ∷ variables) = IsVariable name given variable × AreVariables more variables

-- a table has the variables of an environment
abbrev pub HasVariables : Members → ScriptCommandEnvMap → Type 0
HasVariables members env = AreVariables members env.variables

-- a table sets a command; without `env` it has no variables, and without `relative-to` its program
-- stands as it is written
pub record IsCommandTable (members : Members) (it : ScriptCommand) : Type 0 where
  pub words : MustBe members (codes "command-line") HasWords (it.program ∷ it.args)
  pub env : MayBeOr members (codes "env") (IsTable HasVariables) no_variables it.env
  pub relative_to : HasOr members (codes "relative-to") relative_to place.None it.relative_to

-- words alone are a command
pub record IsPlainCommand (given : Data) (it : ScriptCommand) : Type 0 where
  pub words : HasWords given (it.program ∷ it.args)
  pub env : it.env ≡ no_variables
  pub relative_to : it.relative_to ≡ place.None

-- a value is a command: a table that sets it, or its words alone
abbrev pub IsCommand : Data → ScriptCommand → Type 0
IsCommand (table members) it = IsCommandTable members it
IsCommand given it = IsPlainCommand given it
