-- Which values are commands.
use Rattle.std.proofs.Common.{◌≡◌, ℕ, Bool, true, false, List, [], ◌∷◌, Option, None, Some, Ok, Err, nat_eq, refl, sym, ap, ◌∙◌, subst}
use Rattle.std.specs.Prelude.{codes, if◌then◌else◌}
use Rattle.std.specs.Option.{option_map_or}
use Rattle.std.specs.List.{starts_with}
use Rattle.toml.specs.Data.{Data, string, integer, float, boolean, datetime, array, table, Members, no_members, member, as_str}
use Rattle.nextest_config_elements_toml.specs.Reading.{Reading, ◌>>=◌, defaulted, under}
use Rattle.nextest_config_elements_deserialize.proofs.Keys.{taken, step, defaulted_has, has_defaulted}
use Rattle.nextest_config_elements_deserialize.proofs.Parts.{table_is, is_table}
use Rattle.nextest_config_elements_deserialize.specs.Keys.{texts_of}
use Rattle.nextest_config_elements_deserialize.specs.Tables.{IsTable}
use Rattle.nextest_config_resolution_commands.specs.Accepted.{AreVariables, HasVariables, HasWords, IsCommand, IsCommandTable, IsPlainCommand, IsVariable}
use Rattle.nextest_config_elements_deserialize.specs.Below.{defaulted_by, required_by}
use Rattle.nextest_config_resolution_commands.specs.Commands.{accepted_line, command_in, command_table, env_in, env_of, line_in, no_variables, plain_command, relative_to, variable_in, variables_in}
use Rattle.nextest_config_resolution_commands.specs.Laws.{AcceptedCommand}
use Rattle.nextest_config_resolution_commands.specs.Splitting.{words_of}
use Rattle.nextest_config_resolution_commands.specs.declared.command_line.CommandLine.{CommandLine}
use Rattle.nextest_config_resolution_commands.specs.declared.script_command.ScriptCommand.{ScriptCommand}
use Rattle.nextest_config_resolution_commands.specs.declared.script_command.ScriptCommandEnvMap.{ScriptCommandEnvMap}
use Rattle.nextest_config_resolution_commands.specs.declared.script_command.ScriptCommandRelativeTo.{ScriptCommandRelativeTo}
use Rattle.nextest_config_resolution_commands.specs.declared.script_command.ScriptCommandRelativeTo.TheVariants as place
use Rattle.nextest_config_resolution_commands.proofs.Divided.{words_divided}
use Rattle.nextest_config_resolution_commands.proofs.Pieced.{words_read}
use Rattle.nextest_config_resolution_commands.proofs.Stands.{defaulted_is, is_defaulted, is_required, read_under, required_is}

-- ---- what is run

abbrev Words : Type 0
Words = List (List ℕ)

abbrev words_in : CommandLine → Words
words_in line = line.program ∷ line.args

line_same : (one other : CommandLine) → ◌≡◌ {A = Reading CommandLine} (Ok one) (Ok other) → one ≡ other
line_same one other e = cc

accepted_is : (words : Option Words) (line : CommandLine) → accepted_line words ≡ Ok line → words ≡ Some (words_in line)
accepted_is None line e = absurd (cc)
accepted_is (Some []) line e = absurd (cc)
accepted_is (Some (program ∷ args)) line e =
    let made : CommandLine = record { program = program; args = args } in
    ap (λ (it : CommandLine). Some (words_in it)) (line_same made line e)

texts_are : (given : Data) (line : CommandLine) → (texts_of given >>= (λ words. accepted_line (Some words))) ≡ Ok line → texts_of given ≡ Ok (words_in line)
texts_are given line e =
    let read = taken (texts_of given) (λ words. accepted_line (Some words)) line e in
    let some = accepted_is (Some read.between) line read.on in
    let same : read.between ≡ words_in line = cc in
    read.read ∙ ap Ok same

line_is : (given : Data) (line : CommandLine) → line_in given ≡ Ok line → HasWords given (words_in line)
line_is (string text) line e = words_divided text (words_in line) (accepted_is (words_of text) line e)
line_is (integer it) line e = texts_are (integer it) line e
line_is (float it) line e = texts_are (float it) line e
line_is (boolean it) line e = texts_are (boolean it) line e
line_is (datetime it) line e = texts_are (datetime it) line e
line_is (array it) line e = texts_are (array it) line e
line_is (table it) line e = texts_are (table it) line e

are_texts : (given : Data) (line : CommandLine) → texts_of given ≡ Ok (words_in line) → (texts_of given >>= (λ words. accepted_line (Some words))) ≡ Ok line
are_texts given line is = step (texts_of given) (λ words. accepted_line (Some words)) (words_in line) is

is_line : (given : Data) (line : CommandLine) → HasWords given (words_in line) → line_in given ≡ Ok line
is_line (string text) line is = ap accepted_line (words_read is)
is_line (integer it) line is = are_texts (integer it) line is
is_line (float it) line is = are_texts (float it) line is
is_line (boolean it) line is = are_texts (boolean it) line is
is_line (datetime it) line is = are_texts (datetime it) line is
is_line (array it) line is = are_texts (array it) line is
is_line (table it) line is = are_texts (table it) line is

-- ---- variables

abbrev Variable : Type 0
Variable = List ℕ × List ℕ

abbrev variable_by : Bool → List ℕ → Data → Reading Variable
variable_by is_taken name given =
    option_map_or Ok (if is_taken then None else option_map_or (λ text. Some (name, text)) (as_str given) None) (Err [])

by_variable : (is_taken : Bool) (name : List ℕ) (given : Data) (variable : Variable) → starts_with nat_eq name (codes "NEXTEST") ≡ is_taken
    → variable_by is_taken name given ≡ Ok variable → IsVariable name given variable
by_variable true name given variable is e = absurd (cc)
by_variable false name (string text) variable is e =
    let same : (name, text) ≡ variable = cc in
    record { named = ap (λ (it : Variable). it.0) (sym same); untaken = is; set = ap (λ (it : Variable). string it.1) same }
by_variable false name (integer it) variable is e = absurd (cc)
by_variable false name (float it) variable is e = absurd (cc)
by_variable false name (boolean it) variable is e = absurd (cc)
by_variable false name (datetime it) variable is e = absurd (cc)
by_variable false name (array it) variable is e = absurd (cc)
by_variable false name (table it) variable is e = absurd (cc)

variable_is : (name : List ℕ) (given : Data) (variable : Variable) → variable_in name given ≡ Ok variable → IsVariable name given variable
variable_is name given variable e = by_variable (starts_with nat_eq name (codes "NEXTEST")) name given variable refl e

is_variable : (name : List ℕ) (given : Data) (variable : Variable) → IsVariable name given variable → variable_in name given ≡ Ok variable
is_variable name given variable is =
    ap (λ (it : Bool). variable_by it name given) is.untaken ∙ ap (λ (it : Data). variable_by false name it) is.set
    ∙ ap (λ (it : List ℕ). variable_by false it (string variable.1)) (sym is.named)

variables_are : (members : Members) (variables : List Variable) → variables_in members ≡ Ok variables → AreVariables members variables
variables_are no_members [] e = tt
variables_are no_members (variable ∷ variables) e = absurd (cc)
variables_are (member name given more) variables e =
    let first = taken (under name (variable_in name given)) (λ one. variables_in more >>= (λ others. Ok (one ∷ others))) variables e in
    let last = taken (variables_in more) (λ others. Ok (first.between ∷ others)) variables first.on in
    let same : first.between ∷ last.between ≡ variables = cc in
    subst (λ (it : List Variable). AreVariables (member name given more) it) same (
      variable_is name given first.between (read_under name (variable_in name given) first.between first.read),
      variables_are more last.between last.read,
    )

are_variables : (members : Members) (variables : List Variable) → AreVariables members variables → variables_in members ≡ Ok variables
are_variables no_members [] are = refl
are_variables no_members (variable ∷ variables) are = absurd are
are_variables (member name given more) [] are = absurd are
are_variables (member name given more) (variable ∷ variables) are =
    step (under name (variable_in name given)) (λ one. variables_in more >>= (λ others. Ok (one ∷ others))) variable
    (ap (λ (it : Reading Variable). under name it) (is_variable name given variable are.0))
    ∙ step (variables_in more) (λ others. Ok (variable ∷ others)) variables (are_variables more variables are.1)

env_same : (one other : ScriptCommandEnvMap) → ◌≡◌ {A = Reading ScriptCommandEnvMap} (Ok one) (Ok other) → one ≡ other
env_same one other e = cc

abbrev env_with : List Variable → Reading ScriptCommandEnvMap
env_with variables = Ok (record { variables = variables })

env_is : (members : Members) (env : ScriptCommandEnvMap) → env_of members ≡ Ok env → HasVariables members env
env_is members env e =
    let read = taken (variables_in members) env_with env e in
    let made : ScriptCommandEnvMap = record { variables = read.between } in
    let same : read.between ≡ env.variables = ap (λ (it : ScriptCommandEnvMap). it.variables) (env_same made env read.on) in
    subst (λ (it : List Variable). AreVariables members it) same (variables_are members read.between read.read)

is_env : (members : Members) (env : ScriptCommandEnvMap) → HasVariables members env → env_of members ≡ Ok env
is_env members env is = step (variables_in members) env_with env.variables (are_variables members env.variables is)

env_table : (given : Data) (env : ScriptCommandEnvMap) → env_in given ≡ Ok env → IsTable HasVariables given env
env_table given env e = table_is env_of HasVariables env_is given env e

table_env : (given : Data) (env : ScriptCommandEnvMap) → IsTable HasVariables given env → env_in given ≡ Ok env
table_env given env is = is_table env_of HasVariables is_env given env is

-- ---- a table, from its last key on

abbrev command_of : CommandLine → ScriptCommandEnvMap → ScriptCommandRelativeTo → ScriptCommand
command_of line env relative = record { program = line.program; args = line.args; env = env; relative_to = relative }

abbrev third_on : CommandLine → ScriptCommandEnvMap → ScriptCommandRelativeTo → Reading ScriptCommand
third_on line env relative = Ok (command_of line env relative)

abbrev second_on : Members → CommandLine → ScriptCommandEnvMap → Reading ScriptCommand
second_on members line env = defaulted (codes "relative-to") relative_to place.None members >>= third_on line env

abbrev first_on : Members → CommandLine → Reading ScriptCommand
first_on members line = defaulted_by (codes "env") env_in no_variables members >>= second_on members line

command_same : (one other : ScriptCommand) → ◌≡◌ {A = Reading ScriptCommand} (Ok one) (Ok other) → one ≡ other
command_same one other e = cc

read_table : (members : Members) (it : ScriptCommand) → command_table members ≡ Ok it → IsCommandTable members it
read_table members it e =
    let first = taken (required_by (codes "command-line") line_in members) (first_on members) it e in
    let second = taken (defaulted_by (codes "env") env_in no_variables members) (second_on members first.between) it first.on in
    let third = taken (defaulted (codes "relative-to") relative_to place.None members) (third_on first.between second.between) it second.on in
    let made : ScriptCommand = command_of first.between second.between third.between in
    let found = required_is (codes "command-line") line_in members first.between first.read in
    subst (λ (it : ScriptCommand). IsCommandTable members it) {x = made} {y = it} (command_same made it third.on) (record {
      words = (found.0, found.1, line_is found.0 first.between found.2);
      env = defaulted_is (codes "env") env_in (IsTable HasVariables) env_table no_variables members second.between second.read;
      relative_to = defaulted_has (codes "relative-to") relative_to place.None members third.between third.read;
    })

abbrev line_of_command : ScriptCommand → CommandLine
line_of_command it = record { program = it.program; args = it.args }

table_read : (members : Members) (it : ScriptCommand) → IsCommandTable members it → command_table members ≡ Ok it
table_read members it is =
    let line = line_of_command it in
    step (required_by (codes "command-line") line_in members) (first_on members) line
    (is_required (codes "command-line") line_in members is.words.0 line is.words.1 (is_line is.words.0 line is.words.2))
    ∙ step (defaulted_by (codes "env") env_in no_variables members) (second_on members line) it.env
    (is_defaulted (codes "env") env_in (IsTable HasVariables) table_env no_variables members it.env is.env)
    ∙ step (defaulted (codes "relative-to") relative_to place.None members) (third_on line it.env) it.relative_to
    (has_defaulted (codes "relative-to") relative_to place.None members it.relative_to is.relative_to)

-- ---- words alone

abbrev plain_on : CommandLine → Reading ScriptCommand
plain_on line = Ok (command_of line no_variables place.None)

read_plain : (given : Data) (it : ScriptCommand) → plain_command given ≡ Ok it → IsPlainCommand given it
read_plain given it e =
    let read = taken (line_in given) plain_on it e in
    let made : ScriptCommand = command_of read.between no_variables place.None in
    subst (λ (it : ScriptCommand). IsPlainCommand given it) {x = made} {y = it} (command_same made it read.on) (record {
      words = line_is given read.between read.read;
      env = refl;
      relative_to = refl;
    })

plain_read : (given : Data) (it : ScriptCommand) → IsPlainCommand given it → plain_command given ≡ Ok it
plain_read given it is =
    let line = line_of_command it in
    step (line_in given) plain_on line (is_line given line is.words)
    ∙ ap (λ (env : ScriptCommandEnvMap). Ok (command_of line env place.None)) (sym is.env)
    ∙ ap (λ (relative : ScriptCommandRelativeTo). Ok (command_of line it.env relative)) (sym is.relative_to)

-- ---- both

command_is : (given : Data) (it : ScriptCommand) → command_in given ≡ Ok it → IsCommand given it
command_is (table members) it e = read_table members it e
command_is (string text) it e = read_plain (string text) it e
command_is (integer number) it e = read_plain (integer number) it e
command_is (float number) it e = read_plain (float number) it e
command_is (boolean holds) it e = read_plain (boolean holds) it e
command_is (datetime time) it e = read_plain (datetime time) it e
command_is (array items) it e = read_plain (array items) it e

is_command : (given : Data) (it : ScriptCommand) → IsCommand given it → command_in given ≡ Ok it
is_command (table members) it is = table_read members it is
is_command (string text) it is = plain_read (string text) it is
is_command (integer number) it is = plain_read (integer number) it is
is_command (float number) it is = plain_read (float number) it is
is_command (boolean holds) it is = plain_read (boolean holds) it is
is_command (datetime time) it is = plain_read (datetime time) it is
is_command (array items) it is = plain_read (array items) it is

pub accepted_command : AcceptedCommand
accepted_command given it = (command_is given it, is_command given it)
