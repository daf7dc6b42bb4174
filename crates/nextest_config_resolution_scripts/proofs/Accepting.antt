-- Which tables are setup scripts, wrapper scripts and script rules, and which values name scripts.
use Rattle.std.proofs.Common.{◌≡◌, ℕ, ◌+◌, Bool, true, false, List, [], ◌∷◌, Option, Some, Ok, decimal, refl, sym, ap, ◌∙◌, subst}
use Rattle.std.specs.Prelude.{codes}
use Rattle.toml.specs.Data.{Data, string, integer, float, boolean, datetime, array, table, Items, no_items, item, Members}
use Rattle.nextest_config_elements_values.specs.declared.timeouts.LeakTimeout.{LeakTimeout}
use Rattle.nextest_config_elements_values.specs.declared.timeouts.SlowTimeout.{SlowTimeout}
use Rattle.nextest_config_elements_toml.specs.Reading.{Reading, ◌>>=◌, defaulted, under}
use Rattle.nextest_config_elements_deserialize.proofs.Keys.{taken, step, leaf_is, is_leaf, defaulted_has, has_defaulted}
use Rattle.nextest_config_elements_deserialize.proofs.Parts.{by_has, has_by, read_so, so_read, table_is, is_table}
use Rattle.nextest_config_elements_deserialize.proofs.Slow.{accepted_slow_timeout}
use Rattle.nextest_config_elements_deserialize.specs.Keys.{optional_by, table_by}
use Rattle.nextest_config_elements_deserialize.specs.Names.{config_identifier_in, name}
use Rattle.nextest_config_elements_deserialize.specs.Tables.{IsTable, Reads}
use Rattle.nextest_config_elements_deserialize.specs.Timeouts.{leak_timeout_in, slow_timeout_in}
use Rattle.nextest_config_elements_deserialize.specs.Values.{truth}
use Rattle.nextest_config_resolution_commands.proofs.Accepting.{accepted_command}
use Rattle.nextest_config_resolution_commands.proofs.Stands.{read_under, required_is, is_required, defaulted_is, is_defaulted}
use Rattle.nextest_config_resolution_commands.specs.Accepted.{IsCommand, MustBe}
use Rattle.nextest_config_elements_deserialize.specs.Below.{defaulted_by, required_by}
use Rattle.nextest_config_resolution_commands.specs.Commands.{command_in}
use Rattle.nextest_config_resolution_commands.specs.declared.script_command.ScriptCommand.{ScriptCommand}
use Rattle.nextest_config_resolution_keys.proofs.Made.{refused_made}
use Rattle.nextest_config_resolution_keys.specs.Items.{items_in}
use Rattle.nextest_config_resolution_keys.specs.Keys.{value_of}
use Rattle.nextest_config_resolution_keys.specs.Listed.{joined_parts, read_of}
use Rattle.nextest_config_resolution_keys.specs.Rows.{made_of, refusal, refusal_of}
use Rattle.nextest_config_resolution_scripts.specs.Accepted.{AreNames, IsScriptJunit, IsSetupScript, IsSlowScript, IsWrapperScript, NamesScripts, slow_test}
use Rattle.nextest_config_resolution_scripts.specs.Laws.{AcceptedNames, AcceptedScriptRule, AcceptedSetupScript, AcceptedWrapperScript, RefusedScriptRule}
use Rattle.nextest_config_resolution_scripts.specs.Rules.{IsScriptRule, ScriptRuleValues, names_by, names_or_none, one_name, rule_with, script_rule_in, script_rule_rows, setup, values_in}
use Rattle.nextest_config_resolution_scripts.specs.Scripts.{has_all, junit_in, setup_script_in, slow_script, slow_script_in, target_runner, wrapper_script_in}
use Rattle.nextest_config_resolution_scripts.specs.declared.script_rule.ScriptRuleConfig.{ScriptRuleConfig}
use Rattle.nextest_config_resolution_scripts.specs.declared.setup_script.SetupScriptConfig.{SetupScriptConfig}
use Rattle.nextest_config_resolution_scripts.specs.declared.setup_script.SetupScriptJunitConfig.{SetupScriptJunitConfig}
use Rattle.nextest_config_resolution_scripts.specs.declared.setup_script.SetupScriptSlowTimeout.{SetupScriptSlowTimeout}
use Rattle.nextest_config_resolution_scripts.specs.declared.wrapper_script.WrapperScriptConfig.{WrapperScriptConfig}
use Rattle.nextest_config_resolution_scripts.specs.declared.wrapper_script.WrapperScriptTargetRunner.{WrapperScriptTargetRunner}
use Rattle.nextest_config_resolution_scripts.specs.declared.wrapper_script.WrapperScriptTargetRunner.TheVariants as runner

-- ---- what scripts have

-- `command`
command_is : (members : Members) (x : ScriptCommand) → required_by (codes "command") command_in members ≡ Ok x → MustBe members (codes "command") IsCommand x
command_is members x e =
    let found = required_is (codes "command") command_in members x e in
    (found.0, found.1, (accepted_command found.0 x).0 found.2)

is_command : (members : Members) (x : ScriptCommand) → MustBe members (codes "command") IsCommand x → required_by (codes "command") command_in members ≡ Ok x
is_command members x is = is_required (codes "command") command_in members is.0 x is.1 ((accepted_command is.0 x).1 is.2)

-- `junit`, from the last key on
abbrev junit_2 : Bool → Bool → Reading SetupScriptJunitConfig
junit_2 failing passing = Ok (record { store_success_output = passing; store_failure_output = failing })

abbrev junit_1 : Members → Bool → Reading SetupScriptJunitConfig
junit_1 members failing = defaulted (codes "store-success-output") truth true members >>= junit_2 failing

junit_same : (one other : SetupScriptJunitConfig) → ◌≡◌ {A = Reading SetupScriptJunitConfig} (Ok one) (Ok other) → one ≡ other
junit_same one other e = cc

read_junit : (members : Members) (it : SetupScriptJunitConfig) → junit_in members ≡ Ok it → IsScriptJunit members it
unfolding junit_in
read_junit members it e =
    let failing = taken (defaulted (codes "store-failure-output") truth true members) (junit_1 members) it e in
    let passing = taken (defaulted (codes "store-success-output") truth true members) (junit_2 failing.between) it failing.on in
    let made : SetupScriptJunitConfig = record { store_success_output = passing.between; store_failure_output = failing.between } in
    subst (λ (it : SetupScriptJunitConfig). IsScriptJunit members it) {x = made} {y = it} (junit_same made it passing.on) (record {
      store_failure_output = defaulted_has (codes "store-failure-output") truth true members failing.between failing.read;
      store_success_output = defaulted_has (codes "store-success-output") truth true members passing.between passing.read;
    })

junit_read : (members : Members) (it : SetupScriptJunitConfig) → IsScriptJunit members it → junit_in members ≡ Ok it
unfolding junit_in
junit_read members it is =
    step (defaulted (codes "store-failure-output") truth true members) (junit_1 members) it.store_failure_output
    (has_defaulted (codes "store-failure-output") truth true members it.store_failure_output is.store_failure_output)
    ∙ step (defaulted (codes "store-success-output") truth true members) (junit_2 it.store_failure_output) it.store_success_output
    (has_defaulted (codes "store-success-output") truth true members it.store_success_output is.store_success_output)

-- `slow-timeout`
abbrev slow_on : SlowTimeout → Reading SetupScriptSlowTimeout
slow_on timeout = Ok (slow_script timeout)

slow_same : (one other : SetupScriptSlowTimeout) → ◌≡◌ {A = Reading SetupScriptSlowTimeout} (Ok one) (Ok other) → one ≡ other
slow_same one other e = cc

slow_is : (given : Data) (it : SetupScriptSlowTimeout) → slow_script_in given ≡ Ok it → IsSlowScript given it
slow_is given it e =
    let read = taken (slow_timeout_in given) slow_on it e in
    let same : slow_script read.between ≡ it = slow_same (slow_script read.between) it read.on in
    subst (λ (it : SetupScriptSlowTimeout). IsSlowScript given it) {x = slow_script read.between} {y = it} same ((accepted_slow_timeout given read.between).0 read.read)

is_slow : (given : Data) (it : SetupScriptSlowTimeout) → IsSlowScript given it → slow_script_in given ≡ Ok it
is_slow given it is = step (slow_timeout_in given) slow_on (slow_test it) ((accepted_slow_timeout given (slow_test it)).1 is)

-- ---- a setup script, from the last key on

abbrev JunitIs : Data → SetupScriptJunitConfig → Type 0
JunitIs = IsTable IsScriptJunit

junit_table : (given : Data) (it : SetupScriptJunitConfig) → table_by junit_in given ≡ Ok it → JunitIs given it
junit_table given it e = table_is junit_in IsScriptJunit read_junit given it e

table_junit : (given : Data) (it : SetupScriptJunitConfig) → JunitIs given it → table_by junit_in given ≡ Ok it
table_junit given it is = is_table junit_in IsScriptJunit junit_read given it is

abbrev setup_6 : Bool → Bool → ScriptCommand → SetupScriptJunitConfig → Option LeakTimeout → Option SetupScriptSlowTimeout → Reading SetupScriptConfig
setup_6 a1 a2 a3 a4 a5 a6 = Ok (record { command = a3; slow_timeout = a6; leak_timeout = a5; capture_stdout = a2; capture_stderr = a1; junit = a4 })

abbrev setup_5 : Members → Bool → Bool → ScriptCommand → SetupScriptJunitConfig → Option LeakTimeout → Reading SetupScriptConfig
setup_5 members a1 a2 a3 a4 a5 = optional_by (codes "slow-timeout") slow_script_in members >>= setup_6 a1 a2 a3 a4 a5

abbrev setup_4 : Members → Bool → Bool → ScriptCommand → SetupScriptJunitConfig → Reading SetupScriptConfig
setup_4 members a1 a2 a3 a4 = optional_by (codes "leak-timeout") leak_timeout_in members >>= setup_5 members a1 a2 a3 a4

abbrev setup_3 : Members → Bool → Bool → ScriptCommand → Reading SetupScriptConfig
setup_3 members a1 a2 a3 = defaulted_by (codes "junit") (table_by junit_in) has_all members >>= setup_4 members a1 a2 a3

abbrev setup_2 : Members → Bool → Bool → Reading SetupScriptConfig
setup_2 members a1 a2 = required_by (codes "command") command_in members >>= setup_3 members a1 a2

abbrev setup_1 : Members → Bool → Reading SetupScriptConfig
setup_1 members a1 = defaulted (codes "capture-stdout") truth false members >>= setup_2 members a1

setup_same : (one other : SetupScriptConfig) → ◌≡◌ {A = Reading SetupScriptConfig} (Ok one) (Ok other) → one ≡ other
setup_same one other e = cc

read_setup : (members : Members) (it : SetupScriptConfig) → setup_script_in members ≡ Ok it → IsSetupScript members it
unfolding setup_script_in
read_setup members it e =
    let s1 = taken (defaulted (codes "capture-stderr") truth false members) (setup_1 members) it e in
    let s2 = taken (defaulted (codes "capture-stdout") truth false members) (setup_2 members s1.between) it s1.on in
    let s3 = taken (required_by (codes "command") command_in members) (setup_3 members s1.between s2.between) it s2.on in
    let s4 = taken (defaulted_by (codes "junit") (table_by junit_in) has_all members) (setup_4 members s1.between s2.between s3.between) it s3.on in
    let s5 = taken (optional_by (codes "leak-timeout") leak_timeout_in members) (setup_5 members s1.between s2.between s3.between s4.between) it s4.on in
    let s6 = taken (optional_by (codes "slow-timeout") slow_script_in members) (setup_6 s1.between s2.between s3.between s4.between s5.between) it s5.on in
    let made : SetupScriptConfig = record { command = s3.between; slow_timeout = s6.between; leak_timeout = s5.between; capture_stdout = s2.between; capture_stderr = s1.between; junit = s4.between } in
    subst (λ (it : SetupScriptConfig). IsSetupScript members it) {x = made} {y = it} (setup_same made it s6.on) (record {
      capture_stderr = defaulted_has (codes "capture-stderr") truth false members s1.between s1.read;
      capture_stdout = defaulted_has (codes "capture-stdout") truth false members s2.between s2.read;
      command = command_is members s3.between s3.read;
      junit = defaulted_is (codes "junit") (table_by junit_in) JunitIs junit_table has_all members s4.between s4.read;
      leak_timeout = by_has (codes "leak-timeout") leak_timeout_in (Reads leak_timeout_in) (read_so leak_timeout_in) members s5.between s5.read;
      slow_timeout = by_has (codes "slow-timeout") slow_script_in IsSlowScript slow_is members s6.between s6.read;
    })

setup_read : (members : Members) (it : SetupScriptConfig) → IsSetupScript members it → setup_script_in members ≡ Ok it
unfolding setup_script_in
setup_read members it is =
    step (defaulted (codes "capture-stderr") truth false members) (setup_1 members) it.capture_stderr
    (has_defaulted (codes "capture-stderr") truth false members it.capture_stderr is.capture_stderr)
    ∙ step (defaulted (codes "capture-stdout") truth false members) (setup_2 members it.capture_stderr) it.capture_stdout
    (has_defaulted (codes "capture-stdout") truth false members it.capture_stdout is.capture_stdout)
    ∙ step (required_by (codes "command") command_in members) (setup_3 members it.capture_stderr it.capture_stdout) it.command
    (is_command members it.command is.command)
    ∙ step (defaulted_by (codes "junit") (table_by junit_in) has_all members) (setup_4 members it.capture_stderr it.capture_stdout it.command) it.junit
    (is_defaulted (codes "junit") (table_by junit_in) JunitIs table_junit has_all members it.junit is.junit)
    ∙ step (optional_by (codes "leak-timeout") leak_timeout_in members) (setup_5 members it.capture_stderr it.capture_stdout it.command it.junit) it.leak_timeout
    (has_by (codes "leak-timeout") leak_timeout_in (Reads leak_timeout_in) (so_read leak_timeout_in) members it.leak_timeout is.leak_timeout)
    ∙ step (optional_by (codes "slow-timeout") slow_script_in members) (setup_6 it.capture_stderr it.capture_stdout it.command it.junit it.leak_timeout) it.slow_timeout
    (has_by (codes "slow-timeout") slow_script_in IsSlowScript is_slow members it.slow_timeout is.slow_timeout)

pub accepted_setup_script : AcceptedSetupScript
accepted_setup_script members it = (read_setup members it, setup_read members it)

-- ---- a wrapper script, from the last key on

abbrev wrapper_2 : ScriptCommand → WrapperScriptTargetRunner → Reading WrapperScriptConfig
wrapper_2 command of_target = Ok (record { command = command; target_runner = of_target })

abbrev wrapper_1 : Members → ScriptCommand → Reading WrapperScriptConfig
wrapper_1 members command = defaulted (codes "target-runner") target_runner runner.Ignore members >>= wrapper_2 command

wrapper_same : (one other : WrapperScriptConfig) → ◌≡◌ {A = Reading WrapperScriptConfig} (Ok one) (Ok other) → one ≡ other
wrapper_same one other e = cc

read_wrapper : (members : Members) (it : WrapperScriptConfig) → wrapper_script_in members ≡ Ok it → IsWrapperScript members it
unfolding wrapper_script_in
read_wrapper members it e =
    let s1 = taken (required_by (codes "command") command_in members) (wrapper_1 members) it e in
    let s2 = taken (defaulted (codes "target-runner") target_runner runner.Ignore members) (wrapper_2 s1.between) it s1.on in
    let made : WrapperScriptConfig = record { command = s1.between; target_runner = s2.between } in
    subst (λ (it : WrapperScriptConfig). IsWrapperScript members it) {x = made} {y = it} (wrapper_same made it s2.on) (record {
      command = command_is members s1.between s1.read;
      target_runner = defaulted_has (codes "target-runner") target_runner runner.Ignore members s2.between s2.read;
    })

wrapper_read : (members : Members) (it : WrapperScriptConfig) → IsWrapperScript members it → wrapper_script_in members ≡ Ok it
unfolding wrapper_script_in
wrapper_read members it is =
    step (required_by (codes "command") command_in members) (wrapper_1 members) it.command (is_command members it.command is.command)
    ∙ step (defaulted (codes "target-runner") target_runner runner.Ignore members) (wrapper_2 it.command) it.target_runner
    (has_defaulted (codes "target-runner") target_runner runner.Ignore members it.target_runner is.target_runner)

pub accepted_wrapper_script : AcceptedWrapperScript
accepted_wrapper_script members it = (read_wrapper members it, wrapper_read members it)

-- ---- names of setup scripts

abbrev Ids : Type 0
Ids = List (List ℕ)

ids_same : (one other : Ids) → ◌≡◌ {A = Reading Ids} (Ok one) (Ok other) → one ≡ other
ids_same one other e = cc

-- the names behind one
abbrev id_on : List ℕ → Ids → Reading Ids
id_on id ids = Ok (id ∷ ids)

abbrev ids_on : ℕ → Items → List ℕ → Reading Ids
ids_on place more id = items_in config_identifier_in place more >>= id_on id

names_are : (items : Items) (place : ℕ) (ids : Ids) → items_in config_identifier_in place items ≡ Ok ids → AreNames items ids
names_are no_items place [] e = tt
names_are no_items place (id ∷ ids) e = absurd (cc)
names_are (item given more) place ids e =
    let first = taken (under (decimal place) (config_identifier_in given)) (ids_on (place + 1) more) ids e in
    let last = taken (items_in config_identifier_in (place + 1) more) (id_on first.between) ids first.on in
    let same : first.between ∷ last.between ≡ ids = ids_same (first.between ∷ last.between) ids last.on in
    subst (λ (it : Ids). AreNames (item given more) it) {x = first.between ∷ last.between} {y = ids} same (
      leaf_is (name given) first.between (read_under (decimal place) (config_identifier_in given) first.between first.read),
      names_are more (place + 1) last.between last.read,
    )

are_names : (items : Items) (place : ℕ) (ids : Ids) → AreNames items ids → items_in config_identifier_in place items ≡ Ok ids
are_names no_items place [] are = refl
are_names no_items place (id ∷ ids) are = absurd are
are_names (item given more) place [] are = absurd are
are_names (item given more) place (id ∷ ids) are =
    step (under (decimal place) (config_identifier_in given)) (ids_on (place + 1) more) id
    (ap (λ (it : Reading (List ℕ)). under (decimal place) it) (is_leaf (name given) id are.0))
    ∙ step (items_in config_identifier_in (place + 1) more) (id_on id) ids (are_names more (place + 1) ids are.1)

-- one name alone
abbrev alone_on : List ℕ → Reading Ids
alone_on id = Ok (id ∷ [])

abbrev NamesOne : Data → Ids → Type 0
NamesOne given ids = (id : List ℕ) × (name given ≡ Some id) × (ids ≡ id ∷ [])

one_is : (given : Data) (ids : Ids) → one_name given ≡ Ok ids → NamesOne given ids
one_is given ids e =
    let read = taken (config_identifier_in given) alone_on ids e in
    (read.between, leaf_is (name given) read.between read.read, sym (ids_same (read.between ∷ []) ids read.on))

is_one : (given : Data) (ids : Ids) → NamesOne given ids → one_name given ≡ Ok ids
is_one given ids is = step (config_identifier_in given) alone_on is.0 (is_leaf (name given) is.0 is.1) ∙ ap Ok (sym is.2)

names_is : (given : Data) (ids : Ids) → names_by given ≡ Ok ids → NamesScripts given ids
names_is (array items) ids e = names_are items 0 ids e
names_is (string it) ids e = one_is (string it) ids e
names_is (integer it) ids e = one_is (integer it) ids e
names_is (float it) ids e = one_is (float it) ids e
names_is (boolean it) ids e = one_is (boolean it) ids e
names_is (datetime it) ids e = one_is (datetime it) ids e
names_is (table it) ids e = one_is (table it) ids e

is_names : (given : Data) (ids : Ids) → NamesScripts given ids → names_by given ≡ Ok ids
is_names (array items) ids is = are_names items 0 ids is
is_names (string it) ids is = is_one (string it) ids is
is_names (integer it) ids is = is_one (integer it) ids is
is_names (float it) ids is = is_one (float it) ids is
is_names (boolean it) ids is = is_one (boolean it) ids is
is_names (datetime it) ids is = is_one (datetime it) ids is
is_names (table it) ids is = is_one (table it) ids is

pub accepted_names : AcceptedNames
accepted_names given ids = (names_is given ids, is_names given ids)

-- ---- a script rule

of_values : (given : Members) (values : ScriptRuleValues) → values_in given ≡ Ok values → IsScriptRule given (rule_with values)
of_values given values is =
    let of_filter = joined_parts _ _ values is in
    let of_list_wrapper = joined_parts _ _ values.1 of_filter.1 in
    let of_platform = joined_parts _ _ values.1.1 of_list_wrapper.1 in
    let of_run_wrapper = joined_parts _ _ values.1.1.1 of_platform.1 in
    let of_setup = joined_parts _ _ values.1.1.1.1 of_run_wrapper.1 in
    record {
      filter = of_filter.0;
      list_wrapper = of_list_wrapper.0;
      platform = of_platform.0;
      run_wrapper = of_run_wrapper.0;
      setup = ap (made_of names_or_none) of_setup.0;
    }

read_rule : (given : Members) (it : ScriptRuleConfig) → script_rule_in given ≡ Ok it → IsScriptRule given it
unfolding script_rule_in
read_rule given it e = let made = read_of rule_with (values_in given) it e in subst (IsScriptRule given) made.is (of_values given made.values made.reads)

rule_read : (given : Members) (it : ScriptRuleConfig) → IsScriptRule given it → script_rule_in given ≡ Ok it
unfolding script_rule_in
rule_read given it is =
    let names = read_of names_or_none (value_of setup given) it.setup is.setup in
    rw (is.filter, is.list_wrapper, is.platform, is.run_wrapper, names.reads) (ap (λ (ids : Ids). Ok (record { filter = it.filter; list_wrapper = it.list_wrapper; platform = it.platform; run_wrapper = it.run_wrapper; setup = ids })) names.is)

pub accepted_script_rule : AcceptedScriptRule
accepted_script_rule given it = (read_rule given it, rule_read given it)

pub refused_script_rule : ((given : Members) → refusal_of (values_in given) ≡ refusal script_rule_rows given) → RefusedScriptRule
unfolding script_rule_in
refused_script_rule refused given = refused_made rule_with (values_in given) ∙ refused given
