use Rattle.std.proofs.Common.{◌++◌}
use Rattle.std.specs.List.{flat_map}
use Rattle.std.specs.Prelude.{⊤}
use Rattle.nextest_config_resolution_load.specs.Checks.{named_checks}
use Rattle.nextest_config_resolution_load.specs.Reading.{all_placed, overrides_of, scripts_of, values_of}
use Rattle.nextest_config_resolution_load.specs.Rules.{group_checks, has_script, is_defined, script_checks}
use Rattle.nextest_config_resolution_load.proofs.Passing.{passes_behind, passes_on, refuses_before, refuses_behind}
use Rattle.nextest_config_resolution_load.proofs.loading.check_names.Goals as goal
use Rattle.nextest_config_resolution_scripts.specs.declared.script_config.ScriptType.TheVariants as kind

pub returns-in_err-check_groups : goal.returns-in_err-check_groups
returns-in_err-check_groups g c =
    let Is = g.R.Languages.is_filter c.args.cx.now in
    let IsSpec = g.R.Languages.is_spec in
    let IsTooDeep = g.R.Languages.is_too_deep in
    let read = c.args.read.now in
    let rules = all_placed (overrides_of c.args.rules.now) in
    let scripts = all_placed (scripts_of c.args.rules.now) in
    let setup = flat_map (script_checks kind.Setup (has_script read.scripts.setup)) scripts in
    let wrapper = flat_map (script_checks kind.Wrapper (has_script read.scripts.wrapper)) scripts in
    let told = c.in_err-check_groups.field-0.0 in
    passes_on Is IsSpec IsTooDeep (λ _. ⊤) (named_checks rules scripts (values_of read)) told c.from_residual.result
    (refuses_before Is IsSpec IsTooDeep (flat_map (group_checks (is_defined read.groups)) rules) (setup ++ wrapper) told (rw c.as_slice.ensures at c.in_err-check_groups.ensures))
    c.from_residual.ensures.1

pub returns-in_err-check_scripts : goal.returns-in_err-check_scripts
returns-in_err-check_scripts g c =
    let Is = g.R.Languages.is_filter c.args.cx.now in
    let IsSpec = g.R.Languages.is_spec in
    let IsTooDeep = g.R.Languages.is_too_deep in
    let read = c.args.read.now in
    let rules = all_placed (overrides_of c.args.rules.now) in
    let scripts = all_placed (scripts_of c.args.rules.now) in
    let setup = flat_map (script_checks kind.Setup (has_script read.scripts.setup)) scripts in
    let wrapper = flat_map (script_checks kind.Wrapper (has_script read.scripts.wrapper)) scripts in
    let told = c.in_err-check_scripts.field-0.0 in
    passes_on Is IsSpec IsTooDeep (λ _. ⊤) (named_checks rules scripts (values_of read)) told c.from_residual-in_err-check_scripts.result
    (refuses_behind Is IsSpec IsTooDeep (flat_map (group_checks (is_defined read.groups)) rules) (setup ++ wrapper) told (rw c.as_slice.ensures at c.in_ok-check_groups.ensures.0)
    (refuses_before Is IsSpec IsTooDeep setup wrapper told (rw c.as_slice-2.ensures at c.in_err-check_scripts.ensures)))
    c.from_residual-in_err-check_scripts.ensures.1

pub returns : goal.returns
returns g c =
    let Is = g.R.Languages.is_filter c.args.cx.now in
    let IsSpec = g.R.Languages.is_spec in
    let IsTooDeep = g.R.Languages.is_too_deep in
    let read = c.args.read.now in
    let rules = all_placed (overrides_of c.args.rules.now) in
    let scripts = all_placed (scripts_of c.args.rules.now) in
    let setup = flat_map (script_checks kind.Setup (has_script read.scripts.setup)) scripts in
    let wrapper = flat_map (script_checks kind.Wrapper (has_script read.scripts.wrapper)) scripts in
    passes_behind Is IsSpec IsTooDeep (λ _. ⊤) (flat_map (group_checks (is_defined read.groups)) rules) (setup ++ wrapper) c.check_scripts-2.result
    (rw c.as_slice.ensures at c.in_ok-check_groups.ensures.0)
    (passes_behind Is IsSpec IsTooDeep (λ _. ⊤) setup wrapper c.check_scripts-2.result (rw c.as_slice-2.ensures at c.in_ok-check_scripts.ensures.0) (rw c.as_slice-3.ensures at c.check_scripts-2.ensures))
