use Rattle.std.proofs.Common.{◌++◌}
use Rattle.std.specs.List.{flat_map}
use Rattle.std.specs.Prelude.{⊤}
use Rattle.nextest_config_resolution_load.specs.Checks.{may_name, name_checks}
use Rattle.nextest_config_resolution_load.proofs.Passing.{passes_behind, passes_on, refuses_before, refuses_behind}
use Rattle.nextest_config_resolution_load.proofs.defined.check_names.Goals as goal

pub returns-in_err-check_each : goal.returns-in_err-check_each
returns-in_err-check_each g c =
    let Is = g.R.Languages.is_filter c.args.cx.now in
    let IsSpec = g.R.Languages.is_spec in
    let IsTooDeep = g.R.Languages.is_too_deep in
    let path = c.args.path.now in
    let kind = c.args.kind.now in
    let config = c.args.config.now in
    let groups = flat_map (λ it. may_name path kind it.name) config.groups in
    let old = flat_map (λ it. may_name path kind it.id) config.old_scripts in
    let setup = flat_map (λ it. may_name path kind it.id) config.scripts.setup in
    let wrapper = flat_map (λ it. may_name path kind it.id) config.scripts.wrapper in
    let told = c.in_err-check_each.field-0.0 in
    passes_on Is IsSpec IsTooDeep (λ _. ⊤) (name_checks path kind config) told c.from_residual.result
    (refuses_before Is IsSpec IsTooDeep groups (old ++ (setup ++ wrapper)) told (rw c.as_slice.ensures at c.in_err-check_each.ensures))
    c.from_residual.ensures.1

pub returns-in_err-check_each-2 : goal.returns-in_err-check_each-2
returns-in_err-check_each-2 g c =
    let Is = g.R.Languages.is_filter c.args.cx.now in
    let IsSpec = g.R.Languages.is_spec in
    let IsTooDeep = g.R.Languages.is_too_deep in
    let path = c.args.path.now in
    let kind = c.args.kind.now in
    let config = c.args.config.now in
    let groups = flat_map (λ it. may_name path kind it.name) config.groups in
    let old = flat_map (λ it. may_name path kind it.id) config.old_scripts in
    let setup = flat_map (λ it. may_name path kind it.id) config.scripts.setup in
    let wrapper = flat_map (λ it. may_name path kind it.id) config.scripts.wrapper in
    let told = c.in_err-check_each-2.field-0.0 in
    passes_on Is IsSpec IsTooDeep (λ _. ⊤) (name_checks path kind config) told c.from_residual-in_err-check_each-2.result
    (refuses_behind Is IsSpec IsTooDeep groups (old ++ (setup ++ wrapper)) told (rw c.as_slice.ensures at c.in_ok-check_each.ensures.0)
    (refuses_before Is IsSpec IsTooDeep old (setup ++ wrapper) told (rw c.as_slice-2.ensures at c.in_err-check_each-2.ensures)))
    c.from_residual-in_err-check_each-2.ensures.1

pub returns-in_err-check_each-3 : goal.returns-in_err-check_each-3
returns-in_err-check_each-3 g c =
    let Is = g.R.Languages.is_filter c.args.cx.now in
    let IsSpec = g.R.Languages.is_spec in
    let IsTooDeep = g.R.Languages.is_too_deep in
    let path = c.args.path.now in
    let kind = c.args.kind.now in
    let config = c.args.config.now in
    let groups = flat_map (λ it. may_name path kind it.name) config.groups in
    let old = flat_map (λ it. may_name path kind it.id) config.old_scripts in
    let setup = flat_map (λ it. may_name path kind it.id) config.scripts.setup in
    let wrapper = flat_map (λ it. may_name path kind it.id) config.scripts.wrapper in
    let told = c.in_err-check_each-3.field-0.0 in
    passes_on Is IsSpec IsTooDeep (λ _. ⊤) (name_checks path kind config) told c.from_residual-in_err-check_each-3.result
    (refuses_behind Is IsSpec IsTooDeep groups (old ++ (setup ++ wrapper)) told (rw c.as_slice.ensures at c.in_ok-check_each.ensures.0)
    (refuses_behind Is IsSpec IsTooDeep old (setup ++ wrapper) told (rw c.as_slice-2.ensures at c.in_ok-check_each-2.ensures.0)
    (refuses_before Is IsSpec IsTooDeep setup wrapper told (rw c.as_slice-3.ensures at c.in_err-check_each-3.ensures))))
    c.from_residual-in_err-check_each-3.ensures.1

pub returns : goal.returns
returns g c =
    let Is = g.R.Languages.is_filter c.args.cx.now in
    let IsSpec = g.R.Languages.is_spec in
    let IsTooDeep = g.R.Languages.is_too_deep in
    let path = c.args.path.now in
    let kind = c.args.kind.now in
    let config = c.args.config.now in
    let groups = flat_map (λ it. may_name path kind it.name) config.groups in
    let old = flat_map (λ it. may_name path kind it.id) config.old_scripts in
    let setup = flat_map (λ it. may_name path kind it.id) config.scripts.setup in
    let wrapper = flat_map (λ it. may_name path kind it.id) config.scripts.wrapper in
    passes_behind Is IsSpec IsTooDeep (λ _. ⊤) groups (old ++ (setup ++ wrapper)) c.check_each-4.result (rw c.as_slice.ensures at c.in_ok-check_each.ensures.0)
    (passes_behind Is IsSpec IsTooDeep (λ _. ⊤) old (setup ++ wrapper) c.check_each-4.result (rw c.as_slice-2.ensures at c.in_ok-check_each-2.ensures.0)
    (passes_behind Is IsSpec IsTooDeep (λ _. ⊤) setup wrapper c.check_each-4.result (rw c.as_slice-3.ensures at c.in_ok-check_each-3.ensures.0)
    (rw c.as_slice-4.ensures at c.check_each-4.ensures)))
