use Rattle.std.proofs.Common.{[], ◌∷◌, map, refl}
use Rattle.nextest_config_resolution_load.specs.Checks.{default_checks, inheritance, merged_checks, named_checks, parents_of}
use Rattle.nextest_config_resolution_load.specs.Load.{named_of}
use Rattle.nextest_config_resolution_load.specs.Reading.{IsCompleted, all_placed, overrides_of, read_as, scripts_of, values_of}
use Rattle.nextest_config_resolution_load.proofs.Passing.{kept_both, passes_on, refuses_before, refuses_behind}
use Rattle.nextest_config_resolution_load.proofs.loading.accepted.Goals as goal

pub check_parents-requires : goal.check_parents-requires
check_parents-requires g c = c.requires

pub returns-in_err-check_names : goal.returns-in_err-check_names
returns-in_err-check_names g c =
    let Is = g.R.Languages.is_filter c.args.cx.now in
    let IsSpec = g.R.Languages.is_spec in
    let IsTooDeep = g.R.Languages.is_too_deep in
    let profiles = map named_of c.args.read.profiles in
    let rules = all_placed (overrides_of c.args.rules.items) in
    let scripts = all_placed (scripts_of c.args.rules.items) in
    let told = c.in_err-check_names.field-0.0 in
    passes_on Is IsSpec IsTooDeep (IsCompleted Is c.args.read c.args.rules.items) (merged_checks rules scripts (read_as c.args.read)) told c.from_residual.result
    (refuses_before Is IsSpec IsTooDeep (named_checks rules scripts (values_of c.args.read)) (inheritance (parents_of profiles) ∷ default_checks profiles) told
    (rw c.as_slice.ensures.value at c.in_err-check_names.ensures))
    c.from_residual.ensures.1

pub returns-in_err-check_parents : goal.returns-in_err-check_parents
returns-in_err-check_parents g c =
    let Is = g.R.Languages.is_filter c.args.cx.now in
    let IsSpec = g.R.Languages.is_spec in
    let IsTooDeep = g.R.Languages.is_too_deep in
    let profiles = map named_of c.args.read.profiles in
    let rules = all_placed (overrides_of c.args.rules.items) in
    let scripts = all_placed (scripts_of c.args.rules.items) in
    let named_in = named_checks rules scripts (values_of c.args.read) in
    let told = c.in_err-check_parents.field-0.0 in
    passes_on Is IsSpec IsTooDeep (IsCompleted Is c.args.read c.args.rules.items) (merged_checks rules scripts (read_as c.args.read)) told c.from_residual-in_err-check_parents.result
    (refuses_behind Is IsSpec IsTooDeep named_in (inheritance (parents_of profiles) ∷ default_checks profiles) told
    (rw c.as_slice.ensures.value at c.in_ok-check_names.ensures.0)
    (refuses_before Is IsSpec IsTooDeep (inheritance (parents_of profiles) ∷ []) (default_checks profiles) told c.in_err-check_parents.ensures))
    c.from_residual-in_err-check_parents.ensures.1

pub returns-in_err-default_filters : goal.returns-in_err-default_filters
returns-in_err-default_filters g c =
    let Is = g.R.Languages.is_filter c.args.cx.now in
    let IsSpec = g.R.Languages.is_spec in
    let IsTooDeep = g.R.Languages.is_too_deep in
    let profiles = map named_of c.args.read.profiles in
    let rules = all_placed (overrides_of c.args.rules.items) in
    let scripts = all_placed (scripts_of c.args.rules.items) in
    let named_in = named_checks rules scripts (values_of c.args.read) in
    let told = c.in_err-default_filters.field-0.0 in
    passes_on Is IsSpec IsTooDeep (IsCompleted Is c.args.read c.args.rules.items) (merged_checks rules scripts (read_as c.args.read)) told c.from_residual-in_err-default_filters.result
    (refuses_behind Is IsSpec IsTooDeep named_in (inheritance (parents_of profiles) ∷ default_checks profiles) told
    (rw c.as_slice.ensures.value at c.in_ok-check_names.ensures.0)
    (refuses_behind Is IsSpec IsTooDeep (inheritance (parents_of profiles) ∷ []) (default_checks profiles) told c.in_ok-check_parents.ensures.0
    (rw c.as_slice-2.ensures at c.in_err-default_filters.ensures)))
    c.from_residual-in_err-default_filters.ensures.1

pub returns : goal.returns
returns g c =
    let Is = g.R.Languages.is_filter c.args.cx.now in
    let IsSpec = g.R.Languages.is_spec in
    let profiles = map named_of c.args.read.profiles in
    let rules = all_placed (overrides_of c.args.rules.items) in
    let scripts = all_placed (scripts_of c.args.rules.items) in
    let named_in = named_checks rules scripts (values_of c.args.read) in (
      kept_both Is IsSpec g.R.Languages.is_too_deep named_in (inheritance (parents_of profiles) ∷ default_checks profiles)
          (rw c.as_slice.ensures.value at c.in_ok-check_names.ensures.0)
          (c.in_ok-check_parents.ensures.0.0, rw c.as_slice-2.ensures at c.in_ok-default_filters.ensures.0),
      record {
        same = refl;
        filters = rw c.as_slice-2.ensures at c.in_ok-default_filters.ensures.1;
        rules = c.in_ok-rules.ensures.overrides;
        script_rules = c.in_ok-rules.ensures.scripts;
      },
    )
