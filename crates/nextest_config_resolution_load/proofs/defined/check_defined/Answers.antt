use Rattle.std.proofs.Common.{◌++◌}
use Rattle.std.specs.Prelude.{⊤}
use Rattle.nextest_config_resolution_load.specs.Checks.{defined_checks, feature_checks, name_checks, repeated_checks, table_checks}
use Rattle.nextest_config_resolution_load.proofs.Passing.{passes_behind, passes_on, refuses_before, refuses_behind}
use Rattle.nextest_config_resolution_load.proofs.defined.check_defined.Goals as goal

pub returns-in_err-check_tables : goal.returns-in_err-check_tables
returns-in_err-check_tables g c =
    let Is = g.R.Languages.is_filter c.args.cx.now in
    let IsSpec = g.R.Languages.is_spec in
    let IsTooDeep = g.R.Languages.is_too_deep in
    let features = c.args.features in
    let path = c.args.path.now in
    let kind = c.args.kind.now in
    let config = c.args.config.now in
    let tables = table_checks path config in
    let enabled = feature_checks features path config in
    let names = name_checks path kind config in
    let repeated = repeated_checks path config in
    let told = c.in_err-check_tables.field-0.0 in
    passes_on Is IsSpec IsTooDeep (λ _. ⊤) (defined_checks features path kind config) told c.from_residual.result
    (refuses_before Is IsSpec IsTooDeep tables (enabled ++ (names ++ repeated)) told c.in_err-check_tables.ensures)
    c.from_residual.ensures.1

pub returns-in_err-check_features : goal.returns-in_err-check_features
returns-in_err-check_features g c =
    let Is = g.R.Languages.is_filter c.args.cx.now in
    let IsSpec = g.R.Languages.is_spec in
    let IsTooDeep = g.R.Languages.is_too_deep in
    let features = c.args.features in
    let path = c.args.path.now in
    let kind = c.args.kind.now in
    let config = c.args.config.now in
    let tables = table_checks path config in
    let enabled = feature_checks features path config in
    let names = name_checks path kind config in
    let repeated = repeated_checks path config in
    let told = c.in_err-check_features.field-0.0 in
    passes_on Is IsSpec IsTooDeep (λ _. ⊤) (defined_checks features path kind config) told c.from_residual-in_err-check_features.result
    (refuses_behind Is IsSpec IsTooDeep tables (enabled ++ (names ++ repeated)) told c.in_ok-check_tables.ensures.0
    (refuses_before Is IsSpec IsTooDeep enabled (names ++ repeated) told c.in_err-check_features.ensures))
    c.from_residual-in_err-check_features.ensures.1

pub returns-in_err-check_names : goal.returns-in_err-check_names
returns-in_err-check_names g c =
    let Is = g.R.Languages.is_filter c.args.cx.now in
    let IsSpec = g.R.Languages.is_spec in
    let IsTooDeep = g.R.Languages.is_too_deep in
    let features = c.args.features in
    let path = c.args.path.now in
    let kind = c.args.kind.now in
    let config = c.args.config.now in
    let tables = table_checks path config in
    let enabled = feature_checks features path config in
    let names = name_checks path kind config in
    let repeated = repeated_checks path config in
    let told = c.in_err-check_names.field-0.0 in
    passes_on Is IsSpec IsTooDeep (λ _. ⊤) (defined_checks features path kind config) told c.from_residual-in_err-check_names.result
    (refuses_behind Is IsSpec IsTooDeep tables (enabled ++ (names ++ repeated)) told c.in_ok-check_tables.ensures.0
    (refuses_behind Is IsSpec IsTooDeep enabled (names ++ repeated) told c.in_ok-check_features.ensures.0
    (refuses_before Is IsSpec IsTooDeep names repeated told c.in_err-check_names.ensures)))
    c.from_residual-in_err-check_names.ensures.1

pub returns : goal.returns
returns g c =
    let Is = g.R.Languages.is_filter c.args.cx.now in
    let IsSpec = g.R.Languages.is_spec in
    let IsTooDeep = g.R.Languages.is_too_deep in
    let features = c.args.features in
    let path = c.args.path.now in
    let kind = c.args.kind.now in
    let config = c.args.config.now in
    let tables = table_checks path config in
    let enabled = feature_checks features path config in
    let names = name_checks path kind config in
    let repeated = repeated_checks path config in
    passes_behind Is IsSpec IsTooDeep (λ _. ⊤) tables (enabled ++ (names ++ repeated)) c.check_repeated.result c.in_ok-check_tables.ensures.0
    (passes_behind Is IsSpec IsTooDeep (λ _. ⊤) enabled (names ++ repeated) c.check_repeated.result c.in_ok-check_features.ensures.0
    (passes_behind Is IsSpec IsTooDeep (λ _. ⊤) names repeated c.check_repeated.result c.in_ok-check_names.ensures.0 c.check_repeated.ensures))
