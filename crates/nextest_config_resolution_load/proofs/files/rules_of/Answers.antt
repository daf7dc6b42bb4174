use Rattle.std.proofs.Common.{Ok}
use Rattle.std.specs.List.{flat_map}
use Rattle.nextest_config_resolution_load.specs.Checks.{defined_checks, file_checks, rules_in_file}
use Rattle.nextest_config_resolution_load.specs.Reading.{AreReadInFile}
use Rattle.nextest_config_resolution_load.specs.Rules.{profile_checks}
use Rattle.nextest_config_resolution_load.proofs.Passing.{passes_behind, passes_on, refuses_before}
use Rattle.nextest_config_resolution_load.proofs.files.rules_of.Goals as goal

pub returns-in_err-check_defined : goal.returns-in_err-check_defined
returns-in_err-check_defined g c =
    let Is = g.R.Languages.is_filter c.args.cx.now in
    let IsSpec = g.R.Languages.is_spec in
    let IsTooDeep = g.R.Languages.is_too_deep in
    let path = c.args.path.now in
    let config = c.args.config in
    let told = c.in_err-check_defined.field-0.0 in
    passes_on Is IsSpec IsTooDeep (AreReadInFile Is IsSpec (rules_in_file path (Ok config))) (file_checks c.args.features path c.args.kind.now (Ok config)) told c.from_residual.result
    (refuses_before Is IsSpec IsTooDeep (defined_checks c.args.features path c.args.kind.now config) (flat_map (profile_checks path) config.profiles) told c.in_err-check_defined.ensures)
    c.from_residual.ensures.1

pub returns : goal.returns
returns g c =
    let Is = g.R.Languages.is_filter c.args.cx.now in
    let IsSpec = g.R.Languages.is_spec in
    let path = c.args.path.now in
    let config = c.args.config in
    passes_behind Is IsSpec g.R.Languages.is_too_deep (AreReadInFile Is IsSpec (rules_in_file path (Ok config))) (defined_checks c.args.features path c.args.kind.now config)
    (flat_map (profile_checks path) config.profiles) c.load_profiles.result c.in_ok-check_defined.ensures.0 c.load_profiles.ensures
