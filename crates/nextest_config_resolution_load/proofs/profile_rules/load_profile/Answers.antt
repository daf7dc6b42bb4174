use Rattle.std.proofs.Common.{List, subst}
use Rattle.std.specs.List.{AllByRecursion, flat_map}
use Rattle.nextest_config_resolution_load.specs.Load.{AreReadBy, IsKept}
use Rattle.nextest_config_resolution_load.specs.Reading.{AreReadInFile, rules_of_profile}
use Rattle.nextest_config_resolution_load.specs.Refusing.{RefusesFor}
use Rattle.nextest_config_resolution_load.specs.Rules.{conditions_of, placed_in, profile_checks, rule_checks, script_conditions_of, script_placed_in, script_rule_checks}
use Rattle.nextest_config_resolution_load.proofs.Passing.{kept_both, passes_on, refuses_before, refuses_behind}
use Rattle.nextest_config_resolution_load.proofs.profile_rules.load_profile.Goals as goal
use Rattle.nextest_config_resolution_overrides.specs.declared.placed_override.PlacedOverride.{PlacedOverride}
use Rattle.nextest_config_resolution_scripts.specs.declared.script_rule.PlacedScriptRule.{PlacedScriptRule}

pub returns-in_err-overrides : goal.returns-in_err-overrides
returns-in_err-overrides g c =
    let Is = g.R.Languages.is_filter c.args.cx.now in
    let IsSpec = g.R.Languages.is_spec in
    let IsTooDeep = g.R.Languages.is_too_deep in
    let path = c.args.path.now in
    let it = c.args.rules in
    let overrides = flat_map rule_checks (placed_in path it) in
    let scripts = flat_map script_rule_checks (script_placed_in path it) in
    let told = c.in_err-overrides.field-0.0 in
    passes_on Is IsSpec IsTooDeep (AreReadInFile Is IsSpec (rules_of_profile path it)) (profile_checks path it) told c.from_residual-in_err-overrides.result
    (refuses_before Is IsSpec IsTooDeep overrides scripts told
    (subst (λ (all : List PlacedOverride). RefusesFor Is IsSpec IsTooDeep (flat_map rule_checks all) told) c.in_ok-placed.ensures c.in_err-overrides.ensures))
    c.from_residual-in_err-overrides.ensures.1

pub returns-in_err-scripts : goal.returns-in_err-scripts
returns-in_err-scripts g c =
    let Is = g.R.Languages.is_filter c.args.cx.now in
    let IsSpec = g.R.Languages.is_spec in
    let IsTooDeep = g.R.Languages.is_too_deep in
    let path = c.args.path.now in
    let it = c.args.rules in
    let overrides = flat_map rule_checks (placed_in path it) in
    let scripts = flat_map script_rule_checks (script_placed_in path it) in
    let told = c.in_err-scripts.field-0.0 in
    passes_on Is IsSpec IsTooDeep (AreReadInFile Is IsSpec (rules_of_profile path it)) (profile_checks path it) told c.from_residual-in_err-scripts.result
    (refuses_behind Is IsSpec IsTooDeep overrides scripts told
    (subst (λ (all : List PlacedOverride). AllByRecursion (IsKept Is IsSpec) (flat_map rule_checks all)) c.in_ok-placed.ensures c.in_ok-overrides.ensures.0)
    (subst (λ (all : List PlacedScriptRule). RefusesFor Is IsSpec IsTooDeep (flat_map script_rule_checks all) told) c.in_ok-placed-2.ensures c.in_err-scripts.ensures))
    c.from_residual-in_err-scripts.ensures.1

pub returns : goal.returns
returns g c =
    let Is = g.R.Languages.is_filter c.args.cx.now in
    let IsSpec = g.R.Languages.is_spec in
    let IsTooDeep = g.R.Languages.is_too_deep in
    let path = c.args.path.now in
    let it = c.args.rules in
    let overrides = flat_map rule_checks (placed_in path it) in
    let scripts = flat_map script_rule_checks (script_placed_in path it) in (
      kept_both Is IsSpec IsTooDeep overrides scripts
          (subst (λ (all : List PlacedOverride). AllByRecursion (IsKept Is IsSpec) (flat_map rule_checks all)) c.in_ok-placed.ensures c.in_ok-overrides.ensures.0)
          (subst (λ (all : List PlacedScriptRule). AllByRecursion (IsKept Is IsSpec) (flat_map script_rule_checks all)) c.in_ok-placed-2.ensures c.in_ok-scripts.ensures.0),
      record {
        overrides = subst (λ (all : List PlacedOverride). AreReadBy conditions_of Is IsSpec all c.in_ok-overrides.overrides) c.in_ok-placed.ensures c.in_ok-overrides.ensures.1;
        scripts = subst (λ (all : List PlacedScriptRule). AreReadBy script_conditions_of Is IsSpec all c.in_ok-scripts.scripts) c.in_ok-placed-2.ensures c.in_ok-scripts.ensures.1;
      },
    )
