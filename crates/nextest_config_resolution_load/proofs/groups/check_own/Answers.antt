use Rattle.std.proofs.Common.{List, subst}
use Rattle.std.specs.Prelude.{⊤}
use Rattle.std.specs.List.{AllByRecursion, flat_map}
use Rattle.nextest_config_resolution_load.specs.Checks.{Check}
use Rattle.nextest_config_resolution_load.specs.Load.{IsKept}
use Rattle.nextest_config_resolution_load.specs.Reading.{has_name, placed_in}
use Rattle.nextest_config_resolution_load.specs.Refusing.{Passes, RefusesFor}
use Rattle.nextest_config_resolution_load.specs.Rules.{group_checks, group_checks_of}
use Rattle.nextest_config_resolution_load.proofs.NameChecks.{mapped}
use Rattle.nextest_config_resolution_load.proofs.Passing.{kept_all, kept_at, passes_on, refuses_at}
use Rattle.nextest_config_resolution_load.proofs.groups.check_own.Goals as goal

pub returns-in_err-check_group : goal.returns-in_err-check_group
returns-in_err-check_group g c =
    let Is = g.R.Languages.is_filter c.args.cx.now in
    let IsSpec = g.R.Languages.is_spec in
    let IsTooDeep = g.R.Languages.is_too_deep in
    let rules = c.args.rules.now in
    let checks = group_checks (has_name c.args.names.now) in
    let told = c.in_err-check_group.field-0.0 in
    subst (λ (them : List Check). Passes Is IsSpec IsTooDeep them (λ _. ⊤) c.from_residual.result) (mapped checks placed_in rules)
    (passes_on Is IsSpec IsTooDeep (λ _. ⊤) (flat_map (λ rule. checks (placed_in rule)) rules) told c.from_residual.result
    (refuses_at Is IsSpec IsTooDeep (λ rule. checks (placed_in rule)) rules c.loop-rule.rule-index c.rule-item.result told c.loop-rule-test.true c.rule-item.is c.loop-rule.invariant
    (subst (λ group. RefusesFor Is IsSpec IsTooDeep (group_checks_of (has_name c.args.names.now) c.rule-item.result.placed.id group) told) c.get_value.ensures c.in_err-check_group.ensures))
    c.from_residual.ensures.1)

pub loop-rule-preserved : goal.loop-rule-preserved
loop-rule-preserved g c =
    kept_at (g.R.Languages.is_filter c.args.cx.now) g.R.Languages.is_spec g.R.Languages.is_too_deep (λ rule. group_checks (has_name c.args.names.now) (placed_in rule)) c.args.rules.now
    c.loop-rule.rule-index c.rule-item.result c.loop-rule-test.true c.rule-item.is c.loop-rule.invariant
    (subst (λ group. AllByRecursion (IsKept (g.R.Languages.is_filter c.args.cx.now) g.R.Languages.is_spec) (group_checks_of (has_name c.args.names.now) c.rule-item.result.placed.id group))
    c.get_value.ensures c.in_ok-check_group.ensures.0)

pub returns : goal.returns
returns g c =
    let Is = g.R.Languages.is_filter c.args.cx.now in
    let IsSpec = g.R.Languages.is_spec in
    let rules = c.args.rules.now in
    let checks = group_checks (has_name c.args.names.now) in (
      subst (λ (them : List Check). AllByRecursion (IsKept Is IsSpec) them) (mapped checks placed_in rules)
          (kept_all Is IsSpec g.R.Languages.is_too_deep (λ rule. checks (placed_in rule)) rules c.loop-rule.rule-index c.loop-rule-test.false c.loop-rule.invariant),
      tt,
    )
