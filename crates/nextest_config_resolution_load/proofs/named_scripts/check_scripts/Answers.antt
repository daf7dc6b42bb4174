use Rattle.std.proofs.Common.{List, ap, ◌∙◌, subst}
use Rattle.std.specs.Prelude.{⊤}
use Rattle.std.specs.List.{AllByRecursion, flat_map}
use Rattle.nextest_config_resolution_load.specs.Checks.{Check}
use Rattle.nextest_config_resolution_load.specs.Load.{IsKept}
use Rattle.nextest_config_resolution_load.specs.Reading.{all_placed, has_name, placed_of, scripts_of}
use Rattle.nextest_config_resolution_load.specs.Refusing.{Passes}
use Rattle.nextest_config_resolution_load.specs.Rules.{has_script, script_checks}
use Rattle.nextest_config_resolution_load.proofs.NameChecks.{nested, same_scripts, seen_placed}
use Rattle.nextest_config_resolution_load.proofs.Passing.{kept_all, kept_at, passes_on, refuses_at}
use Rattle.nextest_config_resolution_load.proofs.named_scripts.check_scripts.Goals as goal

pub returns-in_err-check_own : goal.returns-in_err-check_own
returns-in_err-check_own g c =
    let Is = g.R.Languages.is_filter c.args.cx.now in
    let IsSpec = g.R.Languages.is_spec in
    let IsTooDeep = g.R.Languages.is_too_deep in
    let rules = c.args.rules.now in
    let known = has_name c.in_ok-names.names in
    let told = c.in_err-check_own.field-0.0 in
    let same = nested (script_checks c.args.kind known) (λ own. placed_of own.scripts) rules ∙ ap (flat_map (script_checks c.args.kind known)) (seen_placed (λ own. own.scripts) rules)
    ∙ same_scripts c.args.kind known (has_script c.args.scripts.now) c.in_ok-names.ensures (all_placed (scripts_of rules)) in
    subst (λ (them : List Check). Passes Is IsSpec IsTooDeep them (λ _. ⊤) c.from_residual-in_err-check_own.result) same
    (passes_on Is IsSpec IsTooDeep (λ _. ⊤) (flat_map (λ own. flat_map (script_checks c.args.kind known) (placed_of own.scripts)) rules) told c.from_residual-in_err-check_own.result
    (refuses_at Is IsSpec IsTooDeep (λ own. flat_map (script_checks c.args.kind known) (placed_of own.scripts)) rules c.loop-own.own-index c.own-item.result told c.loop-own-test.true c.own-item.is c.loop-own.invariant
    (rw c.as_slice.ensures at c.in_err-check_own.ensures))
    c.from_residual-in_err-check_own.ensures.1)

pub loop-own-preserved : goal.loop-own-preserved
loop-own-preserved g c =
    let known = has_name c.in_ok-names.names in
    kept_at (g.R.Languages.is_filter c.args.cx.now) g.R.Languages.is_spec g.R.Languages.is_too_deep (λ own. flat_map (script_checks c.args.kind known) (placed_of own.scripts)) c.args.rules.now
    c.loop-own.own-index c.own-item.result c.loop-own-test.true c.own-item.is c.loop-own.invariant (rw c.as_slice.ensures at c.in_ok-check_own.ensures.0)

pub returns : goal.returns
returns g c =
    let Is = g.R.Languages.is_filter c.args.cx.now in
    let IsSpec = g.R.Languages.is_spec in
    let rules = c.args.rules.now in
    let known = has_name c.in_ok-names.names in
    let same = nested (script_checks c.args.kind known) (λ own. placed_of own.scripts) rules ∙ ap (flat_map (script_checks c.args.kind known)) (seen_placed (λ own. own.scripts) rules)
    ∙ same_scripts c.args.kind known (has_script c.args.scripts.now) c.in_ok-names.ensures (all_placed (scripts_of rules)) in (
      subst (λ (them : List Check). AllByRecursion (IsKept Is IsSpec) them) same
          (kept_all Is IsSpec g.R.Languages.is_too_deep (λ own. flat_map (script_checks c.args.kind known) (placed_of own.scripts)) rules c.loop-own.own-index c.loop-own-test.false c.loop-own.invariant),
      tt,
    )
