use Rattle.std.proofs.Common.{◌≡◌, List, [], ◌∷◌, ◌++◌, refl, sym, ap, ◌∙◌, subst}
use Rattle.std.proofs.lemmas.List.{append_assoc}
use Rattle.std.specs.List.{flat_map}
use Rattle.nextest_config_resolution_load.specs.Load.{AreReadBy, IsReadBy}
use Rattle.nextest_config_resolution_load.specs.RuleTexts.{checks_by}
use Rattle.nextest_config_resolution_load.specs.declared.loaded_rule.LoadedRule.{LoadedRule}
use Rattle.nextest_config_resolution_load.proofs.Passing.{kept_more, passes_on, refuses_among, zip_more}
use Rattle.nextest_config_resolution_load.proofs.rules.load_rules.Goals as goal

pub returns-in_err-compiled : goal.returns-in_err-compiled
returns-in_err-compiled g c =
    let Is = g.R.Languages.is_filter c.args.cx.now in
    let IsSpec = g.R.Languages.is_spec in
    let IsTooDeep = g.R.Languages.is_too_deep in
    let rule = g.P.PlacedRule in
    let checks = checks_by rule.wraps rule.rule_id rule.conditions in
    let all = c.args.rules.items in
    let front = c.loop-placed.yielded in
    let rest = c.next.new.self.rest.items in
    let parted : all ≡ front ++ c.in-Some.placed ∷ rest = c.loop-placed.invariant.ahead ∙ ap (λ (left : List _). front ++ left) c.in-Some.ensures.steps.0 in
    let told = c.in_err-compiled.field-0.0 in
    passes_on Is IsSpec IsTooDeep (AreReadBy rule.conditions Is IsSpec all) (flat_map checks all) told c.from_residual.result
    (refuses_among Is IsSpec IsTooDeep checks front c.in-Some.placed rest all told parted c.loop-placed.invariant.kept c.in_err-compiled.ensures) c.from_residual.ensures.1

pub loop-placed-preserved : goal.loop-placed-preserved
loop-placed-preserved g c =
    let Is = g.R.Languages.is_filter c.args.cx.now in
    let IsSpec = g.R.Languages.is_spec in
    let rule = g.P.PlacedRule in
    let checks = checks_by rule.wraps rule.rule_id rule.conditions in
    let front = c.loop-placed.yielded in
    let placed = c.in-Some.placed in
    let rest = c.next.new.self.rest.items in
    let item : LoadedRule _ _ _ = record { placed = placed; compiled = c.in_ok-compiled.compiled } in
    let read : IsReadBy rule.conditions Is IsSpec placed item = record { same = refl; compiled = c.in_ok-compiled.ensures.1 } in
    record {
      ahead = c.loop-placed.invariant.ahead ∙ ap (λ (left : List _). front ++ left) c.in-Some.ensures.steps.0 ∙ sym (append_assoc front (placed ∷ []) rest);
      kept = kept_more Is IsSpec g.R.Languages.is_too_deep checks front placed c.loop-placed.invariant.kept c.in_ok-compiled.ensures.0;
      read = subst (λ (loaded : List (LoadedRule _ _ _)). AreReadBy rule.conditions Is IsSpec (front ++ placed ∷ []) loaded) (sym c.in_ok-push.ensures.ok)
          (zip_more (IsReadBy rule.conditions Is IsSpec) front c.loop-placed.loaded placed item c.loop-placed.invariant.read read);
    }
