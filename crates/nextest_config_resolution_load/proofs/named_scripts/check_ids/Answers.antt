use Rattle.std.proofs.Common.{sym, ap, ◌∙◌, subst}
use Rattle.nextest_config_resolution_load.specs.Checks.{unknown_script}
use Rattle.nextest_config_resolution_load.specs.Reading.{has_name}
use Rattle.nextest_config_resolution_load.specs.Refusing.{IsRefused}
use Rattle.nextest_config_resolution_load.specs.Rules.{setup_check}
use Rattle.nextest_config_resolution_load.proofs.Passing.{kept_at, kept_where, refuses_at, refuses_where}
use Rattle.nextest_config_resolution_load.proofs.named_scripts.check_ids.Goals as goal

pub returns-then-not-contains : goal.returns-then-not-contains
returns-then-not-contains g c =
    let Is = g.R.Languages.is_filter c.args.cx.now in
    let IsSpec = g.R.Languages.is_spec in
    let IsTooDeep = g.R.Languages.is_too_deep in
    let known = has_name c.args.names.now in
    let rule = c.args.rule.now in
    let id = c.id-item.result in
    refuses_at Is IsSpec IsTooDeep (setup_check known rule) c.args.ids.now c.loop-id.id-index id c.unknown_script.result c.loop-id-test.true c.id-item.is c.loop-id.invariant
    (refuses_where Is IsSpec IsTooDeep (known id) (unknown_script rule id) c.unknown_script.result (sym (ap known c.as_str.ensures.value) ∙ sym c.contains.ensures ∙ c.if-not-contains.true)
    (subst (λ name. IsRefused (unknown_script rule name) c.unknown_script.result) c.as_str-then-not-contains.ensures.value c.unknown_script.ensures))

pub loop-id-preserved : goal.loop-id-preserved
loop-id-preserved g c =
    let Is = g.R.Languages.is_filter c.args.cx.now in
    let IsSpec = g.R.Languages.is_spec in
    let IsTooDeep = g.R.Languages.is_too_deep in
    let known = has_name c.args.names.now in
    let rule = c.args.rule.now in
    let id = c.id-item.result in
    kept_at Is IsSpec IsTooDeep (setup_check known rule) c.args.ids.now c.loop-id.id-index id c.loop-id-test.true c.id-item.is c.loop-id.invariant
    (kept_where Is IsSpec IsTooDeep (known id) (unknown_script rule id) (sym (ap known c.as_str.ensures.value) ∙ sym c.contains.ensures ∙ c.if-not-contains.false))
