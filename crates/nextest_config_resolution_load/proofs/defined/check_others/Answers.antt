use Rattle.std.proofs.Common.{not, sym, ap, ◌∙◌, subst}
use Rattle.nextest_config_resolution_load.specs.Checks.{repeated_script}
use Rattle.nextest_config_resolution_load.specs.Reading.{has_name, not_among}
use Rattle.nextest_config_resolution_load.specs.Refusing.{IsRefused}
use Rattle.nextest_config_resolution_load.proofs.Passing.{kept_at, kept_where, refuses_at, refuses_where}
use Rattle.nextest_config_resolution_load.proofs.defined.check_others.Goals as goal

pub returns-then-contains : goal.returns-then-contains
returns-then-contains g c =
    let Is = g.R.Languages.is_filter c.args.cx.now in
    let IsSpec = g.R.Languages.is_spec in
    let IsTooDeep = g.R.Languages.is_too_deep in
    let path = c.args.path.now in
    let known = has_name c.args.names.now in
    let script = c.script-item.result in
    refuses_at Is IsSpec IsTooDeep (λ it. not_among path c.args.names.now it.id) c.args.scripts.now c.loop-script.script-index script c.repeated_script.result c.loop-script-test.true c.script-item.is
    c.loop-script.invariant
    (refuses_where Is IsSpec IsTooDeep (not (known script.id)) (repeated_script path script.id) c.repeated_script.result
    (ap not (sym (ap known c.as_str.ensures.value) ∙ sym c.contains.ensures ∙ c.if-contains.true))
    (subst (λ name. IsRefused (repeated_script path name) c.repeated_script.result) c.as_str-then-contains.ensures.value c.repeated_script.ensures))

pub loop-script-preserved : goal.loop-script-preserved
loop-script-preserved g c =
    let Is = g.R.Languages.is_filter c.args.cx.now in
    let IsSpec = g.R.Languages.is_spec in
    let IsTooDeep = g.R.Languages.is_too_deep in
    let path = c.args.path.now in
    let known = has_name c.args.names.now in
    let script = c.script-item.result in
    kept_at Is IsSpec IsTooDeep (λ it. not_among path c.args.names.now it.id) c.args.scripts.now c.loop-script.script-index script c.loop-script-test.true c.script-item.is c.loop-script.invariant
    (kept_where Is IsSpec IsTooDeep (not (known script.id)) (repeated_script path script.id) (ap not (sym (ap known c.as_str.ensures.value) ∙ sym c.contains.ensures ∙ c.if-contains.false)))
