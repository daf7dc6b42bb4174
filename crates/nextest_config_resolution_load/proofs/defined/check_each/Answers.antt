use Rattle.std.proofs.Common.{sym, ap, ◌∙◌, subst}
use Rattle.nextest_config_resolution_load.specs.Checks.{bad_name, may_define, may_name}
use Rattle.nextest_config_resolution_load.specs.Refusing.{IsRefused}
use Rattle.nextest_config_resolution_load.proofs.Passing.{kept_at, kept_where, refuses_at, refuses_where}
use Rattle.nextest_config_resolution_load.proofs.defined.check_each.Goals as goal

pub returns-then-not-may_define : goal.returns-then-not-may_define
returns-then-not-may_define g c =
    let Is = g.R.Languages.is_filter c.args.cx.now in
    let IsSpec = g.R.Languages.is_spec in
    let IsTooDeep = g.R.Languages.is_too_deep in
    let path = c.args.path.now in
    let kind = c.args.kind.now in
    let name_of = g.T.Named.name_of in
    let it = c.it-item.result in
    let same = c.as_str.ensures.value ∙ c.name-then-not-may_define.ensures in
    refuses_at Is IsSpec IsTooDeep (λ one. may_name path kind (name_of one)) c.args.all.now c.loop-it.it-index it c.bad_name.result c.loop-it-test.true c.it-item.is c.loop-it.invariant
    (refuses_where Is IsSpec IsTooDeep (may_define kind (name_of it)) (bad_name path (name_of it)) c.bad_name.result
    (sym (ap (may_define kind) c.name.ensures) ∙ sym c.may_define.ensures ∙ c.if-not-may_define.true)
    (subst (λ name. IsRefused (bad_name path name) c.bad_name.result) same c.bad_name.ensures))

pub loop-it-preserved : goal.loop-it-preserved
loop-it-preserved g c =
    let Is = g.R.Languages.is_filter c.args.cx.now in
    let IsSpec = g.R.Languages.is_spec in
    let IsTooDeep = g.R.Languages.is_too_deep in
    let path = c.args.path.now in
    let kind = c.args.kind.now in
    let name_of = g.T.Named.name_of in
    let it = c.it-item.result in
    kept_at Is IsSpec IsTooDeep (λ one. may_name path kind (name_of one)) c.args.all.now c.loop-it.it-index it c.loop-it-test.true c.it-item.is c.loop-it.invariant
    (kept_where Is IsSpec IsTooDeep (may_define kind (name_of it)) (bad_name path (name_of it)) (sym (ap (may_define kind) c.name.ensures) ∙ sym c.may_define.ensures ∙ c.if-not-may_define.false))
