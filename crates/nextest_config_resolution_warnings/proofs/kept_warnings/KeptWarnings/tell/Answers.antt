use Rattle.std.proofs.Common.{◌≡◌, rules, ap, ◌∙◌, sym, subst}
use Rattle.std.specs.List.{flat_map}
use Rattle.nextest_config_resolution_warnings.proofs.Fronts.{each_front}
use Rattle.nextest_config_resolution_warnings.specs.Kept.{told_in}
use Rattle.nextest_config_resolution_warnings.specs.Warn.{WarnsPrefix}
use Rattle.nextest_config_resolution_warnings.proofs.kept_warnings.KeptWarnings.tell.Goals as goal

pub returns-in_err-tell_all-clause-err : goal.returns-in_err-tell_all-clause-err
returns-in_err-tell_all-clause-err g c =
    let has_warned = g.W.ConfigWarnings.has_warned in
    let all = c.deref-file-items.result.now in
    let now = c.tell_all.new.warnings in
    let told : WarnsPrefix has_warned c.loop-file.warnings now (told_in c.file-item.result) = rw (sym c.as_slice.ensures) c.in_err-tell_all.ensures.err in
    let kept : flat_map told_in all ≡ c.args.self.now = ap (flat_map told_in) c.deref-file-items.ensures.value ∙ c.self.view_is in
    let front : WarnsPrefix has_warned c.args.warnings.now now c.args.self.now =
    subst (WarnsPrefix has_warned c.args.warnings.now now) kept
    (each_front has_warned c.args.warnings.now c.loop-file.warnings now told_in all c.loop-file.file-index c.file-item.result c.loop-file-test.true c.file-item.is c.loop-file.invariant told) in
    search (rules, front)
