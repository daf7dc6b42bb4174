use Rattle.std.proofs.Common.{rules}
use Rattle.nextest_config_resolution_warnings.proofs.Fronts.{front_so_far}
use Rattle.nextest_config_resolution_warnings.specs.Warn.{Keeps, WarnsPrefix, told_of}
use Rattle.nextest_config_resolution_warnings.proofs.warn.tell_all.Goals as goal

pub returns-in_err-tell_one-clause-err : goal.returns-in_err-tell_one-clause-err
returns-in_err-tell_one-clause-err g c =
    let has_warned = g.W.ConfigWarnings.has_warned in
    let now = c.tell_one.new.warnings in
    let kept : Keeps has_warned c.loop-warning.warnings now = c.in_err-tell_one.ensures.err in
    let front : WarnsPrefix has_warned c.args.warnings.now now (told_of c.args.source.now c.args.all.now) =
    front_so_far has_warned c.args.warnings.now c.loop-warning.warnings now (λ it. (c.args.source.now, it)) c.args.all.now c.loop-warning.warning-index c.loop-warning.invariant kept in
    search (rules, front)
