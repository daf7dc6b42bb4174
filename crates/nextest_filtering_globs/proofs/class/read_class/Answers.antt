use Rattle.std.proofs.lemmas.Result.{err_from_is_err_and}
use Rattle.nextest_filtering_globs.specs.Syntax.{SpellsClass, SpellsRanges}
use Rattle.nextest_filtering_globs.proofs.Refusals.{refuses}
use Rattle.nextest_filtering_globs.proofs.Splits.{none_signed}
use Rattle.nextest_filtering_globs.proofs.class.read_class.Goals as goal

pub returns-in_err-ranges-clause-exact : goal.returns-in_err-ranges-clause-exact
returns-in_err-ranges-clause-exact c =
    let p = err_from_is_err_and c.from_residual.result c.from_residual.ensures.1 in
    let s = c.class_sign-negated in
    rw (p.1, p.2) (refuses (λ ranges rest. SpellsRanges ranges s.result.1.now rest)
    (λ class rest. SpellsClass class.0 class.1 c.args.text.now rest)
    c.in_err-ranges.field-0.0
    (λ none class. none_signed c.args.text.now s.result.1.now s.result.0 s.ensures none class.0 class.1)
    c.in_err-ranges.ensures)
