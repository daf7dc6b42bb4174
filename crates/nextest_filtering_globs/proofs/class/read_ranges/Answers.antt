use Rattle.std.proofs.lemmas.Result.{err_from_is_err_and}
use Rattle.nextest_filtering_globs.specs.Syntax.{SpellsRanges}
use Rattle.nextest_filtering_globs.proofs.Refusals.{ranges_refuse}
use Rattle.nextest_filtering_globs.proofs.Splits.{none_rises}
use Rattle.nextest_filtering_globs.proofs.class.read_ranges.Goals as goal

pub returns-in_err-ranges_of : goal.returns-in_err-ranges_of
returns-in_err-ranges_of c =
    let p = err_from_is_err_and c.from_residual.result c.from_residual.ensures.1 in
    rw (p.1, p.2) (ranges_refuse c.in-Some.body.now (λ ranges rest. SpellsRanges ranges c.args.text.now rest)
    c.in_err-ranges_of.field-0.0
    (none_rises c.args.text.now c.in-Some.body.now c.in-Some.rest.now c.in-Some.ensures) c.in_err-ranges_of.ensures)
