use Rattle.std.proofs.lemmas.List.{take_rest}
use Rattle.nextest_filtering_globs.proofs.Splits.{split_nowhere, split_there}
use Rattle.nextest_filtering_globs.proofs.class.split_class.Goals as goal

pub returns-in_err-place : goal.returns-in_err-place
returns-in_err-place c =
    rw c.from_residual-in_err-place.ensures (λ body rest.
    split_nowhere c.args.text.now c.in_ok-behind.behind.now c.in_ok-behind.field-0-0.now body rest
    c.in_ok-behind.ensures.cases.0 c.in_err-place.ensures)

pub returns : goal.returns
returns c =
    rw take_rest (split_there c.args.text.now c.in_ok-behind.behind.now c.in_ok-behind.field-0-0.now c.in_ok-place.place
    c.in_ok-behind.ensures.cases.0 c.in_ok-place.ensures)
