use Rattle.std.proofs.Common.{not, ◌∙◌, sym, ap, arith}
use Rattle.std.proofs.lemmas.Bool.{not-true}
use Rattle.std.proofs.Math.ListN.{drop_of_length-le}
use Rattle.nextest_filtering_globs.proofs.Nowhere.{looked_at, none_found, none_there, some_there}
use Rattle.nextest_filtering_globs.proofs.places.is_nowhere.Goals as goal

pub loop-is_there-preserved : goal.loop-is_there-preserved
loop-is_there-preserved c =
    let l = c.loop-is_there in
    looked_at l.is_found c.args.places.now l.is_there-index (omega arith) l.invariant

pub returns : goal.returns
returns c =
    let l = c.loop-is_there in
    let places = c.args.places.now in
    let found = l.invariant ∙ ap (some_there l.is_found) (drop_of_length-le places {i = l.is_there-index} (omega arith)) in (
      λ h. none_there places (found ∙ not-true l.is_found h),
      λ h. ap not (sym found ∙ none_found places h),
    )
