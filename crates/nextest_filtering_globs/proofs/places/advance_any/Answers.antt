use Rattle.std.proofs.Common.{false, ◌∙◌, ap}
use Rattle.std.proofs.Math.ListN.{set}
use Rattle.nextest_filtering_globs.proofs.Loops.{all_moved}
use Rattle.nextest_filtering_globs.proofs.places.advance_any.Goals as goal

pub returns : goal.returns
returns c =
    ap (λ x. set x 0 false) c.copy_within.ensures.after ∙ all_moved c.args.text.now c.args.places.now c.requires
