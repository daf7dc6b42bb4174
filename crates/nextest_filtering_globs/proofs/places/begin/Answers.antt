use Rattle.std.proofs.Common.{◌+◌, ◌∷◌, ◌++◌, [], true, length, vec_len, ◌∙◌, ap, arith}
use Rattle.nextest_filtering_globs.proofs.Loops.{begun, on_ok}
use Rattle.nextest_filtering_globs.proofs.places.begin.Goals as goal

pub returns : goal.returns
returns c =
    let pushed = c.push.new.self in
    on_ok c.resize.result _ _ c.resize.ensures.items
    (begun c.args.text.now pushed.items (length c.args.text.now + 1) (vec_len pushed)
    (c.in_ok-push.ensures.items ∙ ap (λ x. x ++ true ∷ []) c.clear.ensures.items)
    (omega (arith, c.in_ok-push.ensures.len, c.clear.ensures.len)) (omega arith))
