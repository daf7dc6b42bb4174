use Rattle.std.proofs.Common.{◌+◌, ◌++◌, length, vec_len, ◌∙◌, ap, arith}
use Rattle.nextest_filtering_globs.specs.Inside.{none_of}
use Rattle.nextest_filtering_globs.proofs.Loops.{on_ok, opened}
use Rattle.nextest_filtering_globs.proofs.walk.open.Goals as goal

pub returns : goal.returns
returns c =
    let waiting = c.extend_from_slice.new.self in
    let places = c.args.current.now in
    on_ok c.resize.result _ _ c.resize.ensures.items
    (opened waiting.items places (c.len.result + length places) (vec_len waiting) (omega (arith, waiting.ok.0)) (omega arith)
    ∙ ap (λ x. x ++ none_of places) c.in_ok-extend_from_slice.ensures.items)
