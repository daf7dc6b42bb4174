use Rattle.std.proofs.Common.{ℕ, ◌-◌, length, ap, arith}
use Rattle.test_runner_core_platforms.proofs.Flat.{cut_within, last_child}
use Rattle.test_runner_core_platforms.proofs.part.split_child.Goals as goal

pub overflow_sub-before : goal.overflow_sub-before
overflow_sub-before c = Prim.omega (arith, c.inside.ensures, cut_within _ _ _ c.split_last.ensures c.requires.flat)

pub returns : goal.returns
returns c =
    last_child _ _ _ _ _ _ c.split_last.ensures c.requires.flat (ap (λ (n : ℕ). length c.split_last.result.1.now - n) c.inside.ensures)
    c.split_at.ensures.front c.split_at.ensures.back
