use Rattle.std.proofs.Common.{◌≡◌, drop, nat_eq}
use Rattle.std.specs.Cmp.Lexicographic.{pointwise}
use Rattle.nextest_text.proofs.texts.TextsPartialEq.eq.Given as goal

-- the texts so far are the same, so that those that are left tell it
abbrev pub invariant-loop-index : goal.invariant-loop-index
invariant-loop-index l = pointwise (pointwise nat_eq) (drop l.index l.self) (drop l.index l.other) ≡ pointwise (pointwise nat_eq) l.self l.other
