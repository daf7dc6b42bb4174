use Rattle.std.proofs.Common.{◌≡◌}
use Rattle.std.specs.Cmp.Lexicographic.{slice_cmp}
use Rattle.std.specs.List.{AllAdjacentBelow}
use Rattle.std.specs.Ordering.{nat_cmp}
use Rattle.std.specs.declared.cmp.Ordering.TheVariants.{Less}
use Rattle.nextest_text.specs.Parts.{lent_texts}
use Rattle.test_runner_core_listing.proofs.distinct.rise.Given as goal

-- the names so far rise
abbrev pub invariant-loop-place : goal.invariant-loop-place
invariant-loop-place l = AllAdjacentBelow (λ x y. slice_cmp nat_cmp x y ≡ Less) (lent_texts l.names) l.place
