-- Tests of which none is greater than the next rise.
use Rattle.std.proofs.Common.{◌≡◌, ◌+◌, Bool, List, true, false, refl, ap, ◌∙◌, slice_index_or, IsTrue}
use Rattle.std.specs.Cmp.{IsTotalOrder}
use Rattle.std.specs.Ordering.{is_le, is_lt, ordering_reverse}
use Rattle.std.specs.declared.cmp.Ordering.{Ordering}
use Rattle.std.specs.declared.cmp.Ordering.TheVariants.{Less, Equal, Greater}
use Rattle.std.specs.List.{IsAllAdjacentAnswer}
use Rattle.std.specs.List.Sorted.{IsSorted}

turned : (o : Ordering) → true ≡ is_le o → is_lt (ordering_reverse o) ≡ false
turned Less h = refl
turned Equal h = refl
turned Greater h = cc

-- where each is said to be at most the next, none is less than the one before it
pub rises : {X : Type 0} (cmp : X → X → Ordering) → IsTotalOrder cmp → (xs : List X) (answer : Bool) → IsAllAdjacentAnswer (λ x y b. b ≡ is_le (cmp x y)) xs answer → IsTrue answer → IsSorted cmp xs
rises cmp total xs true each h = λ k d first within.
    let x = slice_index_or xs k d in
    let y = slice_index_or xs (k + 1) d in
    ap is_lt (total.antisymm y x) ∙ turned (cmp x y) (each k d within)
rises cmp total xs false each h = cc
