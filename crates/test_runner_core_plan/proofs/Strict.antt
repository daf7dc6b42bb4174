-- Elements of which each is below the next.
use Rattle.std.proofs.Common.{◌≡◌, ℕ, suc, ◌+◌, ◌-◌, ◌<◌, List, [], ◌∷◌, length, get_or, subst, arith, false, Some, refl, ap, ◌∙◌, inl, inr}
use Rattle.std.proofs.lemmas.Bool.{cases_lt}
use Rattle.std.proofs.lemmas.List.{get_or_default}
use Rattle.std.specs.Cmp.{IsTotalOrder}
use Rattle.std.specs.List.{AllByRecursion, AllAdjacentBelow}
use Rattle.std.specs.List.Sorted.{IsStrictlySortedBy}
use Rattle.std.specs.declared.cmp.Ordering.{Ordering}
use Rattle.std.specs.Ordering.{is_le, is_some_and, ordering_reverse, partial_le}
use Rattle.std.specs.declared.cmp.Ordering.TheVariants.{Less, Equal, Greater}

all : {X : Type 0} {P Q : X → Type 0} → ((x : X) → P x → Q x) → (xs : List X) → AllByRecursion P xs → AllByRecursion Q xs
all f [] h = tt
all f (x ∷ xs) h = (f x h.0, all f xs h.1)

-- each is below all that follow
pub strictly : {X : Type 0} (cmp : X → X → Ordering) → IsTotalOrder cmp → (xs : List X) → AllAdjacentBelow (λ x y. cmp x y ≡ Less) xs (length xs)
    → IsStrictlySortedBy cmp xs
unfolding IsStrictlySortedBy
strictly cmp total [] each = tt
strictly cmp total (x ∷ []) each = (tt, tt)
strictly cmp total (x ∷ y ∷ xs) each =
    let first : cmp x y ≡ Less = each 0 x (omega arith) in
    let rest = strictly cmp total (y ∷ xs) (λ k d inside.
    let next : suc k + 1 ≡ suc (k + 1) = omega arith in
    subst (λ (n : ℕ). cmp (get_or (y ∷ xs) k d) (get_or (x ∷ y ∷ xs) n d) ≡ Less) next (each (suc k) d (omega (arith, inside)))) in
    ((first, all (λ z below. total.trans x y z first below) xs rest.0), rest)

-- one more pair of neighbours
pub one_more : {X : Type 0} (R : X → X → Type 0) (xs : List X) (n : ℕ) (x y : X) → AllAdjacentBelow R xs n → 0 < n → n < length xs
    → x ≡ get_or xs (n - 1) x → y ≡ get_or xs n y → R x y → AllAdjacentBelow R xs (n + 1)
one_more {X = X} R xs n x y before some within is_x is_y related = λ k d inside.
    elim (cases_lt (k + 1) n) [
      | inl below ↦ before k d below
      | inr last ↦
          let at : n - 1 ≡ k = omega (arith, inside, last, some) in
          let next : n ≡ k + 1 = omega (arith, inside, last) in
          let left : x ≡ get_or xs k d = is_x ∙ get_or_default xs (n - 1) x d (omega (arith, within)) ∙ ap (λ (i : ℕ). get_or xs i d) at in
          let right : y ≡ get_or xs (k + 1) d = is_y ∙ get_or_default xs n y d within ∙ ap (λ (i : ℕ). get_or xs i d) next in
          subst (λ (b : X). R (get_or xs k d) b) right (subst (λ (a : X). R a y) left related)
    ]

-- an order that is not at most the other way round
pub greater : {X : Type 0} (cmp : X → X → Ordering) → IsTotalOrder cmp → (x y : X) → partial_le (λ a b. Some (cmp a b)) y x ≡ false → cmp x y ≡ Less
greater cmp total x y h = total.antisymm x y ∙ turned (cmp y x) h
  where
    turned : (o : Ordering) → is_some_and is_le (Some o) ≡ false → ordering_reverse o ≡ Less
    turned Less h = cc
    turned Equal h = cc
    turned Greater h = refl
