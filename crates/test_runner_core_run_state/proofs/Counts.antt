-- Sums and counts over a list: after a write, and of all.
use Rattle.std.proofs.Common.{suc, ◌≡◌, ℕ, ◌+◌, ◌≤◌, zero, Bool, true, false, cond, eqb, ◌&&◌, List, [], ◌∷◌, length, Some, refl, sym, ap, ◌∙◌, arith, count_by, sum_by}
use Rattle.std.specs.Prelude.{slice_get, slice_set}
use Rattle.std.specs.List.{list_all}
use Rattle.std.proofs.lemmas.List.Sums.{sum_by-cons, sum_by-set, count_by-le-length}
use Rattle.std.proofs.lemmas.Option.{slice_get_within, get_or_from_slice_get}
use Rattle.std.proofs.lemmas.Bool.Decides.{nat_tests}

-- a sum after a write at a place
pub summed_set : {X : Type 0} (of : X → ℕ) (xs : List X) (i : ℕ) (old new : X) → slice_get xs i ≡ Some old
    → sum_by of (slice_set xs i new) + of old ≡ sum_by of xs + of new
summed_set of xs i old new found =
    let same = get_or_from_slice_get xs i old old found in
    ap (λ x. sum_by of (slice_set xs i new) + of x) (sym same) ∙ sum_by-set of xs i new old (slice_get_within xs i old found)

-- a count after a write at a place
pub counted_set : {X : Type 0} (p : X → Bool) (xs : List X) (i : ℕ) (old new : X) → slice_get xs i ≡ Some old
    → count_by p (slice_set xs i new) + cond (p old) 1 0 ≡ count_by p xs + cond (p new) 1 0
counted_set p = summed_set (λ x. cond (p x) 1 0)

-- all pass where the count is the length
pub all_counted : {X : Type 0} (p : X → Bool) (xs : List X) → list_all p xs ≡ eqb (count_by p xs) (length xs)
all_counted p [] = refl
all_counted p (x ∷ xs) =
    rw (sum_by-cons (λ y. cond (p y) 1 0) x xs) (by_first (p x) _ _ (list_all p xs) (all_counted p xs) (count_by-le-length p xs))
  where
    by_first : (first : Bool) (n m : ℕ) (more : Bool) → more ≡ eqb n m → n ≤ m → (first && more) ≡ eqb (cond first 1 0 + n) (suc m)
    by_first true n m more h within = grind (arith, nat_tests)
    by_first false n m more h within = grind (arith, nat_tests)

-- what is written at a place is there
pub written : {X : Type 0} (xs : List X) (i : ℕ) (old new : X) → slice_get xs i ≡ Some old → slice_get (slice_set xs i new) i ≡ Some new
written [] i old new found = cc
written (x ∷ xs) zero old new found = refl
written (x ∷ xs) (suc i) old new found = written xs i old new found
