-- Whether a count or a sum is above 0, and when a count is that of all.
use Rattle.std.proofs.Common.{suc, ◌≡◌, ℕ, ◌+◌, ◌<◌, ◌≤◌, Bool, true, false, cond, ltb, ◌||◌, ◌&&◌, List, [], ◌∷◌, length, refl, arith, count_by, sum_by}
use Rattle.std.specs.List.{list_any, list_all}
use Rattle.std.proofs.lemmas.List.Sums.{sum_by-cons, count_by-le-length}
use Rattle.std.proofs.lemmas.Bool.Decides.{nat_tests}

-- the same of three counts
pub three_count_some : {X : Type 0} (p q r : X → Bool) (xs : List X)
    → ltb 0 (count_by p xs + count_by q xs + count_by r xs) ≡ list_any (λ x. p x || q x || r x) xs
three_count_some p q r [] = refl
three_count_some p q r (x ∷ xs) =
    rw (sum_by-cons (λ y. cond (p y) 1 0) x xs, sum_by-cons (λ y. cond (q y) 1 0) x xs, sum_by-cons (λ y. cond (r y) 1 0) x xs)
    (by_first (p x) (q x) (r x) _ _ _ _ (three_count_some p q r xs))
  where
    by_first : (a b c : Bool) (k m n : ℕ) (more : Bool) → ltb 0 (k + m + n) ≡ more
        → ltb 0 ((cond a 1 0 + k) + (cond b 1 0 + m) + (cond c 1 0 + n)) ≡ ((a || b || c) || more)
    by_first true b c k m n more h = grind (arith, nat_tests)
    by_first false true c k m n more h = grind (arith, nat_tests)
    by_first false false true k m n more h = grind (arith, nat_tests)
    by_first false false false k m n more h = grind (arith, nat_tests)

-- where all elements count, the count is their number
pub counts_all : {X : Type 0} (p : X → Bool) (xs : List X) → list_all p xs ≡ true → count_by p xs ≡ length xs
counts_all p [] h = refl
counts_all p (x ∷ xs) h = rw (sum_by-cons (λ y. cond (p y) 1 0) x xs) (by_first (p x) (list_all p xs) _ _ h (counts_all p xs))
  where
    by_first : (first more : Bool) (n m : ℕ) → (first && more) ≡ true → (more ≡ true → n ≡ m) → cond first 1 0 + n ≡ suc m
    by_first true more n m h rest = let e : n ≡ m = rest h in omega arith
    by_first false more n m h rest = cc

-- and only there
pub all_counted : {X : Type 0} (p : X → Bool) (xs : List X) → ltb (count_by p xs) (length xs) ≡ false → list_all p xs ≡ true
all_counted p [] h = refl
all_counted p (x ∷ xs) h = by_first (p x) (list_all p xs) _ _ (rw (sum_by-cons (λ y. cond (p y) 1 0) x xs) at h) (count_by-le-length p xs) (all_counted p xs)
  where
    by_first : (first more : Bool) (n m : ℕ) → ltb (cond first 1 0 + n) (suc m) ≡ false → n ≤ m → (ltb n m ≡ false → more ≡ true) → (first && more) ≡ true
    by_first true more n m h within rest = rest (grind (arith, nat_tests))
    by_first false more n m h within rest = absurd (grind (arith, nat_tests))

-- a sum over the elements that pass is above 0 only where one passes
pub weighs_some : {X : Type 0} (p : X → Bool) (w : X → ℕ) (xs : List X) → 0 < sum_by (λ x. cond (p x) (w x) 0) xs → list_any p xs ≡ true
weighs_some p w [] h = absurd (omega arith)
weighs_some p w (x ∷ xs) h =
    by_first (p x) (w x) _ (list_any p xs) (rw (sum_by-cons (λ y. cond (p y) (w y) 0) x xs) at h) (weighs_some p w xs)
  where
    by_first : (first : Bool) (weight rest : ℕ) (more : Bool) → 0 < cond first weight 0 + rest → (0 < rest → more ≡ true) → (first || more) ≡ true
    by_first true weight rest more h go = refl
    by_first false weight rest more h go = go (omega arith)
