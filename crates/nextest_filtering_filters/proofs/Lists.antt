-- Lists side by side, and a loop over one of them.
use Rattle.std.proofs.Common.{◌≡◌, ℕ, zero, suc, ◌+◌, ◌<◌, List, [], ◌∷◌, ◌++◌, Some, length, map, replicate, take, get_or, refl, sym, ap, ◌∙◌, subst, arith, slice_get, slice_set, IfOk, Result, Ok, Err}
use Rattle.std.specs.List.{All, AllZip}
use Rattle.std.proofs.lemmas.List.{take_more}
use Rattle.std.proofs.Math.Seq.{take-length, take-suc}

-- one more of each
push_both : {A B : Type 0} (R : A → B → Type 0) (xs : List A) (ys : List B) (x : A) (y : B) → AllZip R xs ys → R x y → AllZip R (xs ++ x ∷ []) (ys ++ y ∷ [])
push_both R [] [] x y all one = (one, all)
push_both R [] (b ∷ ys) x y all one = absurd all
push_both R (a ∷ xs) [] x y all one = absurd all
push_both R (a ∷ xs) (b ∷ ys) x y all one = (all.0, push_both R xs ys x y all.1 one)

-- a loop over the first list that makes the second
pub zip_more : {A B : Type 0} (R : A → B → Type 0) (xs : List A) (ys news : List B) (place : ℕ) (x : A) (y : B) → place < length xs → x ≡ get_or xs place x → news ≡ ys ++ y ∷ [] → R x y
    → AllZip R (take place xs) ys → AllZip R (take (place + 1) xs) news
zip_more R xs ys news place x y less at is one all =
    let count : suc place ≡ place + 1 = omega arith in
    let front : take place xs ++ x ∷ [] ≡ take (place + 1) xs = ap (λ z. take place xs ++ z ∷ []) at ∙ (sym (take-suc xs place x less) ∙ ap (λ n. take n xs) count) in
    subst (λ l. AllZip R l news) front (subst (AllZip R (take place xs ++ x ∷ [])) (sym is) (push_both R (take place xs) ys x y all one))

-- the same, of a list whose elements are read with another for places beyond its end
pub zip_more_read : {A B : Type 0} (R : A → B → Type 0) (xs : List A) (ys news : List B) (place : ℕ) (other : A) (y : B) → place < length xs → news ≡ ys ++ y ∷ [] → R (get_or xs place other) y
    → AllZip R (take place xs) ys → AllZip R (take (place + 1) xs) news
zip_more_read R xs ys news place other y less is one all =
    let x = get_or xs place other in
    subst (λ l. AllZip R l news) (sym (take_more xs place other less)) (subst (AllZip R (take place xs ++ x ∷ [])) (sym is) (push_both R (take place xs) ys x y all one))

pub zip_end : {A B : Type 0} (R : A → B → Type 0) (xs : List A) (ys : List B) (place : ℕ) → place ≡ length xs → AllZip R (take place xs) ys → AllZip R xs ys
zip_end R xs ys place ended all = subst (λ l. AllZip R l ys) (ap (λ n. take n xs) ended ∙ take-length xs) all

-- a loop over a list that stands beside another, and makes a third
made_more : {A B C : Type 0} (R : A → B → Type 0) (Q : A → C → Type 0) (xs : List A) (ys : List B) (made : List C) (place : ℕ) (y : B) (v : C)
    → place < length ys → y ≡ get_or ys place y → ((x : A) → R x y → Q x v) → AllZip R xs ys → AllZip Q (take place xs) made → AllZip Q (take (suc place) xs) (made ++ v ∷ [])
made_more R Q xs [] made place y v less at one all before = absurd (omega (arith, less))
made_more R Q [] (b ∷ ys) made place y v less at one all before = absurd all
made_more R Q (a ∷ xs) (b ∷ ys) [] zero y v less at one all before = (one a (subst (R a) (sym at) all.0), tt)
made_more R Q (a ∷ xs) (b ∷ ys) (c ∷ made) zero y v less at one all before = absurd before
made_more R Q (a ∷ xs) (b ∷ ys) [] (suc place) y v less at one all before = absurd before
made_more R Q (a ∷ xs) (b ∷ ys) (c ∷ made) (suc place) y v less at one all before =
    (before.0, made_more R Q xs ys made place y v (omega (arith, less)) at one all.1 before.1)

pub value_more : {A B C : Type 0} (R : A → B → Type 0) (Q : A → C → Type 0) (xs : List A) (ys : List B) (made news : List C) (place : ℕ) (y : B) (v : C)
    → place < length ys → y ≡ get_or ys place y → news ≡ made ++ v ∷ [] → ((x : A) → R x y → Q x v) → AllZip R xs ys → AllZip Q (take place xs) made → AllZip Q (take (place + 1) xs) news
value_more R Q xs ys made news place y v less at is one all before =
    let count : suc place ≡ place + 1 = omega arith in
    subst (λ n. AllZip Q (take n xs) news) count (subst (AllZip Q (take (suc place) xs)) (sym is) (made_more R Q xs ys made place y v less at one all before))

-- as long as each other
pub as_long : {A B : Type 0} (R : A → B → Type 0) (xs : List A) (ys : List B) → AllZip R xs ys → length ys ≡ length xs
as_long R [] [] all = refl
as_long R [] (y ∷ ys) all = absurd all
as_long R (x ∷ xs) [] all = absurd all
as_long R (x ∷ xs) (y ∷ ys) all = ap suc (as_long R xs ys all.1)

-- another in the second list
pub zip_set : {A B : Type 0} (R : A → B → Type 0) (xs : List A) (ys : List B) (place : ℕ) (old new : B) → place < length ys → old ≡ get_or ys place old → ((x : A) → R x old → R x new)
    → AllZip R xs ys → AllZip R xs (slice_set ys place new)
zip_set R xs [] place old new less at one all = absurd (omega (arith, less))
zip_set R [] (b ∷ ys) place old new less at one all = absurd all
zip_set R (a ∷ xs) (b ∷ ys) zero old new less at one all = (one a (subst (R a) (sym at) all.0), all.1)
zip_set R (a ∷ xs) (b ∷ ys) (suc place) old new less at one all = (all.0, zip_set R xs ys place old new (omega (arith, less)) at one all.1)

-- what follows for two that stand side by side
pub zip_weaker : {A B : Type 0} (R Q : A → B → Type 0) → ((x : A) (y : B) → R x y → Q x y) → (xs : List A) (ys : List B) → AllZip R xs ys → AllZip Q xs ys
zip_weaker R Q holds [] [] all = tt
zip_weaker R Q holds [] (y ∷ ys) all = absurd all
zip_weaker R Q holds (x ∷ xs) [] all = absurd all
zip_weaker R Q holds (x ∷ xs) (y ∷ ys) all = (holds x y all.0, zip_weaker R Q holds xs ys all.1)

-- what holds of each of the second list
pub all_second : {A B : Type 0} (R : A → B → Type 0) (P : B → Type 0) → ((x : A) (y : B) → R x y → P y) → (xs : List A) (ys : List B) → AllZip R xs ys → All P ys
all_second R P holds xs [] all k d less = absurd (omega (arith, less))
all_second R P holds [] (y ∷ ys) all k d less = absurd all
all_second R P holds (x ∷ xs) (y ∷ ys) all zero d less = holds x y all.0
all_second R P holds (x ∷ xs) (y ∷ ys) all (suc k) d less = all_second R P holds xs ys all.1 k d (omega (arith, less))

-- a loop that has seen to each
pub all_end : {A : Type 0} (P : A → Type 0) (xs : List A) (place : ℕ) → place ≡ length xs → All P (take place xs) → All P xs
all_end P xs place ended all = subst (All P) (ap (λ n. take n xs) ended ∙ take-length xs) all

-- what stands at the same place
pub zip_at : {A B : Type 0} (R : A → B → Type 0) (xs : List A) (ys : List B) → AllZip R xs ys → (place : ℕ) (x : A) (other : B) → slice_get xs place ≡ Some x → R x (get_or ys place other)
zip_at R [] ys all place x other at = cc
zip_at R (a ∷ xs) [] all place x other at = absurd all
zip_at R (a ∷ xs) (b ∷ ys) all zero x other at = let same : a ≡ x = cc in subst (λ l. R l b) same all.0
zip_at R (a ∷ xs) (b ∷ ys) all (suc place) x other at = zip_at R xs ys all.1 place x other at

pub zip_by_places : {A B : Type 0} (R : A → B → Type 0) (xs : List A) (ys : List B) (other : B) → length ys ≡ length xs → ((place : ℕ) (x : A) → slice_get xs place ≡ Some x → R x (get_or ys place other)) → AllZip R xs ys
zip_by_places R [] [] other long at = tt
zip_by_places R [] (b ∷ ys) other long at = absurd (omega (arith, long))
zip_by_places R (a ∷ xs) [] other long at = absurd (omega (arith, long))
zip_by_places R (a ∷ xs) (b ∷ ys) other long at = (at 0 a refl, zip_by_places R xs ys other (omega (arith, long)) (λ place x is. at (suc place) x is))

-- all with one
pub zip_same : {A B : Type 0} (R : A → B → Type 0) (xs : List A) (ys : List B) (one : B) → ys ≡ replicate (length xs) one → ((x : A) → R x one) → AllZip R xs ys
zip_same {A} R xs ys one is so = subst (AllZip R xs) (sym is) (by_list xs)
  where
    by_list : (them : List A) → AllZip R them (replicate (length them) one)
    by_list [] = tt
    by_list (x ∷ them) = (so x, by_list them)

-- the second list by what is told of it
pub zip_map : {A B C : Type 0} (R : A → B → Type 0) (Q : A → C → Type 0) (change : B → C) → ((x : A) (y : B) → R x y → Q x (change y)) → (xs : List A) (ys : List B) → AllZip R xs ys → AllZip Q xs (map change ys)
zip_map R Q change so [] [] all = tt
zip_map R Q change so [] (y ∷ ys) all = absurd all
zip_map R Q change so (x ∷ xs) [] all = absurd all
zip_map R Q change so (x ∷ xs) (y ∷ ys) all = (so x y all.0, zip_map R Q change so xs ys all.1)

-- a place where something stands
pub within : {A : Type 0} (xs : List A) (place : ℕ) (x : A) → slice_get xs place ≡ Some x → place < length xs
within [] place x at = cc
within (a ∷ xs) zero x at = omega arith
within (a ∷ xs) (suc place) x at = let less = within xs place x at in omega (arith, less)

-- two clauses of one result
pub ok_both : {T E : Type 0} (P Q R : T → Type 0) → ((it : T) → P it → Q it → R it) → (r : Result T E) → IfOk r P → IfOk r Q → IfOk r R
ok_both P Q R so (Ok it) first second = so it first second
ok_both P Q R so (Err e) first second = tt
