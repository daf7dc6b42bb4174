-- Names of which none stands twice.
use Rattle.std.proofs.Common.{◌≡◌, ℕ, ◌<◌, List, length, get_or, map, Bool, true, false, IsTrue, refl, sym, ap, ◌∙◌, subst, arith}
use Rattle.std.proofs.lemmas.Bool.{false≢true}
use Rattle.std.proofs.lemmas.Cmp.{eq_by_cmp_equiv, nat_cmp_total}
use Rattle.std.proofs.lemmas.List.{get_or-map, length-map}
use Rattle.std.proofs.lemmas.List.Sorted.{IsPermutation-sym}
use Rattle.std.proofs.lemmas.Map.Keys.{IsDistinct-IsPermutation, IsDistinct-from_apart, IsDistinct-from_sorted, Less-from_sorted, apart_from_distinct}
use Rattle.std.proofs.lemmas.Map.Text.{is_eq-slice_cmp}
use Rattle.std.specs.Cmp.Lexicographic.{bytes_decides, slice_cmp}
use Rattle.std.specs.List.{IsAllAdjacentAnswer, IsDistinct}
use Rattle.std.specs.List.Sorted.{IsPermutation, IsStrictlySortedBy}
use Rattle.std.specs.Ordering.{eq_by_cmp, is_eq, is_lt, nat_cmp}
use Rattle.std.specs.Str.{bytes_eq}
use Rattle.std.specs.declared.cmp.Ordering.{Ordering}
use Rattle.std.specs.declared.cmp.Ordering.TheVariants.{Less, Equal, Greater}
use Rattle.test_runner_core_plan.proofs.Strict.{strictly}
use Rattle.test_runner_core_listing.specs.Hashed.{hash}

-- where names rise, none stands twice
pub rising_differ : (names : List (List ℕ)) → IsStrictlySortedBy (slice_cmp nat_cmp) names → IsDistinct bytes_eq names
rising_differ names rise = IsDistinct-from_apart bytes_eq names (λ i j d below within.
    sym (is_eq-slice_cmp (get_or names i d) (get_or names j d)) ∙ ap is_eq (Less-from_sorted (slice_cmp nat_cmp) names i j d rise below within))

-- ---- by their hashes

is_less : (o : Ordering) → is_lt o ≡ true → o ≡ Less
is_less Less h = refl
is_less Equal h = cc
is_less Greater h = cc

-- where each is said to be less than the next, they rise
pub rising : (numbers : List ℕ) (answer : Bool)
    → IsAllAdjacentAnswer (λ (x y : ℕ) (b : Bool). b ≡ is_lt (nat_cmp x y)) numbers answer → IsTrue answer → IsStrictlySortedBy nat_cmp numbers
rising numbers true each h = strictly nat_cmp nat_cmp_total numbers (λ k e inside. is_less _ (sym (each k e inside)))
rising numbers false each h = cc

-- two names of two hashes differ
apart : (a b : List ℕ) → eq_by_cmp nat_cmp (hash a) (hash b) ≡ false → bytes_eq a b ≡ false
apart a b other = by_answer (bytes_eq a b) refl
  where
    by_answer : (answer : Bool) → bytes_eq a b ≡ answer → answer ≡ false
    by_answer false e = refl
    by_answer true e =
        absurd (false≢true (
        sym other
        ∙ ap (λ (name : List ℕ). eq_by_cmp nat_cmp (hash name) (hash b)) ((bytes_decides a b).0 e)
        ∙ (eq_by_cmp_equiv nat_cmp_total).refl (hash b)
        ))

-- so none stands twice where their hashes rise in some order
pub hashed_differ : (hashes sorted : List ℕ) (names : List (List ℕ)) → hashes ≡ map hash names → IsPermutation hashes sorted → IsStrictlySortedBy nat_cmp sorted
    → IsDistinct bytes_eq names
hashed_differ hashes sorted names are same rise =
    let equal = eq_by_cmp nat_cmp in
    let differ : IsDistinct equal (map hash names) =
    subst (IsDistinct equal) are
    (IsDistinct-IsPermutation equal (eq_by_cmp_equiv nat_cmp_total).symm sorted hashes (IsPermutation-sym hashes sorted same) (IsDistinct-from_sorted nat_cmp sorted rise)) in
    IsDistinct-from_apart bytes_eq names (λ i j d below within.
    let inside : j < length (map hash names) = omega (arith, within, length-map names hash) in
    let before : i < length names = omega (arith, below, within) in
    apart (get_or names i d) (get_or names j d)
    (subst (λ (n : ℕ). equal n (hash (get_or names j d)) ≡ false) (get_or-map hash names i d 0 before)
    (subst (λ (n : ℕ). equal (get_or (map hash names) i 0) n ≡ false) (get_or-map hash names j d 0 within)
    (apart_from_distinct equal (map hash names) i j 0 differ below inside))))
