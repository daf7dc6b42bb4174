-- Tests have one order that rises.
use Rattle.std.proofs.Common.{◌≡◌, ℕ, suc, ◌+◌, ◌<◌, Bool, true, false, cond, List, [], ◌∷◌, length, get_or, refl, sym, ap, ◌∙◌, subst, arith}
use Rattle.std.specs.Cmp.{IsTotalOrder}
use Rattle.std.specs.Cmp.Lexicographic.{slice_cmp, on_texts}
use Rattle.std.specs.List.{sum_by, AllByRecursion, Contains}
use Rattle.std.specs.List.Sorted.{IsPermutation, IsSorted}
use Rattle.std.specs.Ordering.{int_cmp, nat_cmp, is_lt, is_eq, ordering_then, ordering_reverse}
use Rattle.std.specs.declared.cmp.Ordering.{Ordering}
use Rattle.std.specs.declared.cmp.Ordering.TheVariants.{Less, Equal, Greater}
use Rattle.std.proofs.lemmas.Cmp.{back_total, int_cmp_total, on_total, then_total, tied_itself}
use Rattle.std.proofs.lemmas.List.Elements.{All-contains_itself, recursion_from_All}
use Rattle.std.proofs.lemmas.List.MinMax.{ranks_by}
use Rattle.std.proofs.lemmas.List.Sorted.{All-permutation, sorted_far, sum_by-IsPermutation}
use Rattle.std.proofs.lemmas.List.Sums.{sum_by-cons}
use Rattle.std.proofs.lemmas.Map.Text.{is_eq-slice_cmp}
use Rattle.std.proofs.lemmas.Slice.Eq.{bytes_eq-Decides}
use Rattle.nextest_run_events_results.specs.declared.instance.OwnedTestInstanceId.{OwnedTestInstanceId}
use Rattle.test_runner_core_plan.specs.Order.{instance_cmp, plan_cmp}
use Rattle.test_runner_core_plan.specs.declared.plan.PlanTest.{PlanTest}

-- ---- the order of tests is one

pub instances_compare : IsTotalOrder instance_cmp
instances_compare = then_total (on_texts (λ (it : OwnedTestInstanceId). it.binary_id)) (on_texts (λ (it : OwnedTestInstanceId). it.test_name))

pub plans_compare : IsTotalOrder plan_cmp
plans_compare = then_total (on_total (λ (it : PlanTest). it.settings.priority) (back_total int_cmp_total)) (on_total (λ (it : PlanTest). it.instance) instances_compare)

-- texts that tie are the same
texts_tie : (xs ys : List ℕ) → slice_cmp nat_cmp xs ys ≡ Equal → xs ≡ ys
texts_tie xs ys tie = (bytes_eq-Decides xs ys).0 (sym (is_eq-slice_cmp xs ys) ∙ ap is_eq tie)

-- of two orders the second says it, where they tie by both
second_tie : (first second : Ordering) → ordering_then first second ≡ Equal → second ≡ Equal
second_tie Less second h = cc
second_tie Equal second h = h
second_tie Greater second h = cc

-- names that tie are the same
pub instances_tie : (a b : OwnedTestInstanceId) → instance_cmp a b ≡ Equal → a ≡ b
instances_tie a b tie = by_first (slice_cmp nat_cmp a.binary_id b.binary_id) refl tie
  where
    by_first : (first : Ordering) → slice_cmp nat_cmp a.binary_id b.binary_id ≡ first
        → ordering_then first (slice_cmp nat_cmp a.test_name b.test_name) ≡ Equal → a ≡ b
    by_first Less e h = cc
    by_first Greater e h = cc
    by_first Equal e h =
        let ids = texts_tie a.binary_id b.binary_id e in
        let names = texts_tie a.test_name b.test_name h in
        ap (λ (id : List ℕ). record { binary_id = id; test_name = a.test_name }) ids ∙ ap (λ (name : List ℕ). record { binary_id = b.binary_id; test_name = name }) names

-- tests that tie have one name
pub plans_tie : (a b : PlanTest) → plan_cmp a b ≡ Equal → a.instance ≡ b.instance
plans_tie a b tie = instances_tie a.instance b.instance (second_tie (int_cmp b.settings.priority a.settings.priority) (instance_cmp a.instance b.instance) tie)

-- ---- in an order, lists with the same elements rise in one way

module _ {X : Type 0} (cmp : X → X → Ordering) (total : IsTotalOrder cmp) where
  -- neither is below the other
  both_tie : (a b : X) → is_lt (cmp a b) ≡ false → is_lt (cmp b a) ≡ false → cmp a b ≡ Equal
  both_tie a b one other = by_order (cmp b a) (total.antisymm a b) other
    where
      by_order : (back : Ordering) → cmp a b ≡ ordering_reverse back → is_lt back ≡ false → cmp a b ≡ Equal
      by_order Less e h = cc
      by_order Equal e h = e
      by_order Greater e h = absurd (let no : true ≡ false = sym (ap is_lt e) ∙ one in cc)

  -- each element is at most those behind it
  abbrev Rises : List X → Type 0
  Rises [] = Unit {0}
  Rises (x ∷ xs) = AllByRecursion (λ y. is_lt (cmp y x) ≡ false) xs × Rises xs

  at_most : (x : X) (ys : List X) → ((j : ℕ) → j < length ys → is_lt (cmp (get_or ys j x) x) ≡ false) → AllByRecursion (λ y. is_lt (cmp y x) ≡ false) ys
  at_most x [] h = tt
  at_most x (y ∷ ys) h = (h 0 (omega arith), at_most x ys (λ j less. h (suc j) (omega arith)))

  rises : (xs : List X) → IsSorted cmp xs → Rises xs
  rises [] sorted = tt
  rises (x ∷ xs) sorted = (
    at_most x xs (λ j less. sorted_far (λ a b. is_lt (cmp a b)) (ranks_by total (λ (it : X). it)) (x ∷ xs) sorted 0 (suc j) x (omega arith) (omega arith)),
    rises xs (λ k d low high.
        let next : suc k + 1 ≡ suc (k + 1) = omega arith in
        subst (λ (n : ℕ). is_lt (cmp (get_or (x ∷ xs) n d) (get_or xs k d)) ≡ false) next (sorted (suc k) d (omega arith) (omega arith))),
  )

  -- lists with the same elements, each as often
  abbrev SameCounts : List X → List X → Type 0
  SameCounts xs ys = (f : X → ℕ) → sum_by f xs ≡ sum_by f ys

  -- one for each element below another
  abbrev below : X → X → ℕ
  below x y = cond (is_lt (cmp y x)) 1 0

  none_below : (x : X) (ys : List X) → AllByRecursion (λ y. is_lt (cmp y x) ≡ false) ys → sum_by (below x) ys ≡ 0
  none_below x [] h = refl
  none_below x (y ∷ ys) h =
      sum_by-cons (below x) y ys ∙ ap (λ (b : Bool). cond b 1 0 + sum_by (below x) ys) h.0 ∙ ap (λ (n : ℕ). 0 + n) (none_below x ys h.1)

  -- the first of rising elements is below none of the same elements
  first_is_least : (x y : X) (xs ys : List X) → SameCounts (x ∷ xs) (y ∷ ys) → Rises (x ∷ xs) → is_lt (cmp y x) ≡ false
  first_is_least x y xs ys same up =
      let none : sum_by (below x) (y ∷ ys) ≡ 0 = sym (same (below x)) ∙ none_below x (x ∷ xs) (ap is_lt (tied_itself total x), up.0) in
      by_test (is_lt (cmp y x)) (sym (sum_by-cons (below x) y ys) ∙ none)
    where
      by_test : (b : Bool) → cond b 1 0 + sum_by (below x) ys ≡ 0 → b ≡ false
      by_test true e = absurd (omega arith)
      by_test false e = refl

  -- elements that are known to be one where they tie
  module _ (Known : X → Type 0) (one : (a b : X) → Known a → Known b → cmp a b ≡ Equal → a ≡ b) where
    one_order : (xs ys : List X) → SameCounts xs ys → Rises xs → Rises ys → AllByRecursion Known xs → AllByRecursion Known ys → xs ≡ ys
    one_order [] [] same up down known also = refl
    one_order [] (y ∷ ys) same up down known also = absurd (let e = same (λ z. 1) ∙ sum_by-cons (λ (z : X). 1) y ys in omega arith)
    one_order (x ∷ xs) [] same up down known also = absurd (let e = sym (sum_by-cons (λ (z : X). 1) x xs) ∙ same (λ z. 1) in omega arith)
    one_order (x ∷ xs) (y ∷ ys) same up down known also =
        let tie : cmp x y ≡ Equal = both_tie x y (first_is_least y x ys xs (λ f. sym (same f)) down) (first_is_least x y xs ys same up) in
        let first : x ≡ y = one x y known.0 also.0 tie in
        let rest : SameCounts xs ys =
        λ f. (let e : f x + sum_by f xs ≡ f y + sum_by f ys = sym (sum_by-cons f x xs) ∙ same f ∙ sum_by-cons f y ys in
        let heads : f x ≡ f y = ap f first in omega arith) in
        ap (λ (z : X). z ∷ xs) first ∙ ap (λ (zs : List X). y ∷ zs) (one_order xs ys rest up.1 down.1 known.1 also.1)

  -- two orders of one list that rise are the same, where its elements that tie are one
  pub one_sorted : (listed xs ys : List X) → ((a b : X) → Contains listed a → Contains listed b → cmp a b ≡ Equal → a ≡ b)
      → IsPermutation listed xs → IsPermutation listed ys → IsSorted cmp xs → IsSorted cmp ys → xs ≡ ys
  one_sorted listed xs ys one a b up down =
      one_order (Contains listed) one xs ys (λ f. sum_by-IsPermutation f listed xs a ∙ sym (sum_by-IsPermutation f listed ys b)) (rises xs up) (rises ys down)
      (recursion_from_All (Contains listed) xs (All-permutation (Contains listed) listed xs a (All-contains_itself listed)))
      (recursion_from_All (Contains listed) ys (All-permutation (Contains listed) listed ys b (All-contains_itself listed)))

-- two orders of the tests of a plan that rise are the same, where it has no two tests of one name
pub one_rising : (listed xs ys : List PlanTest) → ((a b : PlanTest) → Contains listed a → Contains listed b → a.instance ≡ b.instance → a ≡ b)
    → IsPermutation listed xs → IsPermutation listed ys → IsSorted plan_cmp xs → IsSorted plan_cmp ys → xs ≡ ys
one_rising listed xs ys one = one_sorted plan_cmp plans_compare listed xs ys (λ a b known also tie. one a b known also (plans_tie a b tie))
