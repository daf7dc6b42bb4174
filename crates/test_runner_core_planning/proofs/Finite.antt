-- Lists: those of some texts of which something is so, which can't fail to be; lists in order; and
-- names that rise.
use Rattle.std.proofs.Common.{◌≡◌, ◌↔◌, ◌⊎◌, inl, inr, ℕ, zero, suc, ◌+◌, Bool, true, false, cond, List, [], ◌∷◌, refl, sym, ap, ◌∙◌, subst, arith}
use Rattle.std.specs.Cmp.{IsTotalOrder, eq_by_cmp_equiv}
use Rattle.std.specs.Cmp.Lexicographic.{nat_list_cmp_total, slice_cmp}
use Rattle.std.specs.List.{All, AllPairs, Contains, dedup}
use Rattle.std.specs.List.Sorted.{IsPermutation, IsSorted}
use Rattle.std.specs.Ordering.{eq_by_cmp, is_lt, nat_cmp, ordering_reverse}
use Rattle.std.specs.declared.cmp.Ordering.{Ordering}
use Rattle.std.specs.declared.cmp.Ordering.TheVariants.{Less, Equal, Greater}
use Rattle.std.proofs.lemmas.List.Elements.{All-nil, All-cons, All-head, All-tail, All-weaker}
use Rattle.std.proofs.lemmas.List.Kept.{AllPairs-cons, Contains-dedup, Contains-from_dedup, IsStrictlySortedBy-dedup}
use Rattle.std.proofs.lemmas.List.Sorted.{Contains-permutation, IsPermutation-cons, IsPermutation-refl, IsPermutation-swap, IsPermutation-sym, IsPermutation-trans, ranks_by}
use Rattle.std.proofs.lemmas.Map.Text.{is_eq-slice_cmp}
use Rattle.std.proofs.lemmas.Slice.Eq.{bytes_eq-Decides}
use Rattle.nextest_config_resolution_profiles.specs.Enabled.{AreNamesOf}
use Rattle.test_runner_core_planning.proofs.Elements.{first_has, has_cases, none_has, rest_has}

-- ---- those of some texts of which something is so

abbrev pub Exactly : (List ℕ → Type 0) → List (List ℕ) → List (List ℕ) → Type 0
Exactly Is ids kept = (id : List ℕ) → Contains kept id ↔ (Contains ids id × Is id)

with_first : (Is : List ℕ → Type 0) (x : List ℕ) (ids kept : List (List ℕ)) → Exactly Is ids kept → Is x → Exactly Is (x ∷ ids) (x ∷ kept)
with_first Is x ids kept exactly is id = ((λ has. to (has_cases x id kept has)), (λ both. from (has_cases x id ids both.0) both.1))
  where
    to : (x ≡ id) ⊎ Contains kept id → Contains (x ∷ ids) id × Is id
    to (inl same) = (subst (Contains (x ∷ ids)) same (first_has x ids), subst Is same is)
    to (inr behind) = let both = (exactly id).0 behind in (rest_has x id ids both.0, both.1)

    from : (x ≡ id) ⊎ Contains ids id → Is id → Contains (x ∷ kept) id
    from (inl same) so = subst (Contains (x ∷ kept)) same (first_has x kept)
    from (inr behind) so = rest_has x id kept ((exactly id).1 (behind, so))

without_first : (Is : List ℕ → Type 0) (x : List ℕ) (ids kept : List (List ℕ)) → Exactly Is ids kept → ¬ Is x → Exactly Is (x ∷ ids) kept
without_first Is x ids kept exactly never id = (
  (λ has. let both = (exactly id).0 has in (rest_has x id ids both.0, both.1)),
  (λ both. from (has_cases x id ids both.0) both.1),
)
  where
    from : (x ≡ id) ⊎ Contains ids id → Is id → Contains kept id
    from (inl same) so = absurd (never (subst Is (sym same) so))
    from (inr behind) so = (exactly id).1 (behind, so)

-- it can't be that there is no list of them
pub kept_of : (Is : List ℕ → Type 0) (ids : List (List ℕ)) → ¬ ¬ ((kept : List (List ℕ)) × Exactly Is ids kept)
kept_of Is [] never = never ([], λ id. ((λ has. absurd (none_has id has)), (λ both. absurd (none_has id both.0))))
kept_of Is (x ∷ ids) never =
    kept_of Is ids (λ (kept, exactly). never (kept, without_first Is x ids kept exactly (λ is. never (x ∷ kept, with_first Is x ids kept exactly is))))

-- ---- lists in order

module _ {X : Type 0} (cmp : X → X → Ordering) (total : IsTotalOrder cmp) where
  -- none is below one before it
  abbrev Up : X → X → Type 0
  Up a b = is_lt (cmp b a) ≡ false

  turned : (o : Ordering) → is_lt (ordering_reverse o) ≡ true → is_lt o ≡ false
  turned Less e = sym e
  turned Equal e = refl
  turned Greater e = refl

  up_from : (x y : X) → is_lt (cmp y x) ≡ true → Up y x
  up_from x y e = turned (cmp x y) (ap is_lt (sym (total.antisymm y x)) ∙ e)

  abbrev put : X → List X → List X
  put x [] = x ∷ []
  put x (y ∷ ys) = cond (is_lt (cmp y x)) (y ∷ put x ys) (x ∷ y ∷ ys)

  put_all : (P : X → Type 0) (x : X) (ys : List X) → P x → All P ys → All P (put x ys)
  put_all P x [] is all = All-cons P x [] is all
  put_all P x (y ∷ ys) is all = by_less (put_all P x ys is (All-tail P y ys all)) (is_lt (cmp y x))
    where
      by_less : All P (put x ys) → (b : Bool) → All P (cond b (y ∷ put x ys) (x ∷ y ∷ ys))
      by_less behind true = All-cons P y (put x ys) (All-head P y ys all) behind
      by_less behind false = All-cons P x (y ∷ ys) is all

  head_up : (y : X) (ys : List X) → AllPairs Up (y ∷ ys) → All (Up y) ys
  head_up y ys pairs j d inside = pairs zero (suc j) d (omega arith) (omega arith)

  tail_up : (y : X) (ys : List X) → AllPairs Up (y ∷ ys) → AllPairs Up ys
  tail_up y ys pairs i j d below inside = pairs (suc i) (suc j) d (omega arith) (omega arith)

  put_up : (x : X) (ys : List X) → AllPairs Up ys → AllPairs Up (put x ys)
  put_up x [] pairs = AllPairs-cons Up x [] (All-nil (Up x)) pairs
  put_up x (y ∷ ys) pairs = by_less (put_up x ys (tail_up y ys pairs)) (is_lt (cmp y x)) refl
    where
      by_less : AllPairs Up (put x ys) → (b : Bool) → is_lt (cmp y x) ≡ b → AllPairs Up (cond b (y ∷ put x ys) (x ∷ y ∷ ys))
      by_less behind true e = AllPairs-cons Up y (put x ys) (put_all (Up y) x ys (up_from x y e) (head_up y ys pairs)) behind
      by_less behind false e =
          AllPairs-cons Up x (y ∷ ys)
          (All-cons (Up x) y ys e (All-weaker (Up y) (Up x) (λ z up. (ranks_by total (λ a. a)).chain z y x up e) ys (head_up y ys pairs))) pairs

  put_moves : (x : X) (ys : List X) → IsPermutation (x ∷ ys) (put x ys)
  put_moves x [] = IsPermutation-refl (x ∷ [])
  put_moves x (y ∷ ys) = by_less (put_moves x ys) (is_lt (cmp y x))
    where
      by_less : IsPermutation (x ∷ ys) (put x ys) → (b : Bool) → IsPermutation (x ∷ y ∷ ys) (cond b (y ∷ put x ys) (x ∷ y ∷ ys))
      by_less behind true =
          IsPermutation-trans (x ∷ y ∷ ys) (y ∷ x ∷ ys) (y ∷ put x ys) (IsPermutation-swap (x ∷ y ∷ ys) (y ∷ x ∷ ys) 0 1 (omega arith) (omega arith) refl)
          (IsPermutation-cons y (x ∷ ys) (put x ys) behind)
      by_less behind false = IsPermutation-refl (x ∷ y ∷ ys)

  abbrev in_order : List X → List X
  in_order [] = []
  in_order (x ∷ xs) = put x (in_order xs)

  order_up : (xs : List X) → AllPairs Up (in_order xs)
  order_up [] = λ i j d below within. absurd (omega arith)
  order_up (x ∷ xs) = put_up x (in_order xs) (order_up xs)

  order_moves : (xs : List X) → IsPermutation xs (in_order xs)
  order_moves [] = IsPermutation-refl []
  order_moves (x ∷ xs) = IsPermutation-trans (x ∷ xs) (x ∷ in_order xs) (in_order (x ∷ xs)) (IsPermutation-cons x xs (in_order xs) (order_moves xs)) (put_moves x (in_order xs))

  -- each list has an order
  pub some_order : (xs : List X) → (ys : List X) × IsPermutation xs ys × IsSorted cmp ys
  some_order xs = (in_order xs, order_moves xs, λ k d first within. order_up xs k (k + 1) d (omega arith) within)

-- ---- names that rise

same_text : (x y : List ℕ) → eq_by_cmp (slice_cmp nat_cmp) x y ≡ true → x ≡ y
same_text x y tie = (bytes_eq-Decides x y).0 (sym (is_eq-slice_cmp x y) ∙ tie)

-- it can't be that no names are exactly those of some texts of which something is so
pub some_names : (Is : List ℕ → Type 0) (ids : List (List ℕ)) → ((id : List ℕ) → Is id → Contains ids id) → ¬ ¬ ((names : List (List ℕ)) × AreNamesOf Is names)
some_names Is ids there never = kept_of Is ids (λ (kept, exactly). never (names_of kept exactly))
  where
    names_of : (kept : List (List ℕ)) → Exactly Is ids kept → (names : List (List ℕ)) × AreNamesOf Is names
    names_of kept exactly =
        let order = some_order (slice_cmp nat_cmp) nat_list_cmp_total kept in
        let same = eq_by_cmp (slice_cmp nat_cmp) in (
          dedup same order.0,
          record {
            rise = IsStrictlySortedBy-dedup nat_list_cmp_total (λ x y. refl) order.0 order.2;
            exactly = λ id. (
              (λ has. ((exactly id).0 (Contains-permutation order.0 kept id (IsPermutation-sym kept order.0 order.1) (Contains-from_dedup same order.0 id has))).1),
              (λ is. Contains-dedup (eq_by_cmp_equiv nat_list_cmp_total) same_text order.0 id (Contains-permutation kept order.0 id order.1 ((exactly id).1 (there id is, is)))),
            );
          },
        )
