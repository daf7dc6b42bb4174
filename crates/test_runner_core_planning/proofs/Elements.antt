-- Elements of lists, and binaries by their ids.
use Rattle.std.proofs.Common.{◌≡◌, ◌⊎◌, inl, inr, ℕ, suc, zero, List, [], ◌∷◌, map, Bool, true, false, cond, refl, sym, ap, ◌∙◌, subst, arith}
use Rattle.std.specs.Cmp.Lexicographic.{nat_list_eq_equiv}
use Rattle.std.specs.List.{Contains, filter}
use Rattle.std.proofs.lemmas.Bool.{both_ways, or_parts}
use Rattle.std.proofs.lemmas.Map.Views.{list_any-from_Contains}
use Rattle.test_runner_core_listing.specs.Listing.{ids_of}
use Rattle.test_runner_core_workspace.specs.Workspace.{has_repeat, is_among}
use Rattle.test_runner_core_workspace.specs.declared.record.Binary.{Binary}

pub first_has : {X : Type 0} (x : X) (xs : List X) → Contains (x ∷ xs) x
first_has x xs = (0, omega arith, refl)

pub rest_has : {X : Type 0} (x y : X) (xs : List X) → Contains xs y → Contains (x ∷ xs) y
rest_has x y xs (k, within, is) = (suc k, omega (arith, within), is)

pub has_cases : {X : Type 0} (x y : X) (xs : List X) → Contains (x ∷ xs) y → (x ≡ y) ⊎ Contains xs y
has_cases x y xs (zero, within, is) = inl is
has_cases x y xs (suc k, within, is) = inr (k, omega (arith, within), is)

pub none_has : {X : Type 0} (y : X) → Contains [] y → ⊥
none_has y (k, within, is) = absurd (omega (arith, within))

pub map_has : {X Y : Type 0} (f : X → Y) (xs : List X) (x : X) → Contains xs x → Contains (map f xs) (f x)
map_has f [] x has = absurd (none_has x has)
map_has {Y = Y} f (y ∷ xs) x has =
    elim (has_cases y x xs has) [
      | inl same ↦ subst (λ (z : Y). Contains (f y ∷ map f xs) z) (ap f same) (first_has (f y) (map f xs))
      | inr more ↦ rest_has (f y) (f x) (map f xs) (map_has f xs x more)
    ]

-- what a map made an element of, and what a filter let pass
pub record MadeOf {X Y : Type 0} (f : X → Y) (xs : List X) (y : Y) : Type 0 where
  pub of : X
  pub among : Contains xs of
  pub made : f of ≡ y

pub has_of_map : {X Y : Type 0} (f : X → Y) (xs : List X) (y : Y) → Contains (map f xs) y → MadeOf f xs y
has_of_map f [] y has = absurd (none_has y has)
has_of_map f (x ∷ xs) y has =
    elim (has_cases (f x) y (map f xs) has) [
      | inl same ↦ record { of = x; among = first_has x xs; made = same }
      | inr more ↦ let there = has_of_map f xs y more in record { of = there.of; among = rest_has x there.of xs there.among; made = there.made }
    ]

pub filter_has : {X : Type 0} (p : X → Bool) (xs : List X) (x : X) → Contains xs x → p x ≡ true → Contains (filter p xs) x
filter_has p [] x has passed = absurd (none_has x has)
filter_has {X = X} p (y ∷ xs) x has passed = by_first (p y) refl (λ more. filter_has p xs x more passed)
  where
    by_first : (b : Bool) → p y ≡ b → (Contains xs x → Contains (filter p xs) x) → Contains (cond b (y ∷ filter p xs) (filter p xs)) x
    by_first true e behind =
        elim (has_cases y x xs has) [
          | inl same ↦ subst (λ (z : X). Contains (y ∷ filter p xs) z) same (first_has y (filter p xs))
          | inr more ↦ rest_has y x (filter p xs) (behind more)
        ]
    by_first false e behind =
        elim (has_cases y x xs has) [
          | inl same ↦ absurd (let f : true ≡ false = sym passed ∙ ap p (sym same) ∙ e in cc)
          | inr more ↦ behind more
        ]

pub record Passes {X : Type 0} (p : X → Bool) (xs : List X) (x : X) : Type 0 where
  pub among : Contains xs x
  pub passes : p x ≡ true

pub has_of_filter : {X : Type 0} (p : X → Bool) (xs : List X) (x : X) → Contains (filter p xs) x → Passes p xs x
has_of_filter p [] x has = absurd (none_has x has)
has_of_filter {X = X} p (y ∷ xs) x has = by_first (p y) refl has (has_of_filter p xs x)
  where
    by_first : (b : Bool) → p y ≡ b → Contains (cond b (y ∷ filter p xs) (filter p xs)) x → (Contains (filter p xs) x → Passes p xs x) → Passes p (y ∷ xs) x
    by_first true e h behind =
        elim (has_cases y x (filter p xs) h) [
          | inl same ↦ record { among = subst (λ (z : X). Contains (y ∷ xs) z) same (first_has y xs); passes = ap p (sym same) ∙ e }
          | inr more ↦ let there = behind more in record { among = rest_has y x xs there.among; passes = there.passes }
        ]
    by_first false e h behind = let there = behind h in record { among = rest_has y x xs there.among; passes = there.passes }

-- ---- binaries

-- an id that isn't among those of binaries is that of none of them
id_of_none : (id : List ℕ) (binary : Binary) (binaries : List Binary) → is_among (ids_of binaries) id ≡ false → Contains binaries binary → id ≡ binary.id → ⊥
id_of_none id binary binaries apart has same =
    both_ways (is_among (ids_of binaries) id) apart
    (list_any-from_Contains nat_list_eq_equiv id (ids_of binaries)
    (subst (λ (i : List ℕ). Contains (ids_of binaries) i) (sym same) (map_has (λ (b : Binary). b.id) binaries binary has)))

-- where no id stands twice, binaries of one id are one
pub same_binary : (binaries : List Binary) (one other : Binary) → has_repeat (ids_of binaries) ≡ false → Contains binaries one → Contains binaries other → one.id ≡ other.id → one ≡ other
same_binary [] one other apart has also ids = absurd (none_has one has)
same_binary (binary ∷ binaries) one other apart has also ids =
    let parts = or_parts (is_among (ids_of binaries) binary.id) (has_repeat (ids_of binaries)) apart in
    by_cases (has_cases binary one binaries has) (has_cases binary other binaries also) parts.0
    (λ more more_other. same_binary binaries one other parts.1 more more_other ids)
  where
    by_cases : (binary ≡ one) ⊎ Contains binaries one → (binary ≡ other) ⊎ Contains binaries other → is_among (ids_of binaries) binary.id ≡ false
        → (Contains binaries one → Contains binaries other → one ≡ other) → one ≡ other
    by_cases (inl is) (inl is_other) new behind = sym is ∙ is_other
    by_cases (inl is) (inr more) new behind = absurd (id_of_none binary.id other binaries new more (ap (λ (b : Binary). b.id) is ∙ ids))
    by_cases (inr more) (inl is) new behind = absurd (id_of_none binary.id one binaries new more (ap (λ (b : Binary). b.id) is ∙ sym ids))
    by_cases (inr more) (inr more_other) new behind = behind more more_other
