-- Which values formulas take.
use Rattle.std.proofs.Common.{◌≡◌, ◌↔◌, ◌⊎◌, ℕ, Bool, true, false, not, ◌&&◌, ◌||◌, Some, refl, sym, ap, ◌∙◌, subst, inl, inr}
use Rattle.std.specs.Prelude.{IsTrue}
use Rattle.nextest_filtering_filters.specs.Formula.{AreValues, Formula, Gives, IsValue, both, both_gives, either, either_gives, leaf, leaf_gives, negated, negated_gives, with_leaves}
use Rattle.nextest_filtering_filters.specs.FormulaLaws.{Stays}
use Rattle.nextest_filtering_filters.specs.Values.{IsSome, may_by, both_values, either_values, negated_values, one_value}
use Rattle.nextest_filtering_filters.specs.Waiting.{AreOf}
use Rattle.nextest_filtering_filters.specs.declared.values.Values.{Values}

-- ---- what a formula gives, its parts give

pub of_leaf : {L : Type 0} (May : L → Bool → Type 0) (number : L) (value : Bool) → Gives May (leaf number) value → May number value
of_leaf May _ _ (leaf_gives number value may) = may

pub of_negated : {L : Type 0} (May : L → Bool → Type 0) (inside : Formula L) (value : Bool) → Gives May (negated inside) value → Gives May inside (not value)
of_negated May _ _ (negated_gives inside true gives) = gives
of_negated May _ _ (negated_gives inside false gives) = gives

pub of_either : {L : Type 0} (May : L → Bool → Type 0) (left right : Formula L) (value : Bool) → Gives May (either left right) value
    → (a b : Bool) × Gives May left a × Gives May right b × (value ≡ (a || b))
of_either May _ _ _ (either_gives left right a b one other) = (a, b, one, other, refl)

pub of_both : {L : Type 0} (May : L → Bool → Type 0) (left right : Formula L) (value : Bool) → Gives May (both left right) value
    → (a b : Bool) × Gives May left a × Gives May right b × (value ≡ (a && b))
of_both May _ _ _ (both_gives left right a b one other) = (a, b, one, other, refl)

not_not : (b : Bool) → not (not b) ≡ b
not_not true = refl
not_not false = refl

-- ---- values

pub leaf_values : (May : ℕ → Bool → Type 0) (number : ℕ) (values : Values) → AreValues (May number) values → IsSome values → AreOf May (leaf number) values
leaf_values May number values exact some = (
  (
    ((λ so. leaf_gives number true (exact.0.0 so)), (λ gives. exact.0.1 (of_leaf May number true gives))),
    ((λ so. leaf_gives number false (exact.1.0 so)), (λ gives. exact.1.1 (of_leaf May number false gives))),
  ),
  some,
)

pub values_negated : (May : ℕ → Bool → Type 0) (inside : Formula ℕ) (values : Values) → AreOf May inside values → AreOf May (negated inside) (negated_values values)
values_negated May inside values (exact, some) = (
  (
    ((λ so. negated_gives inside false (exact.1.0 so)), (λ gives. exact.1.1 (of_negated May inside true gives))),
    ((λ so. negated_gives inside true (exact.0.0 so)), (λ gives. exact.0.1 (of_negated May inside false gives))),
  ),
  turned some,
)
  where
    turned : IsSome values → IsSome (negated_values values)
    turned (inl holds) = inr holds
    turned (inr fails) = inl fails

or_is : (a b : Bool) → IsTrue (a || b) → IsTrue a ⊎ IsTrue b
or_is true b so = inl refl
or_is false b so = inr so

or_from : (a b : Bool) → IsTrue a ⊎ IsTrue b → IsTrue (a || b)
or_from true b some = refl
or_from false b (inl so) = cc
or_from false b (inr so) = so

and_is : (a b : Bool) → IsTrue (a && b) → IsTrue a × IsTrue b
and_is true b so = (refl, so)
and_is false b so = absurd cc

and_from : (a b : Bool) → IsTrue a → IsTrue b → IsTrue (a && b)
and_from true b one other = other
and_from false b one other = cc

-- some value of a formula
some_value : (May : ℕ → Bool → Type 0) (formula : Formula ℕ) (values : Values) → AreOf May formula values → (value : Bool) × Gives May formula value
some_value May formula values (exact, inl so) = (true, exact.0.0 so)
some_value May formula values (exact, inr so) = (false, exact.1.0 so)

or_true : (a : Bool) → (a || true) ≡ true
or_true true = refl
or_true false = refl

and_false : (a : Bool) → (a && false) ≡ false
and_false true = refl
and_false false = refl

pub values_either : (May : ℕ → Bool → Type 0) (left right : Formula ℕ) (l r : Values) → AreOf May left l → AreOf May right r → AreOf May (either left right) (either_values l r)
values_either May left right l r of_left of_right = ((((λ so. holds (or_is l.may_hold r.may_hold so)), held), (fails, failed)), some of_left.1 of_right.1)
  where
    holds : IsTrue l.may_hold ⊎ IsTrue r.may_hold → Gives May (either left right) true
    holds (inl so) =
        let other = some_value May right r of_right in
        either_gives left right true other.0 (of_left.0.0.0 so) other.1
    holds (inr so) =
        let other = some_value May left l of_left in
        subst (Gives May (either left right)) (or_true other.0) (either_gives left right other.0 true other.1 (of_right.0.0.0 so))

    held_by : (a b : Bool) → Gives May left a → Gives May right b → true ≡ (a || b) → IsTrue (l.may_hold || r.may_hold)
    held_by true b one other is = or_from l.may_hold r.may_hold (inl (of_left.0.0.1 one))
    held_by false true one other is = or_from l.may_hold r.may_hold (inr (of_right.0.0.1 other))
    held_by false false one other is = cc

    held : Gives May (either left right) true → IsTrue (l.may_hold || r.may_hold)
    held gives = let parts = of_either May left right true gives in held_by parts.0 parts.1 parts.2 parts.3 parts.4

    fails : IsTrue (l.may_fail && r.may_fail) → Gives May (either left right) false
    fails so = let two = and_is l.may_fail r.may_fail so in either_gives left right false false (of_left.0.1.0 two.0) (of_right.0.1.0 two.1)

    failed_by : (a b : Bool) → Gives May left a → Gives May right b → false ≡ (a || b) → IsTrue (l.may_fail && r.may_fail)
    failed_by false false one other is = and_from l.may_fail r.may_fail (of_left.0.1.1 one) (of_right.0.1.1 other)
    failed_by true b one other is = cc
    failed_by false true one other is = cc

    failed : Gives May (either left right) false → IsTrue (l.may_fail && r.may_fail)
    failed gives = let parts = of_either May left right false gives in failed_by parts.0 parts.1 parts.2 parts.3 parts.4

    some : IsSome l → IsSome r → IsSome (either_values l r)
    some (inl so) other = inl (or_from l.may_hold r.may_hold (inl so))
    some (inr no_left) (inl so) = inl (or_from l.may_hold r.may_hold (inr so))
    some (inr no_left) (inr no_right) = inr (and_from l.may_fail r.may_fail no_left no_right)

pub values_both : (May : ℕ → Bool → Type 0) (left right : Formula ℕ) (l r : Values) → AreOf May left l → AreOf May right r → AreOf May (both left right) (both_values l r)
values_both May left right l r of_left of_right = (((holds, held), ((λ so. fails (or_is l.may_fail r.may_fail so)), failed)), some of_left.1 of_right.1)
  where
    holds : IsTrue (l.may_hold && r.may_hold) → Gives May (both left right) true
    holds so = let two = and_is l.may_hold r.may_hold so in both_gives left right true true (of_left.0.0.0 two.0) (of_right.0.0.0 two.1)

    held_by : (a b : Bool) → Gives May left a → Gives May right b → true ≡ (a && b) → IsTrue (l.may_hold && r.may_hold)
    held_by true true one other is = and_from l.may_hold r.may_hold (of_left.0.0.1 one) (of_right.0.0.1 other)
    held_by true false one other is = cc
    held_by false b one other is = cc

    held : Gives May (both left right) true → IsTrue (l.may_hold && r.may_hold)
    held gives = let parts = of_both May left right true gives in held_by parts.0 parts.1 parts.2 parts.3 parts.4

    fails : IsTrue l.may_fail ⊎ IsTrue r.may_fail → Gives May (both left right) false
    fails (inl so) =
        let other = some_value May right r of_right in
        both_gives left right false other.0 (of_left.0.1.0 so) other.1
    fails (inr so) =
        let other = some_value May left l of_left in
        subst (Gives May (both left right)) (and_false other.0) (both_gives left right other.0 false other.1 (of_right.0.1.0 so))

    failed_by : (a b : Bool) → Gives May left a → Gives May right b → false ≡ (a && b) → IsTrue (l.may_fail || r.may_fail)
    failed_by false b one other is = or_from l.may_fail r.may_fail (inl (of_left.0.1.1 one))
    failed_by true false one other is = or_from l.may_fail r.may_fail (inr (of_right.0.1.1 other))
    failed_by true true one other is = cc

    failed : Gives May (both left right) false → IsTrue (l.may_fail || r.may_fail)
    failed gives = let parts = of_both May left right false gives in failed_by parts.0 parts.1 parts.2 parts.3 parts.4

    some : IsSome l → IsSome r → IsSome (both_values l r)
    some (inr so) other = inr (or_from l.may_fail r.may_fail (inl so))
    some (inl one) (inr so) = inr (or_from l.may_fail r.may_fail (inr so))
    some (inl one) (inl other) = inl (and_from l.may_hold r.may_hold one other)

-- what a leaf may be by its values
pub may_exactly : (values : ℕ → Values) (number : ℕ) → AreValues (may_by values number) (values number)
may_exactly values number = (((λ so. so), (λ so. so)), ((λ so. so), (λ so. so)))

-- ---- the one value

pub is_value : (Can : Bool → Type 0) (values : Values) → AreValues Can values → IsSome values → IsValue Can (one_value values)
is_value Can values exact some = by_values values.may_hold values.may_fail exact.0 exact.1 some
  where
    by_values : (holds fails : Bool) → IsTrue holds ↔ Can true → IsTrue fails ↔ Can false → IsTrue holds ⊎ IsTrue fails
        → IsValue Can (one_value (record { may_hold = holds; may_fail = fails }))
    by_values true true can_hold can_fail some = (can_hold.0 refl, can_fail.0 refl)
    by_values true false can_hold can_fail some = (can_hold.0 refl, (λ can. let no_way = can_fail.1 can in cc))
    by_values false true can_hold can_fail some = (can_fail.0 refl, (λ can. let no_way = can_hold.1 can in cc))
    by_values false false can_hold can_fail (inl so) = cc
    by_values false false can_hold can_fail (inr so) = cc

-- ---- where less may be

pub gives_less : {L : Type 0} (May Less : L → Bool → Type 0) → ((it : L) (value : Bool) → Less it value → May it value) → (formula : Formula L) (value : Bool) → Gives Less formula value
    → Gives May formula value
gives_less May Less less _ _ (leaf_gives it value may) = leaf_gives it value (less it value may)
gives_less May Less less _ _ (negated_gives inside value gives) = negated_gives inside value (gives_less May Less less inside value gives)
gives_less May Less less _ _ (either_gives left right a b one other) = either_gives left right a b (gives_less May Less less left a one) (gives_less May Less less right b other)
gives_less May Less less _ _ (both_gives left right a b one other) = both_gives left right a b (gives_less May Less less left a one) (gives_less May Less less right b other)

-- ---- with another leaf for each

pub gives_with : {L M : Type 0} (change : L → M) (May : M → Bool → Type 0) (formula : Formula L) (value : Bool) → Gives (λ it. May (change it)) formula value → Gives May (with_leaves change formula) value
gives_with change May _ _ (leaf_gives it value may) = leaf_gives (change it) value may
gives_with change May _ _ (negated_gives inside value gives) = negated_gives (with_leaves change inside) value (gives_with change May inside value gives)
gives_with change May _ _ (either_gives left right a b one other) =
    either_gives (with_leaves change left) (with_leaves change right) a b (gives_with change May left a one) (gives_with change May right b other)
gives_with change May _ _ (both_gives left right a b one other) =
    both_gives (with_leaves change left) (with_leaves change right) a b (gives_with change May left a one) (gives_with change May right b other)

pub with_gives : {L M : Type 0} (change : L → M) (May : M → Bool → Type 0) (formula : Formula L) (value : Bool) → Gives May (with_leaves change formula) value → Gives (λ it. May (change it)) formula value
with_gives change May (leaf it) value gives = leaf_gives it value (of_leaf May (change it) value gives)
with_gives change May (negated inside) value gives =
    subst (Gives (λ it. May (change it)) (negated inside)) (not_not value)
    (negated_gives inside (not value) (with_gives change May inside (not value) (of_negated May (with_leaves change inside) value gives)))
with_gives change May (either left right) value gives =
    let parts = of_either May (with_leaves change left) (with_leaves change right) value gives in
    subst (Gives (λ it. May (change it)) (either left right)) (sym parts.4)
    (either_gives left right parts.0 parts.1 (with_gives change May left parts.0 parts.2) (with_gives change May right parts.1 parts.3))
with_gives change May (both left right) value gives =
    let parts = of_both May (with_leaves change left) (with_leaves change right) value gives in
    subst (Gives (λ it. May (change it)) (both left right)) (sym parts.4)
    (both_gives left right parts.0 parts.1 (with_gives change May left parts.0 parts.2) (with_gives change May right parts.1 parts.3))

-- ---- where each leaf is one value

pub gives_one : {L : Type 0} (May : L → Bool → Type 0) → ((it : L) (a b : Bool) → May it a → May it b → a ≡ b) → (formula : Formula L) (a b : Bool) → Gives May formula a → Gives May formula b → a ≡ b
gives_one May one (leaf it) a b first second = one it a b (of_leaf May it a first) (of_leaf May it b second)
gives_one May one (negated inside) a b first second =
    sym (not_not a) ∙ ap not (gives_one May one inside (not a) (not b) (of_negated May inside a first) (of_negated May inside b second)) ∙ not_not b
gives_one May one (either left right) a b first second =
    let x = of_either May left right a first in
    let y = of_either May left right b second in
    x.4 ∙ ap (λ (l : Bool). l || x.1) (gives_one May one left x.0 y.0 x.2 y.2) ∙ ap (λ (r : Bool). y.0 || r) (gives_one May one right x.1 y.1 x.3 y.3) ∙ sym y.4
gives_one May one (both left right) a b first second =
    let x = of_both May left right a first in
    let y = of_both May left right b second in
    x.4 ∙ ap (λ (l : Bool). l && x.1) (gives_one May one left x.0 y.0 x.2 y.2) ∙ ap (λ (r : Bool). y.0 && r) (gives_one May one right x.1 y.1 x.3 y.3) ∙ sym y.4

pub stays : Stays
stays values less within formula one value is gives = by_values one value is (gives_less (may_by values) (may_by less) within formula value gives)
  where
    by_values : (one value : Bool) → IsValue (Gives (may_by values) formula) (Some one) → Gives (may_by values) formula value → value ≡ one
    by_values true true is gives = refl
    by_values false false is gives = refl
    by_values true false is gives = absurd (is.1 gives)
    by_values false true is gives = absurd (is.1 gives)
