-- What is kept of the groups of tests whose names differ.
use Rattle.std.proofs.Common.{◌≡◌, ◌<◌, ℕ, Bool, true, false, ◌&&◌, List, length, get_or, refl, sym, ap, ◌∙◌, subst, ◌⊎◌, inl, inr, arith}
use Rattle.std.specs.Prelude.{All, Contains, codes}
use Rattle.std.proofs.lemmas.Bool.{cases_lt, false≢true}
use Rattle.std.proofs.lemmas.List.{get_or_default}
use Rattle.std.proofs.lemmas.List.Elements.{All-contains}
use Rattle.std.proofs.lemmas.Map.Keys.{apart_from_distinct}
use Rattle.std.specs.Cmp.Lexicographic.{nat_list_eq_equiv}
use Rattle.std.specs.List.{IsDistinct}
use Rattle.std.specs.Str.{bytes_eq}
use Rattle.nextest_config_elements_identifiers.specs.Groups.{text_of}
use Rattle.nextest_config_elements_identifiers.specs.declared.test_group.TestGroup.{TestGroup}
use Rattle.nextest_config_resolution_profiles.specs.Evaluatable.{Evaluatable}
use Rattle.nextest_config_resolution_profiles.specs.Held.{Holds, IsGroupBy, group_set}
use Rattle.nextest_config_resolution_profiles.specs.Memberships.{IsOfHanded, KeepsGroups, PrecomputedMembers, group_name, have_one_name}
use Rattle.nextest_config_resolution_profiles.specs.Platforms.{OverrideOn}
use Rattle.nextest_config_resolution_profiles.specs.declared.memberships.PrecomputedGroupMembership.{PrecomputedGroupMembership}
use Rattle.nextest_config_resolution_profiles.proofs.Holding.{no_least}
use Rattle.nextest_config_resolution_settings.proofs.Least.{one_least}
use Rattle.nextest_filtering_filters.specs.Query.{Test}

-- ---- names

has_own_name : (test : Test) → have_one_name test test ≡ true
has_own_name test = ap (λ (b : Bool). b && bytes_eq test.name test.name) (nat_list_eq_equiv.refl test.binary.id) ∙ nat_list_eq_equiv.refl test.name

either_way : (one other : Test) → have_one_name one other ≡ have_one_name other one
either_way one other =
    ap (λ (b : Bool). b && bytes_eq one.name other.name) (nat_list_eq_equiv.symm one.binary.id other.binary.id)
    ∙ ap (λ (b : Bool). bytes_eq other.binary.id one.binary.id && b) (nat_list_eq_equiv.symm one.name other.name)

-- of tests whose names differ, two of one name are one
one_of_name : (tests : List Test) (one other : Test) → IsDistinct have_one_name tests → Contains tests one → Contains tests other → have_one_name one other ≡ true → one ≡ other
one_of_name tests one other distinct (i, within, is) (j, inside, also) same = elim (cases_lt i j) [
  | inl before ↦ absurd (false≢true (sym (apart i j other distinct before inside (first i within is) also) ∙ same))
  | inr from ↦ elim (cases_lt j i) [
    | inl behind ↦ absurd (false≢true (sym (apart j i one distinct behind within (first j inside also) is) ∙ sym (either_way one other) ∙ same))
    | inr upto ↦
        let here : i ≡ j = omega (arith, from, upto) in
        sym is ∙ ap (λ (k : ℕ). get_or tests k one) here ∙ first j inside also one
  ]
]
  where
    first : (k : ℕ) → k < length tests → {x : Test} → get_or tests k x ≡ x → (d : Test) → get_or tests k d ≡ x
    first k within {x} is d = get_or_default tests k d x within ∙ is

    apart : (k m : ℕ) (y : Test) → IsDistinct have_one_name tests → k < m → m < length tests → {x : Test} → ((d : Test) → get_or tests k d ≡ x) → get_or tests m y ≡ y → have_one_name x y ≡ false
    apart k m y distinct below within {x} at is =
        ap (λ (t : Test). have_one_name t y) (sym (at y)) ∙ ap (have_one_name (get_or tests k y)) (sym is) ∙ apart_from_distinct have_one_name tests k m y distinct below within

-- ---- groups

-- the rules that hold give one group
one_group : {F S : Type 0} (Holding : OverrideOn F S → Type 0) (rules : List (OverrideOn F S)) (one other : TestGroup) → IsGroupBy Holding rules one → IsGroupBy Holding rules other → one ≡ other
one_group Holding rules one other (inl first) (inl second) = (one_least Holding group_set rules first.0 second.0 one other first.1 second.1).1
one_group Holding rules one other (inl first) (inr second) = absurd (no_least Holding group_set rules first.0 one second.0 first.1)
one_group Holding rules one other (inr first) (inl second) = absurd (no_least Holding group_set rules second.0 other first.0 second.1)
one_group Holding rules one other (inr first) (inr second) = first.1 ∙ sym second.1

pub precomputed_members : {F : Type 0} (OnTest : F → F → Test → Bool → Type 0) (S : Type 0) → PrecomputedMembers OnTest S
precomputed_members {F} OnTest S profile tests it distinct kept = record { handed = handed; others = others }
  where
    of_named : (test : Test) (group : TestGroup) → Contains tests test → IsGroupBy (Holds OnTest profile.default_filter.filter.now test) profile.rules group
        → IsOfHanded OnTest profile tests test (group_name it test) → group_name it test ≡ text_of group
    of_named test group among is of =
        let same : of.handed ≡ test = one_of_name tests of.handed test distinct of.among among of.one in
        let also = subst (λ (t : Test). IsGroupBy (Holds OnTest profile.default_filter.filter.now t) profile.rules of.group) same of.is in
        of.named ∙ ap text_of (one_group (Holds OnTest profile.default_filter.filter.now test) profile.rules of.group group also is)

    by_case : (test : Test) (group : TestGroup) → Contains tests test → IsGroupBy (Holds OnTest profile.default_filter.filter.now test) profile.rules group
        → IsOfHanded OnTest profile tests test (group_name it test) ⊎ (All (λ handed. have_one_name handed test ≡ false) tests × (group_name it test ≡ codes "@global")) → group_name it test ≡ text_of group
    by_case test group among is (inl of) = of_named test group among is of
    by_case test group among is (inr none) = absurd (false≢true (sym (All-contains (λ handed. have_one_name handed test ≡ false) tests test none.0 among) ∙ has_own_name test))

    handed : (test : Test) (group : TestGroup) → Contains tests test → IsGroupBy (Holds OnTest profile.default_filter.filter.now test) profile.rules group → group_name it test ≡ text_of group
    handed test group among is = by_case test group among is (kept test)

    global : (test : Test) → All (λ handed. have_one_name handed test ≡ false) tests
        → IsOfHanded OnTest profile tests test (group_name it test) ⊎ (All (λ handed. have_one_name handed test ≡ false) tests × (group_name it test ≡ codes "@global")) → group_name it test ≡ codes "@global"
    global test none (inl of) = absurd (false≢true (sym (All-contains (λ handed. have_one_name handed test ≡ false) tests of.handed none of.among) ∙ of.one))
    global test none (inr also) = also.1

    others : (test : Test) → All (λ handed. have_one_name handed test ≡ false) tests → group_name it test ≡ codes "@global"
    others test none = global test none (kept test)
