-- The test of a class is what it means.
use Rattle.std.proofs.Common.{◌≡◌, ℕ, ◌==◌, ◌≤◌, Bool, true, false, not, List, [], ◌∷◌, refl, arith}
use Rattle.std.specs.Prelude.{nat_le, ◌&&◌}
use Rattle.std.proofs.lemmas.Bool.{and_parts, or_cases, false≢true, not-true, both_ways, leb-true, le-leb}
use Rattle.std.proofs.lemmas.Bool.Decides.{nat_tests}
use mathlib.Core.Logic.{inl, inr}
use Rattle.nextest_filtering_globs.specs.declared.token.ClassRange.{ClassRange}
use Rattle.nextest_filtering_globs.specs.Meaning.{IsInSome, IsOfClass}
use Rattle.nextest_filtering_globs.specs.Inside.{is_in_some, is_of_class}
use Rattle.nextest_filtering_globs.proofs.Sets.{and_both, or_left, or_right}

pub same_number : (c : ℕ) → (c == c) ≡ true
same_number c = grind (arith, nat_tests)

le_true : (a b : ℕ) → nat_le a b ≡ true → a ≤ b
le_true a b h = leb-true a b h

true_le : (a b : ℕ) → a ≤ b → nat_le a b ≡ true
true_le a b h = le-leb a b h

in_some : (c : ℕ) (ranges : List ClassRange) → is_in_some c ranges ≡ true → IsInSome c ranges
in_some c [] h = false≢true h
in_some c (range ∷ more) h =
    elim (or_cases (nat_le range.first c && nat_le c range.last) (is_in_some c more) h) [
      | inl k ↦ let both = and_parts (nat_le range.first c) (nat_le c range.last) k in
          inl (le_true range.first c both.0, le_true c range.last both.1)
      | inr k ↦ inr (in_some c more k)
    ]

some_in : (c : ℕ) (ranges : List ClassRange) → IsInSome c ranges → is_in_some c ranges ≡ true
some_in c [] h = absurd h
some_in c (range ∷ more) (inl h) =
    or_left (nat_le range.first c && nat_le c range.last) (is_in_some c more)
    (and_both (nat_le range.first c) (nat_le c range.last) (true_le range.first c h.0) (true_le c range.last h.1))
some_in c (range ∷ more) (inr h) =
    or_right (nat_le range.first c && nat_le c range.last) (is_in_some c more) (some_in c more h)

by_test : (c : ℕ) (ranges : List ClassRange) (b : Bool) → is_in_some c ranges ≡ b → (IsInSome c ranges → ⊥)
    → not b ≡ true
by_test c ranges true e none = absurd (none (in_some c ranges e))
by_test c ranges false e none = refl

pub of_class : (negated : Bool) (ranges : List ClassRange) (c : ℕ) → is_of_class negated ranges c ≡ true
    → IsOfClass negated ranges c
of_class false ranges c h = in_some c ranges h
of_class true ranges c h = λ k. both_ways (is_in_some c ranges) (not-true (is_in_some c ranges) h) (some_in c ranges k)

pub class_of : (negated : Bool) (ranges : List ClassRange) (c : ℕ) → IsOfClass negated ranges c
    → is_of_class negated ranges c ≡ true
class_of false ranges c h = some_in c ranges h
class_of true ranges c h = by_test c ranges (is_in_some c ranges) refl h
