-- Filters whose values were found by hand.
use Rattle.std.specs.Prelude.{◌≡◌, ℕ, zero, suc, Bool, true, false, not, ◌||◌, List, [], ◌∷◌, None, Some}
use Rattle.nextest_filtering_filters.specs.Formula.{Gives, IsValue, leaf, negated, either, both}
use Rattle.nextest_filtering_filters.specs.Questions.{at_next, outcomes}
use Rattle.nextest_filtering_filters.specs.Values.{may_by, nowhere}
use Rattle.nextest_filtering_filters.specs.declared.questions.Next.TheVariants as to
use Rattle.nextest_filtering_filters.specs.declared.questions.Question.{Question}
use Rattle.nextest_filtering_filters.specs.declared.values.Values.{Values}

-- a test's name that isn't known yet, and what holds everywhere
abbrev pub unknown : Values
unknown = record { may_hold = true; may_fail = true }

abbrev pub everywhere : Values
everywhere = record { may_hold = true; may_fail = false }

-- leaf 0 is `test(a)`, leaf 1 `all()`, leaf 2 `none()`
abbrev pub values_of_leaf : ℕ → Values
values_of_leaf zero = unknown
values_of_leaf (suc zero) = everywhere
values_of_leaf (suc (suc number)) = nowhere

-- the answers to two questions
abbrev pub answer_of : Bool → Bool → ℕ → Bool
answer_of a b zero = a
answer_of a b (suc number) = b

-- `not a or b`: leaf 0, which is a, is asked first, and leaf 1 only where that is so
abbrev pub not_a_or_b : List Question
not_a_or_b =
    record { leaf = 1; exits = record { if_true = to.Value true; if_false = to.Value false } }
    ∷ record { leaf = 0; exits = record { if_true = to.Question 0; if_false = to.Value true } } ∷ []

-- `test(a) or all()` is true, `test(a) and none()` false; of `test(a)`, `not (test(a) and test(a))`
-- and `test(a) or not test(a)` nothing is known, since each place of a leaf is apart
pub record WorkedRows : Type 0 where
  pub or_all : IsValue (Gives (may_by values_of_leaf) (either (leaf 0) (leaf 1))) (Some true)
  pub and_none : IsValue (Gives (may_by values_of_leaf) (both (leaf 0) (leaf 2))) (Some false)
  pub alone : IsValue (Gives (may_by values_of_leaf) (leaf 0)) None
  pub not_both : IsValue (Gives (may_by values_of_leaf) (negated (both (leaf 0) (leaf 0)))) None
  pub asked : (a b : Bool) → at_next (outcomes (answer_of a b) not_a_or_b) (to.Question 1) ≡ (not a || b)
  pub or_not : IsValue (Gives (may_by values_of_leaf) (either (leaf 0) (negated (leaf 0)))) None
