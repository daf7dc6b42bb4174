-- The worked rows.
use Rattle.std.proofs.Common.{◌≡◌, Bool, true, false, not, ◌||◌, inl, inr, refl}
use Rattle.nextest_filtering_filters.specs.Formula.{Gives, leaf, negated, either, both}
use Rattle.nextest_filtering_filters.specs.Questions.{at_next, outcomes}
use Rattle.nextest_filtering_filters.specs.declared.questions.Next.TheVariants as to
use Rattle.nextest_filtering_filters.specs.Values.{may_by, nowhere, both_values, either_values, negated_values}
use Rattle.nextest_filtering_filters.specs.Waiting.{AreOf}
use Rattle.nextest_filtering_filters.specs.WorkedRows.{WorkedRows, answer_of, everywhere, not_a_or_b, values_of_leaf, unknown}
use Rattle.nextest_filtering_filters.proofs.Giving.{is_value, may_exactly, leaf_values, values_both, values_either, values_negated}

-- by what leaf 0 is
asked_first : (a b : Bool) → at_next (outcomes (answer_of a b) not_a_or_b) (to.Question 1) ≡ (not a || b)
asked_first true b = by_second b
  where
    by_second : (b : Bool) → at_next (outcomes (answer_of true b) not_a_or_b) (to.Question 1) ≡ b
    by_second true = refl
    by_second false = refl
asked_first false b = refl

test_a : AreOf (may_by values_of_leaf) (leaf 0) unknown
test_a = leaf_values (may_by values_of_leaf) 0 unknown (may_exactly values_of_leaf 0) (inl refl)

all : AreOf (may_by values_of_leaf) (leaf 1) everywhere
all = leaf_values (may_by values_of_leaf) 1 everywhere (may_exactly values_of_leaf 1) (inl refl)

none : AreOf (may_by values_of_leaf) (leaf 2) nowhere
none = leaf_values (may_by values_of_leaf) 2 nowhere (may_exactly values_of_leaf 2) (inr refl)

pub worked_rows : WorkedRows
worked_rows =
    let may = may_by values_of_leaf in
    let or_all = values_either may (leaf 0) (leaf 1) unknown everywhere test_a all in
    let and_none = values_both may (leaf 0) (leaf 2) unknown nowhere test_a none in
    let both_a = values_both may (leaf 0) (leaf 0) unknown unknown test_a test_a in
    let not_both = values_negated may (both (leaf 0) (leaf 0)) (both_values unknown unknown) both_a in
    let or_not = values_either may (leaf 0) (negated (leaf 0)) unknown (negated_values unknown) test_a (values_negated may (leaf 0) unknown test_a) in
    record {
      or_all = is_value (Gives may (either (leaf 0) (leaf 1))) (either_values unknown everywhere) or_all.0 or_all.1;
      and_none = is_value (Gives may (both (leaf 0) (leaf 2))) (both_values unknown nowhere) and_none.0 and_none.1;
      alone = is_value (Gives may (leaf 0)) unknown test_a.0 test_a.1;
      not_both = is_value (Gives may (negated (both (leaf 0) (leaf 0)))) (negated_values (both_values unknown unknown)) not_both.0 not_both.1;
      asked = asked_first;
      or_not = is_value (Gives may (either (leaf 0) (negated (leaf 0)))) (either_values unknown (negated_values unknown)) or_not.0 or_not.1;
    }
