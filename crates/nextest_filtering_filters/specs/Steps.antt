-- Formulas in postfix order.
use Rattle.std.specs.Prelude.{◌≡◌, ℕ, List, [], ◌∷◌, Option, None, Some, unwrap_or}
use Rattle.nextest_filtering_filters.specs.Formula.{Formula, leaf, negated, either, both}
use Rattle.nextest_filtering_filters.specs.declared.step.FormulaStep.{FormulaStep}
use Rattle.nextest_filtering_filters.specs.declared.step.FormulaStep.TheVariants as step

-- what a step makes of the formulas that wait, the last one first; none where there are too few of
-- them
abbrev pub after_step : FormulaStep → List (Formula ℕ) → Option (List (Formula ℕ))
after_step (step.Leaf number) waiting = Some (leaf number ∷ waiting)
after_step step.Not [] = None
after_step step.Not (inside ∷ waiting) = Some (negated inside ∷ waiting)
after_step step.Either [] = None
after_step step.Either (right ∷ []) = None
after_step step.Either (right ∷ left ∷ waiting) = Some (either left right ∷ waiting)
after_step step.Both [] = None
after_step step.Both (right ∷ []) = None
after_step step.Both (right ∷ left ∷ waiting) = Some (both left right ∷ waiting)

-- with what waits, where it does
abbrev pub and_then : (List (Formula ℕ) → Option (List (Formula ℕ))) → Option (List (Formula ℕ)) → Option (List (Formula ℕ))
and_then next None = None
and_then next (Some waiting) = next waiting

-- what steps make of them
abbrev pub after : List FormulaStep → List (Formula ℕ) → Option (List (Formula ℕ))
after [] waiting = Some waiting
after (first ∷ more) waiting = and_then (after more) (after_step first waiting)

-- the formula that waits last, where there is one
abbrev pub last_of : Option (List (Formula ℕ)) → Formula ℕ
last_of None = leaf 0
last_of (Some []) = leaf 0
last_of (Some (last ∷ waiting)) = last

-- the formula that steps make
abbrev pub formula_of : List FormulaStep → Formula ℕ
formula_of steps = last_of (after steps [])

-- they make it, and nothing else waits
abbrev pub IsOf : List FormulaStep → Formula ℕ → Type 0
IsOf steps formula = after steps [] ≡ Some (formula ∷ [])

-- the formulas that wait behind steps
abbrev pub waiting_of : List FormulaStep → List (Formula ℕ)
waiting_of steps = unwrap_or (after steps []) []
