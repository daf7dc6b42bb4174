-- Formulas that wait behind steps, and one step more.
use Rattle.std.proofs.Common.{◌≡◌, ◌≤◌, ℕ, List, [], ◌∷◌, ◌++◌, length, arith, Option, None, Some, refl, sym, ap, ◌∙◌}
use Rattle.std.specs.Prelude.{unwrap_or}
use Rattle.nextest_filtering_filters.specs.Formula.{Formula, both, either, negated}
use Rattle.nextest_filtering_filters.specs.Steps.{after, after_step, and_then, waiting_of}
use Rattle.nextest_filtering_filters.specs.declared.step.FormulaStep.{FormulaStep}
use Rattle.nextest_filtering_filters.specs.declared.step.FormulaStep.TheVariants as step

-- steps, and others behind them
pub after_more : (steps more : List FormulaStep) (waiting : List (Formula ℕ)) → after (steps ++ more) waiting ≡ and_then (after more) (after steps waiting)
after_more [] more waiting = refl
after_more (first ∷ steps) more waiting = by_made (λ next. after_more steps more next) (after_step first waiting)
  where
    by_made : ((next : List (Formula ℕ)) → after (steps ++ more) next ≡ and_then (after more) (after steps next)) → (made : Option (List (Formula ℕ)))
        → and_then (after (steps ++ more)) made ≡ and_then (after more) (and_then (after steps) made)
    by_made behind None = refl
    by_made behind (Some next) = behind next

-- one step more
one_more : (steps : List FormulaStep) (it : FormulaStep) (waiting : List (Formula ℕ)) (next : List (Formula ℕ)) → after steps [] ≡ Some waiting → after_step it waiting ≡ Some next
    → after (steps ++ it ∷ []) [] ≡ Some next
one_more steps it waiting next made step_made =
    after_more steps (it ∷ []) [] ∙ ap (and_then (after (it ∷ []))) made ∙ ap (and_then (after [])) step_made

waiting_is : (steps : List FormulaStep) (waiting : List (Formula ℕ)) → after steps [] ≡ Some waiting → waiting_of steps ≡ waiting
waiting_is steps waiting made = ap (λ (o : Option (List (Formula ℕ))). unwrap_or o []) made

-- what waits behind a step more, where it is known what it makes of what waited
pub made_more : (steps new : List FormulaStep) (it : FormulaStep) (waiting next : List (Formula ℕ)) → new ≡ steps ++ it ∷ [] → after steps [] ≡ Some (waiting_of steps) → waiting_of steps ≡ waiting → after_step it waiting ≡ Some next
    → (after new [] ≡ Some (waiting_of new)) × (waiting_of new ≡ next)
made_more steps new it waiting next is made same step_made =
    let all : after new [] ≡ Some next = ap (λ (l : List FormulaStep). after l []) is ∙ one_more steps it waiting next (made ∙ ap Some same) step_made in
    (all ∙ ap Some (sym (waiting_is new next all)), waiting_is new next all)

-- a negation has something to negate
pub negation_waits : (steps new : List FormulaStep) (waiting : List (Formula ℕ)) → new ≡ steps ++ step.Not ∷ [] → after steps [] ≡ Some (waiting_of steps) → waiting_of steps ≡ waiting → 1 ≤ length waiting
    → after new [] ≡ Some (waiting_of new)
negation_waits steps new [] is made same some = absurd (omega (arith, some))
negation_waits steps new (inside ∷ more) is made same some = (made_more steps new step.Not (inside ∷ more) (negated inside ∷ more) is made same refl).0

-- what joins has two to join
pub either_waits : (steps new : List FormulaStep) (waiting : List (Formula ℕ)) → new ≡ steps ++ step.Either ∷ [] → after steps [] ≡ Some (waiting_of steps) → waiting_of steps ≡ waiting → 2 ≤ length waiting
    → after new [] ≡ Some (waiting_of new)
either_waits steps new [] is made same two = absurd (omega (arith, two))
either_waits steps new (right ∷ []) is made same two = absurd (omega (arith, two))
either_waits steps new (right ∷ left ∷ more) is made same two = (made_more steps new step.Either (right ∷ left ∷ more) (either left right ∷ more) is made same refl).0

pub both_waits : (steps new : List FormulaStep) (waiting : List (Formula ℕ)) → new ≡ steps ++ step.Both ∷ [] → after steps [] ≡ Some (waiting_of steps) → waiting_of steps ≡ waiting → 2 ≤ length waiting
    → after new [] ≡ Some (waiting_of new)
both_waits steps new [] is made same two = absurd (omega (arith, two))
both_waits steps new (right ∷ []) is made same two = absurd (omega (arith, two))
both_waits steps new (right ∷ left ∷ more) is made same two = (made_more steps new step.Both (right ∷ left ∷ more) (both left right ∷ more) is made same refl).0
