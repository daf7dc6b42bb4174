-- The values of formulas that wait.
use Rattle.std.specs.Prelude.{◌≡◌, ℕ, Bool, List, [], ◌∷◌, ◌++◌, Some}
use Rattle.nextest_filtering_filters.specs.Formula.{Formula, Gives, AreValues}
use Rattle.nextest_filtering_filters.specs.Steps.{after_step}
use Rattle.nextest_filtering_filters.specs.Values.{IsSome}
use Rattle.nextest_filtering_filters.specs.declared.step.FormulaStep.{FormulaStep}
use Rattle.nextest_filtering_filters.specs.declared.step.FormulaStep.TheVariants as step
use Rattle.nextest_filtering_filters.specs.declared.values.Values.{Values}

-- the values that a formula can take, of which there are some
abbrev pub AreOf : (ℕ → Bool → Type 0) → Formula ℕ → Values → Type 0
AreOf May formula values = AreValues (Gives May formula) values × IsSome values

-- the values of formulas, the last one first; theirs stands last
abbrev pub Wait : (ℕ → Bool → Type 0) → List (Formula ℕ) → List Values → Type 0
Wait May [] waiting = waiting ≡ []
Wait May (last ∷ formulas) waiting = (front : List Values) × ((values : Values) × (waiting ≡ front ++ values ∷ []) × AreOf May last values × Wait May formulas front)

-- a step takes such values to those of what it makes of the formulas
abbrev pub Takes : (ℕ → Bool → Type 0) → FormulaStep → List Values → List Values → Type 0
Takes May step old new = (formulas next : List (Formula ℕ)) → after_step step formulas ≡ Some next → Wait May formulas old → Wait May next new

-- so many values a step is over
abbrev pub over : FormulaStep → ℕ
over (step.Leaf number) = 0
over step.Not = 1
over step.Either = 2
over step.Both = 2
