-- What is still to be done for the formula of a tree.
use Rattle.std.specs.Prelude.{ℕ, ◌+◌, List, [], ◌∷◌, length, Option, None, Some}
use Rattle.nextest_filtering_filters.specs.Formula.{Formula, negated, either, both}
use Rattle.nextest_filtering_syntax.specs.declared.tree.ParsedExpr.{ParsedExpr}
use Rattle.nextest_filtering_syntax.specs.declared.tree.ParsedExpr.TheVariants as tree
use Rattle.nextest_filtering_compiling.specs.Leaves.{leaves_of, formula_of_tree}
use Rattle.nextest_filtering_compiling.specs.declared.shape.Task.{Task}
use Rattle.nextest_filtering_compiling.specs.declared.shape.Task.TheVariants as task

-- the formulas that wait once these tasks are done, the last one first, and the place of the
-- predicate that would be added next; none where a task finds too few of them
abbrev pub done : List Task → List (Formula ℕ) → ℕ → Option (List (Formula ℕ) × ℕ)
done [] waiting next = Some (waiting, next)
done (task.Add t ∷ more) waiting next = done more (formula_of_tree next t.now ∷ waiting) (next + length (leaves_of t.now))
done (task.Negate ∷ more) [] next = None
done (task.Negate ∷ more) (inside ∷ waiting) next = done more (negated inside ∷ waiting) next
done (task.Either ∷ more) [] next = None
done (task.Either ∷ more) (right ∷ []) next = None
done (task.Either ∷ more) (right ∷ left ∷ waiting) next = done more (either left right ∷ waiting) next
done (task.Both ∷ more) [] next = None
done (task.Both ∷ more) (right ∷ []) next = None
done (task.Both ∷ more) (right ∷ left ∷ waiting) next = done more (both left right ∷ waiting) next

-- how many tasks a tree comes to, itself among them
abbrev pub work_of : ParsedExpr → ℕ
work_of (tree.Not' op p t) = work_of t + 2
work_of (tree.Union' op p a q b) = work_of a + work_of b + 2
work_of (tree.Intersection' op p a q b) = work_of a + work_of b + 2
work_of (tree.Difference' op p a q b) = work_of a + work_of b + 3
work_of (tree.Parens' p t) = work_of t + 1
work_of (tree.Set it) = 1

-- how many a task comes to, itself among them
abbrev pub work_in : Task → ℕ
work_in (task.Add t) = work_of t.now
work_in other = 1
