-- Trees and tasks that wait, the last one next.
use Rattle.std.proofs.Common.{◌≡◌, ℕ, ◌+◌, ◌≤◌, List, [], ◌∷◌, ◌++◌, Option, None, Some, length, reverse, ap, sym, ◌∙◌, arith}
use Rattle.std.proofs.lemmas.List.{reverse-append}
use Rattle.std.specs.List.{flat_map}
use Rattle.nextest_filtering_ast.specs.declared.leaf.ParsedLeaf.{ParsedLeaf}
use Rattle.nextest_filtering_filters.specs.Formula.{Formula, negated, either, both}
use Rattle.nextest_filtering_syntax.specs.declared.tree.ParsedExpr.{ParsedExpr}
use Rattle.nextest_filtering_compiling.specs.Leaves.{leaves_of, formula_of_tree}
use Rattle.nextest_filtering_compiling.specs.Tasks.{done}
use Rattle.nextest_filtering_compiling.specs.declared.shape.Task.{Task}
use Rattle.nextest_filtering_compiling.specs.declared.shape.Task.TheVariants as task
use denote.Ref.{Bor}

-- the predicates of trees that wait, those of the last tree first
abbrev pub ahead : List (Bor ParsedExpr) → List ParsedLeaf
ahead waiting = flat_map (λ it. leaves_of it.now) (reverse waiting)

-- the place where tasks end, if they do
abbrev place_of : ℕ → Option (List (Formula ℕ) × ℕ) → ℕ
place_of next None = next
place_of next (Some (waiting, last)) = last

-- tasks never count back
counts_on : (tasks : List Task) (waiting left : List (Formula ℕ)) (next last : ℕ) → done tasks waiting next ≡ Some (left, last) → next ≤ last
counts_on [] waiting left next last is = let same : next ≡ last = ap (place_of next) is in omega (arith, same)
counts_on (task.Add t ∷ more) waiting left next last is =
    omega (arith, counts_on more (formula_of_tree next t.now ∷ waiting) left (next + length (leaves_of t.now)) last is)
counts_on (task.Negate ∷ more) [] left next last is = cc
counts_on (task.Negate ∷ more) (inside ∷ waiting) left next last is = counts_on more (negated inside ∷ waiting) left next last is
counts_on (task.Either ∷ more) [] left next last is = cc
counts_on (task.Either ∷ more) (b ∷ []) left next last is = cc
counts_on (task.Either ∷ more) (b ∷ a ∷ waiting) left next last is = counts_on more (either a b ∷ waiting) left next last is
counts_on (task.Both ∷ more) [] left next last is = cc
counts_on (task.Both ∷ more) (b ∷ []) left next last is = cc
counts_on (task.Both ∷ more) (b ∷ a ∷ waiting) left next last is = counts_on more (both a b ∷ waiting) left next last is

-- so the predicates of a tree that waits can be counted where all can
pub counts_tree : (old now : List Task) (t : Bor ParsedExpr) (waiting left : List (Formula ℕ)) (next last : ℕ) → old ≡ now ++ task.Add t ∷ []
    → done (reverse old) waiting next ≡ Some (left, last) → next + length (leaves_of t.now) ≤ last
counts_tree old now t waiting left next last popped is =
    let first : reverse old ≡ task.Add t ∷ reverse now = ap reverse popped ∙ reverse-append now (task.Add t ∷ []) in
    counts_on (reverse now) (formula_of_tree next t.now ∷ waiting) left (next + length (leaves_of t.now)) last
    (ap (λ (tasks : List Task). done tasks waiting next) (sym first) ∙ is)
