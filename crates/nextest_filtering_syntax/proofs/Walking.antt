-- What waits, when one more does.
use Rattle.std.proofs.Common.{◌≡◌, ℕ, ◌+◌, ◌*◌, Option, Some, None, List, [], ◌∷◌, ◌++◌, ap, ◌∙◌, append_assoc, arith}
use Rattle.std.specs.Borrow.{Bor}
use Rattle.std.proofs.lemmas.List.{append-nil}
use Rattle.nextest_filtering_ast.specs.Tree.{Leaf}
use Rattle.nextest_filtering_ast.specs.Runtime.{runtime_leaves}
use Rattle.nextest_filtering_syntax.specs.declared.tree.ParsedExpr.{ParsedExpr}
use Rattle.nextest_filtering_syntax.specs.Parsed.{tree_of}
use Rattle.nextest_filtering_syntax.specs.Walking.{Boxed, weight, waiting_leaves, waiting_weight}

-- that of a tree and what waits behind it
abbrev pub weight_with : ParsedExpr → Option Boxed → ℕ
weight_with t None = weight t
weight_with t (Some behind) = 2 * weight t + weight behind.value

pub waiting_leaves_more : (rest : List (Bor ParsedExpr)) (t : Bor ParsedExpr) → waiting_leaves (rest ++ t ∷ []) ≡ runtime_leaves (tree_of t.now) ++ waiting_leaves rest
waiting_leaves_more [] t = simp append-nil
waiting_leaves_more (u ∷ rest) t =
    ap (λ (x : List Leaf). x ++ runtime_leaves (tree_of u.now)) (waiting_leaves_more rest t)
    ∙ append_assoc (runtime_leaves (tree_of t.now)) (waiting_leaves rest) (runtime_leaves (tree_of u.now))

pub waiting_weight_more : (rest : List (Bor ParsedExpr)) (t : Bor ParsedExpr) → waiting_weight (rest ++ t ∷ []) ≡ waiting_weight rest + weight t.now
waiting_weight_more [] t = omega arith
waiting_weight_more (u ∷ rest) t = let more = waiting_weight_more rest t in omega arith
