-- A filterset with where its predicates stand, and its symbols in prefix order.
use Rattle.std.specs.Prelude.{◌≡◌, ℕ, List, [], ◌∷◌, ◌++◌, map, reverse, Option, None, Some}
use Rattle.std.specs.Borrow.{Bor}
use Rattle.nextest_filtering_ast.specs.declared.leaf.ParsedLeaf.{ParsedLeaf}
use Rattle.nextest_filtering_ast.specs.declared.operators.AndOperator.{AndOperator}
use Rattle.nextest_filtering_ast.specs.declared.operators.DifferenceOperator.{DifferenceOperator}
use Rattle.nextest_filtering_ast.specs.declared.operators.NotOperator.{NotOperator}
use Rattle.nextest_filtering_ast.specs.declared.operators.OrOperator.{OrOperator}
use Rattle.nextest_filtering_syntax.specs.declared.copying.LentSymbol.{LentSymbol}
use Rattle.nextest_filtering_syntax.specs.declared.copying.LentSymbol.TheVariants as lent
use Rattle.nextest_filtering_syntax.specs.declared.tree.ParsedExpr.{ParsedExpr}
use Rattle.nextest_filtering_syntax.specs.declared.tree.ParsedExpr.TheVariants as tree

-- a filterset, each predicate with where it stands
pub data Spanned : Type 0 where
  negation : NotOperator → Spanned → Spanned
  union : OrOperator → Spanned → Spanned → Spanned
  intersection : AndOperator → Spanned → Spanned → Spanned
  difference : DifferenceOperator → Spanned → Spanned → Spanned
  parens : Spanned → Spanned
  set : ParsedLeaf → Spanned

abbrev pub spanned_of : ParsedExpr → Spanned
spanned_of (tree.Not' op p t) = negation op (spanned_of t)
spanned_of (tree.Union' op p a q b) = union op (spanned_of a) (spanned_of b)
spanned_of (tree.Intersection' op p a q b) = intersection op (spanned_of a) (spanned_of b)
spanned_of (tree.Difference' op p a q b) = difference op (spanned_of a) (spanned_of b)
spanned_of (tree.Parens' p t) = parens (spanned_of t)
spanned_of (tree.Set it) = set it

-- ---- in prefix order

-- an operator, parentheses, or a predicate
pub data Symbol : Type 0 where
  a_negation : NotOperator → Symbol
  a_union : OrOperator → Symbol
  an_intersection : AndOperator → Symbol
  a_difference : DifferenceOperator → Symbol
  a_group : Symbol
  a_set : ParsedLeaf → Symbol

abbrev pub symbol_of : LentSymbol → Symbol
symbol_of (lent.Not op) = a_negation op
symbol_of (lent.Union op) = a_union op
symbol_of (lent.Intersection op) = an_intersection op
symbol_of (lent.Difference op) = a_difference op
symbol_of lent.Parens = a_group
symbol_of (lent.Set it) = a_set it.now

-- the first symbol of a filterset
abbrev pub symbol_in : ParsedExpr → Symbol
symbol_in (tree.Not' op p t) = a_negation op
symbol_in (tree.Union' op p a q b) = a_union op
symbol_in (tree.Intersection' op p a q b) = an_intersection op
symbol_in (tree.Difference' op p a q b) = a_difference op
symbol_in (tree.Parens' p t) = a_group
symbol_in (tree.Set it) = a_set it

-- all its symbols: the first, and then those of its operands
abbrev pub symbols_of : ParsedExpr → List Symbol
symbols_of (tree.Not' op p t) = a_negation op ∷ symbols_of t
symbols_of (tree.Union' op p a q b) = a_union op ∷ (symbols_of a ++ symbols_of b)
symbols_of (tree.Intersection' op p a q b) = an_intersection op ∷ (symbols_of a ++ symbols_of b)
symbols_of (tree.Difference' op p a q b) = a_difference op ∷ (symbols_of a ++ symbols_of b)
symbols_of (tree.Parens' p t) = a_group ∷ symbols_of t
symbols_of (tree.Set it) = a_set it ∷ []

-- those of filtersets that wait, of which the last one comes first
abbrev pub waiting_symbols : List (Bor ParsedExpr) → List Symbol
waiting_symbols [] = []
waiting_symbols (t ∷ rest) = waiting_symbols rest ++ symbols_of t.now

-- ---- from the last symbol to the first

-- filtersets that were made, the last one first
abbrev pub shapes : List ParsedExpr → List Spanned
shapes made = reverse (map spanned_of made)

-- what a symbol makes of those that were made before it; none where there are too few
abbrev pub made_by : Symbol → List Spanned → Option (List Spanned)
made_by (a_negation op) [] = None
made_by (a_negation op) (inside ∷ made) = Some (negation op inside ∷ made)
made_by (a_union op) [] = None
made_by (a_union op) (left ∷ []) = None
made_by (a_union op) (left ∷ right ∷ made) = Some (union op left right ∷ made)
made_by (an_intersection op) [] = None
made_by (an_intersection op) (left ∷ []) = None
made_by (an_intersection op) (left ∷ right ∷ made) = Some (intersection op left right ∷ made)
made_by (a_difference op) [] = None
made_by (a_difference op) (left ∷ []) = None
made_by (a_difference op) (left ∷ right ∷ made) = Some (difference op left right ∷ made)
made_by a_group [] = None
made_by a_group (inside ∷ made) = Some (parens inside ∷ made)
made_by (a_set it) made = Some (set it ∷ made)

-- how many operands a symbol has
abbrev pub operands_of : Symbol → ℕ
operands_of (a_negation op) = 1
operands_of (a_union op) = 2
operands_of (an_intersection op) = 2
operands_of (a_difference op) = 2
operands_of a_group = 1
operands_of (a_set it) = 0

-- what symbols make, one after another
abbrev pub and_then : (List Spanned → Option (List Spanned)) → Option (List Spanned) → Option (List Spanned)
and_then next None = None
and_then next (Some made) = next made

abbrev pub made_of : List Symbol → List Spanned → Option (List Spanned)
made_of [] made = Some made
made_of (first ∷ more) made = and_then (made_of more) (made_by first made)
