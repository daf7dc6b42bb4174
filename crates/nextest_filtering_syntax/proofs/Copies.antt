-- What symbols make, in prefix order and from the last to the first.
use Rattle.std.proofs.Common.{◌≡◌, ℕ, ◌+◌, ◌≤◌, Option, None, Some, List, [], ◌∷◌, ◌++◌, map, length, reverse, refl, sym, ap, ◌∙◌, append_assoc, arith}
use Rattle.std.specs.Borrow.{Bor}
use Rattle.std.proofs.lemmas.List.{append-nil, reverse-append, map-append}
use Rattle.nextest_filtering_syntax.specs.declared.tree.ParsedExpr.{ParsedExpr}
use Rattle.nextest_filtering_syntax.specs.declared.tree.ParsedExpr.TheVariants as tree
use Rattle.nextest_filtering_syntax.specs.declared.copying.LentSymbol.{LentSymbol}
use Rattle.nextest_filtering_syntax.specs.Copies.{Spanned, Symbol, a_negation, a_union, an_intersection, a_difference, a_group, a_set, and_then, made_by, made_of, operands_of, shapes, spanned_of, symbol_of, symbols_of, waiting_symbols}

pub waiting_symbols_more : (rest : List (Bor ParsedExpr)) (t : Bor ParsedExpr) → waiting_symbols (rest ++ t ∷ []) ≡ symbols_of t.now ++ waiting_symbols rest
waiting_symbols_more [] t = simp append-nil
waiting_symbols_more (u ∷ rest) t =
    ap (λ (x : List Symbol). x ++ symbols_of u.now) (waiting_symbols_more rest t) ∙ append_assoc (symbols_of t.now) (waiting_symbols rest) (symbols_of u.now)

pub shapes_last : (made : List ParsedExpr) (t : ParsedExpr) → shapes (made ++ t ∷ []) ≡ spanned_of t ∷ shapes made
shapes_last made t = ap reverse (map-append spanned_of made (t ∷ [])) ∙ reverse-append (map spanned_of made) (spanned_of t ∷ [])

-- one symbol behind others, from the last on
behind : (symbols : List Symbol) (first : Symbol) (rest : List Symbol) → reverse (first ∷ symbols) ++ rest ≡ reverse symbols ++ first ∷ rest
behind symbols first rest = ap (λ (l : List Symbol). l ++ rest) (reverse-append (first ∷ []) symbols) ∙ append_assoc (reverse symbols) (first ∷ []) rest

-- and two lists of symbols
behind_both : (one other : List Symbol) (first : Symbol) (rest : List Symbol) → reverse (first ∷ (one ++ other)) ++ rest ≡ reverse other ++ (reverse one ++ first ∷ rest)
behind_both one other first rest =
    behind (one ++ other) first rest ∙ ap (λ (l : List Symbol). l ++ first ∷ rest) (reverse-append one other) ∙ append_assoc (reverse other) (reverse one) (first ∷ rest)

-- the symbols of a filterset make it
pub made_whole : (t : ParsedExpr) (rest : List Symbol) (made : List Spanned) → made_of (reverse (symbols_of t) ++ rest) made ≡ made_of rest (spanned_of t ∷ made)
made_whole (tree.Not' op p t) rest made = ap (λ (l : List Symbol). made_of l made) (behind (symbols_of t) (a_negation op) rest) ∙ made_whole t (a_negation op ∷ rest) made
made_whole (tree.Parens' p t) rest made = ap (λ (l : List Symbol). made_of l made) (behind (symbols_of t) a_group rest) ∙ made_whole t (a_group ∷ rest) made
made_whole (tree.Set it) rest made = refl
made_whole (tree.Union' op p a q b) rest made =
    ap (λ (l : List Symbol). made_of l made) (behind_both (symbols_of a) (symbols_of b) (a_union op) rest)
    ∙ made_whole b (reverse (symbols_of a) ++ a_union op ∷ rest) made ∙ made_whole a (a_union op ∷ rest) (spanned_of b ∷ made)
made_whole (tree.Intersection' op p a q b) rest made =
    ap (λ (l : List Symbol). made_of l made) (behind_both (symbols_of a) (symbols_of b) (an_intersection op) rest)
    ∙ made_whole b (reverse (symbols_of a) ++ an_intersection op ∷ rest) made ∙ made_whole a (an_intersection op ∷ rest) (spanned_of b ∷ made)
made_whole (tree.Difference' op p a q b) rest made =
    ap (λ (l : List Symbol). made_of l made) (behind_both (symbols_of a) (symbols_of b) (a_difference op) rest)
    ∙ made_whole b (reverse (symbols_of a) ++ a_difference op ∷ rest) made ∙ made_whole a (a_difference op ∷ rest) (spanned_of b ∷ made)

-- symbols that make a filterset find their operands
pub finds_operands : (symbol : Symbol) (more : List Symbol) (made : List Spanned) (whole : Spanned) → made_of (symbol ∷ more) made ≡ Some (whole ∷ []) → operands_of symbol ≤ length made
finds_operands (a_negation op) more [] whole is = absurd (let h = is in cc)
finds_operands (a_negation op) more (a ∷ made) whole is = omega arith
finds_operands (a_union op) more [] whole is = absurd (let h = is in cc)
finds_operands (a_union op) more (a ∷ []) whole is = absurd (let h = is in cc)
finds_operands (a_union op) more (a ∷ b ∷ made) whole is = omega arith
finds_operands (an_intersection op) more [] whole is = absurd (let h = is in cc)
finds_operands (an_intersection op) more (a ∷ []) whole is = absurd (let h = is in cc)
finds_operands (an_intersection op) more (a ∷ b ∷ made) whole is = omega arith
finds_operands (a_difference op) more [] whole is = absurd (let h = is in cc)
finds_operands (a_difference op) more (a ∷ []) whole is = absurd (let h = is in cc)
finds_operands (a_difference op) more (a ∷ b ∷ made) whole is = omega arith
finds_operands a_group more [] whole is = absurd (let h = is in cc)
finds_operands a_group more (a ∷ made) whole is = omega arith
finds_operands (a_set it) more made whole is = omega arith
