-- Where predicates stand.
use Rattle.std.proofs.Common.{◌≡◌, refl, ℕ, zero, suc, ◌-◌, ◌≤◌, List, [], ◌∷◌, ◌++◌, length, take, Some, IfSome, IfOk, Result, Ok, Err, sym, ap, subst, ◌∙◌, arith, length-append}
use Rattle.nextest_filtering_ast.specs.Grammar.{after_blanks, leaf_word, ReadsLeaf}
use Rattle.nextest_filtering_ast.specs.Tree.{Leaf, Tree, negation, union, intersection, difference, parens, set, leaf_of}
use Rattle.nextest_filtering_syntax.specs.Parsed.{tree_of}
use Rattle.nextest_filtering_ast.specs.declared.leaf.SourceSpan.{SourceSpan}
use Rattle.nextest_filtering_ast.specs.declared.leaf.ParsedLeaf.{ParsedLeaf}
use Rattle.nextest_filtering_arguments.specs.Faults.{IsSuffix, Lies, here, bytes_in_span}
use Rattle.nextest_filtering_arguments.proofs.Spans.{here_lies, here_spans, suffix_len, suffix_trans}
use Rattle.nextest_filtering_syntax.specs.declared.tree.ParsedExpr.{ParsedExpr}
use Rattle.nextest_filtering_syntax.specs.declared.tree.ParsedExpr.TheVariants as tree
use Rattle.nextest_filtering_arguments.specs.declared.stop.Stop.{Stop}
use Rattle.std.specs.Borrow.{Bor}
use Rattle.nextest_filtering_syntax.specs.Parsing.{Anywhere, Finds, ReadsPredicate}
use Rattle.nextest_filtering_syntax.specs.Places.{span_of, Begins, IsPlacedLeaf, ArePlaced, IsNamed, IsSpanned, Spans, Stands}

-- the first bytes of what begins with a word begin with it
take_word : (word named : List ℕ) (n : ℕ) → length word ≤ n → (rest : List ℕ) × (take n (word ++ named) ≡ word ++ rest)
take_word [] named n fits = (take n named, refl)
take_word (byte ∷ word) named zero fits = absurd (Prim.omega (arith, fits))
take_word (byte ∷ word) named (suc n) fits =
    let more = take_word word named n (Prim.omega (arith, fits)) in
    (more.0, ap (λ l. byte ∷ l) more.1)

begins : (input start rest named word : List ℕ) (span : SourceSpan) → span ≡ here input start (length start - length rest) → IsSuffix start input
    → start ≡ word ++ named → IsSuffix rest named → Begins input word span
begins input start rest named word span is within e behind =
    let n = length start - length rest in
    let fits : length word ≤ n = Prim.omega (arith, ap length e, length-append word named, suffix_len rest named behind) in
    let short : n ≤ length start = Prim.omega arith in
    let front = take_word word named n fits in
    (subst (Lies input) (sym is) (here_lies input start n within short), (front.0, ap (bytes_in_span input) is ∙ (here_spans input start n within ∙ (ap (take n) e ∙ front.1))))

-- the span from a name to where the text goes on
pub begins_so : (input now start text rest word : List ℕ) (span : SourceSpan) → now ≡ input → span ≡ here now start (length start - length rest)
    → IsSuffix start input → IsNamed word start text → IsSuffix rest text → Begins input word span
begins_so input now start text rest word span same is within (behind, e, opens) goes =
    begins input start rest behind word span (is ∙ ap (λ l. here l start (length start - length rest)) same) within e (suffix_trans rest text behind goes opens)

-- a predicate of that span
pub placed : (input now start text rest word : List ℕ) (it : ParsedLeaf) (span : SourceSpan) → now ≡ input → span_of it ≡ Some span → leaf_word (leaf_of it) ≡ word
    → span ≡ here now start (length start - length rest) → IsSuffix start input → IsNamed word start text → IsSuffix rest text → IsPlacedLeaf input it
placed input now start text rest word it span same has named is within from goes =
    let at = begins_so input now start text rest word span same is within from goes in
    subst (λ o. IfSome o (Begins input (leaf_word (leaf_of it)))) (sym has) (subst (λ w. Begins input w span) (sym named) at)

-- in an input that stayed
pub placed_in : (input now : List ℕ) (t : ParsedExpr) → now ≡ input → ArePlaced now t → ArePlaced input t
placed_in input now t same at = subst (λ l. ArePlaced l t) same at

-- ---- exact spans

-- a span from start to where the text goes on
pub spanned_so : (input now start rest : List ℕ) (it : ParsedLeaf) (span : SourceSpan) → now ≡ input → span_of it ≡ Some span → span ≡ here now start (length start - length rest)
    → Spans input start rest it
spanned_so input now start rest it span same has is =
    subst (λ o. IfSome o (λ s. s ≡ here input start (length start - length rest))) (sym has) (is ∙ ap (λ l. here l start (length start - length rest)) same)

-- a predicate with such a span stands where it is read
set_stands : (input text start rest : List ℕ) (t : ParsedExpr) (it : Leaf) → start ≡ after_blanks text → IsSpanned input start rest t → tree_of t ≡ set it → ReadsLeaf it text rest
    → Stands input t text rest
set_stands input text start rest (tree.Set leaf) it at span is read =
    let same : it ≡ leaf_of leaf = sym (ap leaf_in is) in
    (subst (λ l. ReadsLeaf l text rest) same read, subst (λ s. Spans input s rest leaf) at span)
  where
    leaf_in : Tree → Leaf
    leaf_in (negation op t) = it
    leaf_in (union op a b) = it
    leaf_in (intersection op a b) = it
    leaf_in (difference op a b) = it
    leaf_in (parens t) = it
    leaf_in (set other) = other
set_stands input text start rest (tree.Not' op p t) it at none is read = absurd none
set_stands input text start rest (tree.Union' op p a q b) it at none is read = absurd none
set_stands input text start rest (tree.Intersection' op p a q b) it at none is read = absurd none
set_stands input text start rest (tree.Difference' op p a q b) it at none is read = absurd none
set_stands input text start rest (tree.Parens' p t) it at none is read = absurd none

pub stands_as : (input text start : List ℕ) (old new : ℕ) (r : Result (ParsedExpr × Bor (List ℕ)) Stop) → start ≡ after_blanks text → Finds ReadsPredicate Anywhere text old new r
    → IfOk r (λ it. IsSpanned input start it.1.now it.0) → new ≡ old → IfOk r (λ it. Stands input it.0 text it.1.now)
stands_as input text start old new (Ok found) at part bytes_in_span same =
    let p = part.reads same in
    set_stands input text start found.1.now found.0 p.0 at bytes_in_span p.1 p.2
stands_as input text start old new (Err e) at part spanned same = tt

-- in an input that stayed
pub stands_in : (input now : List ℕ) (t : ParsedExpr) (text rest : List ℕ) → now ≡ input → Stands now t text rest → Stands input t text rest
stands_in input now t text rest same at = subst (λ l. Stands l t text rest) same at
