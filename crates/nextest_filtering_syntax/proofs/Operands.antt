-- Negations, parentheses and predicates: each operand is one of them.
use Rattle.std.specs.Prelude.{◌≡◌, refl, ℕ, List, [], ◌∷◌, Result, Ok, Err}
use Rattle.std.specs.Result.{IsErrAnd}
use Rattle.std.specs.Borrow.{Bor}
use Rattle.std.proofs.Common.{arith, inr}
use Rattle.std.proofs.Math.Path.{ap, sym, subst, ◌∙◌}
use Rattle.std.proofs.lemmas.Result.{err_from_is_err_and}
use Rattle.nextest_filtering_ast.specs.declared.operators.NotOperator.{NotOperator}
use Rattle.nextest_filtering_ast.specs.declared.operators.NotOperator.TheVariants.{LiteralNot, Exclamation}
use Rattle.nextest_filtering_syntax.specs.declared.tree.ParsedExpr.{ParsedExpr}
use Rattle.nextest_filtering_ast.specs.Tree.{package_name, dependencies, dependents, kind, binary_name, binary_id, test_name, group, Leaf, matching, built_for, default_filter, everything, nothing, Tree, negation, parens}
use Rattle.nextest_filtering_ast.specs.Grammar.{after_blanks, ReadsNot, Unary, a_negation, a_group, a_predicate, Expression, ReadsLeaf}
use Rattle.nextest_filtering_arguments.specs.declared.stop.Stop.{Stop}
use Rattle.nextest_filtering_arguments.specs.declared.stop.Stop.TheVariants.{NoTree, Memory}
use Rattle.nextest_filtering_syntax.specs.Parsing.{Anywhere, Closes, IsPart, IsNoPart, Finds, IsClosed, ReadsPredicate}
use Rattle.nextest_filtering_arguments.proofs.Fronts.{apart, same_rest}
use Rattle.nextest_filtering_arguments.proofs.Spans.{suffix_trans, suffix_token, shorter_token, suffix_len}
use Rattle.nextest_filtering_syntax.proofs.Single.{one_not, not_behind}

-- a predicate begins with none of these bytes
leaf_apart : (it : Leaf) (text rest x : List ℕ) → ReadsLeaf it text rest → after_blanks text ≡ 40 ∷ x → ⊥
leaf_apart (matching package_name m) text rest x read e = apart 40 112 _ _ _ refl e read.name
leaf_apart (matching dependencies m) text rest x read e = apart 40 100 _ _ _ refl e read.name
leaf_apart (matching dependents m) text rest x read e = apart 40 114 _ _ _ refl e read.name
leaf_apart (matching kind m) text rest x read e = apart 40 107 _ _ _ refl e read.name
leaf_apart (matching binary_name m) text rest x read e = apart 40 98 _ _ _ refl e read.name
leaf_apart (matching binary_id m) text rest x read e = apart 40 98 _ _ _ refl e read.name
leaf_apart (matching test_name m) text rest x read e = apart 40 116 _ _ _ refl e read.name
leaf_apart (matching group m) text rest x read e = apart 40 103 _ _ _ refl e read.name
leaf_apart (built_for p) text rest x read e = apart 40 112 _ _ _ refl e read.name
leaf_apart default_filter text rest x read e = apart 40 100 _ _ _ refl e read.name
leaf_apart everything text rest x read e = apart 40 97 _ _ _ refl e read.name
leaf_apart nothing text rest x read e = apart 40 110 _ _ _ refl e read.name

leaf_no_sign : (it : Leaf) (text rest x : List ℕ) → ReadsLeaf it text rest → after_blanks text ≡ 33 ∷ x → ⊥
leaf_no_sign (matching package_name m) text rest x read e = apart 33 112 _ _ _ refl e read.name
leaf_no_sign (matching dependencies m) text rest x read e = apart 33 100 _ _ _ refl e read.name
leaf_no_sign (matching dependents m) text rest x read e = apart 33 114 _ _ _ refl e read.name
leaf_no_sign (matching kind m) text rest x read e = apart 33 107 _ _ _ refl e read.name
leaf_no_sign (matching binary_name m) text rest x read e = apart 33 98 _ _ _ refl e read.name
leaf_no_sign (matching binary_id m) text rest x read e = apart 33 98 _ _ _ refl e read.name
leaf_no_sign (matching test_name m) text rest x read e = apart 33 116 _ _ _ refl e read.name
leaf_no_sign (matching group m) text rest x read e = apart 33 103 _ _ _ refl e read.name
leaf_no_sign (built_for p) text rest x read e = apart 33 112 _ _ _ refl e read.name
leaf_no_sign default_filter text rest x read e = apart 33 100 _ _ _ refl e read.name
leaf_no_sign everything text rest x read e = apart 33 97 _ _ _ refl e read.name
leaf_no_sign nothing text rest x read e = apart 33 110 _ _ _ refl e read.name

leaf_no_word : (it : Leaf) (text rest x : List ℕ) → ReadsLeaf it text rest → after_blanks text ≡ 110 ∷ 111 ∷ 116 ∷ x → ⊥
leaf_no_word (matching package_name m) text rest x read e = apart 110 112 _ _ _ refl e read.name
leaf_no_word (matching dependencies m) text rest x read e = apart 110 100 _ _ _ refl e read.name
leaf_no_word (matching dependents m) text rest x read e = apart 110 114 _ _ _ refl e read.name
leaf_no_word (matching kind m) text rest x read e = apart 110 107 _ _ _ refl e read.name
leaf_no_word (matching binary_name m) text rest x read e = apart 110 98 _ _ _ refl e read.name
leaf_no_word (matching binary_id m) text rest x read e = apart 110 98 _ _ _ refl e read.name
leaf_no_word (matching test_name m) text rest x read e = apart 110 116 _ _ _ refl e read.name
leaf_no_word (matching group m) text rest x read e = apart 110 103 _ _ _ refl e read.name
leaf_no_word (built_for p) text rest x read e = apart 110 112 _ _ _ refl e read.name
leaf_no_word default_filter text rest x read e = apart 110 100 _ _ _ refl e read.name
leaf_no_word everything text rest x read e = apart 110 97 _ _ _ refl e read.name
leaf_no_word nothing text rest x read e =
    apart 116 110 _ _ _ refl (same_rest 111 111 _ _ _ refl (same_rest 110 110 _ _ _ read.name e)) refl

not_is_no_group : (op : NotOperator) (text behind inside : List ℕ) → ReadsNot op text behind → after_blanks text ≡ 40 ∷ inside → ⊥
not_is_no_group LiteralNot text behind inside e f = apart 110 40 _ _ _ refl e.0 f
not_is_no_group Exclamation text behind inside e f = apart 33 40 _ _ _ refl e f

not_is_no_leaf : (op : NotOperator) (it : Leaf) (text behind rest : List ℕ) → ReadsNot op text behind → ReadsLeaf it text rest → ⊥
not_is_no_leaf LiteralNot it text behind rest e read = leaf_no_word it text rest _ read e.0
not_is_no_leaf Exclamation it text behind rest e read = leaf_no_sign it text rest _ read e

-- behind `not` stands a negation
pub is_negation : (op : NotOperator) (text behind : List ℕ) (other : Tree) (end : List ℕ) → ReadsNot op text behind → Unary text other end
    → (t : Tree) × (other ≡ negation op t) × Unary behind t end
is_negation op _ behind _ _ found (a_negation op1 t text behind1 end e reads) =
    let is = one_not op op1 text behind behind1 found e in
    (t, ap (λ o. negation o t) is.0, subst (λ l. Unary l t end) is.1 reads)
is_negation op _ behind _ _ found (a_group t text inside middle end e reads f) = absurd (not_is_no_group op text behind inside found e)
is_negation op _ behind _ _ found (a_predicate it text end read) = absurd (not_is_no_leaf op it text behind end found read)

-- behind `(` stands an expression
pub is_group : (text inside : List ℕ) (other : Tree) (end : List ℕ) → after_blanks text ≡ 40 ∷ inside → Unary text other end
    → (t : Tree) × (middle : List ℕ) × (other ≡ parens t) × Expression inside t middle × (after_blanks middle ≡ 41 ∷ end)
is_group _ inside _ _ found (a_negation op t text behind end e reads) = absurd (not_is_no_group op text behind inside e found)
is_group _ inside _ _ found (a_group t text inside1 middle end e reads f) =
    (t, middle, refl, subst (λ l. Expression l t middle) (same_rest 40 40 _ _ _ e found) reads, f)
is_group _ inside _ _ found (a_predicate it text end read) = absurd (leaf_apart it text end inside read found)

-- else a predicate stands there
is_predicate : (text : List ℕ) (other : Tree) (end : List ℕ) → ((op : NotOperator) (rest : List ℕ) → ReadsNot op text rest → ⊥)
    → ((rest : List ℕ) → after_blanks text ≡ 40 ∷ rest → ⊥) → Unary text other end → ReadsPredicate text other end
is_predicate _ _ _ no_not no_group (a_negation op t text behind end e reads) = absurd (no_not op behind e)
is_predicate _ _ _ no_not no_group (a_group t text inside middle end e reads f) = absurd (no_group inside e)
is_predicate _ _ _ no_not no_group (a_predicate it text end read) = (it, refl, read)

pub negated : (op : NotOperator) (text behind : List ℕ) (old new : ℕ) (inside : Tree) (rest : List ℕ) → ReadsNot op text behind
    → IsPart Unary Anywhere behind old new inside rest → IsPart Unary Anywhere text old new (negation op inside) rest
negated op text behind old new inside rest reads part = record {
  more = part.more;
  behind = suffix_trans rest behind text part.behind (not_behind op text behind reads).0;
  shorter = Prim.omega (arith, part.shorter, (not_behind op text behind reads).1);
  reads = λ same. a_negation op inside text behind rest reads (part.reads same);
  only = λ other end found anywhere.
      let n = is_negation op text behind other end reads found in
      let is = part.only n.0 end n.2 tt in
      (is.0, n.1 ∙ ap (negation op) is.1, is.2);
}

pub grouped : (text inside middle rest : List ℕ) (old now new : ℕ) (found : Tree) → after_blanks text ≡ 40 ∷ inside
    → IsPart Expression Closes inside old now found middle → IsClosed middle now new rest → IsPart Unary Anywhere text old new (parens found) rest
grouped text inside middle rest old now new found opens part closes = record {
  more = Prim.omega (arith, part.more, closes.more);
  behind = suffix_trans rest middle text closes.behind (suffix_trans middle inside text part.behind (suffix_token (40 ∷ []) inside text opens));
  shorter = Prim.omega (arith, part.shorter, suffix_len rest middle closes.behind, shorter_token (40 ∷ []) inside text opens (Prim.omega arith));
  reads = λ same. a_group found text inside middle rest opens
      (part.reads (Prim.omega (arith, same, part.more, closes.more)))
      (closes.reads (Prim.omega (arith, same, part.more, closes.more)));
  only = λ other end reads anywhere.
      let g = is_group text inside other end opens reads in
      let is = part.only g.0 g.1 g.3 (inr (end, g.4)) in
      let ends = closes.only end (ap after_blanks (sym is.2) ∙ g.4) in
      (Prim.omega (arith, is.0, ends.0), g.2 ∙ ap parens is.1, ends.1);
}

pub predicate_finds : (text : List ℕ) (old new : ℕ) (r : Result (ParsedExpr × Bor (List ℕ)) Stop)
    → ((op : NotOperator) (rest : List ℕ) → ReadsNot op text rest → ⊥) → ((rest : List ℕ) → after_blanks text ≡ 40 ∷ rest → ⊥)
    → Finds ReadsPredicate Anywhere text old new r → Finds Unary Anywhere text old new r
predicate_finds text old new (Ok found) no_not no_group part = record {
  more = part.more;
  behind = part.behind;
  shorter = part.shorter;
  reads = λ same.
      let p = part.reads same in
      subst (λ t. Unary text t found.1.now) (sym p.1) (a_predicate p.0 text found.1.now p.2);
  only = λ other end reads anywhere. part.only other end (is_predicate text other end no_not no_group reads) tt;
}
predicate_finds text old new (Err NoTree) no_not no_group none = record {
  more = none.more;
  never = λ other end reads anywhere. none.never other end (is_predicate text other end no_not no_group reads) tt;
}
predicate_finds text old new (Err Memory) no_not no_group none = none

-- what stops a part stops the whole
stops_by : {Reads : List ℕ → Tree → List ℕ → Type 0} {Stops : List ℕ → Type 0} {Whole : List ℕ → Tree → List ℕ → Type 0} {Ends : List ℕ → Type 0}
    (part text : List ℕ) (old now new : ℕ) (e : Stop) → (IsNoPart Reads Stops part now new → IsNoPart Whole Ends text old new)
    → Finds Reads Stops part now new (Err e) → Finds Whole Ends text old new (Err e)
stops_by part text old now new NoTree none found = none found
stops_by part text old now new Memory none found = found

pub passes : {Reads : List ℕ → Tree → List ℕ → Type 0} {Stops : List ℕ → Type 0} {Whole : List ℕ → Tree → List ℕ → Type 0} {Ends : List ℕ → Type 0}
    (part text : List ℕ) (old now new : ℕ) (e : Stop) (r : Result (ParsedExpr × Bor (List ℕ)) Stop) → (IsNoPart Reads Stops part now new → IsNoPart Whole Ends text old new)
    → Finds Reads Stops part now new (Err e) → IsErrAnd r (λ y. y ≡ e) → Finds Whole Ends text old new r
passes {Whole = Whole} {Ends = Ends} part text old now new e r none found is =
    let p = err_from_is_err_and r is in
    subst (Finds Whole Ends text old new) (sym p.1) (subst (λ y. Finds Whole Ends text old new (Err y)) (sym p.2) (stops_by part text old now new e none found))
