-- At most one operator stands at a place.
use Rattle.std.specs.Prelude.{◌≡◌, ◌⊎◌, refl, ℕ, ◌+◌, ◌<◌, ◌==◌, Bool, true, false, not, ◌||◌, List, [], ◌∷◌, ◌++◌, length, codes}
use Rattle.std.proofs.Common.{arith, inl, inr}
use Rattle.std.specs.Prelude.{Option, Some, None, IfSome, IfNone}
use Rattle.std.specs.Borrow.{Bor}
use Rattle.std.proofs.Math.Path.{ap, sym, ◌∙◌}
use Rattle.nextest_filtering_ast.specs.declared.operators.NotOperator.{NotOperator}
use Rattle.nextest_filtering_ast.specs.declared.operators.NotOperator.TheVariants.{LiteralNot, Exclamation}
use Rattle.nextest_filtering_ast.specs.declared.operators.OrOperator.{OrOperator}
use Rattle.nextest_filtering_ast.specs.declared.operators.OrOperator.TheVariants.{LiteralOr, Pipe, Plus}
use Rattle.nextest_filtering_ast.specs.declared.operators.AndOperator.TheVariants.{LiteralAnd, Ampersand}
use Rattle.nextest_filtering_ast.specs.declared.operators.DifferenceOperator.TheVariants.{Minus}
use Rattle.nextest_filtering_ast.specs.declared.operators.Joint.{Joint}
use Rattle.nextest_filtering_ast.specs.declared.operators.Joint.TheVariants.{And}
use Rattle.nextest_filtering_ast.specs.declared.operators.Joint.TheVariants as joint
use Rattle.nextest_filtering_ast.specs.Tree.{package_name, dependencies, dependents, kind, binary_name, binary_id, test_name, group, Leaf, matching, built_for, default_filter, everything, nothing, Tree}
use Rattle.nextest_filtering_ast.specs.Grammar.{after_blanks, leaf_word, ReadsNot, ReadsOr, ReadsJoint, Unary, a_negation, a_group, a_predicate, Conjunction, first_operand, next_operand}
use Rattle.nextest_filtering_arguments.specs.Faults.{IsSuffix}
use Rattle.nextest_filtering_syntax.specs.Parsing.{Closes, ClosesConjunction, IsOperator, FindsOperator}
use Rattle.nextest_filtering_arguments.proofs.Fronts.{apart, same_rest}
use Rattle.nextest_filtering_arguments.proofs.Spans.{suffix_token, shorter_token}
use Rattle.nextest_filtering_syntax.proofs.Names.{true_is_not_false}

pub one_not : (a b : NotOperator) (text x y : List ℕ) → ReadsNot a text x → ReadsNot b text y → (b ≡ a) × (y ≡ x)
one_not LiteralNot LiteralNot text x y e f = (refl, same_rest 116 116 _ _ _ refl (same_rest 111 111 _ _ _ refl (same_rest 110 110 _ _ _ f.0 e.0)))
one_not LiteralNot Exclamation text x y e f = absurd (apart 110 33 _ _ _ refl e.0 f)
one_not Exclamation LiteralNot text x y e f = absurd (apart 33 110 _ _ _ refl e f.0)
one_not Exclamation Exclamation text x y e f = (refl, same_rest 33 33 _ _ _ f e)

pub one_or : (a b : OrOperator) (text x y : List ℕ) → ReadsOr a text x → ReadsOr b text y → (b ≡ a) × (y ≡ x)
one_or LiteralOr LiteralOr text x y e f = (refl, same_rest 114 114 _ _ _ refl (same_rest 111 111 _ _ _ f.0 e.0))
one_or LiteralOr Pipe text x y e f = absurd (apart 111 124 _ _ _ refl e.0 f)
one_or LiteralOr Plus text x y e f = absurd (apart 111 43 _ _ _ refl e.0 f)
one_or Pipe LiteralOr text x y e f = absurd (apart 124 111 _ _ _ refl e f.0)
one_or Pipe Pipe text x y e f = (refl, same_rest 124 124 _ _ _ f e)
one_or Pipe Plus text x y e f = absurd (apart 124 43 _ _ _ refl e f)
one_or Plus LiteralOr text x y e f = absurd (apart 43 111 _ _ _ refl e f.0)
one_or Plus Pipe text x y e f = absurd (apart 43 124 _ _ _ refl e f)
one_or Plus Plus text x y e f = (refl, same_rest 43 43 _ _ _ f e)

pub one_joint : (a b : Joint) (text x y : List ℕ) → ReadsJoint a text x → ReadsJoint b text y → (b ≡ a) × (y ≡ x)
one_joint (And LiteralAnd) (And LiteralAnd) text x y e f = (refl, same_rest 100 100 _ _ _ refl (same_rest 110 110 _ _ _ refl (same_rest 97 97 _ _ _ f.0 e.0)))
one_joint (And LiteralAnd) (And Ampersand) text x y e f = absurd (apart 97 38 _ _ _ refl e.0 f)
one_joint (And LiteralAnd) (joint.Minus Minus) text x y e f = absurd (apart 97 45 _ _ _ refl e.0 f)
one_joint (And Ampersand) (And LiteralAnd) text x y e f = absurd (apart 38 97 _ _ _ refl e f.0)
one_joint (And Ampersand) (And Ampersand) text x y e f = (refl, same_rest 38 38 _ _ _ f e)
one_joint (And Ampersand) (joint.Minus Minus) text x y e f = absurd (apart 38 45 _ _ _ refl e f)
one_joint (joint.Minus Minus) (And LiteralAnd) text x y e f = absurd (apart 45 97 _ _ _ refl e f.0)
one_joint (joint.Minus Minus) (And Ampersand) text x y e f = absurd (apart 45 38 _ _ _ refl e f)
one_joint (joint.Minus Minus) (joint.Minus Minus) text x y e f = (refl, same_rest 45 45 _ _ _ f e)

-- what follows an operator is a rest, and shorter
abbrev IsBehind : List ℕ → List ℕ → Type 0
IsBehind rest text = IsSuffix rest text × (length rest < length text)

token_behind : (front rest text : List ℕ) → after_blanks text ≡ front ++ rest → 0 < length front → IsBehind rest text
token_behind front rest text e some = (suffix_token front rest text e, shorter_token front rest text e some)

pub not_behind : (op : NotOperator) (text rest : List ℕ) → ReadsNot op text rest → IsBehind rest text
not_behind LiteralNot text rest e = token_behind (codes "not") rest text e.0 (Prim.omega arith)
not_behind Exclamation text rest e = token_behind (codes "!") rest text e (Prim.omega arith)

or_behind : (op : OrOperator) (text rest : List ℕ) → ReadsOr op text rest → IsBehind rest text
or_behind LiteralOr text rest e = token_behind (codes "or") rest text e.0 (Prim.omega arith)
or_behind Pipe text rest e = token_behind (codes "|") rest text e (Prim.omega arith)
or_behind Plus text rest e = token_behind (codes "+") rest text e (Prim.omega arith)

joint_behind : (op : Joint) (text rest : List ℕ) → ReadsJoint op text rest → IsBehind rest text
joint_behind (And LiteralAnd) text rest e = token_behind (codes "and") rest text e.0 (Prim.omega arith)
joint_behind (And Ampersand) text rest e = token_behind (codes "&") rest text e (Prim.omega arith)
joint_behind (joint.Minus Minus) text rest e = token_behind (codes "-") rest text e (Prim.omega arith)

-- a text that closes begins with none of the other bytes
closes_apart : (a : ℕ) (text x : List ℕ) → (a == 41) ≡ false → after_blanks text ≡ a ∷ x → Closes text → ⊥
closes_apart a text x test e (inl empty) = Prim.omega (arith, ap length e, ap length empty)
closes_apart a text x test e (inr (y, f)) = apart a 41 _ _ _ test e f

pub or_goes_on : (op : OrOperator) (text rest : List ℕ) → ReadsOr op text rest → Closes text → ⊥
or_goes_on LiteralOr text rest e = closes_apart 111 text _ refl e.0
or_goes_on Pipe text rest e = closes_apart 124 text _ refl e
or_goes_on Plus text rest e = closes_apart 43 text _ refl e

-- a byte that begins no operator of a union and closes nothing
goes_on_by : (a : ℕ) (text x : List ℕ) → (a == 41) ≡ false → (a == 111) ≡ false → (a == 124) ≡ false → (a == 43) ≡ false
    → after_blanks text ≡ a ∷ x → ClosesConjunction text → ⊥
goes_on_by a text x t41 t111 t124 t43 e (inl closes) = closes_apart a text x t41 e closes
goes_on_by a text x t41 t111 t124 t43 e (inr (LiteralOr, rest, f)) = apart a 111 _ _ _ t111 e f.0
goes_on_by a text x t41 t111 t124 t43 e (inr (Pipe, rest, f)) = apart a 124 _ _ _ t124 e f
goes_on_by a text x t41 t111 t124 t43 e (inr (Plus, rest, f)) = apart a 43 _ _ _ t43 e f

pub joint_goes_on : (op : Joint) (text rest : List ℕ) → ReadsJoint op text rest → ClosesConjunction text → ⊥
joint_goes_on (And LiteralAnd) text rest e = goes_on_by 97 text _ refl refl refl refl e.0
joint_goes_on (And Ampersand) text rest e = goes_on_by 38 text _ refl refl refl refl e
joint_goes_on (joint.Minus Minus) text rest e = goes_on_by 45 text _ refl refl refl refl e

-- neither `|` nor `&` begins an operand
abbrev starts : List ℕ → Bool
starts [] = false
starts (byte ∷ rest) = not (byte == 124 || byte == 38)

leaf_starts : (it : Leaf) (rest : List ℕ) → starts (leaf_word it ++ rest) ≡ true
leaf_starts (matching package_name m) rest = refl
leaf_starts (matching dependencies m) rest = refl
leaf_starts (matching dependents m) rest = refl
leaf_starts (matching kind m) rest = refl
leaf_starts (matching binary_name m) rest = refl
leaf_starts (matching binary_id m) rest = refl
leaf_starts (matching test_name m) rest = refl
leaf_starts (matching group m) rest = refl
leaf_starts (built_for p) rest = refl
leaf_starts default_filter rest = refl
leaf_starts everything rest = refl
leaf_starts nothing rest = refl

unary_starts : (text : List ℕ) (t : Tree) (rest : List ℕ) → Unary text t rest → starts (after_blanks text) ≡ true
unary_starts _ _ _ (a_negation LiteralNot u text behind rest e r) = ap starts e.0
unary_starts _ _ _ (a_negation Exclamation u text behind rest e r) = ap starts e
unary_starts _ _ _ (a_group u text inside behind rest e r f) = ap starts e
unary_starts _ _ _ (a_predicate it text rest read) = ap starts read.name ∙ leaf_starts it read.named

conjunction_starts : (text : List ℕ) (t : Tree) (rest : List ℕ) → Conjunction text t rest → starts (after_blanks text) ≡ true
conjunction_starts _ _ _ (first_operand t text rest u) = unary_starts text t rest u
conjunction_starts _ _ _ (next_operand op a b t text middle behind rest c j u e) = conjunction_starts text a middle c

pub right_or_step : (op : OrOperator) (text rest : List ℕ) (n : ℕ) → ReadsOr op text rest → IsOperator ReadsOr Conjunction Closes text n n op rest
right_or_step op text rest n reads = record {
  more = Prim.omega arith;
  behind = (or_behind op text rest reads).0;
  shorter = (or_behind op text rest reads).1;
  goes_on = or_goes_on op text rest reads;
  reads = λ _. reads;
  only = λ other next t end found _. (refl, (one_or op other text rest next reads found).0, (one_or op other text rest next reads found).1);
}

pub right_joint_step : (op : Joint) (text rest : List ℕ) (n : ℕ) → ReadsJoint op text rest → IsOperator ReadsJoint Unary ClosesConjunction text n n op rest
right_joint_step op text rest n reads = record {
  more = Prim.omega arith;
  behind = (joint_behind op text rest reads).0;
  shorter = (joint_behind op text rest reads).1;
  goes_on = joint_goes_on op text rest reads;
  reads = λ _. reads;
  only = λ other next t end found _. (refl, (one_joint op other text rest next reads found).0, (one_joint op other text rest next reads found).1);
}

-- behind the first of two signs stands no operand
no_operand : (text rest : List ℕ) (byte : ℕ) → starts (byte ∷ rest) ≡ false → after_blanks (byte ∷ rest) ≡ byte ∷ rest → text ≡ byte ∷ rest
    → starts (after_blanks text) ≡ true → ⊥
no_operand text rest byte test same e begins = true_is_not_false (sym begins ∙ (ap (λ l. starts (after_blanks l)) e ∙ (ap starts same ∙ test)))

wrong_or_only : (text rest : List ℕ) → (after_blanks text ≡ 124 ∷ 124 ∷ rest) ⊎ (after_blanks text ≡ 79 ∷ 82 ∷ rest)
    → (op : OrOperator) (next : List ℕ) (t : Tree) (end : List ℕ) → ReadsOr op text next → Conjunction next t end → ⊥
wrong_or_only text rest (inl e) LiteralOr next t end f c = apart 124 111 _ _ _ refl e f.0
wrong_or_only text rest (inl e) Pipe next t end f c = no_operand next rest 124 refl refl (same_rest 124 124 _ _ _ f e) (conjunction_starts next t end c)
wrong_or_only text rest (inl e) Plus next t end f c = apart 124 43 _ _ _ refl e f
wrong_or_only text rest (inr e) LiteralOr next t end f c = apart 79 111 _ _ _ refl e f.0
wrong_or_only text rest (inr e) Pipe next t end f c = apart 79 124 _ _ _ refl e f
wrong_or_only text rest (inr e) Plus next t end f c = apart 79 43 _ _ _ refl e f

wrong_or_behind : (text rest : List ℕ) → (after_blanks text ≡ 124 ∷ 124 ∷ rest) ⊎ (after_blanks text ≡ 79 ∷ 82 ∷ rest) → IsBehind rest text
wrong_or_behind text rest (inl e) = token_behind (codes "||") rest text e (Prim.omega arith)
wrong_or_behind text rest (inr e) = token_behind (codes "OR") rest text e (Prim.omega arith)

wrong_or_goes_on : (text rest : List ℕ) → (after_blanks text ≡ 124 ∷ 124 ∷ rest) ⊎ (after_blanks text ≡ 79 ∷ 82 ∷ rest) → Closes text → ⊥
wrong_or_goes_on text rest (inl e) = closes_apart 124 text _ refl e
wrong_or_goes_on text rest (inr e) = closes_apart 79 text _ refl e

pub wrong_or_step : (text rest : List ℕ) (old new : ℕ) → new ≡ old + 1 → (after_blanks text ≡ 124 ∷ 124 ∷ rest) ⊎ (after_blanks text ≡ 79 ∷ 82 ∷ rest)
    → IsOperator ReadsOr Conjunction Closes text old new Pipe rest
wrong_or_step text rest old new more wrong = record {
  more = Prim.omega (arith, more);
  behind = (wrong_or_behind text rest wrong).0;
  shorter = (wrong_or_behind text rest wrong).1;
  goes_on = wrong_or_goes_on text rest wrong;
  reads = λ same. absurd (Prim.omega (arith, more, same));
  only = λ op next t end f c. absurd (wrong_or_only text rest wrong op next t end f c);
}

wrong_and_only : (text rest : List ℕ) → (after_blanks text ≡ 38 ∷ 38 ∷ rest) ⊎ (after_blanks text ≡ 65 ∷ 78 ∷ 68 ∷ rest)
    → (op : Joint) (next : List ℕ) (t : Tree) (end : List ℕ) → ReadsJoint op text next → Unary next t end → ⊥
wrong_and_only text rest (inl e) (And LiteralAnd) next t end f c = apart 38 97 _ _ _ refl e f.0
wrong_and_only text rest (inl e) (And Ampersand) next t end f c = no_operand next rest 38 refl refl (same_rest 38 38 _ _ _ f e) (unary_starts next t end c)
wrong_and_only text rest (inl e) (joint.Minus Minus) next t end f c = apart 38 45 _ _ _ refl e f
wrong_and_only text rest (inr e) (And LiteralAnd) next t end f c = apart 65 97 _ _ _ refl e f.0
wrong_and_only text rest (inr e) (And Ampersand) next t end f c = apart 65 38 _ _ _ refl e f
wrong_and_only text rest (inr e) (joint.Minus Minus) next t end f c = apart 65 45 _ _ _ refl e f

wrong_and_behind : (text rest : List ℕ) → (after_blanks text ≡ 38 ∷ 38 ∷ rest) ⊎ (after_blanks text ≡ 65 ∷ 78 ∷ 68 ∷ rest) → IsBehind rest text
wrong_and_behind text rest (inl e) = token_behind (codes "&&") rest text e (Prim.omega arith)
wrong_and_behind text rest (inr e) = token_behind (codes "AND") rest text e (Prim.omega arith)

wrong_and_goes_on : (text rest : List ℕ) → (after_blanks text ≡ 38 ∷ 38 ∷ rest) ⊎ (after_blanks text ≡ 65 ∷ 78 ∷ 68 ∷ rest) → ClosesConjunction text → ⊥
wrong_and_goes_on text rest (inl e) = goes_on_by 38 text _ refl refl refl refl e
wrong_and_goes_on text rest (inr e) = goes_on_by 65 text _ refl refl refl refl e

pub wrong_and_step : (text rest : List ℕ) (old new : ℕ) → new ≡ old + 1 → (after_blanks text ≡ 38 ∷ 38 ∷ rest) ⊎ (after_blanks text ≡ 65 ∷ 78 ∷ 68 ∷ rest)
    → IsOperator ReadsJoint Unary ClosesConjunction text old new (And Ampersand) rest
wrong_and_step text rest old new more wrong = record {
  more = Prim.omega (arith, more);
  behind = (wrong_and_behind text rest wrong).0;
  shorter = (wrong_and_behind text rest wrong).1;
  goes_on = wrong_and_goes_on text rest wrong;
  reads = λ same. absurd (Prim.omega (arith, more, same));
  only = λ op next t end f c. absurd (wrong_and_only text rest wrong op next t end f c);
}

-- what was found without a fault
pub right_or_finds : (text : List ℕ) (n : ℕ) (r : Option (OrOperator × Bor (List ℕ)))
    → IfSome r (λ it. ReadsOr it.0 text it.1.now) → IfNone r ((op : OrOperator) (rest : List ℕ) → ReadsOr op text rest → ⊥)
    → FindsOperator ReadsOr Conjunction Closes text n n r
right_or_finds text n (Some it) some none = right_or_step it.0 text it.1.now n some
right_or_finds text n None some none = record { same = refl; never = none }

pub right_joint_finds : (text : List ℕ) (n : ℕ) (r : Option (Joint × Bor (List ℕ)))
    → IfSome r (λ it. ReadsJoint it.0 text it.1.now) → IfNone r ((op : Joint) (rest : List ℕ) → ReadsJoint op text rest → ⊥)
    → FindsOperator ReadsJoint Unary ClosesConjunction text n n r
right_joint_finds text n (Some it) some none = right_joint_step it.0 text it.1.now n some
right_joint_finds text n None some none = record { same = refl; never = none }

-- what was found with one
pub wrong_or_finds : (text ahead rest : List ℕ) (old new : ℕ) → ahead ≡ after_blanks text → new ≡ old + 1 → (ahead ≡ 124 ∷ 124 ∷ rest) ⊎ (ahead ≡ 79 ∷ 82 ∷ rest)
    → IsOperator ReadsOr Conjunction Closes text old new Pipe rest
wrong_or_finds text ahead rest old new is more (inl e) = wrong_or_step text rest old new more (inl (sym is ∙ e))
wrong_or_finds text ahead rest old new is more (inr e) = wrong_or_step text rest old new more (inr (sym is ∙ e))

pub wrong_and_finds : (text ahead rest : List ℕ) (n old new : ℕ) → ahead ≡ after_blanks text → new ≡ old + 1
    → ((ahead ≡ 38 ∷ 38 ∷ rest) × (n ≡ 2)) ⊎ ((ahead ≡ 65 ∷ 78 ∷ 68 ∷ rest) × (n ≡ 3))
    → IsOperator ReadsJoint Unary ClosesConjunction text old new (And Ampersand) rest
wrong_and_finds text ahead rest n old new is more (inl e) = wrong_and_step text rest old new more (inl (sym is ∙ e.0))
wrong_and_finds text ahead rest n old new is more (inr e) = wrong_and_step text rest old new more (inr (sym is ∙ e.0))
