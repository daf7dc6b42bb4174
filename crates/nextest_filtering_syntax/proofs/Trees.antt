-- A text is one filterset at most: what is read of it is the only reading.
use Rattle.std.proofs.Common.{◌≡◌, refl, ℕ, Bool, true, false, List, ◌++◌, take, sym, ap, ◌∙◌, inl, inr, arith}
use Rattle.std.specs.Prelude.{◌||◌, codes, bytes_eq}
use Rattle.std.proofs.lemmas.Bool.{false≢true}
use Rattle.nextest_filtering_ast.specs.declared.operators.NotOperator.{NotOperator}
use Rattle.nextest_filtering_ast.specs.declared.operators.NotOperator.TheVariants.{LiteralNot, Exclamation}
use Rattle.nextest_filtering_ast.specs.Tree.{package_name, dependencies, dependents, kind, binary_name, binary_id, test_name, group, Leaf, matching, built_for, default_filter, everything, nothing, Tree, set, union}
use Rattle.nextest_filtering_ast.specs.Grammar.{after_blanks, leaf_word, joint_of, ReadsNot, ReadsOr, ReadsJoint, ReadsLeaf, Unary, a_negation, a_group, a_predicate, Conjunction, first_operand, next_operand, Expression, first_conjunction, next_conjunction, IsFilterset}
use Rattle.nextest_filtering_syntax.specs.Parsing.{Anywhere, Closes, ClosesConjunction, IsPart, IsNoOperator}
use Rattle.nextest_filtering_syntax.proofs.Chains.{HasRead, conjunction_level, expression_level, begins, goes_on, ends_here, read_as}
use Rattle.nextest_filtering_syntax.proofs.Closings.{closed}
use Rattle.nextest_filtering_syntax.proofs.Operands.{negated, grouped}
use Rattle.nextest_filtering_syntax.proofs.Single.{or_goes_on, joint_goes_on, right_or_step, right_joint_step}
use Rattle.nextest_filtering_syntax.proofs.PrintedLeaves.{leaf_behind, one_leaf}

-- ---- predicates

-- the text begins with `(`, `!` or `not`
abbrev opens : List ℕ → Bool
opens text = bytes_eq (take 1 text) (codes "(") || bytes_eq (take 1 text) (codes "!") || bytes_eq (take 3 text) (codes "not")

leaf_opens : (it : Leaf) (rest : List ℕ) → opens (leaf_word it ++ rest) ≡ false
leaf_opens (matching package_name m) rest = refl
leaf_opens (matching dependencies m) rest = refl
leaf_opens (matching dependents m) rest = refl
leaf_opens (matching kind m) rest = refl
leaf_opens (matching binary_name m) rest = refl
leaf_opens (matching binary_id m) rest = refl
leaf_opens (matching test_name m) rest = refl
leaf_opens (matching group m) rest = refl
leaf_opens (built_for platform) rest = refl
leaf_opens default_filter rest = refl
leaf_opens everything rest = refl
leaf_opens nothing rest = refl

not_opens : (op : NotOperator) (text behind : List ℕ) → ReadsNot op text behind → opens (after_blanks text) ≡ true
not_opens LiteralNot text behind reads = ap opens reads.0
not_opens Exclamation text behind reads = ap opens reads

no_leaf : (it : Leaf) (text rest : List ℕ) → ReadsLeaf it text rest → opens (after_blanks text) ≡ true → ⊥
no_leaf it text rest read holds = false≢true (sym (ap opens read.name ∙ leaf_opens it read.named) ∙ holds)

-- where a predicate stands, it is all that an operand can be
leaf_only : (it : Leaf) (text rest : List ℕ) (other : Tree) (end : List ℕ) → ReadsLeaf it text rest → Unary text other end → (other ≡ set it) × (end ≡ rest)
leaf_only it _ rest _ _ read (a_negation op t text behind end reads operand) = absurd (no_leaf it text rest read (not_opens op text behind reads))
leaf_only it _ rest _ _ read (a_group t text inside behind end first reads closes) = absurd (no_leaf it text rest read (ap opens first))
leaf_only it _ rest _ _ read (a_predicate other text end found) = let one = one_leaf it other text rest end read found in (ap set one.0, one.1)

leaf_part : (it : Leaf) (text rest : List ℕ) → ReadsLeaf it text rest → IsPart Unary Anywhere text 0 0 (set it) rest
leaf_part it text rest read =
    let behind = leaf_behind it text rest read in
    record {
      more = Prim.omega arith;
      behind = behind.0;
      shorter = behind.1;
      reads = λ _. a_predicate it text rest read;
      only = λ other end found anywhere. let one = leaf_only it text rest other end read found in (refl, one.0, one.1);
    }

-- ---- operators

no_joint : (rest : List ℕ) → ClosesConjunction rest → IsNoOperator ReadsJoint rest 0 0
no_joint rest closes = record { same = refl; never = λ op behind reads. joint_goes_on op rest behind reads closes }

no_or : (rest : List ℕ) → Closes rest → IsNoOperator ReadsOr rest 0 0
no_or rest closes = record { same = refl; never = λ op behind reads. or_goes_on op rest behind reads closes }

-- ---- trees

abbrev ReadConjunction : List ℕ → Tree → List ℕ → Type 0
ReadConjunction text t rest = HasRead ReadsJoint Unary joint_of Conjunction ClosesConjunction text 0 0 t rest

abbrev ReadExpression : List ℕ → Tree → List ℕ → Type 0
ReadExpression text t rest = HasRead ReadsOr Conjunction union Expression Closes text 0 0 t rest

mutual
  pub one_operand : (text : List ℕ) (t : Tree) (rest : List ℕ) → Unary text t rest → IsPart Unary Anywhere text 0 0 t rest
  one_operand _ _ _ (a_negation op t text behind rest reads operand) = negated op text behind 0 0 t rest reads (one_operand behind t rest operand)
  one_operand _ _ _ (a_group t text inside behind rest first read closes) =
      grouped text inside behind rest 0 0 0 t first
      (ends_here inside 0 0 0 t behind (expression_read inside t behind read (inl (inr (rest, closes)))) (no_or behind (inr (rest, closes))))
      (closed behind (after_blanks behind) rest 0 refl closes)
  one_operand _ _ _ (a_predicate it text rest read) = leaf_part it text rest read

  conjunction_read : (text : List ℕ) (t : Tree) (rest : List ℕ) → Conjunction text t rest → ReadConjunction text t rest
  conjunction_read _ _ _ (first_operand t text rest operand) = begins text 0 0 t rest conjunction_level (one_operand text t rest operand)
  conjunction_read _ _ _ (next_operand op a b t text middle behind rest left reads right is) =
      read_as text 0 0 t (joint_of op a b) rest is
      (goes_on text 0 0 0 0 a b op middle behind rest conjunction_level (conjunction_read text a middle left)
      (right_joint_step op middle behind 0 reads) (one_operand behind b rest right))

  expression_read : (text : List ℕ) (t : Tree) (rest : List ℕ) → Expression text t rest → ClosesConjunction rest → ReadExpression text t rest
  expression_read _ _ _ (first_conjunction t text rest read) closes =
      begins text 0 0 t rest expression_level (ends_here text 0 0 0 t rest (conjunction_read text t rest read) (no_joint rest closes))
  expression_read _ _ _ (next_conjunction op a b text middle behind rest left reads right) closes =
      goes_on text 0 0 0 0 a b op middle behind rest expression_level (expression_read text a middle left (inr (op, behind, reads)))
      (right_or_step op middle behind 0 reads) (ends_here behind 0 0 0 b rest (conjunction_read behind b rest right) (no_joint rest closes))

pub one_tree : (text : List ℕ) (a b : Tree) → IsFilterset text a → IsFilterset text b → a ≡ b
one_tree text a b left right =
    let read = expression_read text a left.rest left.read (inl (inl left.blank)) in
    let part = ends_here text 0 0 0 a left.rest read (no_or left.rest (inl left.blank)) in
    let one = part.only b right.rest right.read (inl right.blank) in
    sym one.1
