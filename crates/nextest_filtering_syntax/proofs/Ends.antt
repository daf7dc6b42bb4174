-- Where a text begins with a filterset, its end is told by the filterset.
use Rattle.std.proofs.Common.{◌≡◌, refl, List, ℕ, sym, subst, ◌∙◌, inl, inr}
use Rattle.std.specs.Prelude.{◌⊎◌}
use Rattle.nextest_filtering_ast.specs.declared.operators.NotOperator.{NotOperator}
use Rattle.nextest_filtering_ast.specs.declared.operators.NotOperator.TheVariants.{LiteralNot, Exclamation}
use Rattle.nextest_filtering_ast.specs.declared.operators.OrOperator.{OrOperator}
use Rattle.nextest_filtering_ast.specs.declared.operators.Joint.{Joint}
use Rattle.nextest_filtering_ast.specs.declared.operators.Joint.TheVariants.{And}
use Rattle.nextest_filtering_ast.specs.declared.operators.Joint.TheVariants as joint
use Rattle.nextest_filtering_ast.specs.Tree.{Tree, union}
use Rattle.nextest_filtering_ast.specs.Grammar.{after_blanks, joint_of, ReadsNot, ReadsOr, ReadsJoint, Unary, a_negation, a_group, a_predicate, Conjunction, first_operand, next_operand, Expression, first_conjunction, next_conjunction}
use Rattle.nextest_filtering_syntax.proofs.Single.{one_joint, one_or}
use Rattle.nextest_filtering_syntax.proofs.Trees.{one_operand}

-- ---- trees apart

same_joined : (op other : Joint) (a b c d : Tree) → joint_of op a b ≡ joint_of other c d → (a ≡ c) × (b ≡ d)
same_joined (And op) (And other) a b c d same = (cc, cc)
same_joined (And op) (joint.Minus other) a b c d same = absurd (cc)
same_joined (joint.Minus op) (And other) a b c d same = absurd (cc)
same_joined (joint.Minus op) (joint.Minus other) a b c d same = (cc, cc)

same_union : (op other : OrOperator) (a b c d : Tree) → union op a b ≡ union other c d → (a ≡ c) × (b ≡ d)
same_union op other a b c d same = (cc, cc)

joined_no_union : (op : Joint) (other : OrOperator) (a b c d : Tree) → joint_of op a b ≡ union other c d → ⊥
joined_no_union (And op) other a b c d same = cc
joined_no_union (joint.Minus op) other a b c d same = cc

operand_not_joined : (text : List ℕ) (t : Tree) (rest : List ℕ) → Unary text t rest → (op : Joint) (a b : Tree) → t ≡ joint_of op a b → ⊥
operand_not_joined _ _ _ (a_negation by t text behind rest reads operand) (And op) a b same = cc
operand_not_joined _ _ _ (a_negation by t text behind rest reads operand) (joint.Minus op) a b same = cc
operand_not_joined _ _ _ (a_group t text inside behind rest opens read closes) (And op) a b same = cc
operand_not_joined _ _ _ (a_group t text inside behind rest opens read closes) (joint.Minus op) a b same = cc
operand_not_joined _ _ _ (a_predicate it text rest reads) (And op) a b same = cc
operand_not_joined _ _ _ (a_predicate it text rest reads) (joint.Minus op) a b same = cc

operand_no_union : (text : List ℕ) (t : Tree) (rest : List ℕ) → Unary text t rest → (op : OrOperator) (a b : Tree) → t ≡ union op a b → ⊥
operand_no_union _ _ _ (a_negation by t text behind rest reads operand) op a b same = cc
operand_no_union _ _ _ (a_group t text inside behind rest opens read closes) op a b same = cc
operand_no_union _ _ _ (a_predicate it text rest reads) op a b same = cc

conjunction_no_union : (text : List ℕ) (t : Tree) (rest : List ℕ) → Conjunction text t rest → (op : OrOperator) (a b : Tree) → t ≡ union op a b → ⊥
conjunction_no_union _ _ _ (first_operand t text rest operand) op a b same = operand_no_union text t rest operand op a b same
conjunction_no_union _ _ _ (next_operand by c d t text middle behind rest left reads right is) op a b same = joined_no_union by op c d a b (sym is ∙ same)

-- ---- the last operand

abbrev LastOperand : List ℕ → Tree → List ℕ → Type 0
LastOperand text t rest = (op : Joint) × (a b : Tree) × (middle behind : List ℕ) × Conjunction text a middle × ReadsJoint op middle behind × Unary behind b rest × (t ≡ joint_of op a b)

last_operand : (text : List ℕ) (t : Tree) (rest : List ℕ) → Conjunction text t rest → Unary text t rest ⊎ LastOperand text t rest
last_operand _ _ _ (first_operand t text rest operand) = inl operand
last_operand _ _ _ (next_operand op a b t text middle behind rest left reads right is) = inr (op, a, b, middle, behind, left, reads, right, is)

abbrev LastConjunction : List ℕ → Tree → List ℕ → Type 0
LastConjunction text t rest = (op : OrOperator) × (a b : Tree) × (middle behind : List ℕ) × Expression text a middle × ReadsOr op middle behind × Conjunction behind b rest × (t ≡ union op a b)

last_conjunction : (text : List ℕ) (t : Tree) (rest : List ℕ) → Expression text t rest → Conjunction text t rest ⊎ LastConjunction text t rest
last_conjunction _ _ _ (first_conjunction t text rest read) = inl read
last_conjunction _ _ _ (next_conjunction op a b text middle behind rest left reads right) = inr (op, a, b, middle, behind, left, reads, right, refl)

-- ---- one end

operand_end : (text : List ℕ) (t : Tree) (rest : List ℕ) → Unary text t rest → (end : List ℕ) → Unary text t end → end ≡ rest
operand_end text t rest operand end found = ((one_operand text t rest operand).only t end found tt).2

end_by_operand : (text : List ℕ) (t : Tree) (rest : List ℕ) → Unary text t rest → (end : List ℕ) → Unary text t end ⊎ LastOperand text t end → end ≡ rest
end_by_operand text t rest operand end (inl found) = operand_end text t rest operand end found
end_by_operand text t rest operand end (inr (op, a, b, middle, behind, left, reads, right, is)) = absurd (operand_not_joined text t rest operand op a b is)

end_by_joint : (op : Joint) (a b t : Tree) (text middle behind rest : List ℕ) → ((other : List ℕ) → Conjunction text a other → other ≡ middle)
    → ReadsJoint op middle behind → Unary behind b rest → t ≡ joint_of op a b → (end : List ℕ) → Unary text t end ⊎ LastOperand text t end → end ≡ rest
end_by_joint op a b t text middle behind rest known reads right is end (inl found) = absurd (operand_not_joined text t end found op a b is)
end_by_joint op a b t text middle behind rest known reads right is end (inr (other, c, d, place, next, before, joins, operand, same)) =
    let parts = same_joined op other a b c d (sym is ∙ same) in
    let places : place ≡ middle = known place (subst (λ (x : Tree). Conjunction text x place) (sym parts.0) before) in
    let nexts : next ≡ behind = (one_joint op other middle behind next reads (subst (λ (x : List ℕ). ReadsJoint other x next) places joins)).1 in
    operand_end behind b rest right end (subst (λ (x : List ℕ). Unary x b end) nexts (subst (λ (x : Tree). Unary next x end) (sym parts.1) operand))

pub conjunction_end : (text : List ℕ) (t : Tree) (rest : List ℕ) → Conjunction text t rest → (end : List ℕ) → Conjunction text t end → end ≡ rest
conjunction_end _ _ _ (first_operand t text rest operand) end found = end_by_operand text t rest operand end (last_operand text t end found)
conjunction_end _ _ _ (next_operand op a b t text middle behind rest left reads right is) end found =
    end_by_joint op a b t text middle behind rest (λ (other : List ℕ). λ (c : Conjunction text a other). conjunction_end text a middle left other c)
    reads right is end (last_operand text t end found)

end_by_conjunction : (text : List ℕ) (t : Tree) (rest : List ℕ) → Conjunction text t rest → (end : List ℕ) → Conjunction text t end ⊎ LastConjunction text t end → end ≡ rest
end_by_conjunction text t rest read end (inl found) = conjunction_end text t rest read end found
end_by_conjunction text t rest read end (inr (op, a, b, middle, behind, left, reads, right, is)) = absurd (conjunction_no_union text t rest read op a b is)

end_by_or : (op : OrOperator) (a b : Tree) (text middle behind rest : List ℕ) → ((other : List ℕ) → Expression text a other → other ≡ middle)
    → ReadsOr op middle behind → Conjunction behind b rest → (end : List ℕ) → Conjunction text (union op a b) end ⊎ LastConjunction text (union op a b) end → end ≡ rest
end_by_or op a b text middle behind rest known reads right end (inl found) = absurd (conjunction_no_union text (union op a b) end found op a b refl)
end_by_or op a b text middle behind rest known reads right end (inr (other, c, d, place, next, before, joins, operand, same)) =
    let parts = same_union op other a b c d same in
    let places : place ≡ middle = known place (subst (λ (x : Tree). Expression text x place) (sym parts.0) before) in
    let nexts : next ≡ behind = (one_or op other middle behind next reads (subst (λ (x : List ℕ). ReadsOr other x next) places joins)).1 in
    conjunction_end behind b rest right end (subst (λ (x : List ℕ). Conjunction x b end) nexts (subst (λ (x : Tree). Conjunction next x end) (sym parts.1) operand))

pub expression_end : (text : List ℕ) (t : Tree) (rest : List ℕ) → Expression text t rest → (end : List ℕ) → Expression text t end → end ≡ rest
expression_end _ _ _ (first_conjunction t text rest read) end found = end_by_conjunction text t rest read end (last_conjunction text t end found)
expression_end _ _ _ (next_conjunction op a b text middle behind rest left reads right) end found =
    end_by_or op a b text middle behind rest (λ (other : List ℕ). λ (e : Expression text a other). expression_end text a middle left other e)
    reads right end (last_conjunction text (union op a b) end found)

-- ---- other blanks in front

not_moves : (op : NotOperator) (text behind other : List ℕ) → after_blanks other ≡ after_blanks text → ReadsNot op text behind → ReadsNot op other behind
not_moves LiteralNot text behind other same reads = (same ∙ reads.0, reads.1)
not_moves Exclamation text behind other same reads = same ∙ reads

unary_moves : (text : List ℕ) (t : Tree) (rest : List ℕ) → Unary text t rest → (other : List ℕ) → after_blanks other ≡ after_blanks text → Unary other t rest
unary_moves _ _ _ (a_negation op t text behind rest reads operand) other same = a_negation op t other behind rest (not_moves op text behind other same reads) operand
unary_moves _ _ _ (a_group t text inside behind rest opens read closes) other same = a_group t other inside behind rest (same ∙ opens) read closes
unary_moves _ _ _ (a_predicate it text rest reads) other same = a_predicate it other rest record {
  named = reads.named;
  opened = reads.opened;
  read = reads.read;
  name = same ∙ reads.name;
  opens = reads.opens;
  argument = reads.argument;
  closes = reads.closes;
}

pub conjunction_moves : (text : List ℕ) (t : Tree) (rest : List ℕ) → Conjunction text t rest → (other : List ℕ) → after_blanks other ≡ after_blanks text → Conjunction other t rest
conjunction_moves _ _ _ (first_operand t text rest operand) other same = first_operand t other rest (unary_moves text t rest operand other same)
conjunction_moves _ _ _ (next_operand op a b t text middle behind rest left reads right is) other same =
    next_operand op a b t other middle behind rest (conjunction_moves text a middle left other same) reads right is

pub expression_moves : (text : List ℕ) (t : Tree) (rest : List ℕ) → Expression text t rest → (other : List ℕ) → after_blanks other ≡ after_blanks text → Expression other t rest
expression_moves _ _ _ (first_conjunction t text rest read) other same = first_conjunction t other rest (conjunction_moves text t rest read other same)
expression_moves _ _ _ (next_conjunction op a b text middle behind rest left reads right) other same =
    next_conjunction op a b other middle behind rest (expression_moves text a middle left other same) reads right
