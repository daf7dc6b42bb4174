-- What is printed of a filterset is read as that filterset.
use Rattle.std.proofs.Common.{◌≡◌, ℕ, List, [], ◌∷◌, ◌++◌, refl, sym, ap, ◌∙◌, subst}
use Rattle.std.specs.Prelude.{codes}
use Rattle.std.proofs.lemmas.List.{append-nil, append_assoc}
use Rattle.nextest_filtering_ast.specs.declared.operators.NotOperator.{NotOperator}
use Rattle.nextest_filtering_ast.specs.declared.operators.NotOperator.TheVariants.{LiteralNot, Exclamation}
use Rattle.nextest_filtering_ast.specs.declared.operators.OrOperator.{OrOperator}
use Rattle.nextest_filtering_ast.specs.declared.operators.OrOperator.TheVariants.{LiteralOr, Pipe, Plus}
use Rattle.nextest_filtering_ast.specs.declared.operators.AndOperator.TheVariants.{LiteralAnd, Ampersand}
use Rattle.nextest_filtering_ast.specs.declared.operators.DifferenceOperator.TheVariants.{Minus}
use Rattle.nextest_filtering_ast.specs.declared.operators.Joint.{Joint}
use Rattle.nextest_filtering_ast.specs.declared.operators.Joint.TheVariants.{And}
use Rattle.nextest_filtering_ast.specs.declared.operators.Joint.TheVariants as joint
use Rattle.nextest_filtering_ast.specs.Tree.{Tree, negation, union, parens, set}
use Rattle.nextest_filtering_ast.specs.Words.{or_word, and_word, minus_word}
use Rattle.nextest_filtering_ast.specs.Grammar.{joint_of, ReadsNot, ReadsOr, ReadsJoint, Unary, a_negation, a_group, a_predicate, Conjunction, first_operand, next_operand, Expression, first_conjunction, next_conjunction, IsFilterset}
use Rattle.nextest_filtering_ast.specs.Printing.{not_front, between, text_of_tree}
use Rattle.nextest_filtering_syntax.specs.Laws.{HasNoSignedBare, IsWellFormed}
use Rattle.nextest_filtering_syntax.proofs.Texts.{leaf_prints}

-- ---- a space before a part

space_before_not : (op : NotOperator) (text rest : List ℕ) → ReadsNot op text rest → ReadsNot op (32 ∷ text) rest
space_before_not LiteralNot text rest reads = reads
space_before_not Exclamation text rest reads = reads

space_before_unary : (text : List ℕ) (t : Tree) (rest : List ℕ) → Unary text t rest → Unary (32 ∷ text) t rest
space_before_unary _ _ _ (a_negation op t text behind rest reads operand) = a_negation op t (32 ∷ text) behind rest (space_before_not op text behind reads) operand
space_before_unary _ _ _ (a_group t text inside behind rest opens read closes) = a_group t (32 ∷ text) inside behind rest opens read closes
space_before_unary _ _ _ (a_predicate it text rest reads) = a_predicate it (32 ∷ text) rest record {
  named = reads.named;
  opened = reads.opened;
  read = reads.read;
  name = reads.name;
  opens = reads.opens;
  argument = reads.argument;
  closes = reads.closes;
}

space_before_conjunction : (text : List ℕ) (t : Tree) (rest : List ℕ) → Conjunction text t rest → Conjunction (32 ∷ text) t rest
space_before_conjunction _ _ _ (first_operand t text rest operand) = first_operand t (32 ∷ text) rest (space_before_unary text t rest operand)
space_before_conjunction _ _ _ (next_operand op a b t text middle behind rest left reads right is) =
    next_operand op a b t (32 ∷ text) middle behind rest (space_before_conjunction text a middle left) reads right is

-- ---- operators

-- how an intersection or a difference is written
abbrev pub joint_word : Joint → List ℕ
joint_word (And op) = and_word op
joint_word (joint.Minus op) = minus_word op

pub printed_joined : (op : Joint) (a b : Tree) → text_of_tree (joint_of op a b) ≡ between (text_of_tree a) (joint_word op) (text_of_tree b)
printed_joined (And op) a b = refl
printed_joined (joint.Minus op) a b = refl

unsigned_left : (op : Joint) (a b : Tree) → HasNoSignedBare (joint_of op a b) → HasNoSignedBare a
unsigned_left (And op) a b unsigned = unsigned.0
unsigned_left (joint.Minus op) a b unsigned = unsigned.0

unsigned_right : (op : Joint) (a b : Tree) → HasNoSignedBare (joint_of op a b) → HasNoSignedBare b
unsigned_right (And op) a b unsigned = unsigned.1
unsigned_right (joint.Minus op) a b unsigned = unsigned.1

pub between_parts : (left word right rest : List ℕ) → between left word right ++ rest ≡ left ++ 32 ∷ (word ++ 32 ∷ (right ++ rest))
between_parts left word right rest =
    append_assoc (left ++ codes " " ++ word ++ codes " ") right rest ∙ append_assoc (left ++ codes " " ++ word) (codes " ") (right ++ rest)
    ∙ append_assoc (left ++ codes " ") word (32 ∷ (right ++ rest)) ∙ append_assoc left (codes " ") (word ++ 32 ∷ (right ++ rest))

not_stands : (op : NotOperator) (t : Tree) (rest : List ℕ) → Unary (text_of_tree t ++ rest) t rest → Unary ((not_front op ++ text_of_tree t) ++ rest) (negation op t) rest
not_stands LiteralNot t rest operand =
    a_negation LiteralNot t ((not_front LiteralNot ++ text_of_tree t) ++ rest) (32 ∷ (text_of_tree t ++ rest)) rest (refl, refl)
    (space_before_unary (text_of_tree t ++ rest) t rest operand)
not_stands Exclamation t rest operand = a_negation Exclamation t ((not_front Exclamation ++ text_of_tree t) ++ rest) (text_of_tree t ++ rest) rest refl operand

pub or_stands : (op : OrOperator) (rest : List ℕ) → ReadsOr op (32 ∷ (or_word op ++ 32 ∷ rest)) (32 ∷ rest)
or_stands LiteralOr rest = (refl, refl)
or_stands Pipe rest = refl
or_stands Plus rest = refl

pub joint_stands : (op : Joint) (rest : List ℕ) → ReadsJoint op (32 ∷ (joint_word op ++ 32 ∷ rest)) (32 ∷ rest)
joint_stands (And LiteralAnd) rest = (refl, refl)
joint_stands (And Ampersand) rest = refl
joint_stands (joint.Minus Minus) rest = refl

pub group_parts : (inside rest : List ℕ) → (codes "(" ++ inside ++ codes ")") ++ rest ≡ 40 ∷ (inside ++ 41 ∷ rest)
group_parts inside rest = ap (λ (x : List ℕ). 40 ∷ x) (append_assoc inside (codes ")") rest)

-- ---- trees

mutual
  unary_prints : (text : List ℕ) (t : Tree) (end : List ℕ) → Unary text t end → HasNoSignedBare t → (rest : List ℕ) → Unary (text_of_tree t ++ rest) t rest
  unary_prints _ _ _ (a_negation op t text behind end reads operand) unsigned rest = not_stands op t rest (unary_prints behind t end operand unsigned rest)
  unary_prints _ _ _ (a_group t text inside behind end opens read closes) unsigned rest =
      subst (λ (x : List ℕ). Unary x (parens t) rest) (sym (group_parts (text_of_tree t) rest))
      (a_group t (40 ∷ (text_of_tree t ++ 41 ∷ rest)) (text_of_tree t ++ 41 ∷ rest) (41 ∷ rest) rest refl (expression_prints inside t behind read unsigned (41 ∷ rest)) refl)
  unary_prints _ _ _ (a_predicate it text end reads) unsigned rest = a_predicate it (text_of_tree (set it) ++ rest) rest (leaf_prints it text end rest unsigned reads)

  pub conjunction_prints : (text : List ℕ) (t : Tree) (end : List ℕ) → Conjunction text t end → HasNoSignedBare t → (rest : List ℕ) → Conjunction (text_of_tree t ++ rest) t rest
  conjunction_prints _ _ _ (first_operand t text end operand) unsigned rest = first_operand t (text_of_tree t ++ rest) rest (unary_prints text t end operand unsigned rest)
  conjunction_prints _ _ _ (next_operand op a b t text middle behind end left reads right is) unsigned rest =
      let both = subst HasNoSignedBare is unsigned in
      let ahead = 32 ∷ (text_of_tree b ++ rest) in
      let shown = ap (λ (x : List ℕ). x ++ rest) (ap text_of_tree is ∙ printed_joined op a b) ∙ between_parts (text_of_tree a) (joint_word op) (text_of_tree b) rest in
      subst (λ (x : List ℕ). Conjunction x t rest) (sym shown)
      (next_operand op a b t (text_of_tree a ++ 32 ∷ (joint_word op ++ ahead)) (32 ∷ (joint_word op ++ ahead)) ahead rest
      (conjunction_prints text a middle left (unsigned_left op a b both) (32 ∷ (joint_word op ++ ahead)))
      (joint_stands op (text_of_tree b ++ rest))
      (space_before_unary (text_of_tree b ++ rest) b rest (unary_prints behind b end right (unsigned_right op a b both) rest)) is)

  pub expression_prints : (text : List ℕ) (t : Tree) (end : List ℕ) → Expression text t end → HasNoSignedBare t → (rest : List ℕ) → Expression (text_of_tree t ++ rest) t rest
  expression_prints _ _ _ (first_conjunction t text end read) unsigned rest = first_conjunction t (text_of_tree t ++ rest) rest (conjunction_prints text t end read unsigned rest)
  expression_prints _ _ _ (next_conjunction op a b text middle behind end left reads right) unsigned rest =
      let ahead = 32 ∷ (text_of_tree b ++ rest) in
      subst (λ (x : List ℕ). Expression x (union op a b) rest) (sym (between_parts (text_of_tree a) (or_word op) (text_of_tree b) rest))
      (next_conjunction op a b (text_of_tree a ++ 32 ∷ (or_word op ++ ahead)) (32 ∷ (or_word op ++ ahead)) ahead rest
      (expression_prints text a middle left unsigned.0 (32 ∷ (or_word op ++ ahead)))
      (or_stands op (text_of_tree b ++ rest))
      (space_before_conjunction (text_of_tree b ++ rest) b rest (conjunction_prints behind b end right unsigned.1 rest)))

pub printed_reads_back : (tree : Tree) → IsWellFormed tree → IsFilterset (text_of_tree tree) tree
printed_reads_back tree formed = record {
  rest = [];
  read = subst (λ (x : List ℕ). Expression x tree []) (append-nil (text_of_tree tree))
      (expression_prints formed.text tree formed.written.rest formed.written.read formed.unsigned []);
  blank = refl;
}
