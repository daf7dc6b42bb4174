-- Where what is printed of a filterset is read as it, no text that was written without its sign
-- begins with one.
use Rattle.std.proofs.Common.{◌≡◌, refl, ℕ, eqb, Bool, false, List, [], ◌∷◌, ◌++◌, sym, ap, subst, ◌∙◌, inl, inr}
use Rattle.std.specs.Prelude.{◌||◌, ◌↔◌, codes}
use Rattle.std.proofs.lemmas.Bool.{or_from, false≢true, ne_eqb}
use Rattle.std.proofs.lemmas.List.{append-nil}
use Rattle.nextest_filtering_escapes.specs.Printing.{text_with_escapes, escaped_behind}
use Rattle.nextest_filtering_ast.specs.declared.operators.NotOperator.{NotOperator}
use Rattle.nextest_filtering_ast.specs.declared.operators.NotOperator.TheVariants.{LiteralNot, Exclamation}
use Rattle.nextest_filtering_ast.specs.declared.operators.Joint.{Joint}
use Rattle.nextest_filtering_ast.specs.declared.operators.Joint.TheVariants.{And}
use Rattle.nextest_filtering_ast.specs.declared.operators.Joint.TheVariants as joint
use Rattle.nextest_filtering_ast.specs.Tree.{Comparison, equal, contains, glob, regex, Matcher, Subject, Leaf, matching, built_for, default_filter, everything, nothing, Tree}
use Rattle.nextest_filtering_ast.specs.Words.{or_word}
use Rattle.nextest_filtering_ast.specs.Grammar.{after_blanks, ReadsBare, ReadsMatcher, ReadsArgument, leaf_word, ReadsLeaf, joint_of, ReadsNot, ReadsOr, ReadsJoint, Unary, a_negation, a_group, a_predicate, Conjunction, first_operand, next_operand, Expression, first_conjunction, next_conjunction, IsFilterset}
use Rattle.nextest_filtering_ast.specs.Printing.{printed_as, printed_argument, printed_leaf, not_front, text_of_tree}
use Rattle.nextest_filtering_arguments.proofs.Fronts.{same_behind}
use Rattle.nextest_filtering_syntax.proofs.Single.{one_joint, one_or}
use Rattle.nextest_filtering_syntax.specs.Laws.{is_text_sign, IsUnsigned, HasUnsignedText, HasNoSignedBare, IsWellFormed}
use Rattle.nextest_filtering_syntax.proofs.Texts.{printed_bare, word_stands, parts_of}
use Rattle.nextest_filtering_syntax.proofs.Arguments.{bare_apart, sign}
use Rattle.nextest_filtering_syntax.proofs.Printed.{joint_word, printed_joined, between_parts, or_stands, joint_stands, group_parts, conjunction_prints, expression_prints, printed_reads_back}
use Rattle.nextest_filtering_syntax.proofs.Ends.{conjunction_end, expression_end, conjunction_moves, expression_moves}

-- ---- a text

-- where a text begins with a sign, so does what is printed of it
first_shown : (comparison : Comparison) (more rest : List ℕ) → (regex ≡ comparison → ⊥) → (inside : List ℕ) × (after_blanks (text_with_escapes (sign comparison ∷ more) ++ rest) ≡ sign comparison ∷ inside)
first_shown equal [] rest other = (rest, refl)
first_shown equal (next ∷ more) rest other = (escaped_behind (next ∷ more) ++ rest, refl)
first_shown contains [] rest other = (rest, refl)
first_shown contains (next ∷ more) rest other = (escaped_behind (next ∷ more) ++ rest, refl)
first_shown glob [] rest other = (rest, refl)
first_shown glob (next ∷ more) rest other = (escaped_behind (next ∷ more) ++ rest, refl)
first_shown regex more rest other = absurd (other refl)

bare_not : (comparison : Comparison) (text rest end more : List ℕ) → (regex ≡ comparison → ⊥) → ReadsBare text (text_with_escapes text ++ rest) end → text ≡ sign comparison ∷ more → ⊥
bare_not comparison text rest end more other reads is =
    let shown = first_shown comparison more rest other in
    bare_apart comparison reads.raw (text_with_escapes text ++ rest) end shown.0 reads.place reads.spelled.some reads.unsigned
    (ap (λ (l : List ℕ). after_blanks (text_with_escapes l ++ rest)) is ∙ shown.1)

bare_alone : (text rest end : List ℕ) → ReadsBare text (text_with_escapes text ++ rest) end → (first : ℕ) (more : List ℕ) → text ≡ first ∷ more → is_text_sign first ≡ false
bare_alone text rest end reads first more is =
    let at : (byte : ℕ) → first ≡ byte → text ≡ byte ∷ more = λ byte same. is ∙ ap (λ (b : ℕ). b ∷ more) same in
    or_from (eqb first 61 || eqb first 126) (eqb first 35)
    (or_from (eqb first 61) (eqb first 126) (ne_eqb first 61 (λ same. bare_not equal text rest end more (λ e. cc) reads (at 61 same)))
    (ne_eqb first 126 (λ same. bare_not contains text rest end more (λ e. cc) reads (at 126 same))))
    (ne_eqb first 35 (λ same. bare_not glob text rest end more (λ e. cc) reads (at 35 same)))

-- ---- a predicate

matcher_unsigned : (subject : Subject) (m : Matcher) (rest end : List ℕ) → ReadsMatcher subject m (printed_as m.comparison m.implicit m.text ++ rest) end → IsUnsigned m
matcher_unsigned subject m rest end (compares, inl (signed, reads)) implicit = absurd (false≢true (sym signed ∙ implicit))
matcher_unsigned subject m rest end (compares, inr (is, kind_is, reads)) implicit =
    let shown : printed_as m.comparison m.implicit m.text ≡ text_with_escapes m.text = ap (λ (b : Bool). printed_as m.comparison b m.text) is ∙ printed_bare subject m.comparison m.text kind_is in
    bare_alone m.text rest end (subst (λ (l : List ℕ). ReadsBare m.text (l ++ rest) end) shown reads)

argument_unsigned : (it : Leaf) (rest end : List ℕ) → ReadsArgument it (printed_argument it ++ rest) end → HasUnsignedText it
argument_unsigned (matching subject m) rest end reads = matcher_unsigned subject m rest end reads
argument_unsigned (built_for platform) rest end reads = tt
argument_unsigned default_filter rest end reads = tt
argument_unsigned everything rest end reads = tt
argument_unsigned nothing rest end reads = tt

leaf_unsigned : (it : Leaf) (text end rest : List ℕ) → ReadsLeaf it text end → after_blanks text ≡ after_blanks (printed_leaf it ++ rest) → HasUnsignedText it
leaf_unsigned it text end rest reads same =
    let argument = printed_argument it ++ 41 ∷ rest in
    let shown = same ∙ ap after_blanks (parts_of (leaf_word it) (printed_argument it) rest) ∙ word_stands it (40 ∷ argument) in
    let named : reads.named ≡ 40 ∷ argument = same_behind (leaf_word it) (after_blanks text) reads.named (40 ∷ argument) reads.name shown in
    let opened : reads.opened ≡ argument = same_behind (codes "(") (after_blanks reads.named) reads.opened argument reads.opens (ap after_blanks named) in
    argument_unsigned it (41 ∷ rest) reads.read (subst (λ (l : List ℕ). ReadsArgument it l reads.read) opened reads.argument)

-- ---- operators

behind_not : (op : NotOperator) (shown text behind rest : List ℕ) → ReadsNot op text behind → after_blanks text ≡ after_blanks ((not_front op ++ shown) ++ rest)
    → after_blanks behind ≡ after_blanks (shown ++ rest)
behind_not LiteralNot shown text behind rest reads same = ap after_blanks (same_behind (codes "not") (after_blanks text) behind (32 ∷ (shown ++ rest)) reads.0 same)
behind_not Exclamation shown text behind rest reads same = ap after_blanks (same_behind (codes "!") (after_blanks text) behind (shown ++ rest) reads same)

both_unsigned : (op : Joint) (a b : Tree) → HasNoSignedBare a → HasNoSignedBare b → HasNoSignedBare (joint_of op a b)
both_unsigned (And op) a b left right = (left, right)
both_unsigned (joint.Minus op) a b left right = (left, right)

-- ---- trees

mutual
  unary_unsigned : (text : List ℕ) (t : Tree) (end : List ℕ) → Unary text t end → (rest : List ℕ) → after_blanks text ≡ after_blanks (text_of_tree t ++ rest) → HasNoSignedBare t
  unary_unsigned _ _ _ (a_negation op t text behind end reads operand) rest same =
      unary_unsigned behind t end operand rest (behind_not op (text_of_tree t) text behind rest reads same)
  unary_unsigned _ _ _ (a_group t text inside behind end opens read closes) rest same =
      expression_unsigned inside t behind read (41 ∷ rest)
      (ap after_blanks (same_behind (codes "(") (after_blanks text) inside (text_of_tree t ++ 41 ∷ rest) opens (same ∙ ap after_blanks (group_parts (text_of_tree t) rest))))
  unary_unsigned _ _ _ (a_predicate it text end reads) rest same = leaf_unsigned it text end rest reads same

  conjunction_unsigned : (text : List ℕ) (t : Tree) (end : List ℕ) → Conjunction text t end → (rest : List ℕ) → after_blanks text ≡ after_blanks (text_of_tree t ++ rest) → HasNoSignedBare t
  conjunction_unsigned _ _ _ (first_operand t text end operand) rest same = unary_unsigned text t end operand rest same
  conjunction_unsigned _ _ _ (next_operand op a b t text middle behind end left reads right is) rest same =
      let ahead = 32 ∷ (text_of_tree b ++ rest) in
      let next = 32 ∷ (joint_word op ++ ahead) in
      let shown : text_of_tree t ++ rest ≡ text_of_tree a ++ next = ap (λ (x : List ℕ). x ++ rest) (ap text_of_tree is ∙ printed_joined op a b) ∙ between_parts (text_of_tree a) (joint_word op) (text_of_tree b) rest in
      let from : after_blanks text ≡ after_blanks (text_of_tree a ++ next) = same ∙ ap after_blanks shown in
      let before = conjunction_unsigned text a middle left next from in
      let there = conjunction_moves (text_of_tree a ++ next) a next (conjunction_prints text a middle left before next) text from in
      let places : next ≡ middle = conjunction_end text a middle left next there in
      let nexts : ahead ≡ behind = (one_joint op op middle behind ahead reads (subst (λ (x : List ℕ). ReadsJoint op x ahead) places (joint_stands op (text_of_tree b ++ rest)))).1 in
      subst HasNoSignedBare (sym is) (both_unsigned op a b before (unary_unsigned behind b end right rest (ap after_blanks (sym nexts))))

  expression_unsigned : (text : List ℕ) (t : Tree) (end : List ℕ) → Expression text t end → (rest : List ℕ) → after_blanks text ≡ after_blanks (text_of_tree t ++ rest) → HasNoSignedBare t
  expression_unsigned _ _ _ (first_conjunction t text end read) rest same = conjunction_unsigned text t end read rest same
  expression_unsigned _ _ _ (next_conjunction op a b text middle behind end left reads right) rest same =
      let ahead = 32 ∷ (text_of_tree b ++ rest) in
      let next = 32 ∷ (or_word op ++ ahead) in
      let from : after_blanks text ≡ after_blanks (text_of_tree a ++ next) = same ∙ ap after_blanks (between_parts (text_of_tree a) (or_word op) (text_of_tree b) rest) in
      let before = expression_unsigned text a middle left next from in
      let there = expression_moves (text_of_tree a ++ next) a next (expression_prints text a middle left before next) text from in
      let places : next ≡ middle = expression_end text a middle left next there in
      let nexts : ahead ≡ behind = (one_or op op middle behind ahead reads (subst (λ (x : List ℕ). ReadsOr op x ahead) places (or_stands op (text_of_tree b ++ rest)))).1 in
      (before, conjunction_unsigned behind b end right rest (ap after_blanks (sym nexts)))

well_formed_alone : (tree : Tree) → IsFilterset (text_of_tree tree) tree → IsWellFormed tree
well_formed_alone tree written = record {
  text = text_of_tree tree;
  written = written;
  unsigned = expression_unsigned (text_of_tree tree) tree written.rest written.read [] (ap after_blanks (sym (append-nil (text_of_tree tree))));
}

pub reads_back_exactly : (tree : Tree) → IsFilterset (text_of_tree tree) tree ↔ IsWellFormed tree
reads_back_exactly tree = (well_formed_alone tree, printed_reads_back tree)
