-- A filterset stays what it is where more text follows; so it may stand in parentheses, with `and
-- default()` behind it.
use Rattle.std.proofs.Common.{◌≡◌, inl, inr, ℕ, Bool, true, false, cond, List, [], ◌∷◌, ◌++◌, codes, refl, ap, ◌∙◌, append_assoc}
use Rattle.std.specs.Prelude.{◌≢◌}
use Rattle.nextest_filtering_escapes.specs.Text.{is_blank}
use Rattle.nextest_filtering_ast.specs.Grammar.{Behind, Conjunction, Expression, IsFilterset, ReadsArgument, ReadsBare, ReadsJoint, ReadsLeaf, ReadsMatcher, ReadsNot, ReadsOr, ReadsSigned, Unary, a_group, a_negation, a_predicate, ends_word, first_conjunction, first_operand, leaf_word, next_conjunction, next_operand, after_blanks}
use Rattle.nextest_filtering_ast.specs.Tree.{Comparison, Leaf, Matcher, Subject, Tree, binary_id, binary_name, built_for, contains, default_filter, dependencies, dependents, equal, everything, glob, group, intersection, kind, matching, nothing, package_name, parens, regex, set, test_name}
use Rattle.nextest_filtering_ast.specs.declared.operators.AndOperator.TheVariants as and_as
use Rattle.nextest_filtering_ast.specs.declared.operators.DifferenceOperator.TheVariants as difference_as
use Rattle.nextest_filtering_ast.specs.declared.operators.Joint.{Joint}
use Rattle.nextest_filtering_ast.specs.declared.operators.Joint.TheVariants as joint
use Rattle.nextest_filtering_ast.specs.declared.operators.NotOperator.{NotOperator}
use Rattle.nextest_filtering_ast.specs.declared.operators.NotOperator.TheVariants as not_as
use Rattle.nextest_filtering_ast.specs.declared.operators.OrOperator.{OrOperator}
use Rattle.nextest_filtering_ast.specs.declared.operators.OrOperator.TheVariants as or_as
use Rattle.test_runner_core_planning.specs.Laws.{and_default}

-- ---- blanks

-- a text that isn't all blank begins as before
unblanked_more : (text more : List ℕ) (byte : ℕ) (rest : List ℕ) → after_blanks text ≡ byte ∷ rest → after_blanks (text ++ more) ≡ byte ∷ rest ++ more
unblanked_more [] more byte rest e = absurd (let h = e in cc)
unblanked_more (x ∷ xs) more byte rest e = by_blank (is_blank x) (λ f. unblanked_more xs more byte rest f) e
  where
    by_blank : (blank : Bool) → (after_blanks xs ≡ byte ∷ rest → after_blanks (xs ++ more) ≡ byte ∷ rest ++ more)
        → cond blank (after_blanks xs) (x ∷ xs) ≡ byte ∷ rest → cond blank (after_blanks (xs ++ more)) (x ∷ xs ++ more) ≡ byte ∷ rest ++ more
    by_blank true further f = further f
    by_blank false further f = ap (λ (t : List ℕ). t ++ more) f

-- one that is all blank begins as what follows
unblanked_none : (text more : List ℕ) → after_blanks text ≡ [] → after_blanks (text ++ more) ≡ after_blanks more
unblanked_none [] more e = refl
unblanked_none (x ∷ xs) more e = by_blank (is_blank x) (unblanked_none xs more) e
  where
    by_blank : (blank : Bool) → (after_blanks xs ≡ [] → after_blanks (xs ++ more) ≡ after_blanks more) → cond blank (after_blanks xs) (x ∷ xs) ≡ []
        → cond blank (after_blanks (xs ++ more)) (x ∷ xs ++ more) ≡ after_blanks more
    by_blank true further f = further f
    by_blank false further f = absurd (let h = f in cc)

-- what stands behind blanks still does
behind_more : (more front text rest : List ℕ) → front ≢ [] → Behind front text rest → Behind front (text ++ more) (rest ++ more)
behind_more more [] text rest some e = absurd (some refl)
behind_more more (byte ∷ front) text rest some e = unblanked_more text more byte (front ++ rest) e ∙ ap (λ (t : List ℕ). byte ∷ t) (append_assoc front rest more)

-- ---- the parts of a filterset

never_empty : (byte : ℕ) (bytes : List ℕ) → byte ∷ bytes ≢ []
never_empty byte bytes e = absurd (let h = e in cc)

-- a word still ends
word_more : (more rest : List ℕ) → ends_word rest ≡ true → ends_word (rest ++ more) ≡ true
word_more more [] e = absurd (let h = e in cc)
word_more more (byte ∷ rest) e = e

not_more : (more : List ℕ) (op : NotOperator) (text rest : List ℕ) → ReadsNot op text rest → ReadsNot op (text ++ more) (rest ++ more)
not_more more not_as.LiteralNot text rest (reads, ends) = (behind_more more (codes "not") text rest (never_empty 110 (codes "ot")) reads, word_more more rest ends)
not_more more not_as.Exclamation text rest reads = behind_more more (codes "!") text rest (never_empty 33 []) reads

or_more : (more : List ℕ) (op : OrOperator) (text rest : List ℕ) → ReadsOr op text rest → ReadsOr op (text ++ more) (rest ++ more)
or_more more or_as.LiteralOr text rest (reads, ends) = (behind_more more (codes "or") text rest (never_empty 111 (codes "r")) reads, word_more more rest ends)
or_more more or_as.Pipe text rest reads = behind_more more (codes "|") text rest (never_empty 124 []) reads
or_more more or_as.Plus text rest reads = behind_more more (codes "+") text rest (never_empty 43 []) reads

joint_more : (more : List ℕ) (op : Joint) (text rest : List ℕ) → ReadsJoint op text rest → ReadsJoint op (text ++ more) (rest ++ more)
joint_more more (joint.And and_as.LiteralAnd) text rest (reads, ends) = (behind_more more (codes "and") text rest (never_empty 97 (codes "nd")) reads, word_more more rest ends)
joint_more more (joint.And and_as.Ampersand) text rest reads = behind_more more (codes "&") text rest (never_empty 38 []) reads
joint_more more (joint.Minus difference_as.Minus) text rest reads = behind_more more (codes "-") text rest (never_empty 45 []) reads

signed_more : (more : List ℕ) (comparison : Comparison) (text argument rest : List ℕ) → ReadsSigned comparison text argument rest → ReadsSigned comparison text (argument ++ more) (rest ++ more)
signed_more more equal text argument rest (raw, behind, sign, reads, spells) =
    (raw, behind ++ more, behind_more more (codes "=") argument behind (never_empty 61 []) sign, behind_more more raw behind rest spells.some reads, spells)
signed_more more contains text argument rest (raw, behind, sign, reads, spells) =
    (raw, behind ++ more, behind_more more (codes "~") argument behind (never_empty 126 []) sign, behind_more more raw behind rest spells.some reads, spells)
signed_more more glob text argument rest (raw, behind, sign, reads, spells) =
    (raw, behind ++ more, behind_more more (codes "#") argument behind (never_empty 35 []) sign, behind_more more raw behind rest spells.some reads, spells)
signed_more more regex text argument rest (raw, reads, is) = (raw, behind_more more (47 ∷ raw ++ 47 ∷ []) argument rest (never_empty 47 (raw ++ 47 ∷ [])) reads, is)

bare_more : (more text argument rest : List ℕ) → ReadsBare text argument rest → ReadsBare text (argument ++ more) (rest ++ more)
bare_more more text argument rest it = record { raw = it.raw; place = behind_more more it.raw argument rest it.spelled.some it.place; spelled = it.spelled; unsigned = it.unsigned }

matcher_more : (more : List ℕ) (subject : Subject) (m : Matcher) (argument rest : List ℕ) → ReadsMatcher subject m argument rest → ReadsMatcher subject m (argument ++ more) (rest ++ more)
matcher_more more subject m argument rest (compares, inl (explicit, reads)) = (compares, inl (explicit, signed_more more m.comparison m.text argument rest reads))
matcher_more more subject m argument rest (compares, inr (implicit, is, reads)) = (compares, inr (implicit, is, bare_more more m.text argument rest reads))

argument_more : (more : List ℕ) (it : Leaf) (argument rest : List ℕ) → ReadsArgument it argument rest → ReadsArgument it (argument ++ more) (rest ++ more)
argument_more more (matching subject m) argument rest reads = matcher_more more subject m argument rest reads
argument_more more (built_for platform) argument rest (raw, reads, spells) = (raw, behind_more more raw argument rest spells.some reads, spells)
argument_more more default_filter argument rest e = ap (λ (t : List ℕ). t ++ more) e
argument_more more everything argument rest e = ap (λ (t : List ℕ). t ++ more) e
argument_more more nothing argument rest e = ap (λ (t : List ℕ). t ++ more) e

word_some : (it : Leaf) → leaf_word it ≢ []
word_some (matching package_name m) e = absurd (let h = e in cc)
word_some (matching dependencies m) e = absurd (let h = e in cc)
word_some (matching dependents m) e = absurd (let h = e in cc)
word_some (matching kind m) e = absurd (let h = e in cc)
word_some (matching binary_name m) e = absurd (let h = e in cc)
word_some (matching binary_id m) e = absurd (let h = e in cc)
word_some (matching test_name m) e = absurd (let h = e in cc)
word_some (matching group m) e = absurd (let h = e in cc)
word_some (built_for platform) e = absurd (let h = e in cc)
word_some default_filter e = absurd (let h = e in cc)
word_some everything e = absurd (let h = e in cc)
word_some nothing e = absurd (let h = e in cc)

leaf_more : (more : List ℕ) (it : Leaf) (text rest : List ℕ) → ReadsLeaf it text rest → ReadsLeaf it (text ++ more) (rest ++ more)
leaf_more more it text rest reads = record {
  named = reads.named ++ more;
  opened = reads.opened ++ more;
  read = reads.read ++ more;
  name = behind_more more (leaf_word it) text reads.named (word_some it) reads.name;
  opens = behind_more more (codes "(") reads.named reads.opened (never_empty 40 []) reads.opens;
  argument = argument_more more it reads.opened reads.read reads.argument;
  closes = behind_more more (codes ")") reads.read rest (never_empty 41 []) reads.closes;
}

mutual
  unary_more : (more text : List ℕ) (t : Tree) (rest : List ℕ) → Unary text t rest → Unary (text ++ more) t (rest ++ more)
  unary_more more _ _ _ (a_negation op t text behind rest reads operand) =
      a_negation op t (text ++ more) (behind ++ more) (rest ++ more) (not_more more op text behind reads) (unary_more more behind t rest operand)
  unary_more more _ _ _ (a_group t text inside behind rest opens read closes) =
      a_group t (text ++ more) (inside ++ more) (behind ++ more) (rest ++ more) (behind_more more (codes "(") text inside (never_empty 40 []) opens) (expression_more more inside t behind read)
      (behind_more more (codes ")") behind rest (never_empty 41 []) closes)
  unary_more more _ _ _ (a_predicate it text rest reads) = a_predicate it (text ++ more) (rest ++ more) (leaf_more more it text rest reads)

  conjunction_more : (more text : List ℕ) (t : Tree) (rest : List ℕ) → Conjunction text t rest → Conjunction (text ++ more) t (rest ++ more)
  conjunction_more more _ _ _ (first_operand t text rest read) = first_operand t (text ++ more) (rest ++ more) (unary_more more text t rest read)
  conjunction_more more _ _ _ (next_operand op a b t text middle behind rest first reads operand is) =
      next_operand op a b t (text ++ more) (middle ++ more) (behind ++ more) (rest ++ more) (conjunction_more more text a middle first) (joint_more more op middle behind reads) (unary_more more behind b rest operand) is

  expression_more : (more text : List ℕ) (t : Tree) (rest : List ℕ) → Expression text t rest → Expression (text ++ more) t (rest ++ more)
  expression_more more _ _ _ (first_conjunction t text rest read) = first_conjunction t (text ++ more) (rest ++ more) (conjunction_more more text t rest read)
  expression_more more _ _ _ (next_conjunction op a b text middle behind rest first reads second) =
      next_conjunction op a b (text ++ more) (middle ++ more) (behind ++ more) (rest ++ more) (expression_more more text a middle first) (or_more more op middle behind reads) (conjunction_more more behind b rest second)

-- ---- a filterset and the default filter

-- both of them
abbrev pub with_default : Tree → Tree
with_default t = intersection and_as.LiteralAnd (parens t) (set default_filter)

pub reads_with_default : (text : List ℕ) (t : Tree) → IsFilterset text t → IsFilterset (and_default text) (with_default t)
reads_with_default text t it =
    let more = codes ") and default()" in
    let grouped : Unary (and_default text) (parens t) (codes " and default()") =
    a_group t (and_default text) (text ++ more) (it.rest ++ more) (codes " and default()") refl (expression_more more text t it.rest it.read) (unblanked_none it.rest more it.blank) in
    let default : Unary (codes " default()") (set default_filter) [] =
    a_predicate default_filter (codes " default()") [] (record { named = codes "()"; opened = codes ")"; read = codes ")"; name = refl; opens = refl; argument = refl; closes = refl }) in
    record {
      rest = [];
      read = first_conjunction (with_default t) (and_default text) []
          (next_operand (joint.And and_as.LiteralAnd) (parens t) (set default_filter) (with_default t) (and_default text) (codes " and default()") (codes " default()") []
          (first_operand (parens t) (and_default text) (codes " and default()") grouped) (refl, refl) default refl);
      blank = refl;
    }
