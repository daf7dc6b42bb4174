-- Predicates: their names, and their arguments in parentheses.
use Rattle.std.specs.Prelude.{◌≡◌, refl, ℕ, ◌+◌, ◌<◌, ◌≤◌, Bool, true, false, List, [], ◌∷◌, ◌++◌, length, Option, Some, None, Result, Ok, Err, if◌then◌else◌}
use Rattle.std.specs.Result.{IsErrAnd, IfOk}
use Rattle.std.specs.Borrow.{Bor}
use Rattle.std.proofs.Common.{arith, rules, length-append}
use Rattle.std.proofs.Math.Path.{ap, sym, subst, ◌∙◌}
use Rattle.std.proofs.lemmas.Result.{err_from_is_err_and}
use Rattle.nextest_filtering_escapes.specs.Text.{is_blank}
use Rattle.nextest_filtering_syntax.specs.declared.tree.ParsedExpr.{ParsedExpr}
use Rattle.nextest_filtering_ast.specs.Tree.{Leaf, matching, built_for, Tree, set, matcher_of}
use Rattle.nextest_filtering_syntax.specs.Parsed.{tree_of}
use Rattle.nextest_filtering_ast.specs.Grammar.{after_blanks, leaf_word, ReadsLeaf, ReadsArgument, ReadsMatcher}
use Rattle.nextest_filtering_arguments.specs.declared.stop.Stop.{Stop}
use Rattle.nextest_filtering_arguments.specs.declared.stop.Stop.TheVariants.{NoTree, Memory}
use Rattle.nextest_filtering_ast.specs.declared.leaf.SourceSpan.{SourceSpan}
use Rattle.nextest_filtering_arguments.specs.Faults.{IsSuffix, here, Lies}
use Rattle.nextest_filtering_arguments.specs.Matchers.{subject_of}
use Rattle.nextest_filtering_arguments.specs.Matchers.{IsArgument, IsNoArgument, FindsMatcher, ReadsPlatform, platform_itself}
use Rattle.nextest_filtering_arguments.specs.declared.subject.Subject as code
use Rattle.nextest_filtering_arguments.specs.declared.subject.Subject.TheVariants as subject
use Rattle.nextest_filtering_arguments.proofs.Fronts.{same_first, same_rest}
use Rattle.nextest_filtering_arguments.proofs.Spans.{here_lies, suffix_trans, suffix_token, suffix_unblanked, suffix_len}
use Rattle.nextest_filtering_syntax.specs.declared.name.Name.{Name}
use Rattle.nextest_filtering_syntax.specs.declared.name.Name.TheVariants as name
use Rattle.nextest_filtering_syntax.specs.Names.{is_name_byte, goes_on, name_word, ReadsName}
use Rattle.nextest_filtering_syntax.specs.Parsing.{Anywhere, HasName, IsArgued, IsNotArgued, FindsArgument, IsClosed, IsPart, IsNoPart, Finds, ReportsFault, ReadsPredicate}
use Rattle.nextest_filtering_syntax.proofs.Names.{kind_of, kind_named, named_so, has_name, is_matching, is_built_for, is_default, is_everything, is_nothing}

-- how arguments of one sort belong to predicates of one name
pub record Sort {V A : Type 0} (named : Name) (view : V → A) (Reads : A → List ℕ → List ℕ → Type 0) (make : A → Leaf) : Type 0 where
  pub to : (a : A) (text end : List ℕ) → Reads a text end → ReadsArgument (make a) text end
  pub from : (a : A) (text end : List ℕ) → ReadsArgument (make a) text end → Reads a text end
  pub has : (it : Leaf) → HasName named it → (a : A) × (it ≡ make a)
  pub is : (a : A) → HasName named (make a)

pub matchers : (s : code.Subject) → Sort (name.About s) matcher_of (ReadsMatcher (subject_of s)) (matching (subject_of s))
matchers s = record {
  to = λ a text end reads. reads;
  from = λ a text end reads. reads;
  has = λ it known. known;
  is = λ a. (a, refl);
}

pub platforms : Sort name.Platform platform_itself ReadsPlatform built_for
platforms = record {
  to = λ a text end reads. reads;
  from = λ a text end reads. reads;
  has = λ it known. known;
  is = λ a. (a, refl);
}

pub some_is : {V : Type 0} (a b : V) → Some a ≡ Some b → a ≡ b
some_is {V = V} a b e = ap value e where
  value : Option V → V
  value (Some x) = x
  value None = a

pub none_is_not : {V : Type 0} (a : V) → None ≡ Some a → ⊥
none_is_not a e = Prim.search rules

pub argued : {V A : Type 0} {view : V → A} {Reads : A → List ℕ → List ℕ → Type 0} {make : A → Leaf} (named : Name) (text behind rest : List ℕ) (old now new : ℕ) (v : V) (found : Leaf)
    → Sort named view Reads make → found ≡ make (view v) → IsArgument view Reads text old now (Some v) behind → IsClosed behind now new rest → IsArgued named text old new (set found) rest
argued {view = view} {make = make} named text behind rest old now new v found sort is part closed = record {
  more = Prim.omega (arith, part.more, closed.more);
  behind = suffix_trans rest behind text closed.behind part.behind;
  reads = λ same.
      let read = part.reads (Prim.omega (arith, same, part.more, closed.more)) in (
        make (view read.0),
        ap set (is ∙ ap (λ x. make (view x)) (some_is v read.0 read.1)),
        sort.is (view read.0),
        read.2,
        sort.to (view read.0) text read.2 read.3,
        read.4 ∙ closed.reads (Prim.omega (arith, same, part.more, closed.more)),
      );
  only = λ it read end has reads closes.
      let a = sort.has it has in
      let one = part.only a.0 read end (sort.from a.0 text read (subst (λ l. ReadsArgument l text read) a.1 reads)) closes in
      let ends = closed.only end (sym one.2 ∙ closes) in (
        Prim.omega (arith, one.0, ends.0),
        ap set (a.1 ∙ (ap make one.1.2 ∙ (ap (λ x. make (view x)) (sym (some_is v one.1.0 one.1.1)) ∙ sym is))),
        ends.1,
      );
}

pub argued_not : {V A : Type 0} {view : V → A} {Reads : A → List ℕ → List ℕ → Type 0} {make : A → Leaf} (named : Name) (text behind rest : List ℕ) (old now new : ℕ) (tree : Tree)
    → Sort named view Reads make → IsArgument view Reads text old now None behind → IsClosed behind now new rest → IsArgued named text old new tree rest
argued_not named text behind rest old now new tree sort part closed = record {
  more = Prim.omega (arith, part.more, closed.more);
  behind = suffix_trans rest behind text closed.behind part.behind;
  reads = λ same.
      let read = part.reads (Prim.omega (arith, same, part.more, closed.more)) in
      absurd (none_is_not read.0 read.1);
  only = λ it read end has reads closes.
      let a = sort.has it has in
      let one = part.only a.0 read end (sort.from a.0 text read (subst (λ l. ReadsArgument l text read) a.1 reads)) closes in
      absurd (none_is_not one.1.0 one.1.1);
}

pub no_matcher : (s : code.Subject) (text : List ℕ) (old new : ℕ) → IsNoArgument (ReadsMatcher (subject_of s)) text old new → IsNotArgued (name.About s) text old new
no_matcher s text old new none = record {
  more = none.more;
  never = λ it read end has reads closes.
      none.never has.0 read end (subst (λ l. ReadsArgument l text read) has.1 reads) closes;
}

stops_so : (s : code.Subject) (text : List ℕ) (old new : ℕ) (e : Stop) → FindsMatcher (ReadsMatcher (subject_of s)) text old new (Err e) → FindsArgument (name.About s) text old new (Err e)
stops_so s text old new NoTree found = no_matcher s text old new found
stops_so s text old new Memory found = found

pub matcher_passes : (s : code.Subject) (text : List ℕ) (old new : ℕ) (e : Stop) (r : Result (ParsedExpr × Bor (List ℕ)) Stop)
    → FindsMatcher (ReadsMatcher (subject_of s)) text old new (Err e) → IsErrAnd r (λ y. y ≡ e) → FindsArgument (name.About s) text old new r
matcher_passes s text old new e r found is =
    let p = err_from_is_err_and r is in
    subst (FindsArgument (name.About s) text old new) (sym p.1) (subst (λ y. FindsArgument (name.About s) text old new (Err y)) (sym p.2) (stops_so s text old new e found))

-- what stands where no argument belongs isn't followed by the predicate's `)`
pub unexpected : (text ahead part rest : List ℕ) (old now new : ℕ) → ahead ≡ after_blanks text → ((end : List ℕ) → ahead ≡ 41 ∷ end → ⊥) → IsSuffix part ahead → now ≡ old + 1
    → IsClosed part now new rest → IsClosed text old new rest
unexpected text ahead part rest old now new is none within more closed = record {
  more = Prim.omega (arith, more, closed.more);
  behind = suffix_trans rest part text closed.behind (suffix_trans part ahead text within (subst (λ l. IsSuffix l text) (sym is) (suffix_unblanked text)));
  reads = λ same. absurd (Prim.omega (arith, more, closed.more, same));
  only = λ end f. absurd (none end (is ∙ f));
}

-- which predicates have a name
has_kind : (it : Name) (leaf : Leaf) → kind_of leaf ≡ kind_named it → HasName it leaf
has_kind (name.About s) leaf e = is_matching (subject_of s) leaf e
has_kind name.Platform leaf e = is_built_for leaf e
has_kind name.Default leaf e = is_default leaf e
has_kind name.All leaf e = is_everything leaf e
has_kind name.None leaf e = is_nothing leaf e

word_of : (it : Name) (leaf : Leaf) → HasName it leaf → leaf_word leaf ≡ name_word it
word_of (name.About s) leaf has = ap leaf_word has.1
word_of name.Platform leaf has = ap leaf_word has.1
word_of name.Default leaf has = ap leaf_word has
word_of name.All leaf has = ap leaf_word has
word_of name.None leaf has = ap leaf_word has

blank_ends_name : (byte : ℕ) (rest : List ℕ) (b : Bool) → is_blank byte ≡ b → (opened : List ℕ) → (if b then after_blanks rest else byte ∷ rest) ≡ 40 ∷ opened → is_name_byte byte ≡ false
blank_ends_name byte rest true blank opened e = Prim.grind (arith, blank)
blank_ends_name byte rest false blank opened e = Prim.grind (arith, first) where
  first : byte ≡ 40
  first = same_first byte 40 (byte ∷ rest) rest opened refl e

-- a name ends where a `(` follows
pub opens_ends : (text opened : List ℕ) → after_blanks text ≡ 40 ∷ opened → goes_on text ≡ false
opens_ends [] opened e = refl
opens_ends (byte ∷ rest) opened e = blank_ends_name byte rest (is_blank byte) refl opened e

-- which predicate a text may begin with, by the name that it begins with
named_leaf : (it : Name) (text start named : List ℕ) (leaf : Leaf) (end : List ℕ) → start ≡ after_blanks text → ReadsName it start named → (read : ReadsLeaf leaf text end)
    → HasName it leaf × (read.named ≡ named)
named_leaf it text start named leaf end is reads read =
    let so = named_so it leaf start named read.named reads (is ∙ read.name) (opens_ends read.named read.opened read.opens) in
    (has_kind it leaf so.0, so.1)

name_behind : (it : Name) (text start named : List ℕ) → start ≡ after_blanks text → ReadsName it start named → IsSuffix named text × (length named < length text)
name_behind it text start named is reads =
    let e = sym is ∙ reads.0 in
    (suffix_token (name_word it) named text e, Prim.omega (arith, some_name it, ap length e, length-append (name_word it) named, suffix_len (after_blanks text) text (suffix_unblanked text))) where
      some_name : (n : Name) → 0 < length (name_word n)
      some_name (name.About subject.Package) = Prim.omega arith
      some_name (name.About subject.Deps) = Prim.omega arith
      some_name (name.About subject.Rdeps) = Prim.omega arith
      some_name (name.About subject.Kind) = Prim.omega arith
      some_name (name.About subject.Binary) = Prim.omega arith
      some_name (name.About subject.BinaryId) = Prim.omega arith
      some_name (name.About subject.Test) = Prim.omega arith
      some_name (name.About subject.Group) = Prim.omega arith
      some_name name.Platform = Prim.omega arith
      some_name name.Default = Prim.omega arith
      some_name name.All = Prim.omega arith
      some_name name.None = Prim.omega arith

-- behind a `(` stands one text
same_opened : {u x y : List ℕ} → u ≡ 40 ∷ x → u ≡ 40 ∷ y → y ≡ x
same_opened e f = same_rest 40 40 _ _ _ f e

predicate_part : (it : Name) (text start named before opened : List ℕ) (old new : ℕ) (found : Tree) (rest : List ℕ) → start ≡ after_blanks text → ReadsName it start named
    → before ≡ after_blanks named → before ≡ 40 ∷ opened → IsArgued it opened old new found rest → IsPart ReadsPredicate Anywhere text old new found rest
predicate_part it text start named before opened old new found rest is reads here opens part = record {
  more = part.more;
  behind = suffix_trans rest opened text part.behind (suffix_trans opened named text (suffix_token (40 ∷ []) opened named (sym here ∙ opens)) (name_behind it text start named is reads).0);
  shorter = Prim.omega (arith, suffix_len rest opened part.behind, suffix_len opened named (suffix_token (40 ∷ []) opened named (sym here ∙ opens)), (name_behind it text start named is reads).1);
  reads = λ same.
      let read = part.reads same in (
        read.0,
        read.1,
        record {
          named = named;
          opened = opened;
          read = read.3;
          name = sym is ∙ (reads.0 ∙ ap (λ w. w ++ named) (sym (word_of it read.0 read.2)));
          opens = sym here ∙ opens;
          argument = read.4;
          closes = read.5;
        },
      );
  only = λ other end reads_other anywhere.
      let leaf = reads_other.2 in
      let one = named_leaf it text start named reads_other.0 end is reads leaf in
      let opened_same = same_opened (ap after_blanks one.1 ∙ (sym here ∙ opens)) leaf.opens in
      let ends = part.only reads_other.0 leaf.read end one.0 (subst (λ l. ReadsArgument reads_other.0 l leaf.read) opened_same leaf.argument) leaf.closes in
      (ends.0, reads_other.1 ∙ ends.1, ends.2);
}

predicate_not : (it : Name) (text start named before opened : List ℕ) (old new : ℕ) → start ≡ after_blanks text → ReadsName it start named
    → before ≡ after_blanks named → before ≡ 40 ∷ opened → IsNotArgued it opened old new → IsNoPart ReadsPredicate Anywhere text old new
predicate_not it text start named before opened old new is reads here opens none = record {
  more = none.more;
  never = λ other end reads_other anywhere.
      let leaf = reads_other.2 in
      let one = named_leaf it text start named reads_other.0 end is reads leaf in
      let opened_same = same_opened (ap after_blanks one.1 ∙ (sym here ∙ opens)) leaf.opens in
      none.never reads_other.0 leaf.read end one.0 (subst (λ l. ReadsArgument reads_other.0 l leaf.read) opened_same leaf.argument) leaf.closes;
}

pub predicate_finds_so : (it : Name) (text start named before opened : List ℕ) (old new : ℕ) (r : Result (ParsedExpr × Bor (List ℕ)) Stop) → start ≡ after_blanks text → ReadsName it start named
    → before ≡ after_blanks named → before ≡ 40 ∷ opened → FindsArgument it opened old new r → Finds ReadsPredicate Anywhere text old new r
predicate_finds_so it text start named before opened old new (Ok found) is reads here opens part = predicate_part it text start named before opened old new (tree_of found.0) found.1.now is reads here opens part
predicate_finds_so it text start named before opened old new (Err NoTree) is reads here opens none = predicate_not it text start named before opened old new is reads here opens none
predicate_finds_so it text start named before opened old new (Err Memory) is reads here opens none = none

-- without a `(` behind its name there is no predicate
pub unopened_finds : (it : Name) (text start named before : List ℕ) (old new : ℕ) (r : Result (ParsedExpr × Bor (List ℕ)) Stop) → start ≡ after_blanks text → ReadsName it start named
    → before ≡ after_blanks named → ((opened : List ℕ) → before ≡ 40 ∷ opened → ⊥) → ReportsFault old new r → IfOk r (λ it. it.1.now ≡ named) → Finds ReadsPredicate Anywhere text old new r
unopened_finds it text start named before old new (Ok found) is reads here closed told same = record {
  more = Prim.omega (arith, told);
  behind = subst (λ l. IsSuffix l text) (sym same) (name_behind it text start named is reads).0;
  shorter = Prim.omega (arith, (name_behind it text start named is reads).1, ap length same);
  reads = λ no_more. absurd (Prim.omega (arith, told, no_more));
  only = λ other end reads_other anywhere.
      let leaf = reads_other.2 in
      let one = named_leaf it text start named reads_other.0 end is reads leaf in
      absurd (closed leaf.opened (here ∙ (ap after_blanks (sym one.1) ∙ leaf.opens)));
}
unopened_finds it text start named before old new (Err NoTree) is reads here closed told same = record {
  more = told;
  never = λ other end reads_other anywhere.
      let leaf = reads_other.2 in
      let one = named_leaf it text start named reads_other.0 end is reads leaf in
      closed leaf.opened (here ∙ (ap after_blanks (sym one.1) ∙ leaf.opens));
}
unopened_finds it text start named before old new (Err Memory) is reads here closed told same = tt

-- without a name there is no predicate
pub unnamed_finds : (text start : List ℕ) (old new : ℕ) → start ≡ after_blanks text → ((it : Name) (rest : List ℕ) → ReadsName it start rest → ⊥) → new ≡ old + 1
    → IsNoPart ReadsPredicate Anywhere text old new
unnamed_finds text start old new is none more = record {
  more = Prim.omega (arith, more);
  never = λ other end reads_other anywhere.
      let leaf = reads_other.2 in
      let known = has_name reads_other.0 start leaf.named (is ∙ leaf.name) (opens_ends leaf.named leaf.opened leaf.opens) in
      none known.0 leaf.named known.1;
}

-- the same, of what was found
pub argued_from : {V A : Type 0} {view : V → A} {Reads : A → List ℕ → List ℕ → Type 0} {make : A → Leaf} (named : Name) (text behind rest : List ℕ) (old now new : ℕ) (r : Option V) (v : V) (found : Leaf)
    → Sort named view Reads make → r ≡ Some v → found ≡ make (view v) → IsArgument view Reads text old now r behind → IsClosed behind now new rest → IsArgued named text old new (set found) rest
argued_from {view = view} {Reads = Reads} named text behind rest old now new r v found sort some is part closed =
    argued named text behind rest old now new v found sort is (subst (λ o. IsArgument view Reads text old now o behind) some part) closed

pub argued_not_from : {V A : Type 0} {view : V → A} {Reads : A → List ℕ → List ℕ → Type 0} {make : A → Leaf} (named : Name) (text behind rest : List ℕ) (old now new last : ℕ) (r : Option V) (tree : Tree)
    → Sort named view Reads make → r ≡ None → last ≡ new → IsArgument view Reads text old now r behind → IsClosed behind now new rest → IsArgued named text old last tree rest
argued_not_from {view = view} {Reads = Reads} named text behind rest old now new last r tree sort none same_count part closed =
    subst (λ n. IsArgued named text old n tree rest) (sym same_count)
    (argued_not named text behind rest old now new tree sort (subst (λ o. IsArgument view Reads text old now o behind) none part) closed)

-- a span of so many bytes of a rest lies in the input
pub lies_at : (input rest : List ℕ) (n : ℕ) (span : SourceSpan) → span ≡ here input rest n → IsSuffix rest input → n ≤ length rest → Lies input span
lies_at input rest n span is within short = subst (Lies input) (sym is) (here_lies input rest n within short)

-- what follows a name is a rest
pub name_rest : (it : Name) (start named : List ℕ) → ReadsName it start named → IsSuffix named start
name_rest it start named reads = (name_word it, reads.0)
