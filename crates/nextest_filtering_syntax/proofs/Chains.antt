-- Operands grouped to the left, seen from the first one on.
use Rattle.std.specs.Prelude.{◌≡◌, refl, ℕ, ◌<◌, ◌≤◌, List, length, Option, Some, None}
use Rattle.std.specs.Borrow.{Bor}
use Rattle.std.proofs.Common.{arith, inl, inr}
use Rattle.std.proofs.Math.Path.{ap, sym, subst}
use Rattle.nextest_filtering_ast.specs.Tree.{Tree, union}
use Rattle.nextest_filtering_ast.specs.Grammar.{joint_of, ReadsOr, ReadsJoint, Unary, Conjunction, first_operand, next_operand, Expression, first_conjunction, next_conjunction}
use Rattle.nextest_filtering_arguments.specs.Faults.{IsSuffix}
use Rattle.nextest_filtering_syntax.specs.Parsing.{Anywhere, Closes, ClosesConjunction, IsPart, IsOperator, IsNoOperator, FindsOperator}
use Rattle.nextest_filtering_syntax.specs.Waiting.{After, stop, link, AfterOperand, AfterConjunction}
use Rattle.nextest_filtering_arguments.proofs.Spans.{suffix_trans}

-- a conjunction has a first operand, and goes on behind it
operands_by : (text : List ℕ) (t : Tree) (rest : List ℕ) → Conjunction text t rest → (u : Tree) (end : List ℕ) → AfterOperand u end t rest
    → (a : Tree) × (middle : List ℕ) × Unary text a middle × AfterOperand u end a middle
operands_by _ _ _ (first_operand t text rest operand) u end after = (t, rest, operand, after)
operands_by _ _ _ (next_operand op a b t text middle behind rest before reads operand is) u end after =
    operands_by text a middle before u end (link op a b middle behind rest reads operand (subst (λ x. AfterOperand u end x rest) is after))

pub operands : (text : List ℕ) (t : Tree) (rest : List ℕ) → Conjunction text t rest → (a : Tree) × (middle : List ℕ) × Unary text a middle × AfterOperand t rest a middle
operands text t rest reads = operands_by text t rest reads t rest (stop t rest refl refl)

-- an expression has a first conjunction, and goes on behind it
conjunctions_by : (text : List ℕ) (t : Tree) (rest : List ℕ) → Expression text t rest → (u : Tree) (end : List ℕ) → AfterConjunction u end t rest
    → (a : Tree) × (middle : List ℕ) × Conjunction text a middle × AfterConjunction u end a middle
conjunctions_by _ _ _ (first_conjunction t text rest operand) u end after = (t, rest, operand, after)
conjunctions_by _ _ _ (next_conjunction op a b text middle behind rest before reads operand) u end after =
    conjunctions_by text a middle before u end (link op a b middle behind rest reads operand after)

pub conjunctions : (text : List ℕ) (t : Tree) (rest : List ℕ) → Expression text t rest → (a : Tree) × (middle : List ℕ) × Conjunction text a middle × AfterConjunction t rest a middle
conjunctions text t rest reads = conjunctions_by text t rest reads t rest (stop t rest refl refl)

-- behind a conjunction an expression ends, or goes on by an operator
pub conjunction_closes : (t : Tree) (rest : List ℕ) (a : Tree) (middle : List ℕ) → AfterConjunction t rest a middle → Closes rest → ClosesConjunction middle
conjunction_closes t rest _ _ (stop a middle e f) closes = inl (subst Closes f closes)
conjunction_closes t rest _ _ (link op a b middle behind next reads operand more) closes = inr (op, behind, reads)

-- How operands and operators make up the whole of one level of the grammar.
pub record Level {Op : Type 0} (Reads : Op → List ℕ → List ℕ → Type 0) (Operand : List ℕ → Tree → List ℕ → Type 0) (join : Op → Tree → Tree → Tree)
    (Ends : List ℕ → Type 0) (Whole : List ℕ → Tree → List ℕ → Type 0) (Stops : List ℕ → Type 0) : Type 0 where
  pub first : (text : List ℕ) (t : Tree) (rest : List ℕ) → Operand text t rest → Whole text t rest
  pub more : (op : Op) (a b : Tree) (text middle behind rest : List ℕ) → Whole text a middle → Reads op middle behind → Operand behind b rest → Whole text (join op a b) rest
  pub split : (text : List ℕ) (t : Tree) (rest : List ℕ) → Whole text t rest → (a : Tree) × (middle : List ℕ) × Operand text a middle × After Reads Operand join t rest a middle
  pub ends : (t : Tree) (rest : List ℕ) (a : Tree) (middle : List ℕ) → After Reads Operand join t rest a middle → Stops rest → Ends middle

pub conjunction_level : Level ReadsJoint Unary joint_of Anywhere Conjunction ClosesConjunction
conjunction_level = record {
  first = λ text t rest u. first_operand t text rest u;
  more = λ op a b text middle behind rest c j u. next_operand op a b (joint_of op a b) text middle behind rest c j u refl;
  split = operands;
  ends = λ t rest a middle after stops. tt;
}

pub expression_level : Level ReadsOr Conjunction union ClosesConjunction Expression Closes
expression_level = record {
  first = λ text t rest c. first_conjunction t text rest c;
  more = λ op a b text middle behind rest e o c. next_conjunction op a b text middle behind rest e o c;
  split = conjunctions;
  ends = conjunction_closes;
}

-- What a loop over operands has read: the tree so far and its rest, from which every reading of the
-- whole goes on.
pub record HasRead {Op : Type 0} (Reads : Op → List ℕ → List ℕ → Type 0) (Operand : List ℕ → Tree → List ℕ → Type 0) (join : Op → Tree → Tree → Tree)
    (Whole : List ℕ → Tree → List ℕ → Type 0) (Stops : List ℕ → Type 0) (text : List ℕ) (old now : ℕ) (tree : Tree) (rest : List ℕ) : Type 0 where
  pub more : old ≤ now
  pub behind : IsSuffix rest text
  pub shorter : length rest < length text
  pub reads : now ≡ old → Whole text tree rest
  pub goes : (t : Tree) (end : List ℕ) → Whole text t end → Stops end → (now ≡ old) × After Reads Operand join t end tree rest

-- a reading goes on from an operand that is the only one
from_operand : {Op : Type 0} {Reads : Op → List ℕ → List ℕ → Type 0} {Operand : List ℕ → Tree → List ℕ → Type 0} {join : Op → Tree → Tree → Tree}
    (t : Tree) (end : List ℕ) (a b : Tree) (middle rest : List ℕ) → a ≡ b → middle ≡ rest → After Reads Operand join t end a middle → After Reads Operand join t end b rest
from_operand {Reads = Reads} {Operand = Operand} {join = join} t end a b middle rest e f after =
    subst (λ m. After Reads Operand join t end b m) f (subst (λ x. After Reads Operand join t end x middle) e after)

-- the first operand
pub begins : {Op : Type 0} {Reads : Op → List ℕ → List ℕ → Type 0} {Operand : List ℕ → Tree → List ℕ → Type 0} {join : Op → Tree → Tree → Tree}
    {Ends : List ℕ → Type 0} {Whole : List ℕ → Tree → List ℕ → Type 0} {Stops : List ℕ → Type 0} (text : List ℕ) (old now : ℕ) (found : Tree) (rest : List ℕ)
    → Level Reads Operand join Ends Whole Stops → IsPart Operand Ends text old now found rest → HasRead Reads Operand join Whole Stops text old now found rest
begins text old now found rest level part = record {
  more = part.more;
  behind = part.behind;
  shorter = part.shorter;
  reads = λ same. level.first text found rest (part.reads same);
  goes = λ t end whole stops.
      let parts = level.split text t end whole in
      let is = part.only parts.0 parts.1 parts.2 (level.ends t end parts.0 parts.1 parts.3 stops) in
      (is.0, from_operand t end parts.0 found parts.1 rest is.1 is.2 parts.3);
}

-- how a reading goes on behind an operator
pub goes_behind : {Op : Type 0} {Reads : Op → List ℕ → List ℕ → Type 0} {Operand : List ℕ → Tree → List ℕ → Type 0} {join : Op → Tree → Tree → Tree}
    {Ends : List ℕ → Type 0} {Stops : List ℕ → Type 0} (tree : Tree) (rest : List ℕ) (now middle : ℕ) (op : Op) (behind : List ℕ) (t : Tree) (end : List ℕ)
    → ((x : Tree) (y : List ℕ) (a : Tree) (m : List ℕ) → After Reads Operand join x y a m → Stops y → Ends m)
    → IsOperator Reads Operand Stops rest now middle op behind → After Reads Operand join t end tree rest → Stops end
    → (middle ≡ now) × (b : Tree) × (next : List ℕ) × Operand behind b next × Ends next × After Reads Operand join t end (join op tree b) next
goes_behind {Stops = Stops} _ _ now middle op behind t end ends found (stop so_far rest e f) stops = absurd (found.goes_on (subst Stops f stops))
goes_behind {Reads = Reads} {Operand = Operand} {join = join} _ _ now middle op behind t end ends found (link op1 tree b rest behind1 next reads operand more) stops =
    let is = found.only op1 behind1 b next reads operand in
    (is.0, b, next, subst (λ l. Operand l b next) is.2 operand, ends t end _ next more stops, subst (λ o. After Reads Operand join t end (join o tree b) next) is.1 more)

-- one operator and operand more
pub goes_on : {Op : Type 0} {Reads : Op → List ℕ → List ℕ → Type 0} {Operand : List ℕ → Tree → List ℕ → Type 0} {join : Op → Tree → Tree → Tree}
    {Ends : List ℕ → Type 0} {Whole : List ℕ → Tree → List ℕ → Type 0} {Stops : List ℕ → Type 0} (text : List ℕ) (old now middle new : ℕ) (tree found : Tree) (op : Op) (rest behind next : List ℕ)
    → Level Reads Operand join Ends Whole Stops → HasRead Reads Operand join Whole Stops text old now tree rest
    → IsOperator Reads Operand Stops rest now middle op behind → IsPart Operand Ends behind middle new found next
    → HasRead Reads Operand join Whole Stops text old new (join op tree found) next
goes_on {join = join} text old now middle new tree found op rest behind next level read operator part = record {
  more = Prim.omega (arith, read.more, operator.more, part.more);
  behind = suffix_trans next behind text part.behind (suffix_trans behind rest text operator.behind read.behind);
  shorter = Prim.omega (arith, read.shorter, operator.shorter, part.shorter);
  reads = λ same. level.more op tree found text rest behind next
      (read.reads (Prim.omega (arith, same, read.more, operator.more, part.more)))
      (operator.reads (Prim.omega (arith, same, read.more, operator.more, part.more)))
      (part.reads (Prim.omega (arith, same, read.more, operator.more, part.more)));
  goes = λ t end whole stops.
      let known = read.goes t end whole stops in
      let ahead = goes_behind tree rest now middle op behind t end level.ends operator known.1 stops in
      let is = part.only ahead.1 ahead.2 ahead.3 ahead.4 in
      (Prim.omega (arith, known.0, ahead.0, is.0), from_operand t end (join op tree ahead.1) (join op tree found) ahead.2 next (ap (join op tree) is.1) is.2 ahead.5);
}

-- where a reading stops
pub stops_at : {Op : Type 0} {Reads : Op → List ℕ → List ℕ → Type 0} {Operand : List ℕ → Tree → List ℕ → Type 0} {join : Op → Tree → Tree → Tree}
    (tree : Tree) (rest : List ℕ) (t : Tree) (end : List ℕ) → ((op : Op) (behind : List ℕ) → Reads op rest behind → ⊥) → After Reads Operand join t end tree rest → (t ≡ tree) × (end ≡ rest)
stops_at _ _ t end never (stop tree rest e f) = (e, f)
stops_at _ _ t end never (link op tree b rest behind next reads operand more) = absurd (never op behind reads)

-- no operator more
pub ends_here : {Op : Type 0} {Reads : Op → List ℕ → List ℕ → Type 0} {Operand : List ℕ → Tree → List ℕ → Type 0} {join : Op → Tree → Tree → Tree}
    {Whole : List ℕ → Tree → List ℕ → Type 0} {Stops : List ℕ → Type 0} (text : List ℕ) (old now new : ℕ) (tree : Tree) (rest : List ℕ)
    → HasRead Reads Operand join Whole Stops text old now tree rest → IsNoOperator Reads rest now new → IsPart Whole Stops text old new tree rest
ends_here text old now new tree rest read none = record {
  more = Prim.omega (arith, read.more, none.same);
  behind = read.behind;
  shorter = read.shorter;
  reads = λ same. read.reads (Prim.omega (arith, same, none.same));
  only = λ t end whole stops.
      let known = read.goes t end whole stops in
      let is = stops_at tree rest t end none.never known.1 in
      (Prim.omega (arith, known.0, none.same), is.0, is.1);
}

-- what was found is the operator, or none
pub operator_found : {Op : Type 0} {Reads : Op → List ℕ → List ℕ → Type 0} {Operand : List ℕ → Tree → List ℕ → Type 0} {Stops : List ℕ → Type 0}
    (text : List ℕ) (old new : ℕ) (r : Option (Op × Bor (List ℕ))) (op : Op) (behind : Bor (List ℕ)) → r ≡ Some (op, behind)
    → FindsOperator Reads Operand Stops text old new r → IsOperator Reads Operand Stops text old new op behind.now
operator_found {Reads = Reads} {Operand = Operand} {Stops = Stops} text old new r op behind is found =
    subst (FindsOperator Reads Operand Stops text old new) is found

pub no_operator_found : {Op : Type 0} {Reads : Op → List ℕ → List ℕ → Type 0} (Operand : List ℕ → Tree → List ℕ → Type 0) (Stops : List ℕ → Type 0)
    (text : List ℕ) (old new : ℕ) (r : Option (Op × Bor (List ℕ))) → r ≡ None
    → FindsOperator Reads Operand Stops text old new r → IsNoOperator Reads text old new
no_operator_found {Reads = Reads} Operand Stops text old new r is found =
    subst (FindsOperator Reads Operand Stops text old new) is found

-- the same of a tree that is known by an equation
pub read_as : {Op : Type 0} {Reads : Op → List ℕ → List ℕ → Type 0} {Operand : List ℕ → Tree → List ℕ → Type 0} {join : Op → Tree → Tree → Tree}
    {Whole : List ℕ → Tree → List ℕ → Type 0} {Stops : List ℕ → Type 0} (text : List ℕ) (old now : ℕ) (a b : Tree) (rest : List ℕ) → a ≡ b
    → HasRead Reads Operand join Whole Stops text old now b rest → HasRead Reads Operand join Whole Stops text old now a rest
read_as {Reads = Reads} {Operand = Operand} {join = join} {Whole = Whole} {Stops = Stops} text old now a b rest is read =
    subst (λ t. HasRead Reads Operand join Whole Stops text old now t rest) (sym is) read
