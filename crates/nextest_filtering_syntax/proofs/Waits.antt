-- How a filterset is read on from a place within it.
use Rattle.std.specs.Prelude.{◌≡◌, refl, ℕ, List, [], ◌∷◌, codes}
use Rattle.std.proofs.Common.{arith, inr}
use Rattle.std.proofs.Math.Path.{sym, subst}
use Rattle.nextest_filtering_ast.specs.declared.operators.NotOperator.{NotOperator}
use Rattle.nextest_filtering_ast.specs.declared.operators.OrOperator.{OrOperator}
use Rattle.nextest_filtering_ast.specs.declared.operators.Joint.{Joint}
use Rattle.nextest_filtering_ast.specs.Tree.{Tree, negation, union, parens}
use Rattle.nextest_filtering_ast.specs.Grammar.{Behind, joint_of, ReadsNot, ReadsOr, ReadsJoint, Unary, a_negation, a_group, Conjunction, first_operand, Expression, first_conjunction}
use Rattle.nextest_filtering_syntax.specs.declared.waiting.Waiting.{Waiting}
use Rattle.nextest_filtering_syntax.specs.declared.waiting.Waiting.TheVariants as waits
use Rattle.nextest_filtering_syntax.specs.Parsed.{tree_of}
use Rattle.nextest_filtering_syntax.specs.Parsing.{Anywhere, Closes, ClosesConjunction, IsPart, IsNoPart, IsOperator, IsNoOperator, IsClosed}
use Rattle.nextest_filtering_syntax.specs.Waiting.{stop, link, AsConjunction, AsExpression, AsGroup, operand, conjunction, expression, GoesOn, EndsConjunction, EndsExpression, Becomes, Has, HasConjunction, HasExpression, Awaits, IsOpening}
use Rattle.nextest_filtering_syntax.proofs.Chains.{conjunction_level, expression_level, operands, conjunctions, conjunction_closes, goes_behind, stops_at}
use Rattle.nextest_filtering_syntax.proofs.Joins.{joins}
use Rattle.nextest_filtering_syntax.proofs.Operands.{is_negation, is_group}

-- ---- one step behind another

pub stays : (From : Tree → List ℕ → Type 0) (n : ℕ) → Becomes From From n n
stays From n = record {
  more = Prim.omega arith;
  reads = λ same whole end it. it;
  only = λ whole end it closes. (refl, it);
}

pub then : (From Through To : Tree → List ℕ → Type 0) (old now new : ℕ) → Becomes From Through old now → Becomes Through To now new → Becomes From To old new
then From Through To old now new one other = record {
  more = Prim.omega (arith, one.more, other.more);
  reads = λ same whole end it.
      one.reads (Prim.omega (arith, same, one.more, other.more)) whole end
      (other.reads (Prim.omega (arith, same, one.more, other.more)) whole end it);
  only = λ whole end it closes.
      let first = one.only whole end it closes in
      let second = other.only whole end first.1 closes in
      (Prim.omega (arith, first.0, second.0), second.1);
}

-- ---- negations and `(`

negation_waits : (op : NotOperator) (stack : List Waiting) (text rest : List ℕ) (n : ℕ) → ReadsNot op text rest
    → Becomes (Awaits stack text) (Awaits (waits.Not op ∷ stack) rest) n n
negation_waits op stack text rest n reads = record {
  more = Prim.omega arith;
  reads = λ same whole end it. (negation op it.0, it.1, a_negation op it.0 text rest it.1 reads it.2, it.3);
  only = λ whole end it closes.
      let is = is_negation op text rest it.0 it.1 reads it.2 in
      (refl, (is.0, it.1, is.2, subst (λ t. GoesOn whole end stack operand t it.1) is.1 it.3));
}

group_by : (whole : Tree) (end : List ℕ) (stack : List Waiting) (text rest : List ℕ) → Behind (codes "(") text rest
    → Awaits (waits.Parens ∷ stack) rest whole end → Awaits stack text whole end
group_by whole end stack text rest opens it =
    let c = it.3 in
    let x = c.3 in
    let whole_conjunction = joins rest c.0 c.1 it.0 it.1 conjunction_level (first_operand it.0 rest it.1 it.2) c.2 in
    let whole_expression = joins rest x.0 x.1 c.0 c.1 expression_level (first_conjunction c.0 rest c.1 whole_conjunction) x.2 in
    (parens x.0, x.3.0, a_group x.0 text rest x.1 x.3.0 opens whole_expression x.3.1, x.3.2)

group_only : (whole : Tree) (end : List ℕ) (stack : List Waiting) (text rest : List ℕ) → Behind (codes "(") text rest
    → Awaits stack text whole end → Awaits (waits.Parens ∷ stack) rest whole end
group_only whole end stack text rest opens it =
    let is = is_group text rest it.0 it.1 opens it.2 in
    let c = conjunctions rest is.0 is.1 is.3 in
    let u = operands rest c.0 c.1 c.2 in
    (u.0, u.1, u.2, (c.0, c.1, u.3, (is.0, is.1, c.3, (it.1, is.4, subst (λ t. GoesOn whole end stack operand t it.1) is.2 it.3))))

group_waits : (stack : List Waiting) (text rest : List ℕ) (n : ℕ) → Behind (codes "(") text rest
    → Becomes (Awaits stack text) (Awaits (waits.Parens ∷ stack) rest) n n
group_waits stack text rest n opens = record {
  more = Prim.omega arith;
  reads = λ same whole end it. group_by whole end stack text rest opens it;
  only = λ whole end it closes. (refl, group_only whole end stack text rest opens it);
}

pub opening_waits : (waiting : Waiting) (stack : List Waiting) (text rest : List ℕ) (n : ℕ) → IsOpening waiting text rest
    → Becomes (Awaits stack text) (Awaits (waiting ∷ stack) rest) n n
opening_waits (waits.Not op) stack text rest n reads = negation_waits op stack text rest n reads
opening_waits waits.Parens stack text rest n opens = group_waits stack text rest n opens
opening_waits (waits.Joint left op) stack text rest n none = absurd none
opening_waits (waits.Union left op) stack text rest n none = absurd none

-- ---- operands

pub operand_read : (stack : List Waiting) (text : List ℕ) (t : Tree) (rest : List ℕ) (old new : ℕ) → IsPart Unary Anywhere text old new t rest
    → Becomes (Awaits stack text) (Has operand stack t rest) old new
operand_read stack text t rest old new part = record {
  more = part.more;
  reads = λ same whole end it. (t, rest, part.reads same, it);
  only = λ whole end it closes.
      let is = part.only it.0 it.1 it.2 tt in
      (is.0, subst (λ r. GoesOn whole end stack operand t r) is.2 (subst (λ x. GoesOn whole end stack operand x it.1) is.1 it.3));
}

pub no_operand_read : (stack : List Waiting) (text : List ℕ) (old new : ℕ) → IsNoPart Unary Anywhere text old new
    → (whole : Tree) (end : List ℕ) → Awaits stack text whole end → ⊥
no_operand_read stack text old new none whole end it = none.never it.0 it.1 it.2 tt

-- ---- what closes

closes_expression : (whole : Tree) (end : List ℕ) (stack : List Waiting) (t : Tree) (rest : List ℕ) → Closes end
    → GoesOn whole end stack expression t rest → ClosesConjunction rest
closes_expression whole end [] t rest closes (found, last, after, goes) = conjunction_closes found last t rest after (subst Closes goes.1 closes)
closes_expression whole end (waits.Not op ∷ more) t rest closes none = absurd none
closes_expression whole end (waits.Parens ∷ more) t rest closes (found, last, after, goes) = conjunction_closes found last t rest after (inr (goes.0, goes.1))
closes_expression whole end (waits.Joint left op ∷ more) t rest closes none = absurd none
closes_expression whole end (waits.Union left op ∷ more) t rest closes none = absurd none

-- ---- intersections and differences

joint_only : (GoesOn : Tree → List ℕ → Type 0) (t : Tree) (rest behind : List ℕ) (now new : ℕ) (op : Joint)
    → ((found : Tree) (last : List ℕ) → GoesOn found last → ClosesConjunction last)
    → IsOperator ReadsJoint Unary ClosesConjunction rest now new op behind → AsConjunction GoesOn t rest
    → (new ≡ now) × (b : Tree) × (next : List ℕ) × Unary behind b next × AsConjunction GoesOn (joint_of op t b) next
joint_only GoesOn t rest behind now new op closes operator (found, last, after, goes) =
    let it = goes_behind {Ends = Anywhere} t rest now new op behind found last (λ x y a m more stops. tt) operator after (closes found last goes) in
    (it.0, it.1, it.2, it.3, (found, last, it.5, goes))

joint_reads : (GoesOn : Tree → List ℕ → Type 0) (t : Tree) (rest behind : List ℕ) (op : Joint) (b : Tree) (next : List ℕ)
    → ReadsJoint op rest behind → Unary behind b next → AsConjunction GoesOn (joint_of op t b) next → AsConjunction GoesOn t rest
joint_reads GoesOn t rest behind op b next reads read (found, last, after, goes) = (found, last, link op t b rest behind next reads read after, goes)

from_joint : (whole : Tree) (end : List ℕ) (stack : List Waiting) (t : Tree) (rest behind : List ℕ) (now new : ℕ) (op : Joint) → Closes end
    → IsOperator ReadsJoint Unary ClosesConjunction rest now new op behind → GoesOn whole end stack conjunction t rest
    → (new ≡ now) × (b : Tree) × (next : List ℕ) × Unary behind b next × GoesOn whole end stack conjunction (joint_of op t b) next
from_joint whole end [] t rest behind now new op closes operator goes =
    joint_only (GoesOn whole end [] expression) t rest behind now new op (λ found last it. closes_expression whole end [] found last closes it) operator goes
from_joint whole end (waits.Not by ∷ more) t rest behind now new op closes operator goes = absurd goes
from_joint whole end (waits.Parens ∷ more) t rest behind now new op closes operator goes =
    joint_only (GoesOn whole end (waits.Parens ∷ more) expression) t rest behind now new op
    (λ found last it. closes_expression whole end (waits.Parens ∷ more) found last closes it) operator goes
from_joint whole end (waits.Joint left by ∷ more) t rest behind now new op closes operator goes = absurd goes
from_joint whole end (waits.Union left by ∷ more) t rest behind now new op closes operator goes =
    joint_only (λ found. GoesOn whole end more expression (union by (tree_of left.value) found)) t rest behind now new op
    (λ found last it. closes_expression whole end more (union by (tree_of left.value) found) last closes it) operator goes

to_joint : (whole : Tree) (end : List ℕ) (stack : List Waiting) (t : Tree) (rest behind : List ℕ) (op : Joint) (b : Tree) (next : List ℕ)
    → ReadsJoint op rest behind → Unary behind b next → GoesOn whole end stack conjunction (joint_of op t b) next → GoesOn whole end stack conjunction t rest
to_joint whole end [] t rest behind op b next reads read goes = joint_reads (GoesOn whole end [] expression) t rest behind op b next reads read goes
to_joint whole end (waits.Not by ∷ more) t rest behind op b next reads read goes = goes
to_joint whole end (waits.Parens ∷ more) t rest behind op b next reads read goes =
    joint_reads (GoesOn whole end (waits.Parens ∷ more) expression) t rest behind op b next reads read goes
to_joint whole end (waits.Joint left by ∷ more) t rest behind op b next reads read goes = goes
to_joint whole end (waits.Union left by ∷ more) t rest behind op b next reads read goes =
    joint_reads (λ found. GoesOn whole end more expression (union by (tree_of left.value) found)) t rest behind op b next reads read goes

-- an operator was read, and waits with its left operand
pub joint_waits : (stack : List Waiting) (waiting : Waiting) (t : Tree) (rest behind : List ℕ) (now new : ℕ) (op : Joint)
    → ((whole : Tree) (end : List ℕ) (u : Tree) (next : List ℕ) → (GoesOn whole end (waiting ∷ stack) operand u next → GoesOn whole end stack conjunction (joint_of op t u) next)
    × (GoesOn whole end stack conjunction (joint_of op t u) next → GoesOn whole end (waiting ∷ stack) operand u next))
    → IsOperator ReadsJoint Unary ClosesConjunction rest now new op behind → Becomes (Has conjunction stack t rest) (Awaits (waiting ∷ stack) behind) now new
joint_waits stack waiting t rest behind now new op alike operator = record {
  more = operator.more;
  reads = λ same whole end it. to_joint whole end stack t rest behind op it.0 it.1 (operator.reads same) it.2 ((alike whole end it.0 it.1).0 it.3);
  only = λ whole end it closes.
      let found = from_joint whole end stack t rest behind now new op closes operator it in
      (found.0, (found.1, found.2, found.3, (alike whole end found.1 found.2).1 found.4));
}

joint_ends : (GoesOn : Tree → List ℕ → Type 0) (t : Tree) (rest : List ℕ) → ((op : Joint) (behind : List ℕ) → ReadsJoint op rest behind → ⊥) → AsConjunction GoesOn t rest → GoesOn t rest
joint_ends GoesOn t rest never (found, last, after, goes) =
    let is = stops_at t rest found last never after in
    subst (λ r. GoesOn t r) is.1 (subst (λ x. GoesOn x last) is.0 goes)

as_conjunction : (GoesOn : Tree → List ℕ → Type 0) (t : Tree) (rest : List ℕ) → GoesOn t rest → AsConjunction GoesOn t rest
as_conjunction GoesOn t rest goes = (t, rest, stop t rest refl refl, goes)

ends_by : (whole : Tree) (end : List ℕ) (stack : List Waiting) (t : Tree) (rest : List ℕ) → EndsConjunction whole end stack t rest → GoesOn whole end stack conjunction t rest
ends_by whole end [] t rest goes = as_conjunction (GoesOn whole end [] expression) t rest goes
ends_by whole end (waits.Not by ∷ more) t rest goes = goes
ends_by whole end (waits.Parens ∷ more) t rest goes = as_conjunction (GoesOn whole end (waits.Parens ∷ more) expression) t rest goes
ends_by whole end (waits.Joint left by ∷ more) t rest goes = goes
ends_by whole end (waits.Union left by ∷ more) t rest goes = as_conjunction (λ found. GoesOn whole end more expression (union by (tree_of left.value) found)) t rest goes

ends_only : (whole : Tree) (end : List ℕ) (stack : List Waiting) (t : Tree) (rest : List ℕ) → ((op : Joint) (behind : List ℕ) → ReadsJoint op rest behind → ⊥)
    → GoesOn whole end stack conjunction t rest → EndsConjunction whole end stack t rest
ends_only whole end [] t rest never goes = joint_ends (GoesOn whole end [] expression) t rest never goes
ends_only whole end (waits.Not by ∷ more) t rest never goes = goes
ends_only whole end (waits.Parens ∷ more) t rest never goes = joint_ends (GoesOn whole end (waits.Parens ∷ more) expression) t rest never goes
ends_only whole end (waits.Joint left by ∷ more) t rest never goes = goes
ends_only whole end (waits.Union left by ∷ more) t rest never goes =
    joint_ends (λ found. GoesOn whole end more expression (union by (tree_of left.value) found)) t rest never goes

-- no operator follows a conjunction
pub conjunction_ends : (stack : List Waiting) (t : Tree) (rest : List ℕ) (now new : ℕ) → IsNoOperator ReadsJoint rest now new
    → Becomes (Has conjunction stack t rest) (HasConjunction stack t rest) now new
conjunction_ends stack t rest now new none = record {
  more = Prim.omega (arith, none.same);
  reads = λ same whole end it. ends_by whole end stack t rest it;
  only = λ whole end it closes. (none.same, ends_only whole end stack t rest none.never it);
}

-- ---- unions

union_only : (GoesOn : Tree → List ℕ → Type 0) (t : Tree) (rest behind : List ℕ) (now new : ℕ) (op : OrOperator)
    → ((found : Tree) (last : List ℕ) → GoesOn found last → Closes last)
    → IsOperator ReadsOr Conjunction Closes rest now new op behind → AsExpression GoesOn t rest
    → (new ≡ now) × (b : Tree) × (next : List ℕ) × Conjunction behind b next × AsExpression GoesOn (union op t b) next
union_only GoesOn t rest behind now new op closes operator (found, last, after, goes) =
    let it = goes_behind {Ends = ClosesConjunction} t rest now new op behind found last conjunction_closes operator after (closes found last goes) in
    (it.0, it.1, it.2, it.3, (found, last, it.5, goes))

union_reads : (GoesOn : Tree → List ℕ → Type 0) (t : Tree) (rest behind : List ℕ) (op : OrOperator) (b : Tree) (next : List ℕ)
    → ReadsOr op rest behind → Conjunction behind b next → AsExpression GoesOn (union op t b) next → AsExpression GoesOn t rest
union_reads GoesOn t rest behind op b next reads read (found, last, after, goes) = (found, last, link op t b rest behind next reads read after, goes)

from_union : (whole : Tree) (end : List ℕ) (stack : List Waiting) (t : Tree) (rest behind : List ℕ) (now new : ℕ) (op : OrOperator) → Closes end
    → IsOperator ReadsOr Conjunction Closes rest now new op behind → GoesOn whole end stack expression t rest
    → (new ≡ now) × (b : Tree) × (next : List ℕ) × Conjunction behind b next × GoesOn whole end stack expression (union op t b) next
from_union whole end [] t rest behind now new op closes operator goes =
    union_only (λ found last. (whole ≡ found) × (end ≡ last)) t rest behind now new op (λ found last it. subst Closes it.1 closes) operator goes
from_union whole end (waits.Not by ∷ more) t rest behind now new op closes operator goes = absurd goes
from_union whole end (waits.Parens ∷ more) t rest behind now new op closes operator goes =
    union_only (AsGroup (GoesOn whole end more operand)) t rest behind now new op (λ found last it. inr (it.0, it.1)) operator goes
from_union whole end (waits.Joint left by ∷ more) t rest behind now new op closes operator goes = absurd goes
from_union whole end (waits.Union left by ∷ more) t rest behind now new op closes operator goes = absurd goes

to_union : (whole : Tree) (end : List ℕ) (stack : List Waiting) (t : Tree) (rest behind : List ℕ) (op : OrOperator) (b : Tree) (next : List ℕ)
    → ReadsOr op rest behind → Conjunction behind b next → GoesOn whole end stack expression (union op t b) next → GoesOn whole end stack expression t rest
to_union whole end [] t rest behind op b next reads read goes = union_reads (λ found last. (whole ≡ found) × (end ≡ last)) t rest behind op b next reads read goes
to_union whole end (waits.Not by ∷ more) t rest behind op b next reads read goes = goes
to_union whole end (waits.Parens ∷ more) t rest behind op b next reads read goes =
    union_reads (AsGroup (GoesOn whole end more operand)) t rest behind op b next reads read goes
to_union whole end (waits.Joint left by ∷ more) t rest behind op b next reads read goes = goes
to_union whole end (waits.Union left by ∷ more) t rest behind op b next reads read goes = goes

-- an operator was read, and waits with its left operand
pub union_waits : (stack : List Waiting) (waiting : Waiting) (t : Tree) (rest behind : List ℕ) (now new : ℕ) (op : OrOperator)
    → ((whole : Tree) (end : List ℕ) (u : Tree) (next : List ℕ)
    → (GoesOn whole end (waiting ∷ stack) operand u next → AsConjunction (λ found. GoesOn whole end stack expression (union op t found)) u next)
    × (AsConjunction (λ found. GoesOn whole end stack expression (union op t found)) u next → GoesOn whole end (waiting ∷ stack) operand u next))
    → IsOperator ReadsOr Conjunction Closes rest now new op behind → Becomes (Has expression stack t rest) (Awaits (waiting ∷ stack) behind) now new
union_waits stack waiting t rest behind now new op alike operator = record {
  more = operator.more;
  reads = λ same whole end it.
      let c = (alike whole end it.0 it.1).0 it.3 in
      to_union whole end stack t rest behind op c.0 c.1 (operator.reads same)
      (joins behind c.0 c.1 it.0 it.1 conjunction_level (first_operand it.0 behind it.1 it.2) c.2) c.3;
  only = λ whole end it closes.
      let found = from_union whole end stack t rest behind now new op closes operator it in
      let u = operands behind found.1 found.2 found.3 in
      (found.0, (u.0, u.1, u.2, (alike whole end u.0 u.1).1 (found.1, found.2, u.3, found.4)));
}

union_ends : (GoesOn : Tree → List ℕ → Type 0) (t : Tree) (rest : List ℕ) → ((op : OrOperator) (behind : List ℕ) → ReadsOr op rest behind → ⊥) → AsExpression GoesOn t rest → GoesOn t rest
union_ends GoesOn t rest never (found, last, after, goes) =
    let is = stops_at t rest found last never after in
    subst (λ r. GoesOn t r) is.1 (subst (λ x. GoesOn x last) is.0 goes)

as_expression : (GoesOn : Tree → List ℕ → Type 0) (t : Tree) (rest : List ℕ) → GoesOn t rest → AsExpression GoesOn t rest
as_expression GoesOn t rest goes = (t, rest, stop t rest refl refl, goes)

whole_by : (whole : Tree) (end : List ℕ) (stack : List Waiting) (t : Tree) (rest : List ℕ) → EndsExpression whole end stack t rest → GoesOn whole end stack expression t rest
whole_by whole end [] t rest goes = as_expression (λ found last. (whole ≡ found) × (end ≡ last)) t rest goes
whole_by whole end (waits.Not by ∷ more) t rest goes = goes
whole_by whole end (waits.Parens ∷ more) t rest goes = as_expression (AsGroup (GoesOn whole end more operand)) t rest goes
whole_by whole end (waits.Joint left by ∷ more) t rest goes = goes
whole_by whole end (waits.Union left by ∷ more) t rest goes = goes

whole_only : (whole : Tree) (end : List ℕ) (stack : List Waiting) (t : Tree) (rest : List ℕ) → ((op : OrOperator) (behind : List ℕ) → ReadsOr op rest behind → ⊥)
    → GoesOn whole end stack expression t rest → EndsExpression whole end stack t rest
whole_only whole end [] t rest never goes = union_ends (λ found last. (whole ≡ found) × (end ≡ last)) t rest never goes
whole_only whole end (waits.Not by ∷ more) t rest never goes = goes
whole_only whole end (waits.Parens ∷ more) t rest never goes = union_ends (AsGroup (GoesOn whole end more operand)) t rest never goes
whole_only whole end (waits.Joint left by ∷ more) t rest never goes = goes
whole_only whole end (waits.Union left by ∷ more) t rest never goes = goes

-- no operator follows an expression
pub expression_ends : (stack : List Waiting) (t : Tree) (rest : List ℕ) (now new : ℕ) → IsNoOperator ReadsOr rest now new
    → Becomes (Has expression stack t rest) (HasExpression stack t rest) now new
expression_ends stack t rest now new none = record {
  more = Prim.omega (arith, none.same);
  reads = λ same whole end it. whole_by whole end stack t rest it;
  only = λ whole end it closes. (none.same, whole_only whole end stack t rest none.never it);
}

-- ---- parentheses

-- an expression in parentheses is an operand
pub group_ends : (stack : List Waiting) (t u : Tree) (rest behind : List ℕ) (old new : ℕ) → u ≡ parens t → IsClosed rest old new behind
    → Becomes (HasExpression (waits.Parens ∷ stack) t rest) (Has operand stack u behind) old new
group_ends stack t u rest behind old new is closed = record {
  more = closed.more;
  reads = λ same whole end it. (behind, closed.reads same, subst (λ x. GoesOn whole end stack operand x behind) is it);
  only = λ whole end it closes.
      let one = closed.only it.0 it.1 in
      (one.0, subst (λ x. GoesOn whole end stack operand x behind) (sym is) (subst (λ r. GoesOn whole end stack operand (parens t) r) one.1 it.2));
}

-- ---- whole expressions

-- an expression is to be read where nothing waits
pub begins_expression : (text : List ℕ) (n : ℕ) → Becomes (λ whole end. Expression text whole end) (Awaits [] text) n n
begins_expression text n = record {
  more = Prim.omega arith;
  reads = λ same whole end it. read_whole whole end it;
  only = λ whole end it closes.
      let c = conjunctions text whole end it in
      let u = operands text c.0 c.1 c.2 in
      (refl, (u.0, u.1, u.2, (c.0, c.1, u.3, (whole, end, c.3, (refl, refl)))));
}
  where
    read_whole : (whole : Tree) (end : List ℕ) → Awaits [] text whole end → Expression text whole end
    read_whole whole end it =
        let c = it.3 in
        let x = c.3 in
        let whole_conjunction = joins text c.0 c.1 it.0 it.1 conjunction_level (first_operand it.0 text it.1 it.2) c.2 in
        let found = joins text x.0 x.1 c.0 c.1 expression_level (first_conjunction c.0 text c.1 whole_conjunction) x.2 in
        subst (λ r. Expression text whole r) (sym x.3.1) (subst (λ t. Expression text t x.1) (sym x.3.0) found)
