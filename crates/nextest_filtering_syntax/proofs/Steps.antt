-- What the steps of reading an expression come to.
use Rattle.std.specs.Prelude.{◌≡◌, refl, ℕ, ◌<◌, true, false, List, [], ◌∷◌, length, codes, Box, IfOk, Result, Ok, Err}
use Rattle.std.specs.Borrow.{Bor}
use Rattle.std.proofs.Common.{arith}
use Rattle.std.specs.declared.alloc.Global.{Global}
use Rattle.std.proofs.Math.Path.{ap, sym, subst}
use Rattle.std.proofs.lemmas.Bool.{false≢true}
use Rattle.nextest_filtering_ast.specs.declared.operators.NotOperator.{NotOperator}
use Rattle.nextest_filtering_ast.specs.declared.operators.OrOperator.{OrOperator}
use Rattle.nextest_filtering_ast.specs.declared.operators.Joint.{Joint}
use Rattle.nextest_filtering_ast.specs.Tree.{Tree, negation, union, parens}
use Rattle.nextest_filtering_ast.specs.Grammar.{Behind, joint_of, ReadsNot, ReadsOr, ReadsJoint, Unary, Conjunction}
use Rattle.nextest_filtering_arguments.specs.Faults.{IsSuffix}
use Rattle.nextest_filtering_arguments.proofs.Spans.{suffix_token, suffix_trans, shorter_token}
use Rattle.nextest_filtering_syntax.specs.declared.tree.ParsedExpr.{ParsedExpr}
use Rattle.nextest_filtering_syntax.specs.declared.ahead.Ahead.{Ahead}
use Rattle.nextest_filtering_syntax.specs.declared.ahead.Ahead.TheVariants as ahead
use Rattle.nextest_filtering_syntax.specs.declared.ahead.Next.{Next}
use Rattle.nextest_filtering_syntax.specs.declared.ahead.Next.TheVariants as next
use Rattle.nextest_filtering_syntax.specs.declared.waiting.Waiting.{Waiting}
use Rattle.nextest_filtering_syntax.specs.declared.waiting.Waiting.TheVariants as waits
use Rattle.nextest_filtering_syntax.specs.Parsed.{tree_of}
use Rattle.nextest_filtering_syntax.specs.Parsing.{Closes, ClosesConjunction, IsOperator, IsNoOperator, IsClosed}
use Rattle.nextest_filtering_syntax.specs.Places.{ArePlaced, Stands}
use Rattle.nextest_filtering_syntax.specs.Waiting.{operand, conjunction, expression, AsConjunction, GoesOn, Becomes, Has, HasConjunction, HasExpression, Awaits, IsOpening, TakesJoints, TakesUnions, has_joint, has_union, WaitPlaced, WaitStands, TreeStands, Descends, MakesUp, LeadsOn, EndsWhole, EndsAll, Follows, Ascends}
use Rattle.nextest_filtering_syntax.proofs.Single.{not_behind}
use Rattle.nextest_filtering_syntax.proofs.Waits.{stays, then, opening_waits, joint_waits, union_waits, conjunction_ends, expression_ends, group_ends}

-- ---- negations and `(`

pub opening_behind : (waiting : Waiting) (text rest : List ℕ) → IsOpening waiting text rest → IsSuffix rest text × (length rest < length text)
opening_behind (waits.Not op) text rest reads = not_behind op text rest reads
opening_behind waits.Parens text rest opens = (suffix_token (40 ∷ []) rest text opens, shorter_token (40 ∷ []) rest text opens (Prim.omega arith))
opening_behind (waits.Joint left op) text rest none = absurd none
opening_behind (waits.Union left op) text rest none = absurd none

pub opening_no_joint : (waiting : Waiting) (text rest : List ℕ) → IsOpening waiting text rest → has_joint waiting ≡ true → ⊥
opening_no_joint (waits.Not op) text rest reads has = false≢true has
opening_no_joint waits.Parens text rest opens has = false≢true has
opening_no_joint (waits.Joint left op) text rest none has = none
opening_no_joint (waits.Union left op) text rest none has = none

pub opening_no_union : (waiting : Waiting) (text rest : List ℕ) → IsOpening waiting text rest → has_union waiting ≡ true → ⊥
opening_no_union (waits.Not op) text rest reads has = false≢true has
opening_no_union waits.Parens text rest opens has = false≢true has
opening_no_union (waits.Joint left op) text rest none has = none
opening_no_union (waits.Union left op) text rest none has = none

opening_placed : (input : List ℕ) (waiting : Waiting) (stack : List Waiting) (text rest : List ℕ) → IsOpening waiting text rest → WaitPlaced input stack → WaitPlaced input (waiting ∷ stack)
opening_placed input (waits.Not op) stack text rest reads placed = placed
opening_placed input waits.Parens stack text rest opens placed = placed
opening_placed input (waits.Joint left op) stack text rest none placed = absurd none
opening_placed input (waits.Union left op) stack text rest none placed = absurd none

opening_stands : (input start : List ℕ) (waiting : Waiting) (stack : List Waiting) (text rest : List ℕ) → IsOpening waiting text rest
    → WaitStands input stack start text → WaitStands input (waiting ∷ stack) start rest
opening_stands input start (waits.Not op) stack text rest reads stands = (text, stands, reads)
opening_stands input start waits.Parens stack text rest opens stands = (text, stands, opens)
opening_stands input start (waits.Joint left op) stack text rest none stands = absurd none
opening_stands input start (waits.Union left op) stack text rest none stands = absurd none

pub descends_none : (stack : List Waiting) (text : List ℕ) → Descends stack text stack text
descends_none stack text = record {
  behind = ([], refl);
  becomes = λ n. stays (Awaits stack text) n;
  placed = λ input it. it;
  stands = λ input start it. it;
}

pub descends_once : (old : List Waiting) (text : List ℕ) (stack : List Waiting) (rest : List ℕ) (waiting : Waiting) (new : List Waiting) (inside : List ℕ)
    → Descends old text stack rest → IsOpening waiting rest inside → new ≡ waiting ∷ stack → Descends old text new inside
descends_once old text stack rest waiting new inside so_far opens is = subst (λ s. Descends old text s inside) (sym is) record {
  behind = suffix_trans inside rest text (opening_behind waiting rest inside opens).0 so_far.behind;
  becomes = λ n. then (Awaits old text) (Awaits stack rest) (Awaits (waiting ∷ stack) inside) n n n (so_far.becomes n) (opening_waits waiting stack rest inside n opens);
  placed = λ input it. opening_placed input waiting stack rest inside opens (so_far.placed input it);
  stands = λ input start it. opening_stands input start waiting stack rest inside opens (so_far.stands input start it);
}

-- ---- what makes up a tree

alike : (From To : Tree → List ℕ → Type 0) (n : ℕ) → ((whole : Tree) (end : List ℕ) → (From whole end → To whole end) × (To whole end → From whole end)) → Becomes From To n n
alike From To n same = record {
  more = Prim.omega arith;
  reads = λ _ whole end it. (same whole end).1 it;
  only = λ whole end it closes. (refl, (same whole end).0 it);
}

pub makes_negation : (old : List Waiting) (tree : ParsedExpr) (op : NotOperator) (now stack : List Waiting) (t u : ParsedExpr)
    → MakesUp (Has operand) (Has operand) old tree now t → now ≡ waits.Not op ∷ stack → tree_of u ≡ negation op (tree_of t)
    → ((input : List ℕ) → ArePlaced input t → ArePlaced input u)
    → ((input text inside rest : List ℕ) → ReadsNot op text inside → Stands input t inside rest → Stands input u text rest)
    → MakesUp (Has operand) (Has operand) old tree stack u
makes_negation old tree op now stack t u given top is places stands =
    let so_far : MakesUp (Has operand) (Has operand) old tree (waits.Not op ∷ stack) t = subst (λ s. MakesUp (Has operand) (Has operand) old tree s t) top given in
    record {
      fewer = Prim.omega (arith, so_far.fewer);
      becomes = λ rest n. then (Has operand old (tree_of tree) rest) (Has operand (waits.Not op ∷ stack) (tree_of t) rest) (Has operand stack (tree_of u) rest) n n n
          (so_far.becomes rest n) (alike (Has operand (waits.Not op ∷ stack) (tree_of t) rest) (Has operand stack (tree_of u) rest) n
          (λ whole end. ((λ it. subst (λ x. GoesOn whole end stack operand x rest) (sym is) it), (λ it. subst (λ x. GoesOn whole end stack operand x rest) is it))));
      placed = λ input waiting it. let more = so_far.placed input waiting it in (more.0, places input more.1);
      stands = λ input text rest it.
          let read = so_far.stands input text rest it in
          (read.1.0, read.1.1, stands input read.1.0 read.0 rest read.1.2 read.2);
    }

pub makes_joint : (left : Box ParsedExpr Global) (op : Joint) (old stack : List Waiting) (tree u : ParsedExpr) → old ≡ waits.Joint left op ∷ stack
    → tree_of u ≡ joint_of op (tree_of left.value) (tree_of tree)
    → ((input : List ℕ) → ArePlaced input left.value → ArePlaced input tree → ArePlaced input u)
    → ((input text middle behind rest : List ℕ) → Stands input left.value text middle → ReadsJoint op middle behind → Stands input tree behind rest → Stands input u text rest)
    → MakesUp (Has operand) (Has conjunction) old tree stack u
makes_joint left op old stack tree u top is places stands = subst (λ s. MakesUp (Has operand) (Has conjunction) s tree stack u) (sym top) record {
  fewer = Prim.omega arith;
  becomes = λ rest n. alike (Has operand (waits.Joint left op ∷ stack) (tree_of tree) rest) (Has conjunction stack (tree_of u) rest) n
      (λ whole end. ((λ it. subst (λ x. GoesOn whole end stack conjunction x rest) (sym is) it), (λ it. subst (λ x. GoesOn whole end stack conjunction x rest) is it)));
  placed = λ input waiting it. (waiting.1, places input waiting.0 it);
  stands = λ input text rest it. (it.1.0, it.1.2, stands input it.1.0 it.1.1 it.0 rest it.1.3 it.1.4 it.2);
}

no_joint_alike : (stack : List Waiting) (t : Tree) (rest : List ℕ) → TakesJoints stack → (whole : Tree) (end : List ℕ)
    → (Has operand stack t rest whole end → Has conjunction stack t rest whole end) × (Has conjunction stack t rest whole end → Has operand stack t rest whole end)
no_joint_alike [] t rest takes whole end = ((λ it. it), (λ it. it))
no_joint_alike (waits.Not op ∷ more) t rest takes whole end = absurd takes
no_joint_alike (waits.Parens ∷ more) t rest takes whole end = ((λ it. it), (λ it. it))
no_joint_alike (waits.Joint left op ∷ more) t rest takes whole end = absurd takes
no_joint_alike (waits.Union left op ∷ more) t rest takes whole end = ((λ it. it), (λ it. it))

pub makes_no_joint : (old new : List Waiting) (tree : ParsedExpr) → new ≡ old → TakesJoints old → MakesUp (Has operand) (Has conjunction) old tree new tree
makes_no_joint old new tree same takes = subst (λ s. MakesUp (Has operand) (Has conjunction) old tree s tree) (sym same) record {
  fewer = Prim.omega arith;
  becomes = λ rest n. alike (Has operand old (tree_of tree) rest) (Has conjunction old (tree_of tree) rest) n (no_joint_alike old (tree_of tree) rest takes);
  placed = λ input waiting it. (waiting, it);
  stands = λ input text rest it. it;
}

pub makes_union : (left : Box ParsedExpr Global) (op : OrOperator) (old stack : List Waiting) (tree u : ParsedExpr) → old ≡ waits.Union left op ∷ stack
    → tree_of u ≡ union op (tree_of left.value) (tree_of tree)
    → ((input : List ℕ) → ArePlaced input left.value → ArePlaced input tree → ArePlaced input u)
    → ((input text middle behind rest : List ℕ) → Stands input left.value text middle → ReadsOr op middle behind → Stands input tree behind rest → Stands input u text rest)
    → MakesUp HasConjunction (Has expression) old tree stack u
makes_union left op old stack tree u top is places stands = subst (λ s. MakesUp HasConjunction (Has expression) s tree stack u) (sym top) record {
  fewer = Prim.omega arith;
  becomes = λ rest n. alike (HasConjunction (waits.Union left op ∷ stack) (tree_of tree) rest) (Has expression stack (tree_of u) rest) n
      (λ whole end. ((λ it. subst (λ x. GoesOn whole end stack expression x rest) (sym is) it), (λ it. subst (λ x. GoesOn whole end stack expression x rest) is it)));
  placed = λ input waiting it. (waiting.1, places input waiting.0 it);
  stands = λ input text rest it. (it.1.0, it.1.2, stands input it.1.0 it.1.1 it.0 rest it.1.3 it.1.4 it.2);
}

no_union_alike : (stack : List Waiting) (t : Tree) (rest : List ℕ) → TakesUnions stack → (whole : Tree) (end : List ℕ)
    → (HasConjunction stack t rest whole end → Has expression stack t rest whole end) × (Has expression stack t rest whole end → HasConjunction stack t rest whole end)
no_union_alike [] t rest takes whole end = ((λ it. it), (λ it. it))
no_union_alike (waits.Not op ∷ more) t rest takes whole end = absurd takes
no_union_alike (waits.Parens ∷ more) t rest takes whole end = ((λ it. it), (λ it. it))
no_union_alike (waits.Joint left op ∷ more) t rest takes whole end = absurd takes
no_union_alike (waits.Union left op ∷ more) t rest takes whole end = absurd takes

pub makes_no_union : (old new : List Waiting) (tree : ParsedExpr) → new ≡ old → TakesUnions old → MakesUp HasConjunction (Has expression) old tree new tree
makes_no_union old new tree same takes = subst (λ s. MakesUp HasConjunction (Has expression) old tree s tree) (sym same) record {
  fewer = Prim.omega arith;
  becomes = λ rest n. alike (HasConjunction old (tree_of tree) rest) (Has expression old (tree_of tree) rest) n (no_union_alike old (tree_of tree) rest takes);
  placed = λ input waiting it. (waiting, it);
  stands = λ input text rest it. it;
}

-- ---- where there is memory

pub ok_known : {A E : Type 0} {P : Type 0} (r : Result A E) → P → IfOk r (λ _. P)
ok_known (Ok it) known = known
ok_known (Err e) known = tt

pub ok_makes_joint : {E : Type 0} (left : Box ParsedExpr Global) (op : Joint) (old stack : List Waiting) (tree : ParsedExpr) (r : Result ParsedExpr E) → old ≡ waits.Joint left op ∷ stack
    → IfOk r (λ u. tree_of u ≡ joint_of op (tree_of left.value) (tree_of tree))
    → ((input : List ℕ) → ArePlaced input left.value → ArePlaced input tree → IfOk r (ArePlaced input))
    → ((input text middle behind rest : List ℕ) → Stands input left.value text middle → ReadsJoint op middle behind → Stands input tree behind rest → IfOk r (λ u. Stands input u text rest))
    → IfOk r (MakesUp (Has operand) (Has conjunction) old tree stack)
ok_makes_joint left op old stack tree (Ok u) top is places stands = makes_joint left op old stack tree u top is places stands
ok_makes_joint left op old stack tree (Err e) top is places stands = tt

pub ok_makes_union : {E : Type 0} (left : Box ParsedExpr Global) (op : OrOperator) (old stack : List Waiting) (tree : ParsedExpr) (r : Result ParsedExpr E) → old ≡ waits.Union left op ∷ stack
    → IfOk r (λ u. tree_of u ≡ union op (tree_of left.value) (tree_of tree))
    → ((input : List ℕ) → ArePlaced input left.value → ArePlaced input tree → IfOk r (ArePlaced input))
    → ((input text middle behind rest : List ℕ) → Stands input left.value text middle → ReadsOr op middle behind → Stands input tree behind rest → IfOk r (λ u. Stands input u text rest))
    → IfOk r (MakesUp HasConjunction (Has expression) old tree stack)
ok_makes_union left op old stack tree (Ok u) top is places stands = makes_union left op old stack tree u top is places stands
ok_makes_union left op old stack tree (Err e) top is places stands = tt

-- ---- what follows an operand

-- an operand, the operators of a conjunction before it, and one behind it
pub leads_by_joint : (old : List Waiting) (tree : ParsedExpr) (one : List Waiting) (first : ParsedExpr) (two : List Waiting) (second : ParsedExpr)
    (left : Box ParsedExpr Global) (op : Joint) (new : List Waiting) (text rest : List ℕ) (before after : ℕ)
    → MakesUp (Has operand) (Has operand) old tree one first → MakesUp (Has operand) (Has conjunction) one first two second
    → left.value ≡ second → new ≡ waits.Joint left op ∷ two → IsOperator ReadsJoint Unary ClosesConjunction text before after op rest
    → LeadsOn old tree text new rest before after
leads_by_joint old tree one first two second left op new text rest before after makes joins holds is operator =
    subst (λ s. LeadsOn old tree text s rest before after) (sym is) record {
      behind = operator.behind;
      becomes = then (Has operand old (tree_of tree) text) (Has operand one (tree_of first) text) (Awaits (waits.Joint left op ∷ two) rest) before before after (makes.becomes text before)
          (then (Has operand one (tree_of first) text) (Has conjunction two (tree_of second) text) (Awaits (waits.Joint left op ∷ two) rest) before before after (joins.becomes text before)
          (joint_waits two (waits.Joint left op) (tree_of second) text rest before after op
          (λ whole end u next. (
            (λ it. subst (λ x. GoesOn whole end two conjunction (joint_of op (tree_of x) u) next) holds it),
            (λ it. subst (λ x. GoesOn whole end two conjunction (joint_of op (tree_of x) u) next) (sym holds) it),
          )) operator));
      placed = λ input waiting it.
          let a = makes.placed input waiting it in
          let b = joins.placed input a.0 a.1 in
          (subst (ArePlaced input) (sym holds) b.1, b.0);
      stands = λ same input start it.
          let a = joins.stands input start text (makes.stands input start text it) in
          (a.0, text, a.1, subst (λ x. Stands input x a.0 text) (sym holds) a.2, operator.reads same);
    }

-- the same where the conjunction ends, and an operator of a union follows
pub leads_by_union : (old : List Waiting) (tree : ParsedExpr) (one : List Waiting) (first : ParsedExpr) (two : List Waiting) (second : ParsedExpr)
    (three : List Waiting) (third : ParsedExpr) (left : Box ParsedExpr Global) (op : OrOperator) (new : List Waiting) (text rest : List ℕ) (before middle after : ℕ)
    → MakesUp (Has operand) (Has operand) old tree one first → MakesUp (Has operand) (Has conjunction) one first two second
    → IsNoOperator ReadsJoint text before middle → MakesUp HasConjunction (Has expression) two second three third
    → left.value ≡ third → new ≡ waits.Union left op ∷ three → IsOperator ReadsOr Conjunction Closes text middle after op rest
    → LeadsOn old tree text new rest before after
leads_by_union old tree one first two second three third left op new text rest before middle after makes joins none unites holds is operator =
    subst (λ s. LeadsOn old tree text s rest before after) (sym is) record {
      behind = operator.behind;
      becomes = then (Has operand old (tree_of tree) text) (Has operand one (tree_of first) text) (Awaits (waits.Union left op ∷ three) rest) before before after (makes.becomes text before)
          (then (Has operand one (tree_of first) text) (Has conjunction two (tree_of second) text) (Awaits (waits.Union left op ∷ three) rest) before before after (joins.becomes text before)
          (then (Has conjunction two (tree_of second) text) (HasConjunction two (tree_of second) text) (Awaits (waits.Union left op ∷ three) rest) before middle after
          (conjunction_ends two (tree_of second) text before middle none)
          (then (HasConjunction two (tree_of second) text) (Has expression three (tree_of third) text) (Awaits (waits.Union left op ∷ three) rest) middle middle after (unites.becomes text middle)
          (union_waits three (waits.Union left op) (tree_of third) text rest middle after op
          (λ whole end u next. (
            (λ it. subst (λ x. AsConjunction (λ found. GoesOn whole end three expression (union op (tree_of x) found)) u next) holds it),
            (λ it. subst (λ x. AsConjunction (λ found. GoesOn whole end three expression (union op (tree_of x) found)) u next) (sym holds) it),
          )) operator))));
      placed = λ input waiting it.
          let a = makes.placed input waiting it in
          let b = joins.placed input a.0 a.1 in
          let c = unites.placed input b.0 b.1 in
          (subst (ArePlaced input) (sym holds) c.1, c.0);
      stands = λ same input start it.
          let a = unites.stands input start text (joins.stands input start text (makes.stands input start text it)) in
          (a.0, text, a.1, subst (λ x. Stands input x a.0 text) (sym holds) a.2, operator.reads (Prim.omega (arith, same, none.same, operator.more)));
    }

-- an operand with what waited for it, which no operator follows
pub ends_whole : (old : List Waiting) (tree : ParsedExpr) (one : List Waiting) (first : ParsedExpr) (two : List Waiting) (second : ParsedExpr)
    (three : List Waiting) (third : ParsedExpr) (text : List ℕ) (before middle after : ℕ)
    → MakesUp (Has operand) (Has operand) old tree one first → MakesUp (Has operand) (Has conjunction) one first two second
    → IsNoOperator ReadsJoint text before middle → MakesUp HasConjunction (Has expression) two second three third
    → TakesUnions three → IsNoOperator ReadsOr text middle after → EndsWhole old tree text three third before after
ends_whole old tree one first two second three third text before middle after makes joins none unites takes ends = record {
  fewer = Prim.omega (arith, makes.fewer, joins.fewer, unites.fewer);
  takes = takes;
  becomes = then (Has operand old (tree_of tree) text) (Has operand one (tree_of first) text) (HasExpression three (tree_of third) text) before before after (makes.becomes text before)
      (then (Has operand one (tree_of first) text) (Has conjunction two (tree_of second) text) (HasExpression three (tree_of third) text) before before after (joins.becomes text before)
      (then (Has conjunction two (tree_of second) text) (HasConjunction two (tree_of second) text) (HasExpression three (tree_of third) text) before middle after
      (conjunction_ends two (tree_of second) text before middle none)
      (then (HasConjunction two (tree_of second) text) (Has expression three (tree_of third) text) (HasExpression three (tree_of third) text) middle middle after (unites.becomes text middle)
      (expression_ends three (tree_of third) text middle after ends))));
  placed = λ input waiting it.
      let a = makes.placed input waiting it in
      let b = joins.placed input a.0 a.1 in
      unites.placed input b.0 b.1;
  stands = λ same input start it. unites.stands input start text (joins.stands input start text (makes.stands input start text it));
}

-- ---- operands and the `)` behind them

-- so far, expressions in parentheses were read up to an operand
pub record HasAscended (old : List Waiting) (tree : ParsedExpr) (text : List ℕ) (now : List Waiting) (found : ParsedExpr) (rest : List ℕ) (before after : ℕ) : Type 0 where
  pub behind : IsSuffix rest text
  pub becomes : Becomes (Has operand old (tree_of tree) text) (Has operand now (tree_of found) rest) before after
  pub placed : (input : List ℕ) → WaitPlaced input old → ArePlaced input tree → WaitPlaced input now × ArePlaced input found
  pub stands : after ≡ before → (input start : List ℕ) → TreeStands input old tree start text → TreeStands input now found start rest

pub ascended_none : (stack : List Waiting) (tree : ParsedExpr) (text : List ℕ) (n : ℕ) → HasAscended stack tree text stack tree text n n
ascended_none stack tree text n = record {
  behind = ([], refl);
  becomes = stays (Has operand stack (tree_of tree) text) n;
  placed = λ input waiting it. (waiting, it);
  stands = λ same input start it. it;
}

pub ascended_once : (old : List Waiting) (tree : ParsedExpr) (text : List ℕ) (now : List Waiting) (t : ParsedExpr) (rest : List ℕ)
    (new : List Waiting) (found : ParsedExpr) (stack : List Waiting) (u : ParsedExpr) (next : List ℕ) (before one two after : ℕ)
    → HasAscended old tree text now t rest before one → EndsWhole now t rest new found one two → new ≡ waits.Parens ∷ stack
    → IsClosed rest two after next → tree_of u ≡ parens (tree_of found)
    → ((input : List ℕ) → ArePlaced input found → ArePlaced input u)
    → ((input here within behind end : List ℕ) → Behind (codes "(") here within → Stands input found within behind → Behind (codes ")") behind end → Stands input u here end)
    → HasAscended old tree text stack u next before after
ascended_once old tree text now t rest new found stack u next before one two after so_far given top closed is places encloses =
    let ends : EndsWhole now t rest (waits.Parens ∷ stack) found one two = subst (λ s. EndsWhole now t rest s found one two) top given in
    record {
      behind = suffix_trans next rest text closed.behind so_far.behind;
      becomes = then (Has operand old (tree_of tree) text) (Has operand now (tree_of t) rest) (Has operand stack (tree_of u) next) before one after so_far.becomes
          (then (Has operand now (tree_of t) rest) (HasExpression (waits.Parens ∷ stack) (tree_of found) rest) (Has operand stack (tree_of u) next) one two after ends.becomes
          (group_ends stack (tree_of found) (tree_of u) rest next two after is closed));
      placed = λ input waiting it.
          let a = so_far.placed input waiting it in
          let b = ends.placed input a.0 a.1 in
          (b.0, places input b.1);
      stands = λ same input start it.
          let a = so_far.stands (Prim.omega (arith, same, so_far.becomes.more, ends.becomes.more, closed.more)) input start it in
          let b = ends.stands (Prim.omega (arith, same, so_far.becomes.more, ends.becomes.more, closed.more)) input start a in
          (b.1.0, b.1.1, encloses input b.1.0 b.0 rest next b.1.2 b.2 (closed.reads (Prim.omega (arith, same, so_far.becomes.more, ends.becomes.more, closed.more))));
    }

pub ascended_leads : (old : List Waiting) (tree : ParsedExpr) (text : List ℕ) (now : List Waiting) (t : ParsedExpr) (rest : List ℕ)
    (new : List Waiting) (next : List ℕ) (before one after : ℕ)
    → HasAscended old tree text now t rest before one → LeadsOn now t rest new next one after → LeadsOn old tree text new next before after
ascended_leads old tree text now t rest new next before one after so_far leads = record {
  behind = suffix_trans next rest text leads.behind so_far.behind;
  becomes = then (Has operand old (tree_of tree) text) (Has operand now (tree_of t) rest) (Awaits new next) before one after so_far.becomes leads.becomes;
  placed = λ input waiting it. let a = so_far.placed input waiting it in leads.placed input a.0 a.1;
  stands = λ same input start it.
      leads.stands (Prim.omega (arith, same, so_far.becomes.more, leads.becomes.more)) input start
      (so_far.stands (Prim.omega (arith, same, so_far.becomes.more, leads.becomes.more)) input start it);
}

pub ascended_all : (old : List Waiting) (tree : ParsedExpr) (text : List ℕ) (now : List Waiting) (t : ParsedExpr) (rest : List ℕ)
    (new : List Waiting) (found : ParsedExpr) (before one after : ℕ)
    → HasAscended old tree text now t rest before one → EndsWhole now t rest new found one after → (TakesUnions new → new ≡ []) → EndsAll old tree text found rest before after
ascended_all old tree text now t rest new found before one after so_far given top =
    let ends : EndsWhole now t rest [] found one after = subst (λ s. EndsWhole now t rest s found one after) (top given.takes) given in
    record {
      behind = so_far.behind;
      becomes = then (Has operand old (tree_of tree) text) (Has operand now (tree_of t) rest) (HasExpression [] (tree_of found) rest) before one after so_far.becomes ends.becomes;
      placed = λ input waiting it. let a = so_far.placed input waiting it in (ends.placed input a.0 a.1).1;
      stands = λ same input start it.
          ends.stands (Prim.omega (arith, same, so_far.becomes.more, ends.becomes.more)) input start
          (so_far.stands (Prim.omega (arith, same, so_far.becomes.more, ends.becomes.more)) input start it);
    }

-- ---- the cases of what follows

pub leads_by : (old : List Waiting) (tree : ParsedExpr) (text : List ℕ) (new : List Waiting) (before after : ℕ) (r : Ahead) (rest : Bor (List ℕ)) → r ≡ ahead.Operand rest
    → Follows old tree text new before after r → LeadsOn old tree text new rest.now before after
leads_by old tree text new before after r rest is follows = subst (Follows old tree text new before after) is follows

pub whole_by : (old : List Waiting) (tree : ParsedExpr) (text : List ℕ) (new : List Waiting) (before after : ℕ) (r : Ahead) (found : ParsedExpr) → r ≡ ahead.Whole found
    → Follows old tree text new before after r → EndsWhole old tree text new found before after
whole_by old tree text new before after r found is follows = subst (Follows old tree text new before after) is follows

pub next_by : (old : List Waiting) (tree : ParsedExpr) (text : List ℕ) (new : List Waiting) (before after : ℕ) (r : Next) (rest : Bor (List ℕ)) → r ≡ next.Operand rest
    → Ascends old tree text new before after r → LeadsOn old tree text new rest.now before after
next_by old tree text new before after r rest is ascends = subst (Ascends old tree text new before after) is ascends

pub all_by : (old : List Waiting) (tree : ParsedExpr) (text : List ℕ) (new : List Waiting) (before after : ℕ) (r : Next) (found : ParsedExpr) (rest : Bor (List ℕ)) → r ≡ next.Done found rest
    → Ascends old tree text new before after r → EndsAll old tree text found rest.now before after
all_by old tree text new before after r found rest is ascends = subst (Ascends old tree text new before after) is ascends

-- fewer wait behind a `)`
pub fewer_wait : (now : List Waiting) (t : ParsedExpr) (rest : List ℕ) (new : List Waiting) (found : ParsedExpr) (stack : List Waiting) (one two : ℕ)
    → EndsWhole now t rest new found one two → new ≡ waits.Parens ∷ stack → length stack < length now
fewer_wait now t rest new found stack one two ends top = Prim.omega (arith, ends.fewer, ap length top)
