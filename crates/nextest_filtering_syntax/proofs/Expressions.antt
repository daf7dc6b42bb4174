-- Reading a whole expression, one operand after another.
use Rattle.std.specs.Prelude.{◌≡◌, refl, ℕ, ◌<◌, List, [], length, Result, Ok}
use Rattle.std.specs.Borrow.{Bor}
use Rattle.std.proofs.Common.{arith}
use Rattle.std.proofs.Math.Path.{sym, subst}
use Rattle.nextest_filtering_ast.specs.Grammar.{Unary, Expression}
use Rattle.nextest_filtering_arguments.specs.Faults.{IsSuffix}
use Rattle.nextest_filtering_arguments.specs.declared.stop.Stop.{Stop}
use Rattle.nextest_filtering_arguments.proofs.Spans.{suffix_trans, suffix_len}
use Rattle.nextest_filtering_syntax.specs.declared.tree.ParsedExpr.{ParsedExpr}
use Rattle.nextest_filtering_syntax.specs.declared.waiting.Waiting.{Waiting}
use Rattle.nextest_filtering_syntax.specs.Parsed.{tree_of}
use Rattle.nextest_filtering_syntax.specs.Parsing.{Anywhere, Closes, IsPart, IsNoPart, Finds, ReadsPredicate}
use Rattle.nextest_filtering_syntax.specs.Places.{ArePlaced, Stands}
use Rattle.nextest_filtering_syntax.specs.Waiting.{operand, Becomes, Has, HasExpression, Awaits, OpensNothing, WaitPlaced, WaitStands, Descends, LeadsOn, EndsAll}
use Rattle.nextest_filtering_syntax.proofs.Operands.{predicate_finds}
use Rattle.nextest_filtering_syntax.proofs.Waits.{then, begins_expression, operand_read, no_operand_read}

-- so far, the text was read up to where an operand is to follow
pub record HasRead (input text : List ℕ) (stack : List Waiting) (rest : List ℕ) (before after : ℕ) : Type 0 where
  pub behind : IsSuffix rest text
  pub becomes : Becomes (λ whole end. Expression text whole end) (Awaits stack rest) before after
  pub placed : WaitPlaced input stack
  pub stands : after ≡ before → WaitStands input stack text rest

pub read_none : (input text : List ℕ) (stack : List Waiting) (n : ℕ) → stack ≡ [] → HasRead input text stack text n n
read_none input text stack n none = subst (λ s. HasRead input text s text n n) (sym none) record {
  behind = ([], refl);
  becomes = begins_expression text n;
  placed = tt;
  stands = λ same. refl;
}

-- negations and `(` more
pub read_down : (input text : List ℕ) (stack : List Waiting) (rest : List ℕ) (new : List Waiting) (start : List ℕ) (before after : ℕ)
    → HasRead input text stack rest before after → Descends stack rest new start → HasRead input text new start before after
read_down input text stack rest new start before after so_far down = record {
  behind = suffix_trans start rest text down.behind so_far.behind;
  becomes = then (λ whole end. Expression text whole end) (Awaits stack rest) (Awaits new start) before after after so_far.becomes (down.becomes after);
  placed = down.placed input so_far.placed;
  stands = λ same. down.stands input text (so_far.stands same);
}

-- where neither stands, a predicate is an operand
pub operand_found : (text : List ℕ) (old new : ℕ) (r : Result (ParsedExpr × Bor (List ℕ)) Stop) → OpensNothing text
    → Finds ReadsPredicate Anywhere text old new r → Finds Unary Anywhere text old new r
operand_found text old new r none found = predicate_finds text old new r none.no_negation none.no_group found

pub operand_part : (text : List ℕ) (old new : ℕ) (tree : ParsedExpr) (rest : Bor (List ℕ)) → OpensNothing text
    → IsPart ReadsPredicate Anywhere text old new (tree_of tree) rest.now → IsPart Unary Anywhere text old new (tree_of tree) rest.now
operand_part text old new tree rest none part = operand_found text old new (Ok (tree, rest)) none part

-- an operand, and an operator behind it
pub read_on : (input text : List ℕ) (stack : List Waiting) (start : List ℕ) (tree : ParsedExpr) (behind : List ℕ) (new : List Waiting) (rest : List ℕ) (before one two after : ℕ)
    → HasRead input text stack start before one → IsPart Unary Anywhere start one two (tree_of tree) behind → ArePlaced input tree
    → (two ≡ one → Stands input tree start behind) → LeadsOn stack tree behind new rest two after → HasRead input text new rest before after
read_on input text stack start tree behind new rest before one two after so_far part placed stands leads = record {
  behind = suffix_trans rest behind text leads.behind (suffix_trans behind start text part.behind so_far.behind);
  becomes = then (λ whole end. Expression text whole end) (Awaits stack start) (Awaits new rest) before one after so_far.becomes
      (then (Awaits stack start) (Has operand stack (tree_of tree) behind) (Awaits new rest) one two after (operand_read stack start (tree_of tree) behind one two part) leads.becomes);
  placed = leads.placed input so_far.placed placed;
  stands = λ same.
      leads.stands (Prim.omega (arith, same, so_far.becomes.more, part.more, leads.becomes.more)) input text (
        start,
        so_far.stands (Prim.omega (arith, same, so_far.becomes.more, part.more, leads.becomes.more)),
        stands (Prim.omega (arith, same, so_far.becomes.more, part.more, leads.becomes.more)),
      );
}

-- what is left is shorter
pub read_shorter : (start behind rest before : List ℕ) → IsSuffix rest behind → length behind < length start → IsSuffix start before → length rest < length before
read_shorter start behind rest before one less two = Prim.omega (arith, suffix_len rest behind one, suffix_len start before two, less)

-- an operand, and nothing behind it that belongs to it
pub read_all : (input text : List ℕ) (stack : List Waiting) (start : List ℕ) (tree : ParsedExpr) (behind : List ℕ) (found : ParsedExpr) (rest : List ℕ) (before one two after : ℕ)
    → HasRead input text stack start before one → IsPart Unary Anywhere start one two (tree_of tree) behind
    → EndsAll stack tree behind found rest two after → IsPart Expression Closes text before after (tree_of found) rest
read_all input text stack start tree behind found rest before one two after so_far part ends =
    let becomes : Becomes (λ whole end. Expression text whole end) (HasExpression [] (tree_of found) rest) before after =
    then (λ whole end. Expression text whole end) (Awaits stack start) (HasExpression [] (tree_of found) rest) before one after so_far.becomes
    (then (Awaits stack start) (Has operand stack (tree_of tree) behind) (HasExpression [] (tree_of found) rest) one two after
    (operand_read stack start (tree_of tree) behind one two part) ends.becomes) in
    record {
      more = becomes.more;
      behind = suffix_trans rest behind text ends.behind (suffix_trans behind start text part.behind so_far.behind);
      shorter = read_shorter start behind rest text ends.behind part.shorter so_far.behind;
      reads = λ same. becomes.reads same (tree_of found) rest (refl, refl);
      only = λ other end reads closes. let is = becomes.only other end reads closes in (is.0, is.1.0, is.1.1);
    }

pub stands_all : (input text : List ℕ) (stack : List Waiting) (start : List ℕ) (tree : ParsedExpr) (behind : List ℕ) (found : ParsedExpr) (rest : List ℕ) (before one two after : ℕ)
    → HasRead input text stack start before one → IsPart Unary Anywhere start one two (tree_of tree) behind → (two ≡ one → Stands input tree start behind)
    → EndsAll stack tree behind found rest two after → after ≡ before → Stands input found text rest
stands_all input text stack start tree behind found rest before one two after so_far part stands ends same =
    let it = ends.stands (Prim.omega (arith, same, so_far.becomes.more, part.more, ends.becomes.more)) input text (
      start,
      so_far.stands (Prim.omega (arith, same, so_far.becomes.more, part.more, ends.becomes.more)),
      stands (Prim.omega (arith, same, so_far.becomes.more, part.more, ends.becomes.more)),
    ) in
    subst (λ here. Stands input found here rest) (sym it.1) it.2

-- no operand, and so no expression
pub read_nothing : (input text : List ℕ) (stack : List Waiting) (start : List ℕ) (before one after : ℕ)
    → HasRead input text stack start before one → IsNoPart Unary Anywhere start one after → IsNoPart Expression Closes text before after
read_nothing input text stack start before one after so_far none = record {
  more = Prim.omega (arith, so_far.becomes.more, none.more);
  never = λ other end reads closes. no_operand_read stack start one after none other end (so_far.becomes.only other end reads closes).1;
}
