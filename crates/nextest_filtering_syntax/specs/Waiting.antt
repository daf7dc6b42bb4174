-- What was read and waits for an operand behind it, and how it is read on from there.
use Rattle.std.specs.Prelude.{◌≡◌, ℕ, ◌≤◌, Bool, true, false, List, [], ◌∷◌, length, codes, ⊤}
use Rattle.nextest_filtering_ast.specs.declared.operators.NotOperator.{NotOperator}
use Rattle.nextest_filtering_ast.specs.Tree.{Tree, negation, union, parens}
use Rattle.nextest_filtering_ast.specs.Grammar.{after_blanks, Behind, joint_of, ReadsNot, ReadsOr, ReadsJoint, Unary, Conjunction}
use Rattle.nextest_filtering_arguments.specs.Faults.{IsSuffix}
use Rattle.nextest_filtering_syntax.specs.declared.tree.ParsedExpr.{ParsedExpr}
use Rattle.nextest_filtering_syntax.specs.declared.ahead.Ahead.{Ahead}
use Rattle.nextest_filtering_syntax.specs.declared.ahead.Ahead.TheVariants as ahead
use Rattle.nextest_filtering_syntax.specs.declared.ahead.Next.{Next}
use Rattle.nextest_filtering_syntax.specs.declared.ahead.Next.TheVariants as next
use Rattle.nextest_filtering_syntax.specs.declared.waiting.Waiting.{Waiting}
use Rattle.nextest_filtering_syntax.specs.declared.waiting.Waiting.TheVariants as waits
use Rattle.nextest_filtering_syntax.specs.Parsed.{tree_of}
use Rattle.nextest_filtering_syntax.specs.Parsing.{Closes}
use Rattle.nextest_filtering_syntax.specs.Places.{ArePlaced, Stands}

-- ---- which may stand within which

abbrev pub has_joint : Waiting → Bool
has_joint (waits.Not op) = false
has_joint waits.Parens = false
has_joint (waits.Joint left op) = true
has_joint (waits.Union left op) = false

abbrev pub has_union : Waiting → Bool
has_union (waits.Not op) = false
has_union waits.Parens = false
has_union (waits.Joint left op) = false
has_union (waits.Union left op) = true

-- the left operand of a union may wait here: nothing waits for an operand of it
abbrev pub TakesUnions : List Waiting → Type 0
TakesUnions [] = ⊤
TakesUnions (waits.Not op ∷ more) = ⊥
TakesUnions (waits.Parens ∷ more) = ⊤
TakesUnions (waits.Joint left op ∷ more) = ⊥
TakesUnions (waits.Union left op ∷ more) = ⊥

-- the left operand of an intersection or a difference may
abbrev pub TakesJoints : List Waiting → Type 0
TakesJoints [] = ⊤
TakesJoints (waits.Not op ∷ more) = ⊥
TakesJoints (waits.Parens ∷ more) = ⊤
TakesJoints (waits.Joint left op ∷ more) = ⊥
TakesJoints (waits.Union left op ∷ more) = ⊤

-- no negation waits last
abbrev pub TakesOperands : List Waiting → Type 0
TakesOperands [] = ⊤
TakesOperands (waits.Not op ∷ more) = ⊥
TakesOperands (waits.Parens ∷ more) = ⊤
TakesOperands (waits.Joint left op ∷ more) = ⊤
TakesOperands (waits.Union left op ∷ more) = ⊤

-- each waits where it may
abbrev pub Nests : List Waiting → Type 0
Nests [] = ⊤
Nests (waits.Not op ∷ more) = Nests more
Nests (waits.Parens ∷ more) = Nests more
Nests (waits.Joint left op ∷ more) = TakesJoints more × Nests more
Nests (waits.Union left op ∷ more) = TakesUnions more × Nests more

-- ---- how a whole filterset is read on

-- From the tree so far and what follows it, operators and operands lead to a tree and its rest.
pub data After {Op : Type 0} (Reads : Op → List ℕ → List ℕ → Type 0) (Operand : List ℕ → Tree → List ℕ → Type 0) (join : Op → Tree → Tree → Tree) (t : Tree) (rest : List ℕ) : Tree → List ℕ → Type 0 where
  stop : (so_far : Tree) (middle : List ℕ) → t ≡ so_far → rest ≡ middle → After Reads Operand join t rest so_far middle
  link : (op : Op) (so_far b : Tree) (middle behind next : List ℕ) → Reads op middle behind → Operand behind b next → After Reads Operand join t rest (join op so_far b) next → After Reads Operand join t rest so_far middle

abbrev pub AfterOperand : Tree → List ℕ → Tree → List ℕ → Type 0
AfterOperand = After ReadsJoint Unary joint_of

abbrev pub AfterConjunction : Tree → List ℕ → Tree → List ℕ → Type 0
AfterConjunction = After ReadsOr Conjunction union

-- more operands may follow, and make up a conjunction, from which it goes on
abbrev pub AsConjunction : (Tree → List ℕ → Type 0) → Tree → List ℕ → Type 0
AsConjunction GoesOn t rest = (found : Tree) × (last : List ℕ) × AfterOperand found last t rest × GoesOn found last

-- more conjunctions may follow, and make up an expression
abbrev pub AsExpression : (Tree → List ℕ → Type 0) → Tree → List ℕ → Type 0
AsExpression GoesOn t rest = (found : Tree) × (last : List ℕ) × AfterConjunction found last t rest × GoesOn found last

-- `)` follows, and makes up an operand
abbrev pub AsGroup : (Tree → List ℕ → Type 0) → Tree → List ℕ → Type 0
AsGroup GoesOn t rest = (last : List ℕ) × Behind (codes ")") rest last × GoesOn (parens t) last

-- what was read: an operand; a conjunction or an expression so far
pub data Part : Type 0 where
  operand : Part
  conjunction : Part
  expression : Part

abbrev pub FromPart : Part → (Tree → List ℕ → Type 0) → Tree → List ℕ → Type 0
FromPart operand GoesOn = AsConjunction (AsExpression GoesOn)
FromPart conjunction GoesOn = AsConjunction (AsExpression GoesOn)
FromPart expression GoesOn = AsExpression GoesOn

-- from a left operand of a union on
abbrev pub FromUnion : Part → (Tree → List ℕ → Type 0) → Tree → List ℕ → Type 0
FromUnion operand GoesOn = AsConjunction GoesOn
FromUnion conjunction GoesOn = AsConjunction GoesOn
FromUnion expression GoesOn = λ t rest. ⊥

-- from an operand of an intersection, a difference or a negation on
abbrev pub FromOperand : Part → (Tree → List ℕ → Type 0) → Tree → List ℕ → Type 0
FromOperand operand GoesOn = GoesOn
FromOperand conjunction GoesOn = λ t rest. ⊥
FromOperand expression GoesOn = λ t rest. ⊥

-- The part was read behind what waits, rest follows it, and from there a whole filterset is read,
-- up to its end.
abbrev pub GoesOn : Tree → List ℕ → List Waiting → Part → Tree → List ℕ → Type 0
GoesOn whole end [] part = FromPart part (λ t rest. (whole ≡ t) × (end ≡ rest))
GoesOn whole end (waits.Not op ∷ more) part = FromOperand part (λ t. GoesOn whole end more operand (negation op t))
GoesOn whole end (waits.Parens ∷ more) part = FromPart part (AsGroup (GoesOn whole end more operand))
GoesOn whole end (waits.Joint left op ∷ more) part = FromOperand part (λ t. GoesOn whole end more conjunction (joint_of op (tree_of left.value) t))
GoesOn whole end (waits.Union left op ∷ more) part = FromUnion part (λ t. GoesOn whole end more expression (union op (tree_of left.value) t))

-- a whole conjunction was read
abbrev pub EndsConjunction : Tree → List ℕ → List Waiting → Tree → List ℕ → Type 0
EndsConjunction whole end [] = GoesOn whole end [] expression
EndsConjunction whole end (waits.Not op ∷ more) = λ t rest. ⊥
EndsConjunction whole end (waits.Parens ∷ more) = GoesOn whole end (waits.Parens ∷ more) expression
EndsConjunction whole end (waits.Joint left op ∷ more) = λ t rest. ⊥
EndsConjunction whole end (waits.Union left op ∷ more) = λ t. GoesOn whole end more expression (union op (tree_of left.value) t)

-- a whole expression was read
abbrev pub EndsExpression : Tree → List ℕ → List Waiting → Tree → List ℕ → Type 0
EndsExpression whole end [] t rest = (whole ≡ t) × (end ≡ rest)
EndsExpression whole end (waits.Not op ∷ more) t rest = ⊥
EndsExpression whole end (waits.Parens ∷ more) t rest = AsGroup (GoesOn whole end more operand) t rest
EndsExpression whole end (waits.Joint left op ∷ more) t rest = ⊥
EndsExpression whole end (waits.Union left op ∷ more) t rest = ⊥

-- ---- from one place to the next

-- Reading on from one place is reading on from another, where no fault was added; and where it can
-- be read on from the one to a good end, none was.
pub record Becomes (From To : Tree → List ℕ → Type 0) (old new : ℕ) : Type 0 where
  pub more : old ≤ new
  pub reads : new ≡ old → (whole : Tree) (end : List ℕ) → To whole end → From whole end
  pub only : (whole : Tree) (end : List ℕ) → From whole end → Closes end → (new ≡ old) × To whole end

-- a part was read
abbrev pub Has : Part → List Waiting → Tree → List ℕ → Tree → List ℕ → Type 0
Has part stack t rest whole end = GoesOn whole end stack part t rest

abbrev pub HasConjunction : List Waiting → Tree → List ℕ → Tree → List ℕ → Type 0
HasConjunction stack t rest whole end = EndsConjunction whole end stack t rest

abbrev pub HasExpression : List Waiting → Tree → List ℕ → Tree → List ℕ → Type 0
HasExpression stack t rest whole end = EndsExpression whole end stack t rest

-- an operand is to be read
abbrev pub Awaits : List Waiting → List ℕ → Tree → List ℕ → Type 0
Awaits stack text whole end = (t : Tree) × (rest : List ℕ) × Unary text t rest × GoesOn whole end stack operand t rest

-- the text begins with what waits, a negation or a `(`, and rest follows
abbrev pub IsOpening : Waiting → List ℕ → List ℕ → Type 0
IsOpening (waits.Not op) text rest = ReadsNot op text rest
IsOpening waits.Parens text rest = Behind (codes "(") text rest
IsOpening (waits.Joint left op) text rest = ⊥
IsOpening (waits.Union left op) text rest = ⊥

-- neither a negation nor a `(` comes next
pub record OpensNothing (text : List ℕ) : Type 0 where
  pub no_negation : (op : NotOperator) (rest : List ℕ) → ReadsNot op text rest → ⊥
  pub no_group : (rest : List ℕ) → after_blanks text ≡ 40 ∷ rest → ⊥

-- ---- where predicates stand

-- each predicate of what waits stands in the input, and has its span
abbrev pub WaitPlaced : List ℕ → List Waiting → Type 0
WaitPlaced input [] = ⊤
WaitPlaced input (waits.Not op ∷ more) = WaitPlaced input more
WaitPlaced input (waits.Parens ∷ more) = WaitPlaced input more
WaitPlaced input (waits.Joint left op ∷ more) = ArePlaced input left.value × WaitPlaced input more
WaitPlaced input (waits.Union left op ∷ more) = ArePlaced input left.value × WaitPlaced input more

-- the text begins with what waits, part by part, and rest follows
abbrev pub WaitStands : List ℕ → List Waiting → List ℕ → List ℕ → Type 0
WaitStands input [] text rest = text ≡ rest
WaitStands input (waits.Not op ∷ more) text rest = (here : List ℕ) × WaitStands input more text here × ReadsNot op here rest
WaitStands input (waits.Parens ∷ more) text rest = (here : List ℕ) × WaitStands input more text here × Behind (codes "(") here rest
WaitStands input (waits.Joint left op ∷ more) text rest =
    (here middle : List ℕ) × WaitStands input more text here × Stands input left.value here middle × ReadsJoint op middle rest
WaitStands input (waits.Union left op ∷ more) text rest =
    (here middle : List ℕ) × WaitStands input more text here × Stands input left.value here middle × ReadsOr op middle rest

-- and then with the tree
abbrev pub TreeStands : List ℕ → List Waiting → ParsedExpr → List ℕ → List ℕ → Type 0
TreeStands input stack tree text rest = (here : List ℕ) × WaitStands input stack text here × Stands input tree here rest

-- ---- what steps do

-- negations and `(` were read, and wait
pub record Descends (old : List Waiting) (text : List ℕ) (new : List Waiting) (rest : List ℕ) : Type 0 where
  pub behind : IsSuffix rest text
  pub becomes : (n : ℕ) → Becomes (Awaits old text) (Awaits new rest) n n
  pub placed : (input : List ℕ) → WaitPlaced input old → WaitPlaced input new
  pub stands : (input start : List ℕ) → WaitStands input old start text → WaitStands input new start rest

-- what waited and a tree made up another tree
pub record MakesUp (From To : List Waiting → Tree → List ℕ → Tree → List ℕ → Type 0)
    (old : List Waiting) (tree : ParsedExpr) (new : List Waiting) (found : ParsedExpr) : Type 0 where
  pub fewer : length new ≤ length old
  pub becomes : (rest : List ℕ) (n : ℕ) → Becomes (From old (tree_of tree) rest) (To new (tree_of found) rest) n n
  pub placed : (input : List ℕ) → WaitPlaced input old → ArePlaced input tree → WaitPlaced input new × ArePlaced input found
  pub stands : (input text rest : List ℕ) → TreeStands input old tree text rest → TreeStands input new found text rest

-- behind an operand an operator was read, and an operand is to follow it
pub record LeadsOn (old : List Waiting) (tree : ParsedExpr) (text : List ℕ) (new : List Waiting) (rest : List ℕ) (before after : ℕ) : Type 0 where
  pub behind : IsSuffix rest text
  pub becomes : Becomes (Has operand old (tree_of tree) text) (Awaits new rest) before after
  pub placed : (input : List ℕ) → WaitPlaced input old → ArePlaced input tree → WaitPlaced input new
  pub stands : after ≡ before → (input start : List ℕ) → TreeStands input old tree start text → WaitStands input new start rest

-- behind an operand nothing follows that belongs to it: with what waited it is a whole expression
pub record EndsWhole (old : List Waiting) (tree : ParsedExpr) (text : List ℕ) (new : List Waiting) (found : ParsedExpr) (before after : ℕ) : Type 0 where
  pub fewer : length new ≤ length old
  pub takes : TakesUnions new
  pub becomes : Becomes (Has operand old (tree_of tree) text) (HasExpression new (tree_of found) text) before after
  pub placed : (input : List ℕ) → WaitPlaced input old → ArePlaced input tree → WaitPlaced input new × ArePlaced input found
  pub stands : after ≡ before → (input start : List ℕ) → TreeStands input old tree start text → TreeStands input new found start text

-- behind an operand nothing follows that belongs to it, and nothing waits: it is the whole text's
-- expression
pub record EndsAll (old : List Waiting) (tree : ParsedExpr) (text : List ℕ) (found : ParsedExpr) (rest : List ℕ) (before after : ℕ) : Type 0 where
  pub behind : IsSuffix rest text
  pub becomes : Becomes (Has operand old (tree_of tree) text) (HasExpression [] (tree_of found) rest) before after
  pub placed : (input : List ℕ) → WaitPlaced input old → ArePlaced input tree → ArePlaced input found
  pub stands : after ≡ before → (input start : List ℕ) → TreeStands input old tree start text → TreeStands input [] found start rest

-- what follows an operand
abbrev pub Follows : List Waiting → ParsedExpr → List ℕ → List Waiting → ℕ → ℕ → Ahead → Type 0
Follows old tree text new before after (ahead.Operand rest) = LeadsOn old tree text new rest.now before after
Follows old tree text new before after (ahead.Whole found) = EndsWhole old tree text new found before after

-- what follows it, and all `)`
abbrev pub Ascends : List Waiting → ParsedExpr → List ℕ → List Waiting → ℕ → ℕ → Next → Type 0
Ascends old tree text new before after (next.Operand rest) = LeadsOn old tree text new rest.now before after
Ascends old tree text new before after (next.Done found rest) = EndsAll old tree text found rest.now before after
