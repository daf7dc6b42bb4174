-- What reading a part of a text gives, faults and all.
use Rattle.std.specs.Prelude.{◌≡◌, ◌⊎◌, ℕ, ◌<◌, ◌≤◌, List, [], ◌∷◌, length, Option, Some, None, Result, Ok, Err}
use Rattle.std.specs.Borrow.{Bor}
use Rattle.nextest_filtering_ast.specs.declared.operators.OrOperator.{OrOperator}
use Rattle.nextest_filtering_syntax.specs.declared.tree.ParsedExpr.{ParsedExpr}
use Rattle.nextest_filtering_ast.specs.Tree.{Matcher, Leaf, matching, built_for, default_filter, everything, nothing, Tree, set}
use Rattle.nextest_filtering_syntax.specs.Parsed.{tree_of}
use Rattle.nextest_filtering_ast.specs.Grammar.{after_blanks, Behind, ReadsOr, ReadsLeaf, ReadsArgument}
use Rattle.nextest_filtering_ast.specs.declared.leaf.BuildPlatform.{BuildPlatform}
use Rattle.nextest_filtering_arguments.specs.Matchers.{subject_of}
use Rattle.nextest_filtering_arguments.specs.declared.stop.Stop.{Stop}
use Rattle.nextest_filtering_arguments.specs.declared.stop.Stop.TheVariants.{NoTree, Memory}
use Rattle.nextest_filtering_arguments.specs.Faults.{IsSuffix}
use Rattle.nextest_filtering_syntax.specs.declared.name.Name.{Name}
use Rattle.nextest_filtering_syntax.specs.declared.name.Name.TheVariants as name

-- nothing but blanks is left, or a `)` comes next
abbrev pub Closes : List ℕ → Type 0
Closes text = (after_blanks text ≡ []) ⊎ ((rest : List ℕ) × (after_blanks text ≡ 41 ∷ rest))

-- or an operator of a union
abbrev pub ClosesConjunction : List ℕ → Type 0
ClosesConjunction text = Closes text ⊎ ((op : OrOperator) × (rest : List ℕ) × ReadsOr op text rest)

-- anything may follow
abbrev pub Anywhere : List ℕ → Type 0
Anywhere text = Unit {0}

-- A part of the text was read, as found and rest; it is read so where no fault was added to those
-- of old, and where the text begins with such a part, and Stops holds behind it, then this is the
-- one, and no fault was added.
pub record IsPart (Reads : List ℕ → Tree → List ℕ → Type 0) (Stops : List ℕ → Type 0) (text : List ℕ) (old new : ℕ) (found : Tree) (rest : List ℕ) : Type 0 where
  pub more : old ≤ new
  pub behind : IsSuffix rest text
  pub shorter : length rest < length text
  pub reads : new ≡ old → Reads text found rest
  pub only : (other : Tree) (end : List ℕ) → Reads text other end → Stops end → (new ≡ old) × (other ≡ found) × (end ≡ rest)

-- the text doesn't begin with such a part, for a fault that was added
pub record IsNoPart (Reads : List ℕ → Tree → List ℕ → Type 0) (Stops : List ℕ → Type 0) (text : List ℕ) (old new : ℕ) : Type 0 where
  pub more : old < new
  pub never : (other : Tree) (end : List ℕ) → Reads text other end → Stops end → ⊥

-- what reading a part answers
abbrev pub Finds : (List ℕ → Tree → List ℕ → Type 0) → (List ℕ → Type 0) → List ℕ → ℕ → ℕ → Result (ParsedExpr × Bor (List ℕ)) Stop → Type 0
Finds Reads Stops text old new (Ok found) = IsPart Reads Stops text old new (tree_of found.0) found.1.now
Finds Reads Stops text old new (Err NoTree) = IsNoPart Reads Stops text old new
Finds Reads Stops text old new (Err Memory) = Unit {0}

-- An operator comes next, where the operand behind it may begin: it is read so where no fault was
-- added, and what is such an operator with an operand behind it is this one, and no fault was
-- added.
pub record IsOperator {Op : Type 0} (Reads : Op → List ℕ → List ℕ → Type 0) (Operand : List ℕ → Tree → List ℕ → Type 0) (Stops : List ℕ → Type 0) (text : List ℕ) (old new : ℕ) (found : Op) (rest : List ℕ) : Type 0 where
  pub more : old ≤ new
  pub behind : IsSuffix rest text
  pub shorter : length rest < length text
  pub goes_on : Stops text → ⊥
  pub reads : new ≡ old → Reads found text rest
  pub only : (op : Op) (next : List ℕ) (t : Tree) (end : List ℕ) → Reads op text next → Operand next t end → (new ≡ old) × (op ≡ found) × (next ≡ rest)

-- no operator comes next, and no fault was added
pub record IsNoOperator {Op : Type 0} (Reads : Op → List ℕ → List ℕ → Type 0) (text : List ℕ) (old new : ℕ) : Type 0 where
  pub same : new ≡ old
  pub never : (op : Op) (rest : List ℕ) → Reads op text rest → ⊥

-- what looking for an operator answers
abbrev pub FindsOperator : {Op : Type 0} → (Op → List ℕ → List ℕ → Type 0) → (List ℕ → Tree → List ℕ → Type 0) → (List ℕ → Type 0) → List ℕ → ℕ → ℕ → Option (Op × Bor (List ℕ)) → Type 0
FindsOperator Reads Operand Stops text old new (Some found) = IsOperator Reads Operand Stops text old new found.0 found.1.now
FindsOperator Reads Operand Stops text old new None = IsNoOperator Reads text old new

-- the text begins with a predicate
abbrev pub ReadsPredicate : List ℕ → Tree → List ℕ → Type 0
ReadsPredicate text t rest = (it : Leaf) × (t ≡ set it) × ReadsLeaf it text rest

-- A `)` was read where no fault was added, and where one stands it was, and no fault was added.
pub record IsClosed (text : List ℕ) (old new : ℕ) (rest : List ℕ) : Type 0 where
  pub more : old ≤ new
  pub behind : IsSuffix rest text
  pub reads : new ≡ old → Behind (41 ∷ []) text rest
  pub only : (end : List ℕ) → Behind (41 ∷ []) text end → (new ≡ old) × (end ≡ rest)

-- a predicate of that name
abbrev pub HasName : Name → Leaf → Type 0
HasName (name.About subject) it = (m : Matcher) × (it ≡ matching (subject_of subject) m)
HasName name.Platform it = (p : BuildPlatform) × (it ≡ built_for p)
HasName name.Default it = it ≡ default_filter
HasName name.All it = it ≡ everything
HasName name.None it = it ≡ nothing

-- The argument of a predicate of that name was read, and the `)` behind it: it is read so where no
-- fault was added, and where such an argument and a `)` stand, they are these, and no fault was
-- added.
pub record IsArgued (name : Name) (text : List ℕ) (old new : ℕ) (found : Tree) (rest : List ℕ) : Type 0 where
  pub more : old ≤ new
  pub behind : IsSuffix rest text
  pub reads : new ≡ old → (it : Leaf) × (found ≡ set it) × HasName name it × (read : List ℕ) × ReadsArgument it text read × Behind (41 ∷ []) read rest
  pub only : (it : Leaf) (read end : List ℕ) → HasName name it → ReadsArgument it text read → Behind (41 ∷ []) read end → (new ≡ old) × (set it ≡ found) × (end ≡ rest)

-- no such argument stands there, for a fault that was added
pub record IsNotArgued (name : Name) (text : List ℕ) (old new : ℕ) : Type 0 where
  pub more : old < new
  pub never : (it : Leaf) (read end : List ℕ) → HasName name it → ReadsArgument it text read → Behind (41 ∷ []) read end → ⊥

-- what reading the argument answers
abbrev pub FindsArgument : Name → List ℕ → ℕ → ℕ → Result (ParsedExpr × Bor (List ℕ)) Stop → Type 0
FindsArgument name text old new (Ok found) = IsArgued name text old new (tree_of found.0) found.1.now
FindsArgument name text old new (Err NoTree) = IsNotArgued name text old new
FindsArgument name text old new (Err Memory) = Unit {0}

-- a fault was added, unless there is no memory
abbrev pub ReportsFault : ℕ → ℕ → Result (ParsedExpr × Bor (List ℕ)) Stop → Type 0
ReportsFault old new (Ok found) = old < new
ReportsFault old new (Err NoTree) = old < new
ReportsFault old new (Err Memory) = Unit {0}
