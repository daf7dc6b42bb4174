-- Where the predicates of a tree stand.
use Rattle.std.specs.Prelude.{◌≡◌, ℕ, ◌-◌, List, [], ◌++◌, length, codes, Option, Some, None, IfSome}
use Rattle.nextest_filtering_ast.specs.Grammar.{after_blanks, leaf_word, Behind, ReadsNot, ReadsOr, ReadsJoint, ReadsLeaf}
use Rattle.nextest_filtering_ast.specs.Tree.{leaf_of}
use Rattle.nextest_filtering_ast.specs.declared.operators.Joint.TheVariants.{And, Minus}
use Rattle.nextest_filtering_ast.specs.declared.leaf.SourceSpan.{SourceSpan}
use Rattle.nextest_filtering_ast.specs.declared.leaf.ParsedLeaf.{ParsedLeaf}
use Rattle.nextest_filtering_ast.specs.declared.leaf.ParsedLeaf.TheVariants as leaf
use Rattle.nextest_filtering_syntax.specs.declared.tree.ParsedExpr.{ParsedExpr}
use Rattle.nextest_filtering_syntax.specs.declared.tree.ParsedExpr.TheVariants as tree
use Rattle.nextest_filtering_arguments.specs.Faults.{IsSuffix, Lies, here, bytes_in_span}

-- the span of a predicate; `all` and `none` have none
abbrev pub span_of : ParsedLeaf → Option SourceSpan
span_of (leaf.Package m span) = Some span
span_of (leaf.Deps m span) = Some span
span_of (leaf.Rdeps m span) = Some span
span_of (leaf.Kind m span) = Some span
span_of (leaf.Binary m span) = Some span
span_of (leaf.BinaryId m span) = Some span
span_of (leaf.Platform p span) = Some span
span_of (leaf.Test m span) = Some span
span_of (leaf.Group m span) = Some span
span_of (leaf.Default span) = Some span
span_of leaf.All = None
span_of leaf.None = None

-- a part of the input that begins with the word
abbrev pub Begins : List ℕ → List ℕ → SourceSpan → Type 0
Begins input word span = Lies input span × ((rest : List ℕ) × (bytes_in_span input span ≡ word ++ rest))

-- a predicate's span is a part of the input that begins with its name
abbrev pub IsPlacedLeaf : List ℕ → ParsedLeaf → Type 0
IsPlacedLeaf input it = IfSome (span_of it) (Begins input (leaf_word (leaf_of it)))

-- so is that of each predicate of a tree
abbrev pub ArePlaced : List ℕ → ParsedExpr → Type 0
ArePlaced input (tree.Not' op p t) = ArePlaced input t
ArePlaced input (tree.Union' op p a q b) = ArePlaced input a × ArePlaced input b
ArePlaced input (tree.Intersection' op p a q b) = ArePlaced input a × ArePlaced input b
ArePlaced input (tree.Difference' op p a q b) = ArePlaced input a × ArePlaced input b
ArePlaced input (tree.Parens' p t) = ArePlaced input t
ArePlaced input (tree.Set it) = IsPlacedLeaf input it

-- a predicate's span goes from start, where its name begins, to where the text goes on
abbrev pub Spans : List ℕ → List ℕ → List ℕ → ParsedLeaf → Type 0
Spans input start rest it = IfSome (span_of it) (λ span. span ≡ here input start (length start - length rest))

-- a tree that is one predicate, with such a span
abbrev pub IsSpanned : List ℕ → List ℕ → List ℕ → ParsedExpr → Type 0
IsSpanned input start rest (tree.Not' op p t) = ⊥
IsSpanned input start rest (tree.Union' op p a q b) = ⊥
IsSpanned input start rest (tree.Intersection' op p a q b) = ⊥
IsSpanned input start rest (tree.Difference' op p a q b) = ⊥
IsSpanned input start rest (tree.Parens' p t) = ⊥
IsSpanned input start rest (tree.Set it) = Spans input start rest it

-- The text begins with what the tree says, part by part, and rest follows: each predicate's span
-- goes from its name's first byte to behind its `)`.
abbrev pub Stands : List ℕ → ParsedExpr → List ℕ → List ℕ → Type 0
Stands input (tree.Not' op p t) text rest = (inside : List ℕ) × ReadsNot op text inside × Stands input t inside rest
Stands input (tree.Union' op p a q b) text rest = (middle behind : List ℕ) × Stands input a text middle × ReadsOr op middle behind × Stands input b behind rest
Stands input (tree.Intersection' op p a q b) text rest = (middle behind : List ℕ) × Stands input a text middle × ReadsJoint (And op) middle behind × Stands input b behind rest
Stands input (tree.Difference' op p a q b) text rest = (middle behind : List ℕ) × Stands input a text middle × ReadsJoint (Minus op) middle behind × Stands input b behind rest
Stands input (tree.Parens' p t) text rest = (inside behind : List ℕ) × Behind (codes "(") text inside × Stands input t inside behind × Behind (codes ")") behind rest
Stands input (tree.Set it) text rest = ReadsLeaf (leaf_of it) text rest × Spans input (after_blanks text) rest it

-- so stands the whole text, but for blanks behind it
abbrev pub StandsWhole : List ℕ → ParsedExpr → Type 0
StandsWhole text t = (rest : List ℕ) × Stands text t text rest × (after_blanks rest ≡ [])

-- start begins with the word, and text stands behind it
abbrev pub IsNamed : List ℕ → List ℕ → List ℕ → Type 0
IsNamed word start text = (named : List ℕ) × (start ≡ word ++ named) × IsSuffix text named
