-- What holds of every filterset.
use Rattle.std.specs.Prelude.{◌≡◌, ◌↔◌, ℕ, ◌==◌, Bool, true, false, ◌||◌, List, ◌∷◌, ⊤}
use Rattle.nextest_filtering_ast.specs.Tree.{Matcher, Leaf, matching, built_for, default_filter, everything, nothing, Tree, negation, union, intersection, difference, parens, set}
use Rattle.nextest_filtering_ast.specs.Grammar.{IsFilterset}
use Rattle.nextest_filtering_ast.specs.Printing.{text_of_tree}

-- `=`, `~` and `#`
abbrev pub is_text_sign : ℕ → Bool
is_text_sign byte = byte == 61 || byte == 126 || byte == 35

-- where the text was written without its sign, it begins with none
abbrev pub IsUnsigned : Matcher → Type 0
IsUnsigned m = m.implicit ≡ true → (first : ℕ) (rest : List ℕ) → m.text ≡ first ∷ rest → is_text_sign first ≡ false

-- so it is with the text of the predicate, if it has one
abbrev pub HasUnsignedText : Leaf → Type 0
HasUnsignedText (matching subject m) = IsUnsigned m
HasUnsignedText (built_for platform) = ⊤
HasUnsignedText default_filter = ⊤
HasUnsignedText everything = ⊤
HasUnsignedText nothing = ⊤

-- no text that was written without its sign begins with one
abbrev pub HasNoSignedBare : Tree → Type 0
HasNoSignedBare (negation op t) = HasNoSignedBare t
HasNoSignedBare (union op a b) = HasNoSignedBare a × HasNoSignedBare b
HasNoSignedBare (intersection op a b) = HasNoSignedBare a × HasNoSignedBare b
HasNoSignedBare (difference op a b) = HasNoSignedBare a × HasNoSignedBare b
HasNoSignedBare (parens t) = HasNoSignedBare t
HasNoSignedBare (set it) = HasUnsignedText it

-- the filterset of some text, none of whose texts without a sign begins with one
pub record IsWellFormed (tree : Tree) : Type 0 where
  pub text : List ℕ
  pub written : IsFilterset text tree
  pub unsigned : HasNoSignedBare tree

-- what is printed of such a filterset is this filterset
abbrev pub ReadsBack : Type 0
ReadsBack = (tree : Tree) → IsWellFormed tree → IsFilterset (text_of_tree tree) tree

-- and so it is of no other: what is printed of a tree is read as that tree exactly where the tree
-- is well formed
abbrev pub ReadsBackExactly : Type 0
ReadsBackExactly = (tree : Tree) → IsFilterset (text_of_tree tree) tree ↔ IsWellFormed tree

-- a text is one filterset at most
abbrev pub OneTree : Type 0
OneTree = (text : List ℕ) (a b : Tree) → IsFilterset text a → IsFilterset text b → a ≡ b
