-- Which texts are filtersets, and which one each is: operators and parentheses, predicates,
-- matchers. All is over bytes.
use Rattle.std.specs.Prelude.{◌≡◌, ◌≢◌, ◌⊎◌, ℕ, ◌==◌, Bool, true, false, ◌||◌, List, [], ◌∷◌, ◌++◌, if◌then◌else◌, codes}
use Rattle.nextest_filtering_escapes.specs.Text.{is_blank, IsText}
use Rattle.nextest_filtering_escapes.specs.Regex.{IsRegexText}
use Rattle.nextest_filtering_ast.specs.declared.operators.NotOperator.{NotOperator}
use Rattle.nextest_filtering_ast.specs.declared.operators.NotOperator.TheVariants.{LiteralNot, Exclamation}
use Rattle.nextest_filtering_ast.specs.declared.operators.OrOperator.{OrOperator}
use Rattle.nextest_filtering_ast.specs.declared.operators.OrOperator.TheVariants.{LiteralOr, Pipe, Plus}
use Rattle.nextest_filtering_ast.specs.declared.operators.AndOperator.TheVariants.{LiteralAnd, Ampersand}
use Rattle.nextest_filtering_ast.specs.declared.operators.DifferenceOperator.TheVariants.{Minus}
use Rattle.nextest_filtering_ast.specs.declared.operators.Joint.{Joint}
use Rattle.nextest_filtering_ast.specs.declared.operators.Joint.TheVariants.{And}
use Rattle.nextest_filtering_ast.specs.declared.operators.Joint.TheVariants as joint
use Rattle.nextest_filtering_ast.specs.Tree.{Comparison, equal, contains, glob, regex, Matcher, Subject, package_name, dependencies, dependents, kind, binary_name, binary_id, test_name, group, Leaf, matching, built_for, default_filter, everything, nothing, Tree, negation, union, intersection, difference, parens, set, IsRegex, IsGlobText}
use Rattle.nextest_filtering_ast.specs.Words.{platform_word, subject_word}

-- the text from its first byte on that is no blank
abbrev pub after_blanks : List ℕ → List ℕ
after_blanks [] = []
after_blanks (byte ∷ rest) = if is_blank byte then after_blanks rest else byte ∷ rest

-- the text is front, behind blanks, and then rest
abbrev pub Behind : List ℕ → List ℕ → List ℕ → Type 0
Behind front text rest = after_blanks text ≡ front ++ rest

-- a word of an operator ends where a blank, `(` or `!` follows
abbrev pub ends_word : List ℕ → Bool
ends_word [] = false
ends_word (byte ∷ rest) = is_blank byte || byte == 40 || byte == 33

-- the text begins with the operator, and rest follows
abbrev pub ReadsNot : NotOperator → List ℕ → List ℕ → Type 0
ReadsNot LiteralNot text rest = Behind (codes "not") text rest × (ends_word rest ≡ true)
ReadsNot Exclamation text rest = Behind (codes "!") text rest

abbrev pub ReadsOr : OrOperator → List ℕ → List ℕ → Type 0
ReadsOr LiteralOr text rest = Behind (codes "or") text rest × (ends_word rest ≡ true)
ReadsOr Pipe text rest = Behind (codes "|") text rest
ReadsOr Plus text rest = Behind (codes "+") text rest

abbrev pub ReadsJoint : Joint → List ℕ → List ℕ → Type 0
ReadsJoint (And LiteralAnd) text rest = Behind (codes "and") text rest × (ends_word rest ≡ true)
ReadsJoint (And Ampersand) text rest = Behind (codes "&") text rest
ReadsJoint (joint.Minus Minus) text rest = Behind (codes "-") text rest

-- what an intersection or a difference joins
abbrev pub joint_of : Joint → Tree → Tree → Tree
joint_of (And op) a b = intersection op a b
joint_of (joint.Minus op) a b = difference op a b

-- the sign of a matcher begins its argument
abbrev pub is_sign : ℕ → Bool
is_sign byte = byte == 61 || byte == 126 || byte == 35 || byte == 47

-- how a predicate compares with a text without a sign
abbrev pub bare : Subject → Comparison
bare kind = equal
bare test_name = contains
bare package_name = glob
bare dependencies = glob
bare dependents = glob
bare binary_name = glob
bare binary_id = glob
bare group = glob

-- the bytes spell the text: they aren't empty, and neither begin nor end with a blank
pub record Spells (raw text : List ℕ) : Type 0 where
  pub begins : ((rest : List ℕ) (byte : ℕ) → raw ≡ byte ∷ rest → is_blank byte ≡ false)
  pub ends : ((front : List ℕ) (byte : ℕ) → raw ≡ front ++ byte ∷ [] → is_blank byte ≡ false)
  pub some : raw ≢ []
  pub stands : IsText raw text

-- the text can be compared with so
abbrev pub IsPattern : Comparison → List ℕ → Type 0
IsPattern equal text = Unit {0}
IsPattern contains text = Unit {0}
IsPattern glob text = IsGlobText text
IsPattern regex text = IsRegex text

-- a text behind a sign, or a regular expression between two
abbrev pub ReadsSigned : Comparison → List ℕ → List ℕ → List ℕ → Type 0
ReadsSigned equal text argument rest = (raw behind : List ℕ) × Behind (codes "=") argument behind × Behind raw behind rest × Spells raw text
ReadsSigned contains text argument rest = (raw behind : List ℕ) × Behind (codes "~") argument behind × Behind raw behind rest × Spells raw text
ReadsSigned glob text argument rest = (raw behind : List ℕ) × Behind (codes "#") argument behind × Behind raw behind rest × Spells raw text
ReadsSigned regex text argument rest = (raw : List ℕ) × Behind (47 ∷ raw ++ 47 ∷ []) argument rest × IsRegexText raw text

-- a text without a sign, which doesn't begin with one
pub record ReadsBare (text argument rest : List ℕ) : Type 0 where
  pub raw : List ℕ
  pub place : Behind raw argument rest
  pub spelled : Spells raw text
  pub unsigned : (behind : List ℕ) (byte : ℕ) → raw ≡ byte ∷ behind → is_sign byte ≡ false

-- the argument is this matcher of a predicate on that subject
abbrev pub ReadsMatcher : Subject → Matcher → List ℕ → List ℕ → Type 0
ReadsMatcher subject m argument rest = IsPattern m.comparison m.text × (
    ((m.implicit ≡ false) × ReadsSigned m.comparison m.text argument rest)
    ⊎ ((m.implicit ≡ true) × (m.comparison ≡ bare subject) × ReadsBare m.text argument rest))

abbrev pub leaf_word : Leaf → List ℕ
leaf_word (matching subject m) = subject_word subject
leaf_word (built_for platform) = codes "platform"
leaf_word default_filter = codes "default"
leaf_word everything = codes "all"
leaf_word nothing = codes "none"

-- the argument of the predicate
abbrev pub ReadsArgument : Leaf → List ℕ → List ℕ → Type 0
ReadsArgument (matching subject m) argument rest = ReadsMatcher subject m argument rest
ReadsArgument (built_for platform) argument rest = (raw : List ℕ) × Behind raw argument rest × Spells raw (platform_word platform)
ReadsArgument default_filter argument rest = argument ≡ rest
ReadsArgument everything argument rest = argument ≡ rest
ReadsArgument nothing argument rest = argument ≡ rest

-- a predicate: its name, and its argument in parentheses
pub record ReadsLeaf (it : Leaf) (text rest : List ℕ) : Type 0 where
  pub named : List ℕ
  pub opened : List ℕ
  pub read : List ℕ
  pub name : Behind (leaf_word it) text named
  pub opens : Behind (codes "(") named opened
  pub argument : ReadsArgument it opened read
  pub closes : Behind (codes ")") read rest

mutual
  -- a negation, parentheses, a predicate
  pub data Unary : List ℕ → Tree → List ℕ → Type 0 where
    a_negation : (op : NotOperator) (t : Tree) (text behind rest : List ℕ) → ReadsNot op text behind → Unary behind t rest → Unary text (negation op t) rest
    a_group : (t : Tree) (text inside behind rest : List ℕ) → Behind (codes "(") text inside → Expression inside t behind → Behind (codes ")") behind rest → Unary text (parens t) rest
    a_predicate : (it : Leaf) (text rest : List ℕ) → ReadsLeaf it text rest → Unary text (set it) rest

  -- what `and`, `&` and `-` join, from the left
  pub data Conjunction : List ℕ → Tree → List ℕ → Type 0 where
    first_operand : (t : Tree) (text rest : List ℕ) → Unary text t rest → Conjunction text t rest
    next_operand : (op : Joint) (a b t : Tree) (text middle behind rest : List ℕ) → Conjunction text a middle → ReadsJoint op middle behind → Unary behind b rest → t ≡ joint_of op a b → Conjunction text t rest

  -- what `or`, `|` and `+` join, from the left
  pub data Expression : List ℕ → Tree → List ℕ → Type 0 where
    first_conjunction : (t : Tree) (text rest : List ℕ) → Conjunction text t rest → Expression text t rest
    next_conjunction : (op : OrOperator) (a b : Tree) (text middle behind rest : List ℕ) → Expression text a middle → ReadsOr op middle behind → Conjunction behind b rest → Expression text (union op a b) rest

-- the text is this filterset: blanks may stand between its parts and at both ends
pub record IsFilterset (text : List ℕ) (tree : Tree) : Type 0 where
  pub rest : List ℕ
  pub read : Expression text tree rest
  pub blank : after_blanks rest ≡ []
