-- How filtersets print.
use Rattle.std.specs.Prelude.{ℕ, Bool, true, false, List, [], ◌++◌, codes}
use Rattle.nextest_filtering_escapes.specs.Printing.{text_with_escapes, regex_text_of}
use Rattle.nextest_filtering_ast.specs.declared.operators.NotOperator.{NotOperator}
use Rattle.nextest_filtering_ast.specs.declared.operators.NotOperator.TheVariants.{LiteralNot, Exclamation}
use Rattle.nextest_filtering_ast.specs.Tree.{Comparison, equal, contains, glob, regex, Matcher, Leaf, matching, built_for, default_filter, everything, nothing, Tree, negation, union, intersection, difference, parens, set}
use Rattle.nextest_filtering_ast.specs.Words.{or_word, and_word, minus_word, platform_word}
use Rattle.nextest_filtering_ast.specs.Grammar.{leaf_word}

-- the sign of a text, unless the text was written without it
abbrev pub written_sign : Bool → List ℕ → List ℕ
written_sign true sign = []
written_sign false sign = sign

-- a text behind its sign, or a regular expression between slashes
abbrev pub printed_as : Comparison → Bool → List ℕ → List ℕ
printed_as equal implicit text = written_sign implicit (codes "=") ++ text_with_escapes text
printed_as contains implicit text = written_sign implicit (codes "~") ++ text_with_escapes text
printed_as glob implicit text = written_sign implicit (codes "#") ++ text_with_escapes text
printed_as regex implicit text = codes "/" ++ regex_text_of text ++ codes "/"

-- how a matcher prints
abbrev pub printed_matcher : Matcher → List ℕ
printed_matcher m = printed_as m.comparison m.implicit m.text

-- how the argument of a predicate prints
abbrev pub printed_argument : Leaf → List ℕ
printed_argument (matching subject m) = printed_matcher m
printed_argument (built_for platform) = platform_word platform
printed_argument default_filter = []
printed_argument everything = []
printed_argument nothing = []

-- how a predicate prints: its name, and its argument in parentheses
abbrev pub printed_leaf : Leaf → List ℕ
printed_leaf it = leaf_word it ++ codes "(" ++ printed_argument it ++ codes ")"

-- what prints before a negation's operand: `not` with a space behind it, or `!` alone
abbrev pub not_front : NotOperator → List ℕ
not_front LiteralNot = codes "not "
not_front Exclamation = codes "!"

-- two operands with an operator's word between them, and one space on both its sides
abbrev pub between : List ℕ → List ℕ → List ℕ → List ℕ
between left word right = left ++ codes " " ++ word ++ codes " " ++ right

-- how a filterset prints
abbrev pub text_of_tree : Tree → List ℕ
text_of_tree (negation op t) = not_front op ++ text_of_tree t
text_of_tree (union op a b) = between (text_of_tree a) (or_word op) (text_of_tree b)
text_of_tree (intersection op a b) = between (text_of_tree a) (and_word op) (text_of_tree b)
text_of_tree (difference op a b) = between (text_of_tree a) (minus_word op) (text_of_tree b)
text_of_tree (parens t) = codes "(" ++ text_of_tree t ++ codes ")"
text_of_tree (set it) = printed_leaf it
