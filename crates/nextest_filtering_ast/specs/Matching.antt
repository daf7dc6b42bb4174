-- What a matcher that looks at names compares.
use Rattle.std.specs.Prelude.{ℕ, List}
use Rattle.nextest_filtering_ast.specs.Tree.{Comparison, equal, contains, glob, regex}
use Rattle.nextest_filtering_ast.specs.declared.matching.NameMatching.{NameMatching}
use Rattle.nextest_filtering_ast.specs.declared.matching.NameMatching.TheVariants as matching

abbrev pub comparison_of : NameMatching → Comparison
comparison_of (matching.Equal text) = equal
comparison_of (matching.Contains text) = contains
comparison_of (matching.Glob it) = glob
comparison_of (matching.Regex it) = regex

-- the text that names are compared with
abbrev pub text_of : NameMatching → List ℕ
text_of (matching.Equal text) = text.now
text_of (matching.Contains text) = text.now
text_of (matching.Glob it) = it.text
text_of (matching.Regex it) = it.value
