-- What a filterset is, without spans.
use Rattle.std.specs.Prelude.{ℕ, Bool, false, List}
use Rattle.regex.specs.Failures.{IsPattern}
use Rattle.regex.specs.Patterns.{default_config}
use Rattle.nextest_filtering_globs.specs.declared.token.GlobToken.{GlobToken}
use Rattle.nextest_filtering_globs.specs.Syntax.{IsGlob}
use Rattle.nextest_filtering_ast.specs.declared.operators.NotOperator.{NotOperator}
use Rattle.nextest_filtering_ast.specs.declared.operators.OrOperator.{OrOperator}
use Rattle.nextest_filtering_ast.specs.declared.operators.AndOperator.{AndOperator}
use Rattle.nextest_filtering_ast.specs.declared.operators.DifferenceOperator.{DifferenceOperator}
use Rattle.nextest_filtering_ast.specs.declared.leaf.BuildPlatform.{BuildPlatform}
use Rattle.nextest_filtering_ast.specs.declared.leaf.ParsedLeaf.{ParsedLeaf}
use Rattle.nextest_filtering_ast.specs.declared.leaf.ParsedLeaf.TheVariants as leaf
use Rattle.nextest_filtering_ast.specs.declared.matcher.NameMatcher.{NameMatcher}
use Rattle.nextest_filtering_ast.specs.declared.matcher.NameMatcher.TheVariants as matcher

-- the text is a regular expression, and doesn't nest too deep for one
abbrev pub IsRegex : List ℕ → Type 0
IsRegex text = IsPattern default_config text

-- the text is a glob
abbrev pub IsGlobText : List ℕ → Type 0
IsGlobText text = (tokens : List GlobToken) × IsGlob text tokens

-- how a matcher compares
pub data Comparison : Type 0 where
  equal : Comparison
  contains : Comparison
  glob : Comparison
  regex : Comparison

-- a matcher: how it compares, whether it was written without its sign, and its text
pub record Matcher : Type 0 where
  pub comparison : Comparison
  pub implicit : Bool
  pub text : List ℕ

-- what a predicate with a matcher looks at
pub data Subject : Type 0 where
  package_name : Subject
  dependencies : Subject
  dependents : Subject
  kind : Subject
  binary_name : Subject
  binary_id : Subject
  test_name : Subject
  group : Subject

-- a predicate with its argument
pub data Leaf : Type 0 where
  matching : Subject → Matcher → Leaf
  built_for : BuildPlatform → Leaf
  default_filter : Leaf
  everything : Leaf
  nothing : Leaf

-- a filterset
pub data Tree : Type 0 where
  negation : NotOperator → Tree → Tree
  union : OrOperator → Tree → Tree → Tree
  intersection : AndOperator → Tree → Tree → Tree
  difference : DifferenceOperator → Tree → Tree → Tree
  parens : Tree → Tree
  set : Leaf → Tree

abbrev pub matcher_of : NameMatcher → Matcher
matcher_of (matcher.Equal value implicit) = record { comparison = equal; implicit = implicit; text = value }
matcher_of (matcher.Contains value implicit) = record { comparison = contains; implicit = implicit; text = value }
matcher_of (matcher.Glob it implicit) = record { comparison = glob; implicit = implicit; text = it.text }
matcher_of (matcher.Regex pattern) = record { comparison = regex; implicit = false; text = pattern }

abbrev pub leaf_of : ParsedLeaf → Leaf
leaf_of (leaf.Package m span) = matching package_name (matcher_of m)
leaf_of (leaf.Deps m span) = matching dependencies (matcher_of m)
leaf_of (leaf.Rdeps m span) = matching dependents (matcher_of m)
leaf_of (leaf.Kind m span) = matching kind (matcher_of m)
leaf_of (leaf.Binary m span) = matching binary_name (matcher_of m)
leaf_of (leaf.BinaryId m span) = matching binary_id (matcher_of m)
leaf_of (leaf.Platform p span) = built_for p
leaf_of (leaf.Test m span) = matching test_name (matcher_of m)
leaf_of (leaf.Group m span) = matching group (matcher_of m)
leaf_of (leaf.Default span) = default_filter
leaf_of leaf.All = everything
leaf_of leaf.None = nothing
