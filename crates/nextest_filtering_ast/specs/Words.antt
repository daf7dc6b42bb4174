-- The words and signs of the operators.
use Rattle.std.specs.Prelude.{ℕ, List, codes}
use Rattle.nextest_filtering_ast.specs.declared.operators.NotOperator.{NotOperator}
use Rattle.nextest_filtering_ast.specs.declared.operators.NotOperator.TheVariants.{LiteralNot, Exclamation}
use Rattle.nextest_filtering_ast.specs.declared.operators.OrOperator.{OrOperator}
use Rattle.nextest_filtering_ast.specs.declared.operators.OrOperator.TheVariants.{LiteralOr, Pipe, Plus}
use Rattle.nextest_filtering_ast.specs.declared.operators.AndOperator.{AndOperator}
use Rattle.nextest_filtering_ast.specs.declared.operators.AndOperator.TheVariants.{LiteralAnd, Ampersand}
use Rattle.nextest_filtering_ast.specs.declared.operators.DifferenceOperator.{DifferenceOperator}
use Rattle.nextest_filtering_ast.specs.declared.operators.DifferenceOperator.TheVariants.{Minus}
use Rattle.nextest_filtering_ast.specs.declared.leaf.BuildPlatform.{BuildPlatform}
use Rattle.nextest_filtering_ast.specs.declared.leaf.BuildPlatform.TheVariants.{Host, Target}
use Rattle.nextest_filtering_ast.specs.Tree.{Subject, package_name, dependencies, dependents, kind, binary_name, binary_id, test_name, group}

-- how a negation is written
abbrev pub not_word : NotOperator → List ℕ
not_word LiteralNot = codes "not"
not_word Exclamation = codes "!"

-- how a union is written
abbrev pub or_word : OrOperator → List ℕ
or_word LiteralOr = codes "or"
or_word Pipe = codes "|"
or_word Plus = codes "+"

-- how an intersection is written
abbrev pub and_word : AndOperator → List ℕ
and_word LiteralAnd = codes "and"
and_word Ampersand = codes "&"

-- how a difference is written
abbrev pub minus_word : DifferenceOperator → List ℕ
minus_word Minus = codes "-"

-- how a platform is named
abbrev pub platform_word : BuildPlatform → List ℕ
platform_word Host = codes "host"
platform_word Target = codes "target"

-- how a predicate is named
abbrev pub subject_word : Subject → List ℕ
subject_word package_name = codes "package"
subject_word dependencies = codes "deps"
subject_word dependents = codes "rdeps"
subject_word kind = codes "kind"
subject_word binary_name = codes "binary"
subject_word binary_id = codes "binary_id"
subject_word test_name = codes "test"
subject_word group = codes "group"
