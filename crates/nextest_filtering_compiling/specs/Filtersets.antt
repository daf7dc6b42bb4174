-- Filtersets as filters.
use Rattle.std.specs.Prelude.{◌≡◌, ℕ, Bool, true, false, ◌||◌, ◌&&◌, not, List, Option, Ok}
use Rattle.std.specs.List.{list_any}
use Rattle.nextest_filtering_arguments.specs.declared.ban.FiltersetKind.{FiltersetKind}
use Rattle.nextest_filtering_compiling.specs.Accepting.{Parses}
use Rattle.nextest_filtering_compiling.specs.Context.{Context}
use Rattle.nextest_filtering_compiling.specs.declared.filterset.Filterset.{Filterset}
use Rattle.nextest_filtering_filters.specs.declared.known_groups.KnownGroups.{KnownGroups}
use Rattle.nextest_filtering_filters.specs.Filter.{filter_of, is_default, is_group, is_runtime_only}
use Rattle.nextest_filtering_filters.specs.Meaning.{CanBeOn, IsOn}
use Rattle.nextest_filtering_filters.specs.Query.{Binary, Test}
use Rattle.nextest_filtering_filters.specs.declared.leaf.FiltersetLeaf.{FiltersetLeaf}
use Rattle.nextest_filtering_filters.specs.Formula.{IsValue}
use Rattle.nextest_filtering_syntax.specs.Parsed.{tree_of}
use Rattle.nextest_filtering_ast.specs.Tree.{Leaf, Tree, matching, default_filter, test_name, group, negation, union, intersection, difference, parens, set}
use Rattle.nextest_filtering_compiling.specs.declared.questions.Question.{Question}
use Rattle.nextest_filtering_compiling.specs.declared.questions.Question.TheVariants as about

-- `group()`, `default()`, and these two with `test()`: only a test tells
abbrev pub asks_group : Leaf → Bool
asks_group (matching group m) = true
asks_group other = false

abbrev pub asks_default : Leaf → Bool
asks_default default_filter = true
asks_default other = false

abbrev pub asks_test : Leaf → Bool
asks_test (matching test_name m) = true
asks_test (matching group m) = true
asks_test default_filter = true
asks_test other = false

-- whether a predicate asks this, as it is written and as it is compiled
abbrev pub asks : Question → Leaf → Bool
asks about.Group = asks_group
asks about.Default = asks_default
asks about.Test = asks_test

abbrev pub is_asking : Question → FiltersetLeaf → Bool
is_asking about.Group = is_group
is_asking about.Default = is_default
is_asking about.Test = is_runtime_only

-- whether some predicate of a tree does
abbrev pub any_leaf : (Leaf → Bool) → Tree → Bool
any_leaf asks (negation op t) = any_leaf asks t
any_leaf asks (union op a b) = any_leaf asks a || any_leaf asks b
any_leaf asks (intersection op a b) = any_leaf asks a || any_leaf asks b
any_leaf asks (difference op a b) = any_leaf asks a || any_leaf asks b
any_leaf asks (parens t) = any_leaf asks t
any_leaf asks (set it) = asks it

-- whether some predicate of a filter does
abbrev pub asked_in : Question → Filterset → Bool
asked_in question it = list_any (is_asking question) it.compiled.leaves

-- a filterset asks what only a test tells: its name, its group, or the default filter
abbrev pub asks_tests : Filterset → Bool
asks_tests = asked_in about.Test

-- its filter asks what its tree asks
abbrev pub AsksAsWritten : Filterset → Type 0
AsksAsWritten it = (question : Question) → asked_in question it ≡ any_leaf (asks question) (tree_of it.parsed)

-- the text is accepted as this filterset
abbrev pub IsParsedFilterset : Context → FiltersetKind → KnownGroups → List ℕ → Filterset → Type 0
IsParsedFilterset cx kind known text it = Parses cx kind known text (Ok it)

-- the value on a binary whatever its tests are, none where tests tell; and the value on a test,
-- which is in no group
abbrev pub HasOnBinary : Filterset → Filterset → Binary → Option Bool → Type 0
HasOnBinary filter default binary value = IsValue (CanBeOn (filter_of filter.compiled) (filter_of default.compiled) binary) value

abbrev pub HasOnTest : Filterset → Filterset → Test → Bool → Type 0
HasOnTest filter default test value = IsOn (filter_of filter.compiled) (filter_of default.compiled) test (λ matcher. ⊥) value

-- it has neither `default()` nor `group()`
abbrev pub can_be_default : Filterset → Bool
can_be_default it = not (asked_in about.Default it) && not (asked_in about.Group it)
