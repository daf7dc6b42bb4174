-- What the filters in force answer of binaries and their tests.
use Rattle.std.specs.Prelude.{ℕ, Bool, true, List, All, codes, map}
use denote.Ref.{Bor}
use Rattle.nextest_filtering_filters.specs.Asking.{Asking}
use Rattle.nextest_filtering_filters.specs.Filter.{Compiled, filter_of}
use Rattle.nextest_filtering_filters.specs.Meaning.{CanBeOn, IsOn, Tells}
use Rattle.nextest_filtering_filters.specs.Query as query
use Rattle.nextest_filtering_filters.specs.declared.leaf.FiltersetLeaf.{FiltersetLeaf}
use Rattle.nextest_filtering_filters.specs.Formula.{Formula}
use Rattle.nextest_filtering_ast.specs.Tree.{Matcher}
use Rattle.nextest_filtering_ast.specs.declared.leaf.BuildPlatform as filtering
use Rattle.nextest_filtering_ast.specs.declared.leaf.BuildPlatform.TheVariants as built_for
use Rattle.test_runner_core_workspace.specs.declared.record.Binary.{Binary}
use Rattle.test_runner_core_workspace.specs.declared.record.BinaryKind.{BinaryKind}
use Rattle.test_runner_core_workspace.specs.declared.record.BinaryKind.TheVariants as kinds
use Rattle.test_runner_core_workspace.specs.declared.record.BuildPlatform.{BuildPlatform}
use Rattle.test_runner_core_workspace.specs.declared.record.BuildPlatform.TheVariants as platforms

abbrev pub kind_name : BinaryKind → List ℕ
kind_name kinds.Lib = codes "lib"
kind_name kinds.Test = codes "test"
kind_name kinds.Bench = codes "bench"
kind_name kinds.Bin = codes "bin"
kind_name kinds.Example = codes "example"
kind_name kinds.ProcMacro = codes "proc-macro"

abbrev pub platform_of : BuildPlatform → filtering.BuildPlatform
platform_of platforms.Host = built_for.Host
platform_of platforms.Target = built_for.Target

-- a binary, as filters look at it
abbrev pub query_of : Binary → query.Binary
query_of binary = record {
  package_id = binary.package;
  id = binary.id;
  kind = kind_name binary.kind;
  name = binary.name;
  platform = platform_of binary.platform;
}

-- a test of it
abbrev pub seen_test : Binary → List ℕ → query.Test
seen_test binary name = record { binary = query_of binary; name = name }

-- filters that are lent
abbrev pub lent_compiled : List (Bor Compiled) → List Compiled
lent_compiled filters = map (λ filter. filter.now) filters

-- a filter, as it is asked of a binary and of its tests
abbrev pub asking_of : Compiled → query.Binary → Compiled → Asking
asking_of default binary filter = record { filter = filter; default = default; binary = binary }

-- it can hold on its binary, by some answers to what it asks of the tests
abbrev pub CanHold : Asking → Type 0
CanHold it = CanBeOn (filter_of it.filter) (filter_of it.default) it.binary true

-- it holds on a test of its binary, where the test's group has a name that such matchers match
abbrev pub HoldsOn : List ℕ → (query.Test → Matcher → Type 0) → Asking → Type 0
HoldsOn name Member it =
    IsOn (filter_of it.filter) (filter_of it.default) (record { binary = it.binary; name = name }) (Member (record { binary = it.binary; name = name })) true

-- which binaries are listed, and which names of a binary are those of selected tests
pub record Answers : Type 0 where
  pub lists : Binary → Bool
  pub selects : Binary → List ℕ → Bool

-- those of filters in force: they list the binaries on which each of them can hold, by answers of
-- its own to what it asks of the tests, and select the tests on which all of them hold
pub record AreAnswers (filters : List (Formula FiltersetLeaf)) (default : Formula FiltersetLeaf) (Member : query.Test → Matcher → Type 0) (it : Answers) : Type 0 where
  pub lists : (binary : Binary) → Tells (All (λ filter. CanBeOn filter default (query_of binary) true) filters) (it.lists binary)
  pub selects : (binary : Binary) (name : List ℕ) → Tells (All (λ filter. IsOn filter default (seen_test binary name) (Member (seen_test binary name)) true) filters) (it.selects binary name)

-- the same of filters that are compiled
abbrev pub AnswerAs : List Compiled → Compiled → (query.Test → Matcher → Type 0) → Answers → Type 0
AnswerAs filters default = AreAnswers (map filter_of filters) (filter_of default)

-- the same of one binary, by the filters as they are asked of it
pub record AnswerOn (asked : List Asking) (binary : Binary) (Member : query.Test → Matcher → Type 0) (it : Answers) : Type 0 where
  pub lists : Tells (All CanHold asked) (it.lists binary)
  pub selects : (name : List ℕ) → Tells (All (HoldsOn name Member) asked) (it.selects binary name)
