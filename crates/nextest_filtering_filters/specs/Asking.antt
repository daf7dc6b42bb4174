-- What is left to ask of a filter where its binary is known.
use Rattle.std.specs.Prelude.{◌≡◌, ℕ, Bool, true, false, ⊤, List, Option, None, Some}
use Rattle.std.specs.List.{AllZip, list_any}
use Rattle.nextest_filtering_filters.specs.Formula.{AreValues}
use Rattle.nextest_filtering_filters.specs.Questions.{comes_to, decided, holds_by}
use Rattle.nextest_filtering_filters.specs.Steps.{formula_of}
use Rattle.nextest_filtering_filters.specs.Values.{IsSome, may_by}
use Rattle.nextest_filtering_filters.specs.declared.questions.Decision.{Decision}
use Rattle.nextest_filtering_filters.specs.declared.questions.Questions.{Questions}
use Rattle.nextest_filtering_filters.specs.declared.values.Values.{Values}
use Rattle.nextest_filtering_ast.specs.Matching.{comparison_of, text_of}
use Rattle.nextest_filtering_ast.specs.Meaning.{MatchesName}
use Rattle.nextest_filtering_ast.specs.Tree.{Matcher, matcher_of}
use Rattle.nextest_filtering_ast.specs.declared.leaf.SourceSpan.{SourceSpan}
use Rattle.nextest_filtering_ast.specs.declared.matcher.NameMatcher.{NameMatcher}
use Rattle.nextest_filtering_filters.specs.Filter.{Compiled, is_default, leaf_at}
use Rattle.nextest_filtering_filters.specs.Meaning.{Either, IsKnownOn, MayBe, Tells}
use Rattle.nextest_filtering_filters.specs.Query.{Binary}
use Rattle.nextest_filtering_filters.specs.declared.asked.Asked.{Asked}
use Rattle.nextest_filtering_filters.specs.declared.asked.Asked.TheVariants as asked
use Rattle.nextest_filtering_filters.specs.declared.leaf.FiltersetLeaf.{FiltersetLeaf}
use Rattle.nextest_filtering_filters.specs.declared.leaf.FiltersetLeaf.TheVariants as leaf

-- a filter, the default filter, and the binary of whose tests they are asked
pub record Asking : Type 0 where
  pub filter : Compiled
  pub default : Compiled
  pub binary : Binary

-- one of them on the binary
pub record PartOf : Type 0 where
  pub filter : Compiled
  pub binary : Binary

-- it asks what a predicate asks of the tests of a binary
abbrev pub IsFor : Binary → FiltersetLeaf → Asked → Type 0
IsFor binary it (asked.Known value) = IsKnownOn binary it value
IsFor binary it (asked.Name matching) =
    (m : NameMatcher) × (span : SourceSpan) × (it ≡ leaf.Test m span) × (comparison_of matching ≡ (matcher_of m).comparison) × (text_of matching ≡ (matcher_of m).text)
IsFor binary it (asked.Group lent) = (m : NameMatcher) × (span : SourceSpan) × (it ≡ leaf.Group m span) × (matcher_of lent.now ≡ matcher_of m)
IsFor binary it asked.Default = it ≡ leaf.Default

-- one of these values
abbrev pub values_may : Values → Bool → Type 0
values_may values = may_by (λ number. values) 0

-- what a predicate is on a test of this name and these groups, where the default filter is so
abbrev pub IsLeafValue : Binary → List ℕ → (Matcher → Type 0) → Bool → FiltersetLeaf → Bool → Type 0
IsLeafValue binary name Member default it value =
    MayBe binary (λ m. Tells (MatchesName m name)) (λ m. Tells (Member m)) (λ other. other ≡ default) it value

-- the values that a predicate may have on a binary, where the default filter may have these
abbrev pub AreOn : Binary → Values → FiltersetLeaf → Values → Type 0
AreOn binary default it values = AreValues (MayBe binary Either Either (values_may default) it) values × IsSome values

-- the value that a predicate has on a test, as values
abbrev pub AreLeafValues : Binary → List ℕ → (Matcher → Type 0) → Bool → FiltersetLeaf → Values → Type 0
AreLeafValues binary name Member default it values = AreValues (IsLeafValue binary name Member default it) values × IsSome values

-- what predicates are on a test of this name, whose groups nobody knows, by their numbers
abbrev pub AreAnswers : Binary → List ℕ → Bool → List FiltersetLeaf → (ℕ → Bool) → Type 0
AreAnswers binary name default leaves answer = (number : ℕ) → IsLeafValue binary name (λ m. ⊥) default (leaf_at leaves number) (answer number)

-- what questions come to that are asked of these, on a test of this name, whose groups nobody knows,
-- where the default filter is so
abbrev pub IsAnswer : List Asked → Questions → Bool → List ℕ → Bool → Type 0
IsAnswer them questions default name value =
    (binary : Binary) (leaves : List FiltersetLeaf) (answer : ℕ → Bool) → AllZip (IsFor binary) leaves them
    → AreAnswers binary name default leaves answer → value ≡ comes_to answer questions

-- what a formula comes to that the answer of one predicate decides so, on a test of this name, whose
-- groups nobody knows, where the default filter holds nowhere
abbrev pub IsDecided : Asked → Decision → List ℕ → Bool → Type 0
IsDecided it decision name value =
    (binary : Binary) (leaf : FiltersetLeaf) (answer : Bool) → IsFor binary leaf it
    → IsLeafValue binary name (λ m. ⊥) false leaf answer → value ≡ decided decision answer

-- questions that come to what a filter is, whatever its predicates may be on the binary
abbrev pub AreQuestionsOf : Binary → Compiled → Questions → Type 0
AreQuestionsOf binary it questions =
    (answer : ℕ → Bool) → ((number : ℕ) → MayBe binary Either Either (λ value. ⊤) (leaf_at it.leaves number) (answer number))
    → comes_to answer questions ≡ holds_by answer (formula_of it.steps)

-- what is kept of a default filter on a binary, beside a filter: nothing only where the filter
-- doesn't ask for it
abbrev pub IsKept : Compiled → Compiled → Binary → Option PartOf → Type 0
IsKept filter default binary None = list_any is_default filter.leaves ≡ false
IsKept filter default binary (Some part) = (part.filter ≡ default) × (part.binary ≡ binary)

-- the values that one value, or none that is known, leaves
abbrev pub left_by : Option Bool → Values
left_by None = record { may_hold = true; may_fail = true }
left_by (Some true) = record { may_hold = true; may_fail = false }
left_by (Some false) = record { may_hold = false; may_fail = true }
