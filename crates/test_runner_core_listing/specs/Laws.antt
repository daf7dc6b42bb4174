-- What holds of all filters in force: they have answers, and these are one. And what names and
-- binaries are refused for, and what is found.
use Rattle.std.specs.Prelude.{◌≡◌, ◌↔◌, ◌==◌, ℕ, Bool, false, List, [], ◌∷◌, ◌++◌, Option, None, Some, Ok, Err, length, All, flat_map, if◌then◌else◌}
use Rattle.nextest_filtering_filters.specs.Deciding.{AllLeaves, AreReadable, IsReadable}
use Rattle.nextest_filtering_filters.specs.Filter.{Compiled, filter_of, is_default}
use Rattle.nextest_filtering_filters.specs.Formula.{Formula}
use Rattle.nextest_filtering_filters.specs.Meaning.{Tells}
use Rattle.nextest_filtering_filters.specs.Query as query
use Rattle.nextest_filtering_filters.specs.declared.leaf.FiltersetLeaf.{FiltersetLeaf}
use Rattle.nextest_filtering_ast.specs.Tree.{Matcher}
use Rattle.test_runner_core_workspace.specs.Lister.{Answer}
use Rattle.test_runner_core_workspace.specs.Workspace.{is_among, has_separator}
use Rattle.test_runner_core_workspace.specs.declared.record.Binary.{Binary}
use Rattle.test_runner_core_listing.specs.Answers.{Answers, AreAnswers, AnswerAs}
use Rattle.test_runner_core_listing.specs.Listing.{Found, accepted_answer, listing, refused_name, selected_in, skipped_in}
use Rattle.test_runner_core_listing.specs.declared.listing_fault.ListingFault.{ListingFault}
use Rattle.test_runner_core_listing.specs.declared.listing_fault.ListingFault.TheVariants as refused

-- filters and a default filter have answers, where the globs of their matchers are globs, the
-- default filter has no `default()` in it, and it is decided whether a group has a name that a
-- matcher matches
abbrev pub HasAnswers : {G : Type 0} → (G → query.Test → Matcher → Type 0) → Type 0
HasAnswers {G} Member =
    (groups : G) (filters : List Compiled) (default : Compiled) → ((test : query.Test) (m : Matcher) → IsReadable m → (b : Bool) × Tells (Member groups test m) b)
    → All (λ filter. AreReadable (filter_of filter)) filters → AreReadable (filter_of default) → AllLeaves (λ it. is_default it ≡ false) (filter_of default)
    → (answers : Answers) × AnswerAs filters default (Member groups) answers

-- and these are one
abbrev pub AnswersOnce : {G : Type 0} → (G → query.Test → Matcher → Type 0) → Type 0
AnswersOnce {G} Member =
    (groups : G) (filters : List (Formula FiltersetLeaf)) (default : Formula FiltersetLeaf) (a b : Answers)
    → AreAnswers filters default (Member groups) a → AreAnswers filters default (Member groups) b → a ≡ b

-- what is wrong with a name behind others: it is empty, has a separator in it, or is one of them;
-- the first of these that is so
abbrev pub fault_behind : List (List ℕ) → List ℕ → Option ListingFault
fault_behind before name =
    if length name == 0 then Some refused.EmptyTestName
    else if has_separator name then Some refused.BadTestName
    else if is_among before name then Some refused.RepeatedTest
    else None

-- nothing is wrong with any of the names
abbrev pub AreAccepted : List (List ℕ) → Type 0
AreAccepted names = (before : List (List ℕ)) (name : List ℕ) (behind : List (List ℕ)) → names ≡ before ++ name ∷ behind → fault_behind before name ≡ None

-- names are refused by the first with which something is wrong
pub record IsRefusedBy (names : List (List ℕ)) (fault : ListingFault) : Type 0 where
  pub before : List (List ℕ)
  pub name : List ℕ
  pub behind : List (List ℕ)
  pub division : names ≡ before ++ name ∷ behind
  pub all_before : AreAccepted before
  pub own_fault : fault_behind before name ≡ Some fault

abbrev pub RefusesByFirst : Type 0
RefusesByFirst = (names : List (List ℕ)) (fault : ListingFault) → (refused_name [] names ≡ Some fault) ↔ IsRefusedBy names fault

abbrev pub AcceptsElse : Type 0
AcceptsElse = (names : List (List ℕ)) → (refused_name [] names ≡ None) ↔ AreAccepted names

-- the names that a binary answers, if it does
abbrev pub names_in : Answer → List (List ℕ)
names_in (Ok names) = names
names_in (Err cause) = []

-- a binary's answer is accepted
abbrev pub IsAccepted : (Binary → Answer) → Binary → Type 0
IsAccepted answer binary = accepted_answer (answer binary) ≡ Ok (names_in (answer binary))

-- what is found in binaries, whose answers are all accepted: the tests that are selected in each,
-- one binary after another, and the others
pub record IsFoundIn (answer : Binary → Answer) (chosen : Answers) (binaries : List Binary) (found : Found) : Type 0 where
  pub acceptance : All (IsAccepted answer) binaries
  pub tests : found.tests ≡ flat_map (λ binary. selected_in chosen binary (names_in (answer binary))) binaries
  pub skipped : found.skipped ≡ flat_map (λ binary. skipped_in chosen binary (names_in (answer binary))) binaries

-- binaries are refused by the first whose answer is refused, and as that is
pub record IsRefusedIn (answer : Binary → Answer) (binaries : List Binary) (refusal : ListingFault) : Type 0 where
  pub before : List Binary
  pub binary : Binary
  pub behind : List Binary
  pub division : binaries ≡ before ++ binary ∷ behind
  pub all_before : All (IsAccepted answer) before
  pub own_refusal : accepted_answer (answer binary) ≡ Err refusal

abbrev pub FindsWhereAccepted : Type 0
FindsWhereAccepted =
    (answer : Binary → Answer) (chosen : Answers) (binaries : List Binary) (found : Found)
    → (listing answer chosen binaries ≡ Ok found) ↔ IsFoundIn answer chosen binaries found

abbrev pub RefusesWhereRefused : Type 0
RefusesWhereRefused =
    (answer : Binary → Answer) (chosen : Answers) (binaries : List Binary) (refusal : ListingFault)
    → (listing answer chosen binaries ≡ Err refusal) ↔ IsRefusedIn answer binaries refusal
