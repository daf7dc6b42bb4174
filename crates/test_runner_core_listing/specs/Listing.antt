-- What the listed binaries answer, and which of their tests are selected.
use Rattle.std.specs.Prelude.{◌≡◌, ℕ, ◌==◌, Bool, true, false, not, length, List, [], ◌∷◌, ◌++◌, Option, None, Some, Result, Ok, Err, ⊤, map, filter, if◌then◌else◌}
use Rattle.nextest_filtering_filters.specs.Query as query
use Rattle.nextest_run_events_results.specs.declared.instance.OwnedTestInstanceId.{OwnedTestInstanceId}
use Rattle.test_runner_core_workspace.specs.Lister.{Answer}
use Rattle.test_runner_core_workspace.specs.Workspace.{is_among, has_separator}
use Rattle.test_runner_core_workspace.specs.declared.record.Binary.{Binary}
use Rattle.test_runner_core_listing.specs.Answers.{Answers, seen_test}
use Rattle.test_runner_core_listing.specs.Selected.{tests_in}
use Rattle.test_runner_core_listing.specs.declared.listing_error.ListingError.{ListingError}
use Rattle.test_runner_core_listing.specs.declared.listing_error.ListingError.TheVariants as error
use Rattle.test_runner_core_listing.specs.declared.listing_fault.ListingFault.{ListingFault}
use Rattle.test_runner_core_listing.specs.declared.listing_fault.ListingFault.TheVariants as refused
use Rattle.test_runner_core_listing.specs.declared.selection.Selection.{Selection}

-- the first name of a binary that is refused, and as what: each name is looked at whole before the
-- next
abbrev pub refused_name : List (List ℕ) → List (List ℕ) → Option ListingFault
refused_name before [] = None
refused_name before (name ∷ names) =
    if length name == 0 then Some refused.EmptyTestName
    else if has_separator name then Some refused.BadTestName
    else if is_among before name then Some refused.RepeatedTest
    else refused_name (before ++ name ∷ []) names

-- the names of a binary, or why its answer is refused
abbrev pub accepted_names : List (List ℕ) → Option ListingFault → Result (List (List ℕ)) ListingFault
accepted_names names None = Ok names
accepted_names names (Some refusal) = Err refusal

abbrev pub accepted_answer : Answer → Result (List (List ℕ)) ListingFault
accepted_answer (Ok names) = accepted_names names (refused_name [] names)
accepted_answer (Err cause) = Err (refused.ListFault cause)

-- a call gives the names that are accepted; want of memory says nothing
abbrev pub Accepts : Result (List (List ℕ)) ListingError → Result (List (List ℕ)) ListingFault → Type 0
Accepts (Ok names) given = given ≡ Ok names
Accepts (Err (error.Refused refusal)) given = given ≡ Err refusal
Accepts (Err error.OutOfMemory) given = ⊤

-- the listed binaries: those of which some test may be selected
abbrev pub listed_of : Answers → List Binary → List Binary
listed_of chosen binaries = filter chosen.lists binaries

abbrev pub ids_of : List Binary → List (List ℕ)
ids_of binaries = map (λ binary. binary.id) binaries

-- tests of a binary, by their names
abbrev pub tests_of : Binary → List (List ℕ) → List OwnedTestInstanceId
tests_of binary names = map (λ name. record { binary_id = binary.id; test_name = name }) names

-- the tests of a binary that are selected, as filters look at them
abbrev pub selected_in : Answers → Binary → List (List ℕ) → List query.Test
selected_in chosen binary names = map (seen_test binary) (filter (chosen.selects binary) names)

-- the others
abbrev pub skipped_in : Answers → Binary → List (List ℕ) → List OwnedTestInstanceId
skipped_in chosen binary names = tests_of binary (filter (λ name. not (chosen.selects binary name)) names)

-- the tests that are found in binaries
pub record Found : Type 0 where
  pub tests : List query.Test
  pub skipped : List OwnedTestInstanceId

infixl 10 ◌>>=◌
abbrev pub ◌>>=◌ : {A B : Type 0} → Result A ListingFault → (A → Result B ListingFault) → Result B ListingFault
Ok x >>= next = next x
Err refusal >>= next = Err refusal

-- what binaries give one after another, up to the first whose answer is refused
abbrev pub listing : (Binary → Answer) → Answers → List Binary → Result Found ListingFault
listing answer chosen [] = Ok (record { tests = []; skipped = [] })
listing answer chosen (binary ∷ binaries) = do
  names ← accepted_answer (answer binary)
  rest ← listing answer chosen binaries
  Ok (record { tests = selected_in chosen binary names ++ rest.tests; skipped = skipped_in chosen binary names ++ rest.skipped })

-- the ids of the binaries that are asked: up to the first whose answer is refused
abbrev pub asked_after : {A : Type 0} → Result A ListingFault → List (List ℕ) → List (List ℕ)
asked_after (Ok names) rest = rest
asked_after (Err refusal) rest = []

abbrev pub asked_of : (Binary → Answer) → List Binary → List (List ℕ)
asked_of answer [] = []
asked_of answer (binary ∷ binaries) = binary.id ∷ asked_after (accepted_answer (answer binary)) (asked_of answer binaries)

-- one binary's tests are added to what was found where it is listed; want of memory says nothing
abbrev pub AddsListed : {T : Type 0} → Result T ListingError → Result (List (List ℕ)) ListingFault → Answers → Binary → Selection → Selection → Type 0
AddsListed (Ok done) answered chosen binary old new =
    (names : List (List ℕ)) × (answered ≡ Ok names) × (new.listed ≡ old.listed ++ binary.id ∷ [])
    × (tests_in new.tests.items ≡ tests_in old.tests.items ++ selected_in chosen binary names)
    × (new.skipped ≡ old.skipped ++ skipped_in chosen binary names)
AddsListed (Err (error.Refused refusal)) answered chosen binary old new = answered ≡ Err refusal
AddsListed (Err error.OutOfMemory) answered chosen binary old new = ⊤

-- nothing is added where it isn't listed
abbrev pub Stays : {T : Type 0} → Result T ListingError → Selection → Selection → Type 0
Stays (Ok done) old new = new ≡ old
Stays (Err (error.Refused refusal)) old new = ⊥
Stays (Err error.OutOfMemory) old new = ⊤

-- one or the other, by whether it is listed
abbrev pub Adds : {T : Type 0} → Bool → Result T ListingError → Result (List (List ℕ)) ListingFault → Answers → Binary → Selection → Selection → Type 0
Adds true result answered chosen binary old new = AddsListed result answered chosen binary old new
Adds false result answered chosen binary old new = Stays result old new

-- a call gives what these binaries give, and their ids; want of memory says nothing
abbrev pub Lists : Result Selection ListingError → Result Found ListingFault → List Binary → Type 0
Lists (Ok it) given listed =
    (given ≡ Ok (record { tests = tests_in it.tests.items; skipped = it.skipped }))
    × (it.listed ≡ ids_of listed)
Lists (Err (error.Refused refusal)) given listed = given ≡ Err refusal
Lists (Err error.OutOfMemory) given listed = ⊤

-- the list of ids asked for grows by these; where memory was wanting by a front of them
abbrev pub AsksFor : Bool → List (List ℕ) → List (List ℕ) → List (List ℕ) → Type 0
AsksFor false old ids new = new ≡ old ++ ids
AsksFor true old ids new =
    (front : List (List ℕ)) × ((rest : List (List ℕ)) × ((new ≡ old ++ front) × (ids ≡ front ++ rest)))

abbrev pub Asks : {T : Type 0} → Result T ListingError → List (List ℕ) → List (List ℕ) → List (List ℕ) → Type 0
Asks (Ok done) old ids new = AsksFor false old ids new
Asks (Err (error.Refused refusal)) old ids new = AsksFor false old ids new
Asks (Err error.OutOfMemory) old ids new = AsksFor true old ids new
