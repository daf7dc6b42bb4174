-- The places of tests and scripts by their names.
use Rattle.std.specs.Prelude.{◌≡◌, ℕ, ◌≤◌, Bool, ◌&&◌, List, length, map, Option, None, Some, ⊤}
use Rattle.std.specs.List.{position_from}
use Rattle.std.specs.Option.{unwrap_or}
use Rattle.std.specs.Str.{bytes_eq}
use Rattle.indexmap.specs.IndexSet.{IndexSet}
use Rattle.nextest_run_events_results.specs.declared.instance.OwnedTestInstanceId.{OwnedTestInstanceId}
use Rattle.nextest_run_events_results.specs.declared.instance.TestInstanceId.{TestInstanceId}
use Rattle.test_runner_core_plan.specs.declared.plan.PlanTest.{PlanTest}

-- a test has this binary id and name
abbrev pub is_named : List ℕ → List ℕ → OwnedTestInstanceId → Bool
is_named id name test = bytes_eq id test.binary_id && bytes_eq name test.test_name

-- the place of the first test of a name
abbrev pub first_place : List OwnedTestInstanceId → List ℕ → List ℕ → Option ℕ
first_place tests id name = position_from (is_named id name) 0 tests

-- the same, or a place past the end where there is none
abbrev pub place_of : List OwnedTestInstanceId → List ℕ → List ℕ → ℕ
place_of tests id name = unwrap_or (first_place tests id name) (length tests)

-- the place of the first script of an id, or one past the end
abbrev pub script_place : List (List ℕ) → List ℕ → ℕ
script_place scripts id = unwrap_or (position_from (λ script. bytes_eq script id) 0 scripts) (length scripts)

-- a name, owned
abbrev pub name_of : TestInstanceId → OwnedTestInstanceId
name_of test = record { binary_id = test.binary_id.now; test_name = test.test_name.now }

-- the names of tests, by their places
abbrev pub names : List PlanTest → List OwnedTestInstanceId
names tests = map (λ test. test.instance) tests

-- the place of the first test of a name among these, or one past the end
abbrev pub place_among_tests : List PlanTest → TestInstanceId → ℕ
place_among_tests tests test = place_of (names tests) test.binary_id.now test.test_name.now

-- an index of tests by their names: it has at most as many as there are tests, and where it has as
-- many, theirs, in their order
abbrev pub IsIndex : List TestInstanceId → List OwnedTestInstanceId → Type 0
IsIndex lent tests = (length lent ≤ length tests) × (length lent ≡ length tests → map name_of lent ≡ tests)

-- the same where it was made
abbrev pub IsIndexIfMade : {S : Type 0} → Option (IndexSet TestInstanceId S) → List OwnedTestInstanceId → Type 0
IsIndexIfMade None tests = ⊤
IsIndexIfMade (Some index) tests = IsIndex index.keys tests
