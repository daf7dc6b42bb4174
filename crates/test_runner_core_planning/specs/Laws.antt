-- What holds of every plan.
use Rattle.std.specs.Prelude.{◌≡◌, ◌≢◌, ◌↔◌, ◌⊎◌, ◌+◌, ℕ, false, List, ◌++◌, codes, map, Option, Some, Ok, Err}
use Rattle.std.specs.List.{AllPairs, Contains}
use Rattle.nextest_config_elements_values.specs.Retries.{count_of}
use Rattle.nextest_filtering_ast.specs.Tree.{Tree}
use Rattle.nextest_run_events_results.specs.declared.instance.OwnedTestInstanceId.{OwnedTestInstanceId}
use Rattle.test_runner_core_inputs.specs.declared.inputs.Inputs.{Inputs}
use Rattle.test_runner_core_listing.specs.Answers.{seen_test}
use Rattle.test_runner_core_listing.specs.Listing.{accepted_answer}
use Rattle.test_runner_core_plan.specs.declared.plan.Plan.{Plan}
use Rattle.test_runner_core_plan.specs.declared.plan.PlanTest.{PlanTest}
use Rattle.test_runner_core_settings.specs.Laws.{AgreeInFiles}
use Rattle.test_runner_core_workspace.specs.Lister.{Answer}
use Rattle.test_runner_core_workspace.specs.declared.record.Binary.{Binary}
use Rattle.test_runner_core_planning.specs.Checks.{SetsAll}
use Rattle.test_runner_core_planning.specs.Filtering.{AllCanHold, AllHold, AreInForce, Choice, InForce, IsTaken, context_of}
use Rattle.test_runner_core_planning.specs.Plan.{Builds}
use Rattle.test_runner_core_planning.specs.declared.plan_error.PlanError.TheVariants.{Refused}
use Rattle.test_runner_core_planning.specs.declared.plan_fault.PlanFault.{PlanFault}

-- a test is wanted: a binary of the workspace has its binary's id and answered its name, and all
-- filters in force hold on it
pub record IsWanted (answer : Binary → Answer) (inputs : Inputs) (choice : Choice) (force : InForce) (test : OwnedTestInstanceId) : Type 0 where
  pub binary : Binary
  pub among : Contains inputs.workspace.binaries binary
  pub id : binary.id ≡ test.binary_id
  pub names : List (List ℕ)
  pub answered : answer binary ≡ Ok names
  pub named : Contains names test.test_name
  pub holds : AllHold inputs.workspace choice.of_test force binary test.test_name

-- a plan has exactly the tests that are wanted
abbrev pub HasExactlyTheWanted : Type 0
HasExactlyTheWanted =
    (answer : Binary → Answer) (inputs : Inputs) (plan : Plan) (choice : Choice) (force : InForce)
    → Builds answer inputs (Ok plan) → SetsAll inputs choice → AreInForce inputs choice.run force
    → (test : OwnedTestInstanceId) → Contains (map (λ (t : PlanTest). t.instance) plan.tests) test ↔ IsWanted answer inputs choice force test

-- a binary of these answers a name that is accepted, and all filters in force hold on the test
pub record IsTestOn (inputs : Inputs) (names : Binary → List (List ℕ)) (choice : Choice) (force : InForce) (test : OwnedTestInstanceId) : Type 0 where
  pub binary : Binary
  pub among : Contains inputs.workspace.binaries binary
  pub id : binary.id ≡ test.binary_id
  pub named : Contains (names binary) test.test_name
  pub holds : AllHold inputs.workspace choice.of_test force binary test.test_name

-- each binary of a workspace answers these names, and they are accepted
abbrev pub AllAnswer : (Binary → Answer) → Inputs → (Binary → List (List ℕ)) → Type 0
AllAnswer answer inputs names = (binary : Binary) → Contains inputs.workspace.binaries binary → accepted_answer (answer binary) ≡ Ok (names binary)

-- Two roads lead to the selected tests: where each binary answers names that are accepted, they are
-- those tests of all binaries, whether listed or not, on which the filters in force hold.
abbrev pub Roads : Type 0
Roads =
    (answer : Binary → Answer) (inputs : Inputs) (names : Binary → List (List ℕ)) (plan : Plan) (choice : Choice) (force : InForce)
    → AllAnswer answer inputs names → Builds answer inputs (Ok plan) → SetsAll inputs choice → AreInForce inputs choice.run force
    → (test : OwnedTestInstanceId) → Contains (map (λ (t : PlanTest). t.instance) plan.tests) test ↔ IsTestOn inputs names choice force test

-- a filterset, and the default filter beside it
abbrev pub and_default : List ℕ → List ℕ
and_default text = codes "(" ++ text ++ codes ") and default()"

-- inputs that ask for another filterset
abbrev pub with_filterset : Option (List ℕ) → Inputs → Inputs
with_filterset filterset inputs = record inputs { filterset = filterset }

-- where the default filter is in force, it may stand in the filterset too: the plan stays what it
-- is
abbrev pub DefaultTwice : Type 0
DefaultTwice =
    (answer : Binary → Answer) (inputs : Inputs) (text : List ℕ) (plan : Plan) → inputs.filterset ≡ Some text → inputs.ignore_default_filter ≡ false
    → Builds answer inputs (Ok plan) → Builds answer (with_filterset (Some (and_default text)) inputs) (Ok plan)

-- and back: a filterset that is taken has the plan that it has with the default filter beside it
abbrev pub DefaultOnce : Type 0
DefaultOnce =
    (answer : Binary → Answer) (inputs : Inputs) (text : List ℕ) (tree : Tree) (plan : Plan) → inputs.filterset ≡ Some text → inputs.ignore_default_filter ≡ false
    → ((choice : Choice) → SetsAll inputs choice → IsTaken inputs.workspace choice.run.known_groups text tree)
    → Builds answer (with_filterset (Some (and_default text)) inputs) (Ok plan) → Builds answer inputs (Ok plan)

-- a test of a plan has the settings that are set for it in its binary, and one try more than these
-- have retries
pub record HasItsSettings (inputs : Inputs) (choice : Choice) (test : PlanTest) : Type 0 where
  pub binary : Binary
  pub among : Contains inputs.workspace.binaries binary
  pub id : binary.id ≡ test.instance.binary_id
  pub settings : test.settings ≡ choice.of_test (seen_test binary test.instance.test_name)
  pub tries : test.tries ≡ count_of test.settings.retries + 1

-- so has each
abbrev pub HaveTheirSettings : Type 0
HaveTheirSettings =
    (answer : Binary → Answer) (inputs : Inputs) (plan : Plan) (choice : Choice) → Builds answer inputs (Ok plan) → SetsAll inputs choice
    → (test : PlanTest) → Contains plan.tests test → HasItsSettings inputs choice test

-- a plan lists exactly the binaries on which each filter in force can hold, by answers of its own
-- to what it asks of their tests
abbrev pub ListsExactly : Type 0
ListsExactly =
    (answer : Binary → Answer) (inputs : Inputs) (plan : Plan) (choice : Choice) (force : InForce)
    → Builds answer inputs (Ok plan) → SetsAll inputs choice → AreInForce inputs choice.run force
    → (binary : Binary) → Contains inputs.workspace.binaries binary → Contains plan.listed binary.id ↔ AllCanHold inputs.workspace force binary

-- a plan has no test twice: no two of its tests have the same binary's id and the same name
abbrev pub HasNoneTwice : Type 0
HasNoneTwice =
    (answer : Binary → Answer) (inputs : Inputs) (plan : Plan) → Builds answer inputs (Ok plan)
    → AllPairs (λ one other. one ≢ other) (map (λ (t : PlanTest). t.instance) plan.tests)

-- Two inputs ask for the same tests of one workspace, and agree in their files but in profiles
-- outside of the chosen one's chain. They may differ in what is asked of versions, where that lets
-- both be loaded.
pub record DifferOutside (inputs other : Inputs) : Type 0 where
  pub workspace : other.workspace ≡ inputs.workspace
  pub filterset : other.filterset ≡ inputs.filterset
  pub ignored : other.ignore_default_filter ≡ inputs.ignore_default_filter
  pub files : AgreeInFiles (context_of inputs.workspace) inputs other

-- profiles outside of the chosen one's chain change nothing of a plan, its warnings aside
abbrev pub IsolatesPlans : Type 0
IsolatesPlans =
    (answer : Binary → Answer) (inputs other : Inputs) (one second : Plan) → DifferOutside inputs other
    → Builds answer inputs (Ok one) → Builds answer other (Ok second) → second ≡ record one { warnings = second.warnings }

-- It can't be that inputs have neither a plan nor a refusal. No law decides whether a text is a
-- filterset, so it is said in this form.
abbrev pub Decided : Type 0
Decided = (answer : Binary → Answer) (inputs : Inputs)
    → ¬ ¬ (((plan : Plan) × Builds answer inputs (Ok plan)) ⊎ ((refusal : PlanFault) × Builds answer inputs (Err (Refused refusal))))

-- inputs have at most one plan
abbrev pub OnePlan : Type 0
OnePlan = (answer : Binary → Answer) (inputs : Inputs) (one other : Plan) → Builds answer inputs (Ok one) → Builds answer inputs (Ok other) → one ≡ other

-- and none where they are refused
abbrev pub NotPlannedAndRefused : Type 0
NotPlannedAndRefused = (answer : Binary → Answer) (inputs : Inputs) (plan : Plan) (refusal : PlanFault) → Builds answer inputs (Ok plan) → ¬ Builds answer inputs (Err (Refused refusal))
