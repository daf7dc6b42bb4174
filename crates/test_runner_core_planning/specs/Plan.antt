-- Which inputs have a plan, and which.
use Rattle.std.specs.Prelude.{◌≡◌, ℕ, ◌+◌, Bool, true, false, List, [], ◌++◌, min, Result, Ok, Err, ⊤, map}
use Rattle.std.specs.List.Sorted.{IsPermutation, IsSorted}
use Rattle.nextest_config_elements_values.specs.Retries.{count_of}
use Rattle.nextest_config_resolution_profiles.specs.Enabled.{AreNamesOf}
use Rattle.nextest_filtering_filters.specs.Query.{Test}
use Rattle.nextest_run_events_results.specs.declared.instance.OwnedTestInstanceId.{OwnedTestInstanceId}
use Rattle.test_runner_core_inputs.specs.declared.inputs.Inputs.{Inputs}
use Rattle.test_runner_core_listing.specs.Answers.{Answers}
use Rattle.test_runner_core_listing.specs.Listing.{AsksFor, Found, asked_of, ids_of}
use Rattle.test_runner_core_listing.specs.Selected.{tests_in}
use Rattle.test_runner_core_listing.specs.declared.listing_fault.ListingFault.{ListingFault}
use Rattle.test_runner_core_listing.specs.declared.selection.Selection.{Selection}
use Rattle.test_runner_core_plan.specs.Order.{plan_cmp}
use Rattle.test_runner_core_plan.specs.declared.plan.Plan.{Plan}
use Rattle.test_runner_core_plan.specs.declared.plan.PlanTest.{PlanTest}
use Rattle.test_runner_core_plan.specs.declared.plan_settings.PlanSettings.{PlanSettings}
use Rattle.test_runner_core_settings.specs.Pass.{pass_of}
use Rattle.test_runner_core_settings.specs.Sets.{IsEnabled, key_warnings}
use Rattle.test_runner_core_settings.specs.declared.pass.VersionPass.{VersionPass}
use Rattle.test_runner_core_settings.specs.declared.pass_error.VersionPassFault.{VersionPassFault}
use Rattle.test_runner_core_workspace.specs.Lister.{Answer}
use Rattle.test_runner_core_workspace.specs.declared.record.Binary.{Binary}
use Rattle.test_runner_core_planning.specs.Checks.{AnswerFor, BreaksFirst, IsFound, KeepsAll, Planned, all_checks, before_listing, listed_in}
use Rattle.test_runner_core_planning.specs.Filtering.{Choice, context_of}
use Rattle.test_runner_core_planning.specs.Refusals.{of_listing}
use Rattle.test_runner_core_planning.specs.declared.plan_error.PlanError.{PlanError}
use Rattle.test_runner_core_planning.specs.declared.plan_error.PlanError.TheVariants as error
use Rattle.test_runner_core_planning.specs.declared.plan_fault.PlanFault.{PlanFault}

-- the warnings of what passed
abbrev pub warnings_in : Result VersionPass VersionPassFault → List (List ℕ)
warnings_in (Ok passed) = passed.warnings
warnings_in (Err refusal) = []

-- all warnings: of the version first, then of the files, from the lowest on
abbrev pub warnings_of : Inputs → List (List ℕ)
warnings_of inputs = warnings_in (pass_of inputs) ++ key_warnings inputs

-- what is planned of inputs: no check is broken, and these tests are found
pub record IsPlanned (answer : Binary → Answer) (inputs : Inputs) (it : Planned) : Type 0 where
  pub kept : KeepsAll answer inputs all_checks
  pub found : IsFound answer inputs it

-- inputs have this planned, or this is why the first check that they break refuses them
abbrev pub Plans : (Binary → Answer) → Inputs → Result Planned PlanFault → Type 0
Plans answer inputs (Ok it) = IsPlanned answer inputs it
Plans answer inputs (Err refusal) = BreaksFirst answer inputs all_checks refusal

-- What the lister is asked for: for nothing, where inputs are refused before; else once for each
-- binary that the filters in force list, in the workspace's order, up to the first whose answer is
-- refused, or where there was no memory for some of these, from the first on.
pub record AsksWith (answer : Binary → Answer) (inputs : Inputs) (lacks : Bool) (old new : List (List ℕ)) : Type 0 where
  pub none : (refusal : PlanFault) → BreaksFirst answer inputs before_listing refusal → new ≡ old
  pub listed : (choice : Choice) (answers : Answers) → KeepsAll answer inputs before_listing → AnswerFor inputs choice answers
      → AsksFor lacks old (asked_of answer (listed_in inputs answers)) new

-- which test of which binary it is
abbrev pub instance_of : Test → OwnedTestInstanceId
instance_of test = record { binary_id = test.binary.id; test_name = test.name }

-- a selected test with its settings: it has one try more than retries
abbrev pub plan_test : (Test → PlanSettings) → Test → PlanTest
plan_test of_test test = record { instance = instance_of test; settings = of_test test; tries = count_of (of_test test).retries + 1 }

-- the plan of what is selected
pub record IsPlanOf (inputs : Inputs) (it : Planned) (plan : Plan) : Type 0 where
  pub tests : IsPermutation (map (plan_test it.choice.of_test) it.found.tests) plan.tests
  pub order : IsSorted plan_cmp plan.tests
  pub skipped : plan.skipped ≡ it.found.skipped
  pub listed : plan.listed ≡ map (λ binary. binary.id) (listed_in inputs it.answers)
  pub limit : plan.limit ≡ it.choice.run.max_fail
  pub levels : plan.levels ≡ it.choice.run.levels
  pub scripts : AreNamesOf (IsEnabled (context_of inputs.workspace) inputs it.found.tests) plan.scripts
  pub warnings : plan.warnings ≡ warnings_of inputs

-- a call builds the plan, or refuses as is written; want of memory says nothing
abbrev pub Builds : (Binary → Answer) → Inputs → Result Plan PlanError → Type 0
Builds answer inputs (Ok plan) = (it : Planned) × Plans answer inputs (Ok it) × IsPlanOf inputs it plan
Builds answer inputs (Err (error.Refused refusal)) = Plans answer inputs (Err refusal)
Builds answer inputs (Err error.OutOfMemory) = ⊤

-- a call gives what the listed binaries give; want of memory says nothing
abbrev pub Selected : Result Selection PlanError → Result Found ListingFault → List Binary → Type 0
Selected (Ok selection) given listed =
    (given ≡ Ok (record { tests = tests_in selection.tests.items; skipped = selection.skipped })) × (selection.listed ≡ ids_of listed)
Selected (Err (error.Refused refusal)) given listed = (fault : ListingFault) × (given ≡ Err fault) × (refusal ≡ of_listing fault)
Selected (Err error.OutOfMemory) given listed = ⊤

-- there was no memory
abbrev pub lacks_memory : {A : Type 0} → Result A PlanError → Bool
lacks_memory (Ok done) = false
lacks_memory (Err (error.Refused refusal)) = false
lacks_memory (Err error.OutOfMemory) = true

-- the list of ids asked for grows by those that the lister is asked for; where there was no memory
-- by a front of them
abbrev pub Asks : {A : Type 0} → Result A PlanError → List (List ℕ) → List (List ℕ) → List (List ℕ) → Type 0
Asks result = AsksFor (lacks_memory result)

-- how many attempts a test has: what can't be counted is refused before
abbrev pub tries_of : PlanSettings → ℕ
tries_of settings = min (count_of settings.retries + 1) 4294967295

-- a test as it is put into a plan, with its settings
abbrev pub with_settings : (Test → PlanSettings) → Test → PlanTest
with_settings of_test test = record { instance = instance_of test; settings = of_test test; tries = tries_of (of_test test) }
