-- What is checked of inputs, in the written order: they are refused by the first check that they
-- break.
use Rattle.std.specs.Prelude.{◌≡◌, ◌⊎◌, ◌+◌, Bool, true, List, [], ◌∷◌, ◌++◌, Some, Ok, Err, ⊤, nat_lt}
use Rattle.std.specs.List.{list_any}
use Rattle.nextest_config_elements_values.specs.Retries.{count_of}
use Rattle.nextest_filtering_filters.specs.Query.{Test}
use Rattle.test_runner_core_inputs.specs.declared.inputs.Inputs.{Inputs}
use Rattle.test_runner_core_listing.specs.Answers.{Answers}
use Rattle.test_runner_core_listing.specs.Listing.{Found, listed_of, listing}
use Rattle.test_runner_core_listing.specs.declared.listing_fault.ListingFault.{ListingFault}
use Rattle.test_runner_core_plan.specs.declared.plan_settings.PlanSettings.{PlanSettings}
use Rattle.test_runner_core_settings.specs.Pass.{pass_of}
use Rattle.test_runner_core_settings.specs.Sets.{Sets, SetsTest}
use Rattle.test_runner_core_settings.specs.declared.pass_error.VersionPassFault.{VersionPassFault}
use Rattle.test_runner_core_settings.specs.declared.settings_fault.SettingsFault.{SettingsFault}
use Rattle.test_runner_core_workspace.specs.Lister.{Answer}
use Rattle.test_runner_core_workspace.specs.Workspace.{refusal_of}
use Rattle.test_runner_core_workspace.specs.declared.record.Binary.{Binary}
use Rattle.test_runner_core_workspace.specs.declared.workspace_fault.WorkspaceFault.{WorkspaceFault}
use Rattle.test_runner_core_planning.specs.Filtering.{Choice, IsChosen, context_of}
use Rattle.test_runner_core_planning.specs.Refusals.{of_listing, of_pass, of_settings, of_workspace}
use Rattle.test_runner_core_planning.specs.declared.plan_fault.PlanFault.{PlanFault}
use Rattle.test_runner_core_planning.specs.declared.plan_fault.PlanFault.TheVariants as refused

-- ---- what inputs ask for

-- what the configuration sets for the run of inputs and for each of their tests
pub record SetsAll (inputs : Inputs) (choice : Choice) : Type 0 where
  pub run : Sets (context_of inputs.workspace) inputs (Ok choice.run)
  pub tests : (test : Test) → SetsTest (context_of inputs.workspace) inputs test (choice.of_test test)

-- inputs set this, and their filters in force answer so
pub record AnswerFor (inputs : Inputs) (choice : Choice) (answers : Answers) : Type 0 where
  pub sets : SetsAll inputs choice
  pub chosen : IsChosen inputs choice (Ok answers)

-- what inputs set, what their filters in force answer, and the tests that are selected
pub record Planned : Type 0 where
  pub choice : Choice
  pub answers : Answers
  pub found : Found

-- the binaries that are listed
abbrev pub listed_in : Inputs → Answers → List Binary
listed_in inputs answers = listed_of answers inputs.workspace.binaries

-- inputs set this, their filters in force answer so, and these tests of the listed binaries are
-- selected
pub record IsFound (answer : Binary → Answer) (inputs : Inputs) (it : Planned) : Type 0 where
  pub answers : AnswerFor inputs it.choice it.answers
  pub found : listing answer it.answers (listed_in inputs it.answers) ≡ Ok it.found

-- the tries of a test with these settings, one more than its retries, can't be counted in 32 bits
abbrev pub overflows : PlanSettings → Bool
overflows settings = nat_lt 4294967295 (count_of settings.retries + 1)

-- so it is of a selected test
abbrev pub has_too_many : (Test → PlanSettings) → List Test → Bool
has_too_many of_test tests = list_any (λ test. overflows (of_test test)) tests

-- ---- the checks

pub data Check : Type 0 where
  workspace : Check
  versions : Check
  configuration : Check
  filterset : Check
  names : Check
  tries : Check

-- the answer of a listed binary is refused: the first that is, in the workspace's order
pub record IsListedBadly (answer : Binary → Answer) (inputs : Inputs) (refusal : PlanFault) : Type 0 where
  pub choice : Choice
  pub answers : Answers
  pub answered : AnswerFor inputs choice answers
  pub fault : ListingFault
  pub listed : listing answer answers (listed_in inputs answers) ≡ Err fault
  pub refused : refusal ≡ of_listing fault

-- a selected test has too many tries
pub record HasTooMany (answer : Binary → Answer) (inputs : Inputs) : Type 0 where
  pub it : Planned
  pub found : IsFound answer inputs it
  pub many : has_too_many it.choice.of_test it.found.tests ≡ true

-- A check is broken, and this is the refusal. The workspace has repeated or unknown ids. The
-- sources ask for a version or for features that aren't there. They have no configuration, or the
-- chosen profile isn't there, or facts repeat. The filterset isn't accepted.
abbrev pub Breaks : (Binary → Answer) → Inputs → Check → PlanFault → Type 0
Breaks answer inputs workspace refusal = (fault : WorkspaceFault) × (refusal_of inputs.workspace ≡ Some fault) × (refusal ≡ of_workspace fault)
Breaks answer inputs versions refusal = (fault : VersionPassFault) × (pass_of inputs ≡ Err fault) × (refusal ≡ of_pass fault)
Breaks answer inputs configuration refusal = (fault : SettingsFault) × Sets (context_of inputs.workspace) inputs (Err fault) × (refusal ≡ of_settings fault)
Breaks answer inputs filterset refusal = (choice : Choice) × SetsAll inputs choice × IsChosen inputs choice (Err refusal)
Breaks answer inputs names refusal = IsListedBadly answer inputs refusal
Breaks answer inputs tries refusal = HasTooMany answer inputs × (refusal ≡ refused.RetriesTooMany)

-- it isn't broken
abbrev pub Keeps : (Binary → Answer) → Inputs → Check → Type 0
Keeps answer inputs check = (refusal : PlanFault) → ¬ Breaks answer inputs check refusal

-- none of some checks is
abbrev pub KeepsAll : (Binary → Answer) → Inputs → List Check → Type 0
KeepsAll answer inputs [] = ⊤
KeepsAll answer inputs (check ∷ checks) = Keeps answer inputs check × KeepsAll answer inputs checks

-- the first of them that is broken is broken with this refusal
abbrev pub BreaksFirst : (Binary → Answer) → Inputs → List Check → PlanFault → Type 0
BreaksFirst answer inputs [] refusal = ⊥
BreaksFirst answer inputs (check ∷ checks) refusal =
    Breaks answer inputs check refusal ⊎ (Keeps answer inputs check × BreaksFirst answer inputs checks refusal)

-- those that come before a binary is asked, those behind, and all
abbrev pub before_listing : List Check
before_listing = workspace ∷ versions ∷ configuration ∷ filterset ∷ []

abbrev pub behind_listing : List Check
behind_listing = names ∷ tries ∷ []

abbrev pub all_checks : List Check
all_checks = before_listing ++ behind_listing
