-- How a plan follows from its parts.
use Rattle.std.proofs.Common.{◌≡◌, inl, inr, None, ◌+◌, ◌||◌, ℕ, ◌∷◌, ◌++◌, [], List, Bool, true, false, map, min, nat_lt, Result, Ok, Err, refl, ap, sym, ◌∙◌, arith}
use Rattle.std.specs.List.{list_any}
use Rattle.std.proofs.lemmas.Bool.{ltb-false, or_parts}
use Rattle.std.proofs.lemmas.List.{append-nil}
use Rattle.nextest_config_elements_values.specs.Retries.{count_of}
use Rattle.nextest_filtering_filters.specs.Query.{Test}
use Rattle.test_runner_core_inputs.specs.declared.inputs.Inputs.{Inputs}
use Rattle.test_runner_core_listing.specs.Answers.{Answers}
use Rattle.test_runner_core_listing.specs.Listing.{AsksFor, asked_of, listing}
use Rattle.test_runner_core_plan.specs.declared.plan.Plan.{Plan}
use Rattle.test_runner_core_plan.specs.declared.plan.PlanTest.{PlanTest}
use Rattle.test_runner_core_plan.specs.declared.plan_settings.PlanSettings.{PlanSettings}
use Rattle.test_runner_core_settings.specs.Calls.{Chooses, Configures}
use Rattle.test_runner_core_settings.specs.Pass.{GivesPass, pass_of}
use Rattle.test_runner_core_settings.specs.Sets.{Sets, key_warnings}
use Rattle.test_runner_core_settings.specs.declared.pass.VersionPass.{VersionPass}
use Rattle.test_runner_core_settings.specs.declared.pass_error.VersionPassError.{VersionPassError}
use Rattle.test_runner_core_settings.specs.declared.pass_error.VersionPassError.TheVariants as pass_errors
use Rattle.test_runner_core_settings.specs.declared.pass_error.VersionPassFault.{VersionPassFault}
use Rattle.test_runner_core_settings.specs.declared.settings_error.SettingsError.{SettingsError}
use Rattle.test_runner_core_settings.specs.declared.settings_error.SettingsError.TheVariants as settings_errors
use Rattle.test_runner_core_settings.specs.declared.settings_fault.SettingsFault.{SettingsFault}
use Rattle.test_runner_core_workspace.specs.Lister.{Answer}
use Rattle.test_runner_core_workspace.specs.Workspace.{Checks, refusal_of}
use Rattle.test_runner_core_workspace.specs.declared.record.Binary.{Binary}
use Rattle.test_runner_core_workspace.specs.declared.workspace_error.WorkspaceError.{WorkspaceError}
use Rattle.test_runner_core_workspace.specs.declared.workspace_error.WorkspaceError.TheVariants as workspace_errors
use Rattle.test_runner_core_planning.specs.Checks.{AnswerFor, IsFound, KeepsAll, Planned, SetsAll, before_listing, behind_listing, has_too_many, listed_in, overflows}
use Rattle.test_runner_core_planning.specs.Filtering.{Choice, context_of}
use Rattle.test_runner_core_planning.specs.Inside.{AreSettled, GivesFilterset, IsPassed, IsRefusedEarly, GivesWanted}
use Rattle.test_runner_core_planning.specs.Plan.{AsksWith, Builds, Plans, Selected, instance_of, lacks_memory, plan_test, warnings_in, warnings_of, with_settings}
use Rattle.test_runner_core_planning.specs.Refusals.{error_of_pass, error_of_settings, error_of_workspace, of_settings}
use Rattle.test_runner_core_planning.specs.declared.plan_error.PlanError.{PlanError}
use Rattle.test_runner_core_planning.specs.declared.plan_error.PlanError.TheVariants as errors
use Rattle.test_runner_core_planning.specs.declared.plan_fault.PlanFault.TheVariants as refused
use Rattle.test_runner_core_planning.proofs.Once.{breaks_behind, breaks_more, keeps_both, keeps_configuration, keeps_filterset, keeps_names, keeps_tries, keeps_versions, keeps_workspace, none_breaks}

-- ---- inputs that are refused before a binary is asked

-- by their workspace
pub settles_workspace : (inputs : Inputs) (error : WorkspaceError) → Checks {T = Unit {0}} inputs.workspace (Err error) → AreSettled inputs (Err (error_of_workspace error))
settles_workspace inputs (workspace_errors.Refused fault) is = λ answer. inl (fault, is, refl)
settles_workspace inputs workspace_errors.OutOfMemory is = tt

-- by what their sources ask for
pub settles_versions : (inputs : Inputs) (error : VersionPassError) → refusal_of inputs.workspace ≡ None → GivesPass (Err error) (pass_of inputs) → AreSettled inputs (Err (error_of_pass error))
settles_versions inputs (pass_errors.Refused fault) e is = λ answer. inr (keeps_workspace answer inputs e, inl (fault, is, refl))
settles_versions inputs pass_errors.OutOfMemory e is = tt

-- by their configuration, the chosen profile or the platforms
pub refuses_configuration : (inputs : Inputs) (fault : SettingsFault) → IsPassed inputs → Sets (context_of inputs.workspace) inputs (Err fault) → IsRefusedEarly inputs (of_settings fault)
refuses_configuration inputs fault of is = λ answer. inr (keeps_workspace answer inputs of.workspace, inr (keeps_versions answer inputs of.passed of.passes, inl (fault, is, refl)))

pub settles_configuration : (inputs : Inputs) (error : SettingsError) → IsPassed inputs → Configures (context_of inputs.workspace) inputs (Err error) → AreSettled inputs (Err (error_of_settings error))
settles_configuration inputs (settings_errors.Refused fault) of is = refuses_configuration inputs fault of is
settles_configuration inputs settings_errors.OutOfMemory of is = tt

pub wants_error : (inputs : Inputs) (error : SettingsError) → IsPassed inputs → Chooses (context_of inputs.workspace) inputs (Err error) → GivesWanted inputs (Err (error_of_settings error))
wants_error inputs (settings_errors.Refused fault) of is = refuses_configuration inputs fault of is
wants_error inputs settings_errors.OutOfMemory of is = tt

-- by their filterset
pub refuses_filterset : (inputs : Inputs) (choice : Choice) (error : PlanError) → IsPassed inputs → SetsAll inputs choice
    → GivesFilterset inputs.workspace choice.run.known_groups inputs.filterset (Err error) → GivesWanted inputs (Err error)
refuses_filterset inputs choice (errors.Refused refusal) of sets is = λ answer.
    inr (
      keeps_workspace answer inputs of.workspace,
      inr (keeps_versions answer inputs of.passed of.passes, inr (keeps_configuration answer inputs choice.run sets.run, inl (choice, sets, is))),
    )
refuses_filterset inputs choice errors.OutOfMemory of sets is = tt

-- a configuration that is refused is such a refusal
pub wants_settled : (inputs : Inputs) (error : PlanError) → AreSettled inputs (Err error) → GivesWanted inputs (Err error)
wants_settled inputs (errors.Refused refusal) is = is
wants_settled inputs errors.OutOfMemory is = tt

-- so they have no plan
pub refused_before : (answer : Binary → Answer) (inputs : Inputs) (error : PlanError) → GivesWanted inputs (Err error) → Builds answer inputs (Err error)
refused_before answer inputs (errors.Refused refusal) wanted = breaks_more answer inputs before_listing behind_listing refusal (wanted answer)
refused_before answer inputs errors.OutOfMemory wanted = tt

-- and nobody is asked
pub asks_nothing : (answer : Binary → Answer) (inputs : Inputs) (error : PlanError) (old : List (List ℕ)) → GivesWanted inputs (Err error)
    → AsksWith answer inputs (lacks_memory {A = Plan} (Err error)) old old
asks_nothing answer inputs (errors.Refused refusal) old wanted = record {
  none = λ other broken. refl;
  listed = λ choice answers kept it. absurd (none_breaks answer inputs before_listing refusal kept (wanted answer));
}
asks_nothing answer inputs errors.OutOfMemory old wanted = record {
  none = λ other broken. refl;
  listed = λ choice answers kept it. ([], (asked_of answer (listed_in inputs answers), (sym (append-nil old), refl)));
}

-- all warnings
pub all_warnings : (inputs : Inputs) (passed : VersionPass) (more : List (List ℕ)) → pass_of inputs ≡ Ok passed → more ≡ key_warnings inputs
    → passed.warnings ++ more ≡ warnings_of inputs
all_warnings inputs passed more e f =
    ap (λ (m : List (List ℕ)). passed.warnings ++ m) f ∙ ap (λ (p : Result VersionPass VersionPassFault). warnings_in p ++ key_warnings inputs) (sym e)

-- ---- inputs whose binaries are asked

-- no check before that is broken
kept_before : (answer : Binary → Answer) (inputs : Inputs) (choice : Choice) (answers : Answers) → IsPassed inputs → AnswerFor inputs choice answers → KeepsAll answer inputs before_listing
kept_before answer inputs choice answers of it = (
  keeps_workspace answer inputs of.workspace,
  (
    keeps_versions answer inputs of.passed of.passes,
    (keeps_configuration answer inputs choice.run it.sets.run, (keeps_filterset answer inputs choice answers it, tt)),
  ),
)

-- whatever they answer, it is what is asked for
pub asks_with : (answer : Binary → Answer) (inputs : Inputs) (choice : Choice) (made : Answers) (lacks : Bool) (old new : List (List ℕ)) → IsPassed inputs → AnswerFor inputs choice made
    → ((other : Choice) (answers : Answers) → AnswerFor inputs other answers → AsksFor lacks old (asked_of answer (listed_in inputs answers)) new) → AsksWith answer inputs lacks old new
asks_with answer inputs choice made lacks old new of it asks = record {
  none = λ refusal broken. absurd (none_breaks answer inputs before_listing refusal (kept_before answer inputs choice made of it) broken);
  listed = λ other answers kept also. asks other answers also;
}

-- all were asked, and then memory was wanting
pub asks_lacking : (old ids new : List (List ℕ)) → AsksFor false old ids new → AsksFor true old ids new
asks_lacking old ids new asks = (ids, ([], (asks, sym (append-nil ids))))

-- a listing that is refused
pub refused_listing : (answer : Binary → Answer) (inputs : Inputs) (choice : Choice) (answers : Answers) (error : PlanError) → IsPassed inputs → AnswerFor inputs choice answers
    → Selected (Err error) (listing answer answers (listed_in inputs answers)) (listed_in inputs answers) → Builds answer inputs (Err error)
refused_listing answer inputs choice answers (errors.Refused refusal) of it (fault, listed, is) =
    breaks_behind answer inputs before_listing behind_listing refusal (kept_before answer inputs choice answers of it)
    (inl (record { choice = choice; answers = answers; answered = it; fault = fault; listed = listed; refused = is }))
refused_listing answer inputs choice answers errors.OutOfMemory of it selected = tt

-- tests with too many tries
pub refused_tries : (answer : Binary → Answer) (inputs : Inputs) (it : Planned) → IsPassed inputs → IsFound answer inputs it → has_too_many it.choice.of_test it.found.tests ≡ true
    → Builds answer inputs (Err (errors.Refused refused.RetriesTooMany))
refused_tries answer inputs it of found many =
    breaks_behind answer inputs before_listing behind_listing refused.RetriesTooMany (kept_before answer inputs it.choice it.answers of found.answers)
    (inr (keeps_names answer inputs it found, inl (record { it = it; found = found; many = many }, refl)))

-- what is planned where there are none
pub plans_found : (answer : Binary → Answer) (inputs : Inputs) (it : Planned) → IsPassed inputs → IsFound answer inputs it → has_too_many it.choice.of_test it.found.tests ≡ false
    → Plans answer inputs (Ok it)
plans_found answer inputs it of found few = record {
  kept = keeps_both answer inputs before_listing behind_listing (kept_before answer inputs it.choice it.answers of found.answers)
      (keeps_names answer inputs it found, (keeps_tries answer inputs it found few, tt));
  found = found;
}

-- ---- tries

-- whether some test of a plan has too many tries
pub any_overflows : (of_test : Test → PlanSettings) (tests : List Test) → list_any (λ (test : PlanTest). overflows test.settings) (map (with_settings of_test) tests) ≡ has_too_many of_test tests
any_overflows of_test [] = refl
any_overflows of_test (test ∷ tests) = ap (λ (b : Bool). overflows (of_test test) || b) (any_overflows of_test tests)

few_tries : (retries : ℕ) → nat_lt 4294967295 (retries + 1) ≡ false → min (retries + 1) 4294967295 ≡ retries + 1
few_tries retries e = let most = ltb-false 4294967295 (retries + 1) e in omega (arith, most)

-- the tries of tests that aren't refused
pub tries_fit : (of_test : Test → PlanSettings) (tests : List Test) → has_too_many of_test tests ≡ false → map (with_settings of_test) tests ≡ map (plan_test of_test) tests
tries_fit of_test [] few = refl
tries_fit of_test (test ∷ tests) few =
    let parts = or_parts (overflows (of_test test)) (has_too_many of_test tests) few in
    ap (λ (n : ℕ). record { instance = instance_of test; settings = of_test test; tries = n } ∷ map (with_settings of_test) tests) (few_tries (count_of (of_test test).retries) parts.0)
    ∙ ap (λ (more : List PlanTest). plan_test of_test test ∷ more) (tries_fit of_test tests parts.1)
