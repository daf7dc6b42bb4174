-- Profiles outside of the chosen one's chain change nothing of a plan, its warnings aside; and
-- inputs ask for something.
use Rattle.std.proofs.Common.{◌≡◌, ℕ, Bool, List, ◌++◌, map, Option, Ok, refl, sym, ap, ◌∙◌, subst}
use Rattle.nextest_config_resolution_profiles.specs.Enabled.{AreNamesOf}
use Rattle.nextest_config_resolution_profiles.proofs.Enabling.{one_names, same_names}
use Rattle.nextest_filtering_filters.specs.Query.{Test}
use Rattle.test_runner_core_inputs.specs.declared.inputs.Inputs.{Inputs}
use Rattle.test_runner_core_listing.specs.Answers.{Answers}
use Rattle.test_runner_core_listing.specs.Listing.{listed_of, listing}
use Rattle.test_runner_core_plan.specs.declared.plan.Plan.{Plan}
use Rattle.test_runner_core_planning.specs.Filtering.{AreAnswersOf, AreOfFilterset, Choice, IsChosen, IsTakenAsDefault, context_of, unless_ignored}
use Rattle.test_runner_core_planning.specs.Laws.{DifferOutside, IsolatesPlans}
use Rattle.test_runner_core_planning.specs.Checks.{IsFound, Planned, SetsAll, listed_in}
use Rattle.test_runner_core_planning.specs.Plan.{IsPlanOf, Plans}
use Rattle.test_runner_core_planning.proofs.Once.{chosen_once}
use Rattle.test_runner_core_planning.proofs.OnePlan.{plans_same, tests_of_one, with_warnings}
use Rattle.test_runner_core_settings.specs.Sets.{IsEnabled, Sets, SetsTest}
use Rattle.test_runner_core_settings.proofs.Agreeing.{agrees_on_chain}
use Rattle.test_runner_core_settings.proofs.Isolated.{isolated, isolates_scripts, isolates_tests}
use Rattle.test_runner_core_workspace.specs.Lister.{Answer}
use Rattle.test_runner_core_workspace.specs.declared.record.Binary.{Binary}
use Rattle.test_runner_core_workspace.specs.declared.record.WorkspaceRecord.{WorkspaceRecord}

-- filters in force of the one are those of the other
chosen_alike : (inputs other : Inputs) (choice : Choice) (answers : Answers) → DifferOutside inputs other → IsChosen other choice (Ok answers) → IsChosen inputs choice (Ok answers)
chosen_alike inputs other choice answers differ (force, is, are) = (
  force,
  record {
    default = subst (λ (w : WorkspaceRecord). IsTakenAsDefault w choice.run.default_filter force.default) differ.workspace is.default;
    chosen = is.chosen;
    filterset = subst (λ (w : WorkspaceRecord). AreOfFilterset w choice.run.known_groups inputs.filterset is.chosen) differ.workspace
        (subst (λ (f : Option (List ℕ)). AreOfFilterset other.workspace choice.run.known_groups f is.chosen) differ.filterset is.filterset);
    all = is.all ∙ ap (λ (b : Bool). is.chosen ++ unless_ignored b force.default) differ.ignored;
  },
  subst (λ (w : WorkspaceRecord). AreAnswersOf w choice.of_test force answers) differ.workspace are,
)

-- the same is set in both
choice_alike : (inputs other : Inputs) (one second : Choice) → DifferOutside inputs other → SetsAll inputs one → SetsAll other second → one ≡ second
choice_alike inputs other one second differ sets also =
    let cx = context_of inputs.workspace in
    let chain = agrees_on_chain cx inputs other differ.files in
    let run : one.run ≡ second.run =
    isolated cx inputs other one.run second.run chain sets.run (subst (λ (w : WorkspaceRecord). Sets (context_of w) other (Ok second.run)) differ.workspace also.run) in
    λ i. record {
      run = run i;
      of_test = λ test.
          isolates_tests cx inputs other test (one.of_test test) (second.of_test test) chain (sets.tests test)
          (subst (λ (w : WorkspaceRecord). SetsTest (context_of w) other test (second.of_test test)) differ.workspace (also.tests test)) i;
    }

-- inputs that differ outside of the chain alone ask for one thing, and the same tests are selected
planned_alike : (answer : Binary → Answer) (inputs other : Inputs) (a b : Planned) → DifferOutside inputs other → IsFound answer inputs a → IsFound answer other b → a ≡ b
planned_alike answer inputs other a b differ first second =
    let choice : a.choice ≡ b.choice = choice_alike inputs other a.choice b.choice differ first.answers.sets second.answers.sets in
    let chosen : IsChosen inputs a.choice (Ok b.answers) =
    subst (λ (c : Choice). IsChosen inputs c (Ok b.answers)) (sym choice) (chosen_alike inputs other b.choice b.answers differ second.answers.chosen) in
    let answers : a.answers ≡ b.answers = (let e = chosen_once inputs a.choice (Ok a.answers) (Ok b.answers) first.answers.chosen chosen in cc) in
    let listed : listing answer a.answers (listed_in inputs a.answers) ≡ Ok b.found =
    ap (λ (c : Answers). listing answer c (listed_of c inputs.workspace.binaries)) answers
    ∙ ap (λ (w : WorkspaceRecord). listing answer b.answers (listed_of b.answers w.binaries)) (sym differ.workspace) ∙ second.found in
    let found : a.found ≡ b.found = (let e = sym first.found ∙ listed in cc) in
    λ i. record { choice = choice i; answers = answers i; found = found i }

-- the same setup scripts are enabled
scripts_alike : (inputs other : Inputs) (a b : Choice) (tests : List Test) (one second : List (List ℕ)) → DifferOutside inputs other → SetsAll inputs a → SetsAll other b
    → AreNamesOf (IsEnabled (context_of inputs.workspace) inputs tests) one → AreNamesOf (IsEnabled (context_of other.workspace) other tests) second → second ≡ one
scripts_alike inputs other a b tests one second differ sets next are also =
    let cx = context_of inputs.workspace in
    let chain = agrees_on_chain cx inputs other differ.files in
    let sets_other = subst (λ (w : WorkspaceRecord). Sets (context_of w) other (Ok b.run)) differ.workspace next.run in
    let there = subst (λ (w : WorkspaceRecord). AreNamesOf (IsEnabled (context_of w) other tests) second) differ.workspace also in
    one_names second one (same_names second (λ id. isolates_scripts cx inputs other a.run b.run tests id chain sets.run sets_other) there) are

-- plans of one selection are the same but for their warnings
plans_alike : (answer : Binary → Answer) (inputs other : Inputs) (it : Planned) (one second : Plan) → other.workspace ≡ inputs.workspace → second.scripts ≡ one.scripts → Plans answer inputs (Ok it)
    → IsPlanOf inputs it one → IsPlanOf other it second → second ≡ with_warnings second.warnings one
plans_alike answer inputs other it one second workspace scripts planned first next =
    plans_same second (with_warnings second.warnings one) scripts
    (tests_of_one answer inputs it second.tests one.tests planned next.tests first.tests next.order first.order)
    (next.listed ∙ ap (λ (w : WorkspaceRecord). map (λ (binary : Binary). binary.id) (listed_of it.answers w.binaries)) workspace ∙ sym first.listed)
    (next.skipped ∙ sym first.skipped) (next.limit ∙ sym first.limit) (next.levels ∙ sym first.levels) refl

pub isolates_plans : IsolatesPlans
isolates_plans answer inputs other one second differ (a, plans, is) (b, plans_other, is_other) =
    let same : a ≡ b = planned_alike answer inputs other a b differ plans.found plans_other.found in
    let scripts = scripts_alike inputs other a.choice b.choice b.found.tests one.scripts second.scripts differ plans.found.answers.sets plans_other.found.answers.sets
    (subst (λ (it : Planned). AreNamesOf (IsEnabled (context_of inputs.workspace) inputs it.found.tests) one.scripts) same is.scripts) is_other.scripts in
    plans_alike answer inputs other b one second differ.workspace scripts (subst (λ (it : Planned). Plans answer inputs (Ok it)) same plans) (subst (λ (it : Planned). IsPlanOf inputs it one) same is) is_other
