-- It can't be that inputs have neither a plan nor a refusal.
use Rattle.std.proofs.Common.{◌≡◌, ◌⊎◌, inl, inr, ℕ, Bool, true, false, List, [], ◌∷◌, ◌++◌, map, Option, None, Some, Result, Ok, Err, refl, sym, subst}
use Rattle.std.specs.List.{All, Contains}
use Rattle.std.proofs.lemmas.List.Elements.{All-append, All-cons, All-nil, Contains-append_left, Contains-append_right}
use Rattle.nextest_config_resolution_profiles.specs.Enabled.{AreNamesOf}
use Rattle.nextest_config_resolution_scripts.specs.declared.script_rule.PlacedScriptRule.{PlacedScriptRule}
use Rattle.nextest_filtering_filters.specs.Query.{Test}
use Rattle.nextest_filtering_filters.specs.declared.known_groups.KnownGroups.{KnownGroups}
use Rattle.nextest_filtering_ast.specs.Tree.{Tree}
use Rattle.nextest_filtering_ast.specs.declared.leaf.BuildPlatform.TheVariants as platform
use Rattle.test_runner_core_inputs.specs.declared.inputs.Inputs.{Inputs}
use Rattle.test_runner_core_listing.specs.Answers.{Answers}
use Rattle.test_runner_core_listing.specs.Listing.{Found, listing}
use Rattle.test_runner_core_listing.specs.declared.listing_fault.ListingFault.{ListingFault}
use Rattle.test_runner_core_plan.proofs.OneOrder.{plans_compare}
use Rattle.test_runner_core_plan.specs.Order.{plan_cmp}
use Rattle.test_runner_core_plan.specs.declared.plan.Plan.{Plan}
use Rattle.test_runner_core_settings.proofs.Once.{chosen_once, one_default}
use Rattle.test_runner_core_settings.proofs.Some.{some_settings, some_test}
use Rattle.test_runner_core_settings.specs.Chosen.{Chosen}
use Rattle.test_runner_core_settings.specs.Holding.{IsDefaultText}
use Rattle.test_runner_core_settings.specs.Pass.{pass_of}
use Rattle.test_runner_core_settings.specs.Platforms.{platforms_of}
use Rattle.test_runner_core_settings.specs.Sets.{IsEnabled, Sets}
use Rattle.test_runner_core_settings.specs.declared.configured.RunSettings.{RunSettings}
use Rattle.test_runner_core_settings.specs.declared.pass.VersionPass.{VersionPass}
use Rattle.test_runner_core_settings.specs.declared.pass_error.VersionPassFault.{VersionPassFault}
use Rattle.test_runner_core_settings.specs.declared.settings_fault.SettingsFault.{SettingsFault}
use Rattle.test_runner_core_workspace.specs.Lister.{Answer}
use Rattle.test_runner_core_workspace.specs.Workspace.{refusal_of}
use Rattle.test_runner_core_workspace.specs.declared.record.Binary.{Binary}
use Rattle.test_runner_core_workspace.specs.declared.record.WorkspaceRecord.{WorkspaceRecord}
use Rattle.test_runner_core_workspace.specs.declared.workspace_fault.WorkspaceFault.{WorkspaceFault}
use Rattle.test_runner_core_planning.specs.Checks.{AnswerFor, IsFound, Planned, SetsAll, has_too_many, listed_in}
use Rattle.test_runner_core_planning.specs.Filtering.{AreOfFilterset, Choice, InForce, IsChosen, IsRefused, IsTakenAsDefault, context_of, graph_of, unless_ignored}
use Rattle.test_runner_core_planning.specs.Inside.{IsPassed, IsRefusedEarly}
use Rattle.test_runner_core_planning.specs.Laws.{Decided}
use Rattle.test_runner_core_planning.specs.Plan.{Builds, Plans, plan_test, warnings_of}
use Rattle.test_runner_core_planning.specs.Refusals.{of_listing, of_pass, of_settings, of_workspace}
use Rattle.test_runner_core_planning.specs.declared.plan_error.PlanError.TheVariants as errors
use Rattle.test_runner_core_planning.specs.declared.plan_fault.PlanFault.{PlanFault}
use Rattle.test_runner_core_planning.specs.declared.plan_fault.PlanFault.TheVariants as refused
use Rattle.test_runner_core_planning.proofs.Building.{plans_found, refused_before, refused_listing, refused_tries, refuses_configuration, refuses_filterset}
use Rattle.test_runner_core_planning.proofs.Elements.{has_cases, none_has}
use Rattle.test_runner_core_planning.proofs.Finite.{some_names, some_order}
use Rattle.test_runner_core_planning.proofs.Once.{keeps_workspace}
use Rattle.test_runner_core_planning.proofs.TreesDecided.{IsKnownTree, known_tree, some_answers}

-- ---- what is set

-- where something is set for the run, it is for each test
set_all : (inputs : Inputs) (run : RunSettings) → Sets (context_of inputs.workspace) inputs (Ok run) → (choice : Choice) × SetsAll inputs choice
set_all inputs run is =
    let each = λ (test : Test). some_test (context_of inputs.workspace) inputs run test is in
    (record { run = run; of_test = λ test. (each test).0 }, record { run = is; tests = λ test. (each test).1 })

-- some test
any_test : Test
any_test = record { binary = record { package_id = []; id = []; kind = []; name = []; platform = platform.Target }; name = [] }

-- the default filter is a tree
some_default : (inputs : Inputs) (choice : Choice) → SetsAll inputs choice → (tree : Tree) × IsTakenAsDefault inputs.workspace choice.run.default_filter tree
some_default inputs choice sets =
    let cx = context_of inputs.workspace in
    let it = sets.tests any_test in
    let own = sets.run in
    let same : it.profile ≡ own.profile = chosen_once cx inputs it.profile own.profile it.asked.chosen own.chosen in
    let set = subst (λ (profile : Chosen). IsDefaultText (platforms_of inputs) profile.rules profile.chain it.asked.text) same it.asked.set in
    let text : it.asked.text ≡ choice.run.default_filter =
    one_default (platforms_of inputs) own.profile.rules own.profile.chain it.asked.text choice.run.default_filter set own.settings.default_filter in
    (it.default, subst (λ (t : List ℕ). IsTakenAsDefault inputs.workspace t it.default) text it.asked.read)

-- ---- the filters in force

-- a filterset is one or isn't
some_filterset : (workspace : WorkspaceRecord) (known : KnownGroups) (filterset : Option (List ℕ)) → ¬ ¬ (((trees : List Tree) × AreOfFilterset workspace known filterset trees) ⊎ IsRefused workspace known filterset)
some_filterset workspace known None never = never (inl ([], refl))
some_filterset workspace known (Some text) never = never (inr (λ tree taken. never (inl (tree ∷ [], (tree, taken, refl)))))

-- it can't be that it isn't known which packages its predicates ask for
known_filterset : (workspace : WorkspaceRecord) (known : KnownGroups) (filterset : Option (List ℕ)) (trees : List Tree) → AreOfFilterset workspace known filterset trees
    → ¬ ¬ All (IsKnownTree (graph_of workspace)) trees
known_filterset workspace known None trees is never = never (subst (All (IsKnownTree (graph_of workspace))) (sym is) (All-nil (IsKnownTree (graph_of workspace))))
known_filterset workspace known (Some text) trees (tree, taken, is) never =
    let Knows = IsKnownTree (graph_of workspace) in
    known_tree (graph_of workspace) text tree taken.0 (λ it. never (subst (All Knows) (sym is) (All-cons Knows tree [] it (All-nil Knows))))

all_unless : (P : Tree → Type 0) (ignored : Bool) (default : Tree) → P default → All P (unless_ignored ignored default)
all_unless P true default is = All-nil P
all_unless P false default is = All-cons P default [] is (All-nil P)

-- so it can't be that they answer nothing
some_chosen : (inputs : Inputs) (choice : Choice) (default : Tree) (chosen : List Tree) → IsTakenAsDefault inputs.workspace choice.run.default_filter default
    → AreOfFilterset inputs.workspace choice.run.known_groups inputs.filterset chosen → ¬ ¬ ((answers : Answers) × IsChosen inputs choice (Ok answers))
some_chosen inputs choice default chosen is of never =
    let graph = graph_of inputs.workspace in
    let ignored = inputs.ignore_default_filter in
    let force : InForce = record { filters = chosen ++ unless_ignored ignored default; default = default } in
    known_tree graph choice.run.default_filter default is.0 (λ known_default.
    known_filterset inputs.workspace choice.run.known_groups inputs.filterset chosen of (λ known.
    let all = All-append (IsKnownTree graph) chosen (unless_ignored ignored default) known (all_unless (IsKnownTree graph) ignored default known_default) in
    let some = some_answers inputs.workspace choice.of_test force all known_default in
    never (some.0, (force, record { default = is; chosen = chosen; filterset = of; all = refl }, some.1))))

-- ---- the plan of what is planned

-- the names in script rules
abbrev names_in : List PlacedScriptRule → List (List ℕ)
names_in [] = []
names_in (rule ∷ rules) = rule.config.setup ++ names_in rules

named_there : (rules : List PlacedScriptRule) (rule : PlacedScriptRule) (id : List ℕ) → Contains rules rule → Contains rule.config.setup id → Contains (names_in rules) id
named_there [] rule id of names = absurd (none_has rule of)
named_there (first ∷ rules) rule id of names = by_side (λ behind. named_there rules rule id behind names) (has_cases first rule rules of)
  where
    by_side : (Contains rules rule → Contains (names_in rules) id) → (first ≡ rule) ⊎ Contains rules rule → Contains (first.config.setup ++ names_in rules) id
    by_side more (inl same) = Contains-append_left first.config.setup (names_in rules) id (subst (λ (r : PlacedScriptRule). Contains r.config.setup id) (sym same) names)
    by_side more (inr behind) = Contains-append_right first.config.setup (names_in rules) id (more behind)

-- it can't be that no names are those of the enabled scripts
some_scripts : (inputs : Inputs) (choice : Choice) (tests : List Test) → SetsAll inputs choice → ¬ ¬ ((names : List (List ℕ)) × AreNamesOf (IsEnabled (context_of inputs.workspace) inputs tests) names)
some_scripts inputs choice tests sets =
    let cx = context_of inputs.workspace in
    let own = sets.run in
    some_names (IsEnabled cx inputs tests) (names_in own.profile.script_rules) (λ id (test, among, needs).
    let same : needs.profile ≡ own.profile = chosen_once cx inputs needs.profile own.profile needs.asked.chosen own.chosen in
    named_there own.profile.script_rules needs.rule id (subst (λ (profile : Chosen). Contains profile.script_rules needs.rule) same needs.of_profile) needs.names)

-- nor that what is planned has no plan
some_plan : (answer : Binary → Answer) (inputs : Inputs) (it : Planned) → Plans answer inputs (Ok it) → ¬ ¬ ((plan : Plan) × Builds answer inputs (Ok plan))
some_plan answer inputs it planned never =
    let order = some_order plan_cmp plans_compare (map (plan_test it.choice.of_test) it.found.tests) in
    some_scripts inputs it.choice it.found.tests planned.found.answers.sets (λ (scripts, are).
    let plan : Plan = record {
      scripts = scripts;
      tests = order.0;
      listed = map (λ (binary : Binary). binary.id) (listed_in inputs it.answers);
      skipped = it.found.skipped;
      limit = it.choice.run.max_fail;
      levels = it.choice.run.levels;
      warnings = warnings_of inputs;
    } in
    never (plan, (it, planned, record { tests = order.1; order = order.2; skipped = refl; listed = refl; limit = refl; levels = refl; scripts = are; warnings = refl })))

-- ---- a plan or a refusal

refuses_versions : (inputs : Inputs) (fault : VersionPassFault) → refusal_of inputs.workspace ≡ None → pass_of inputs ≡ Err fault → IsRefusedEarly inputs (of_pass fault)
refuses_versions inputs fault e f = λ answer. inr (keeps_workspace answer inputs e, inl (fault, f, refl))

module _ (answer : Binary → Answer) (inputs : Inputs) (never : ¬ (((plan : Plan) × Builds answer inputs (Ok plan)) ⊎ ((refusal : PlanFault) × Builds answer inputs (Err (errors.Refused refusal))))) where
  not_refused : (refusal : PlanFault) → Builds answer inputs (Err (errors.Refused refusal)) → ⊥
  not_refused refusal is = never (inr (refusal, is))

  by_tries : (it : Planned) → IsPassed inputs → IsFound answer inputs it → (many : Bool) → has_too_many it.choice.of_test it.found.tests ≡ many → ⊥
  by_tries it of found true e = not_refused refused.RetriesTooMany (refused_tries answer inputs it of found e)
  by_tries it of found false e = some_plan answer inputs it (plans_found answer inputs it of found e) (λ some. never (inl some))

  by_listing : (choice : Choice) (answers : Answers) → IsPassed inputs → AnswerFor inputs choice answers → (given : Result Found ListingFault)
      → listing answer answers (listed_in inputs answers) ≡ given → ⊥
  by_listing choice answers of it (Err fault) e = not_refused (of_listing fault) (refused_listing answer inputs choice answers (errors.Refused (of_listing fault)) of it (fault, e, refl))
  by_listing choice answers of it (Ok found) e =
      let planned : Planned = record { choice = choice; answers = answers; found = found } in
      by_tries planned of (record { answers = it; found = e }) (has_too_many choice.of_test found.tests) refl

  by_filterset : (choice : Choice) → IsPassed inputs → SetsAll inputs choice
      → ((trees : List Tree) × AreOfFilterset inputs.workspace choice.run.known_groups inputs.filterset trees) ⊎ IsRefused inputs.workspace choice.run.known_groups inputs.filterset → ⊥
  by_filterset choice of sets (inr none) =
      not_refused refused.Filterset (refused_before answer inputs (errors.Refused refused.Filterset) (refuses_filterset inputs choice (errors.Refused refused.Filterset) of sets (refl, none)))
  by_filterset choice of sets (inl (chosen, are)) =
      let default = some_default inputs choice sets in
      some_chosen inputs choice default.0 chosen default.1 are (λ (answers, is).
      by_listing choice answers of (record { sets = sets; chosen = is }) (listing answer answers (listed_in inputs answers)) refl)

  by_settings : IsPassed inputs → (given : Result RunSettings SettingsFault) → Sets (context_of inputs.workspace) inputs given → ⊥
  by_settings of (Err fault) sets = not_refused (of_settings fault) (refused_before answer inputs (errors.Refused (of_settings fault)) (refuses_configuration inputs fault of sets))
  by_settings of (Ok run) sets =
      let all = set_all inputs run sets in
      some_filterset inputs.workspace all.0.run.known_groups inputs.filterset (by_filterset all.0 of all.1)

  by_pass : refusal_of inputs.workspace ≡ None → (given : Result VersionPass VersionPassFault) → pass_of inputs ≡ given → ⊥
  by_pass e (Err fault) f = not_refused (of_pass fault) (refused_before answer inputs (errors.Refused (of_pass fault)) (refuses_versions inputs fault e f))
  by_pass e (Ok passed) f =
      let of : IsPassed inputs = record { workspace = e; passed = passed; passes = f } in
      some_settings (context_of inputs.workspace) inputs (λ (given, sets). by_settings of given sets)

  by_workspace : (found : Option WorkspaceFault) → refusal_of inputs.workspace ≡ found → ⊥
  by_workspace (Some fault) e = not_refused (of_workspace fault) (refused_before answer inputs (errors.Refused (of_workspace fault)) (λ other. inl (fault, e, refl)))
  by_workspace None e = by_pass e (pass_of inputs) refl

pub decided : Decided
decided answer inputs never = by_workspace answer inputs never (refusal_of inputs.workspace) refl
