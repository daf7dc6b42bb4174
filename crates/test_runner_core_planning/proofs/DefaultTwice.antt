-- Where the default filter is in force, a filterset may ask for it too: the plan stays what it is.
use Rattle.std.proofs.Common.{◌≡◌, ◌↔◌, ℕ, Bool, true, false, ◌&&◌, List, [], ◌∷◌, ◌++◌, Option, None, Some, Result, Ok, Err, refl, sym, ap, ◌∙◌, subst}
use Rattle.std.specs.List.{All}
use Rattle.std.proofs.lemmas.List.Elements.{All-cons, All-head, All-tail}
use Rattle.nextest_config_resolution_profiles.specs.Config.{IsConfig}
use Rattle.nextest_config_resolution_profiles.specs.Whole.{Whole}
use Rattle.nextest_config_resolution_profiles.proofs.Enabling.{same_names}
use Rattle.nextest_filtering_arguments.specs.declared.ban.FiltersetKind.TheVariants as purpose
use Rattle.nextest_filtering_compiling.specs.Accepting.{IsFree}
use Rattle.nextest_filtering_compiling.specs.Bans.{ban_of}
use Rattle.nextest_filtering_compiling.specs.Context.{Context}
use Rattle.nextest_filtering_compiling.specs.Trees.{MayBeAs, shape_of_tree}
use Rattle.nextest_filtering_compiling.specs.declared.filterset.Filterset.{Filterset}
use Rattle.nextest_filtering_filters.proofs.Giving.{of_both, of_leaf}
use Rattle.nextest_filtering_filters.specs.Formula.{Formula, Gives, both, both_gives, either, either_gives, leaf, leaf_gives, negated, negated_gives}
use Rattle.nextest_filtering_filters.specs.Meaning.{Either, Never, Tells}
use Rattle.nextest_filtering_filters.specs.Query as query
use Rattle.nextest_filtering_filters.specs.declared.known_groups.KnownGroups.{KnownGroups}
use Rattle.nextest_filtering_filters.specs.declared.known_groups.KnownGroups.TheVariants as groups
use Rattle.nextest_filtering_graph.specs.Graph.{Graph}
use Rattle.nextest_filtering_ast.specs.Meaning.{MatchesName}
use Rattle.nextest_filtering_ast.specs.Tree.{Leaf, Matcher, Tree, binary_id, binary_name, built_for, default_filter, dependencies, dependents, difference, everything, group, intersection, kind, matching, negation, nothing, package_name, parens, set, test_name, union}
use Rattle.nextest_filtering_syntax.proofs.Trees.{one_tree}
use Rattle.test_runner_core_inputs.specs.declared.inputs.Inputs.{Inputs}
use Rattle.test_runner_core_listing.specs.Answers.{Answers, query_of, seen_test}
use Rattle.test_runner_core_plan.specs.declared.plan.Plan.{Plan}
use Rattle.test_runner_core_plan.specs.declared.plan_settings.PlanSettings.{PlanSettings}
use Rattle.test_runner_core_platforms.specs.declared.platform_spec.PlatformSpec.{PlatformSpec}
use Rattle.test_runner_core_settings.specs.Chosen.{Chosen}
use Rattle.test_runner_core_settings.specs.Pass.{features_by, pass_of}
use Rattle.test_runner_core_settings.specs.Sets as settings
use Rattle.test_runner_core_settings.specs.Sets.{IsAsked, IsEnabled, IsFilter, IsPlatformSpec, IsTooDeep, NeedsScript, Reads, Sets, SetsTest, key_warnings}
use Rattle.test_runner_core_settings.specs.declared.configured.RunSettings.{RunSettings}
use Rattle.test_runner_core_settings.specs.declared.pass.VersionPass.{VersionPass}
use Rattle.test_runner_core_settings.specs.declared.pass_error.VersionPassFault.{VersionPassFault}
use Rattle.test_runner_core_workspace.specs.Lister.{Answer}
use Rattle.test_runner_core_workspace.specs.declared.record.Binary.{Binary}
use Rattle.test_runner_core_workspace.specs.declared.record.WorkspaceRecord.{WorkspaceRecord}
use Rattle.test_runner_core_planning.specs.Checks as check
use Rattle.test_runner_core_planning.specs.Checks.{IsFound, Keeps, Planned, SetsAll, has_too_many}
use Rattle.test_runner_core_planning.specs.Filtering.{AreAnswersOf, AreOfFilterset, Choice, InForce, IsChosen, IsOfGroup, IsTaken, context_of, graph_of, unless_ignored}
use Rattle.test_runner_core_planning.specs.Inside.{IsPassed}
use Rattle.test_runner_core_planning.specs.Laws.{DefaultOnce, DefaultTwice, and_default, with_filterset}
use Rattle.test_runner_core_planning.specs.Plan.{IsPlanOf, IsPlanned, warnings_in, warnings_of}
use Rattle.test_runner_core_planning.specs.Refusals.{of_pass}
use Rattle.test_runner_core_planning.specs.declared.plan_fault.PlanFault.TheVariants as refused
use Rattle.test_runner_core_planning.proofs.Appended.{reads_with_default, with_default}
use Rattle.test_runner_core_planning.proofs.Building.{plans_found}
use Rattle.test_runner_core_planning.proofs.Once.{not_refused}

-- ---- what doesn't ask for the default filter

-- a formula gives what another meaning of its parts gives
less_negated : (May Other : Leaf → Bool → Type 0) (inside : Formula Leaf) → ((value : Bool) → Gives May inside value → Gives Other inside value)
    → (value : Bool) → Gives May (negated inside) value → Gives Other (negated inside) value
less_negated May Other _ less _ (negated_gives inside value gives) = negated_gives inside value (less value gives)

less_either : (May Other : Leaf → Bool → Type 0) (left right : Formula Leaf) → ((value : Bool) → Gives May left value → Gives Other left value)
    → ((value : Bool) → Gives May right value → Gives Other right value) → (value : Bool) → Gives May (either left right) value → Gives Other (either left right) value
less_either May Other _ _ one other _ (either_gives left right a b first second) = either_gives left right a b (one a first) (other b second)

less_both : (May Other : Leaf → Bool → Type 0) (left right : Formula Leaf) → ((value : Bool) → Gives May left value → Gives Other left value)
    → ((value : Bool) → Gives May right value → Gives Other right value) → (value : Bool) → Gives May (both left right) value → Gives Other (both left right) value
less_both May Other _ _ one other _ (both_gives left right a b first second) = both_gives left right a b (one a first) (other b second)

some_none : {A : Type 0} (it : A) → Some it ≡ None → ⊥
some_none it e = absurd (let h = e in cc)

module _ (graph : Graph) (binary : query.Binary) (Name Group : Matcher → Bool → Type 0) (Default Other : Bool → Type 0) where
  abbrev Known : Leaf → Bool → Type 0
  Known = MayBeAs graph binary Name Group Default

  abbrev Also : Leaf → Bool → Type 0
  Also = MayBeAs graph binary Name Group Other

  leaf_beside : (it : Leaf) → ban_of purpose.DefaultFilter it ≡ None → (value : Bool) → Known it value → Also it value
  leaf_beside (matching package_name m) free value may = may
  leaf_beside (matching dependencies m) free value may = may
  leaf_beside (matching dependents m) free value may = may
  leaf_beside (matching kind m) free value may = may
  leaf_beside (matching binary_name m) free value may = may
  leaf_beside (matching binary_id m) free value may = may
  leaf_beside (matching test_name m) free value may = may
  leaf_beside (matching group m) free value may = may
  leaf_beside (built_for platform) free value may = may
  leaf_beside default_filter free value may = absurd (some_none _ free)
  leaf_beside everything free value may = may
  leaf_beside nothing free value may = may

  -- a default filter is the same whatever the default filter is
  default_beside : (cx : Context) (known : KnownGroups) (t : Tree) → IsFree cx purpose.DefaultFilter known t → (value : Bool) → Gives Known (shape_of_tree t) value → Gives Also (shape_of_tree t) value
  default_beside cx known (negation op t) free = less_negated Known Also (shape_of_tree t) (default_beside cx known t free)
  default_beside cx known (union op a b) free = less_either Known Also (shape_of_tree a) (shape_of_tree b) (default_beside cx known a free.0) (default_beside cx known b free.1)
  default_beside cx known (intersection op a b) free = less_both Known Also (shape_of_tree a) (shape_of_tree b) (default_beside cx known a free.0) (default_beside cx known b free.1)
  default_beside cx known (difference op a b) free =
      less_both Known Also (shape_of_tree a) (negated (shape_of_tree b)) (default_beside cx known a free.0)
      (less_negated Known Also (shape_of_tree b) (default_beside cx known b free.1))
  default_beside cx known (parens t) free = default_beside cx known t free
  default_beside cx known (set it) free = λ value gives. leaf_gives it value (leaf_beside it free.0 value (of_leaf Known it value gives))

-- ---- a filter, and the default filter beside it

both_true : (a b : Bool) → true ≡ (a && b) → (a ≡ true) × (b ≡ true)
both_true true b e = (refl, sym e)
both_true false b e = absurd (let h = e in cc)

module _ (graph : Graph) (binary : query.Binary) (Name Group : Matcher → Bool → Type 0) (cx : Context) (known : KnownGroups) (default : Tree) (free : IsFree cx purpose.DefaultFilter known default) where
  -- what the default filter is, and what a tree is beside it
  abbrev Own : Bool → Type 0
  Own = Gives (MayBeAs graph binary Name Group Never) (shape_of_tree default)

  abbrev Is : Tree → Type 0
  Is t = Gives (MayBeAs graph binary Name Group Own) (shape_of_tree t) true

  holds_both : (t : Tree) → Is (with_default t) → Is t
  holds_both t gives =
      let parts = of_both (MayBeAs graph binary Name Group Own) (shape_of_tree t) (leaf default_filter) true gives in
      subst (Gives (MayBeAs graph binary Name Group Own) (shape_of_tree t)) (both_true parts.0 parts.1 parts.4).0 parts.2

  both_hold : (t : Tree) → Is t → Is default → Is (with_default t)
  both_hold t gives default_gives =
      both_gives (shape_of_tree t) (leaf default_filter) true true gives
      (leaf_gives default_filter true (default_beside graph binary Name Group Own Never cx known default free true default_gives))

  -- so two filters hold exactly where the first and the default filter do
  pub all_alike : (t : Tree) → All Is (t ∷ default ∷ []) ↔ All Is (with_default t ∷ default ∷ [])
  all_alike t = (
    (λ all.
        let last = All-tail Is t (default ∷ []) all in
        All-cons Is (with_default t) (default ∷ []) (both_hold t (All-head Is t (default ∷ []) all) (All-head Is default [] last)) last),
    (λ all. All-cons Is t (default ∷ []) (holds_both t (All-head Is (with_default t) (default ∷ []) all)) (All-tail Is (with_default t) (default ∷ []) all)),
  )

told_alike : {A B : Type 0} → A ↔ B → (value : Bool) → Tells A value → Tells B value
told_alike same value tells = ((λ e. same.0 (tells.0 e)), (λ b. tells.1 (same.1 b)))

turned : {A B : Type 0} → A ↔ B → B ↔ A
turned same = (same.1, same.0)

-- they answer the same
answers_alike : (workspace : WorkspaceRecord) (of_test : query.Test → PlanSettings) (cx : Context) (known : KnownGroups) (t default : Tree) (answers : Answers) → IsFree cx purpose.DefaultFilter known default
    → AreAnswersOf workspace of_test (record { filters = t ∷ default ∷ []; default = default }) answers
    → AreAnswersOf workspace of_test (record { filters = with_default t ∷ default ∷ []; default = default }) answers
answers_alike workspace of_test cx known t default answers free are = record {
  lists = λ binary. told_alike (all_alike (graph_of workspace) (query_of binary) Either Either cx known default free t) (answers.lists binary) (are.lists binary);
  selects = λ binary name.
      let test = seen_test binary name in
      told_alike (all_alike (graph_of workspace) test.binary (λ m. Tells (MatchesName m test.name)) (λ m. Tells (IsOfGroup of_test test m)) cx known default free t) (answers.selects binary name)
      (are.selects binary name);
}

answers_back : (workspace : WorkspaceRecord) (of_test : query.Test → PlanSettings) (cx : Context) (known : KnownGroups) (t default : Tree) (answers : Answers) → IsFree cx purpose.DefaultFilter known default
    → AreAnswersOf workspace of_test (record { filters = with_default t ∷ default ∷ []; default = default }) answers
    → AreAnswersOf workspace of_test (record { filters = t ∷ default ∷ []; default = default }) answers
answers_back workspace of_test cx known t default answers free are = record {
  lists = λ binary. told_alike (turned (all_alike (graph_of workspace) (query_of binary) Either Either cx known default free t)) (answers.lists binary) (are.lists binary);
  selects = λ binary name.
      let test = seen_test binary name in
      told_alike (turned (all_alike (graph_of workspace) test.binary (λ m. Tells (MatchesName m test.name)) (λ m. Tells (IsOfGroup of_test test m)) cx known default free t)) (answers.selects binary name)
      (are.selects binary name);
}

-- ---- inputs that ask for another filterset set the same

module _ (filterset : Option (List ℕ)) (inputs : Inputs) where
  abbrev other : Inputs
  other = with_filterset filterset inputs

  abbrev own_context : Context
  own_context = context_of inputs.workspace

  same_pass : pass_of other ≡ pass_of inputs
  unfolding pass_of
  same_pass = refl

  reads_same : (config : Whole Filterset PlatformSpec) → Reads own_context inputs config → Reads own_context other config
  reads_same config reads =
      subst (λ (passed : Result VersionPass VersionPassFault). IsConfig (IsFilter own_context) IsPlatformSpec IsTooDeep (features_by passed) inputs.root inputs.sources (Ok config)) (sym same_pass) reads

  chosen_same : (profile : Chosen) → settings.IsChosen own_context inputs profile → settings.IsChosen own_context other profile
  chosen_same profile it = record { config = it.config; reads = reads_same it.config it.reads; chained = it.chained; ruled = it.ruled; scripted = it.scripted; defined = it.defined }

  asked_same : (profile : Chosen) (default : Tree) → IsAsked own_context inputs profile default → IsAsked own_context other profile default
  asked_same profile default it = record { chosen = chosen_same profile it.chosen; text = it.text; set = it.set; read = it.read }

  run_same : (run : RunSettings) → Sets own_context inputs (Ok run) → Sets own_context other (Ok run)
  unfolding chosen_same
  run_same run it = record { profile = it.profile; chosen = chosen_same it.profile it.chosen; known = it.known; settings = it.settings; groups = it.groups }

  test_same : (test : query.Test) (it : PlanSettings) → SetsTest own_context inputs test it → SetsTest own_context other test it
  test_same test it sets = record { profile = sets.profile; default = sets.default; asked = asked_same sets.profile sets.default sets.asked; settings = sets.settings }

  pub sets_same : (choice : Choice) → SetsAll inputs choice → SetsAll other choice
  sets_same choice it = record { run = run_same choice.run it.run; tests = λ test. test_same test (choice.of_test test) (it.tests test) }

  needs_same : (test : query.Test) (id : List ℕ) → NeedsScript own_context inputs test id → NeedsScript own_context other test id
  needs_same test id it = record {
    profile = it.profile;
    default = it.default;
    asked = asked_same it.profile it.default it.asked;
    rule = it.rule;
    of_profile = it.of_profile;
    names = it.names;
    holds = it.holds;
  }

  pub enabled_same : (tests : List query.Test) (id : List ℕ) → IsEnabled own_context inputs tests id → IsEnabled own_context other tests id
  enabled_same tests id (test, among, needs) = (test, among, needs_same test id needs)

  pub warnings_same : warnings_of inputs ≡ warnings_of other
  warnings_same = ap (λ (passed : Result VersionPass VersionPassFault). warnings_in passed ++ key_warnings inputs) (sym same_pass)

  pub passed_same : IsPassed inputs → IsPassed other
  passed_same it = record { workspace = it.workspace; passed = it.passed; passes = same_pass ∙ it.passes }

-- ---- what is kept

-- the versions pass
pub passed_of : (answer : Binary → Answer) (inputs : Inputs) → Keeps answer inputs check.versions → (passed : VersionPass) × (pass_of inputs ≡ Ok passed)
passed_of answer inputs kept = by_pass (pass_of inputs) refl
  where
    by_pass : (given : Result VersionPass VersionPassFault) → pass_of inputs ≡ given → (passed : VersionPass) × (pass_of inputs ≡ Ok passed)
    by_pass (Ok passed) e = (passed, e)
    by_pass (Err fault) e = absurd (kept (of_pass fault) (fault, e, refl))

-- and no test has too many tries
few_tries : (answer : Binary → Answer) (inputs : Inputs) (it : Planned) → Keeps answer inputs check.tries → IsFound answer inputs it → has_too_many it.choice.of_test it.found.tests ≡ false
few_tries answer inputs it kept found = by_many (has_too_many it.choice.of_test it.found.tests) refl
  where
    by_many : (many : Bool) → has_too_many it.choice.of_test it.found.tests ≡ many → many ≡ false
    by_many true e = absurd (kept refused.RetriesTooMany (record { it = it; found = found; many = e }, refl))
    by_many false e = refl

-- ---- the law

-- a filterset that is taken is taken with the default filter beside it
taken_with_default : (workspace : WorkspaceRecord) (known : KnownGroups) (text : List ℕ) (t : Tree) → IsTaken workspace known text t → IsTaken workspace known (and_default text) (with_default t)
taken_with_default workspace known text t (is, free) = (reads_with_default text t is, (free, (refl, refl)))

module _ (answer : Binary → Answer) (inputs : Inputs) (text : List ℕ) (given : inputs.filterset ≡ Some text) (kept : inputs.ignore_default_filter ≡ false) where
  abbrev twice : Inputs
  twice = with_filterset (Some (and_default text)) inputs

  chosen_twice : (choice : Choice) (answers : Answers) → IsChosen inputs choice (Ok answers) → IsChosen twice choice (Ok answers)
  chosen_twice choice answers (force, is, are) =
      let known = choice.run.known_groups in
      let of = subst (λ (f : Option (List ℕ)). AreOfFilterset inputs.workspace known f is.chosen) given is.filterset in
      let t = of.0 in
      let filters : force.filters ≡ t ∷ force.default ∷ [] =
      is.all ∙ ap (λ (chosen : List Tree). chosen ++ unless_ignored inputs.ignore_default_filter force.default) of.2
      ∙ ap (λ (ignored : Bool). t ∷ unless_ignored ignored force.default) kept in
      let same : force ≡ record { filters = t ∷ force.default ∷ []; default = force.default } = λ i. record { filters = filters i; default = force.default } in (
        record { filters = with_default t ∷ force.default ∷ []; default = force.default },
        record {
          default = is.default;
          chosen = with_default t ∷ [];
          filterset = (with_default t, taken_with_default inputs.workspace known text t of.1, refl);
          all = ap (λ (ignored : Bool). with_default t ∷ unless_ignored ignored force.default) (sym kept);
        },
        answers_alike inputs.workspace choice.of_test (context_of inputs.workspace) groups.Unavailable t force.default answers is.default.1
            (subst (λ (it : InForce). AreAnswersOf inputs.workspace choice.of_test it answers) same are),
      )

  found_twice : (it : Planned) → IsFound answer inputs it → IsFound answer twice it
  found_twice it found = record {
    answers = record {
      sets = sets_same (Some (and_default text)) inputs it.choice found.answers.sets;
      chosen = chosen_twice it.choice it.answers found.answers.chosen;
    };
    found = found.found;
  }

  plan_twice : (it : Planned) (plan : Plan) → IsPlanOf inputs it plan → IsPlanOf twice it plan
  plan_twice it plan is = record {
    tests = is.tests;
    order = is.order;
    skipped = is.skipped;
    listed = is.listed;
    limit = is.limit;
    levels = is.levels;
    scripts = same_names plan.scripts
        (λ id. (enabled_same (Some (and_default text)) inputs it.found.tests id, enabled_same inputs.filterset twice it.found.tests id)) is.scripts;
    warnings = is.warnings ∙ warnings_same (Some (and_default text)) inputs;
  }

  planned_twice : (it : Planned) → IsPlanned answer inputs it → IsPlanned answer twice it
  planned_twice it planned =
      let passed = passed_of answer inputs planned.kept.1.0 in
      plans_found answer twice it
      (passed_same (Some (and_default text)) inputs (record { workspace = not_refused answer inputs planned.kept.0; passed = passed.0; passes = passed.1 }))
      (found_twice it planned.found) (few_tries answer inputs it planned.kept.1.1.1.1.1.0 planned.found)

pub default_twice : DefaultTwice
default_twice answer inputs text plan given kept (it, planned, is) = (it, planned_twice answer inputs text given kept it planned, plan_twice answer inputs text given kept it plan is)

-- ---- and back

module _ (answer : Binary → Answer) (inputs : Inputs) (text : List ℕ) (tree : Tree) (given : inputs.filterset ≡ Some text) (kept : inputs.ignore_default_filter ≡ false) where
  abbrev beside : Inputs
  beside = with_filterset (Some (and_default text)) inputs

  chosen_once : (choice : Choice) (answers : Answers) → IsTaken inputs.workspace choice.run.known_groups text tree → IsChosen beside choice (Ok answers) → IsChosen inputs choice (Ok answers)
  chosen_once choice answers taken (force, is, are) =
      let known = choice.run.known_groups in
      let of = is.filterset in
      let one : of.0 ≡ with_default tree = one_tree (and_default text) of.0 (with_default tree) of.1.0 (reads_with_default text tree taken.0) in
      let filters : force.filters ≡ with_default tree ∷ force.default ∷ [] =
      is.all ∙ ap (λ (chosen : List Tree). chosen ++ unless_ignored inputs.ignore_default_filter force.default) of.2
      ∙ ap (λ (ignored : Bool). of.0 ∷ unless_ignored ignored force.default) kept ∙ ap (λ (first : Tree). first ∷ force.default ∷ []) one in
      let same : force ≡ record { filters = with_default tree ∷ force.default ∷ []; default = force.default } = λ i. record { filters = filters i; default = force.default } in (
        record { filters = tree ∷ force.default ∷ []; default = force.default },
        record {
          default = is.default;
          chosen = tree ∷ [];
          filterset = subst (λ (f : Option (List ℕ)). AreOfFilterset inputs.workspace known f (tree ∷ [])) (sym given) (tree, taken, refl);
          all = ap (λ (ignored : Bool). tree ∷ unless_ignored ignored force.default) (sym kept);
        },
        answers_back inputs.workspace choice.of_test (context_of inputs.workspace) groups.Unavailable tree force.default answers is.default.1
            (subst (λ (it : InForce). AreAnswersOf inputs.workspace choice.of_test it answers) same are),
      )

  found_once : (it : Planned) → IsTaken inputs.workspace it.choice.run.known_groups text tree → IsFound answer beside it → IsFound answer inputs it
  found_once it taken found = record {
    answers = record {
      sets = sets_same inputs.filterset beside it.choice found.answers.sets;
      chosen = chosen_once it.choice it.answers taken found.answers.chosen;
    };
    found = found.found;
  }

  plan_once : (it : Planned) (plan : Plan) → IsPlanOf beside it plan → IsPlanOf inputs it plan
  plan_once it plan is = record {
    tests = is.tests;
    order = is.order;
    skipped = is.skipped;
    listed = is.listed;
    limit = is.limit;
    levels = is.levels;
    scripts = same_names plan.scripts
        (λ id. (enabled_same inputs.filterset beside it.found.tests id, enabled_same (Some (and_default text)) inputs it.found.tests id)) is.scripts;
    warnings = is.warnings ∙ warnings_same inputs.filterset beside;
  }

  planned_once : (it : Planned) → IsTaken inputs.workspace it.choice.run.known_groups text tree → IsPlanned answer beside it → IsPlanned answer inputs it
  planned_once it taken planned =
      let passed = passed_of answer beside planned.kept.1.0 in
      plans_found answer inputs it
      (passed_same inputs.filterset beside (record { workspace = not_refused answer beside planned.kept.0; passed = passed.0; passes = passed.1 }))
      (found_once it taken planned.found) (few_tries answer beside it planned.kept.1.1.1.1.1.0 planned.found)

pub default_once : DefaultOnce
default_once answer inputs text tree plan given kept accepted (it, planned, is) =
    let other = with_filterset (Some (and_default text)) inputs in
    let taken = accepted it.choice (sets_same inputs.filterset other it.choice planned.found.answers.sets) in
    (it, planned_once answer inputs text tree given kept it taken planned, plan_once answer inputs text tree given kept it plan is)
