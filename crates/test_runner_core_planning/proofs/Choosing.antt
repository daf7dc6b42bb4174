-- What the filters in force that are chosen answer, and what a profile has for tests.
use Rattle.std.proofs.Common.{◌≡◌, ◌↔◌, inl, inr, ℕ, Bool, true, false, not, ◌&&◌, List, Result, Ok, Err, refl, sym, ap, ◌∙◌, subst}
use Rattle.std.specs.Prelude.{IfOk}
use Rattle.std.specs.List.{list_any}
use Rattle.nextest_config_elements_identifiers.specs.Groups.{text_of}
use Rattle.nextest_config_elements_identifiers.specs.declared.test_group.TestGroup.{TestGroup}
use Rattle.nextest_config_resolution_profiles.specs.Evaluatable.{Evaluatable}
use Rattle.nextest_config_resolution_profiles.specs.Held.{Holds, IsGroupBy, IsGroupFor, group_set}
use Rattle.nextest_config_resolution_profiles.specs.Platforms.{OverrideOn}
use Rattle.nextest_config_resolution_settings.proofs.Least.{one_least}
use Rattle.nextest_filtering_compiling.specs.FiltersetLaws.{default_has_no_groups, default_serves}
use Rattle.nextest_filtering_compiling.specs.Filtersets.{HasOnTest}
use Rattle.nextest_filtering_compiling.specs.declared.filterset.Filterset.{Filterset}
use Rattle.nextest_filtering_filters.specs.Filter.{is_default, is_group}
use Rattle.nextest_filtering_filters.specs.Meaning.{Tells}
use Rattle.nextest_filtering_filters.specs.Query.{Test}
use Rattle.nextest_filtering_filters.specs.declared.known_groups.KnownGroups.TheVariants as groups
use Rattle.nextest_filtering_ast.specs.Meaning.{MatchesName}
use Rattle.nextest_filtering_ast.specs.Tree.{Matcher}
use Rattle.test_runner_core_inputs.specs.declared.inputs.Inputs.{Inputs}
use Rattle.test_runner_core_listing.specs.Answers.{AnswerAs, Answers}
use Rattle.test_runner_core_plan.specs.declared.plan_settings.PlanSettings.{PlanSettings}
use Rattle.test_runner_core_platforms.specs.declared.platform_spec.PlatformSpec.{PlatformSpec}
use Rattle.test_runner_core_planning.specs.Filtering.{Choice, IsChosen, context_of}
use Rattle.test_runner_core_planning.specs.Inside.{HasWanted, IsInGroup, in_force}
use Rattle.test_runner_core_planning.specs.Checks.{AnswerFor, SetsAll}
use Rattle.test_runner_core_planning.specs.Tests.{HasForEach}
use Rattle.test_runner_core_planning.specs.declared.wanted.Wanted.{Wanted}
use Rattle.test_runner_core_planning.proofs.Answering.{AreAlike, answers_alike, force_of_read, some_chosen}
use Rattle.test_runner_core_planning.proofs.Once.{answers_are, sets_once}
use Rattle.test_runner_core_settings.specs.Calls.{ChoosesRun}
use Rattle.test_runner_core_settings.specs.Sets.{SetsTest}
use Rattle.test_runner_core_settings.specs.declared.configured.ChosenRun.{ChosenRun}
use Rattle.nextest_config_resolution_profiles.proofs.Holding.{no_least}
use Rattle.test_runner_core_settings.proofs.Once.{one_test}

-- ---- the group that a profile has for a test

-- is one
one_group : {F S : Type 0} (Holding : OverrideOn F S → Type 0) (rules : List (OverrideOn F S)) (one other : TestGroup) → IsGroupBy Holding rules one → IsGroupBy Holding rules other → one ≡ other
one_group Holding rules one other (inl (rule, a)) (inl (second, b)) = (one_least Holding group_set rules rule second one other a b).1
one_group Holding rules one other (inl (rule, a)) (inr (none, b)) = absurd (no_least Holding group_set rules rule one none a)
one_group Holding rules one other (inr (none, a)) (inl (rule, b)) = absurd (no_least Holding group_set rules rule other none b)
one_group Holding rules one other (inr (none, a)) (inr (also, b)) = a ∙ sym b

-- so whether its name is matched says whether the test is in a group with a name that is
tells_group : (profile : Evaluatable Filterset PlatformSpec) (test : Test) (m : Matcher) (group : TestGroup) (name : List ℕ) (value : Bool)
    → IsGroupFor HasOnTest profile test group → name ≡ text_of group → ((value ≡ true) ↔ MatchesName m name) → Tells (IsInGroup profile test m) value
tells_group profile test m group name value is named tells = (
  (λ e. (group, is, subst (λ (n : List ℕ). MatchesName m n) named (tells.0 e))),
  (λ has.
      let same : has.0 ≡ group = one_group (Holds HasOnTest profile.default_filter.filter.now test) profile.rules has.0 group has.1 is in
      tells.1 (subst (λ (n : List ℕ). MatchesName m n) (ap text_of same ∙ sym named) has.2)),
)

-- so does a call that answers it
pub tells_in : {E : Type 0} (profile : Evaluatable Filterset PlatformSpec) (test : Test) (m : Matcher) (group : TestGroup) (name : List ℕ) (answered : Result Bool E)
    → IsGroupFor HasOnTest profile test group → name ≡ text_of group → IfOk answered (λ value. (value ≡ true) ↔ MatchesName m name) → IfOk answered (Tells (IsInGroup profile test m))
tells_in profile test m group name (Ok value) is named tells = tells_group profile test m group name value is named tells
tells_in profile test m group name (Err error) is named tells = tells

-- ---- what a chosen profile sets

module _ (inputs : Inputs) (run : ChosenRun) (chooses : ChoosesRun (context_of inputs.workspace) inputs run) where
  -- for the run, and for each test
  abbrev pub choice_of : Choice
  choice_of = record { run = run.settings; of_test = λ test. (chooses.answers.some test).0 }

  -- is what inputs set
  pub choice_sets : SetsAll inputs choice_of
  choice_sets = record { run = chooses.sets; tests = λ test. (chooses.answers.some test).1 }

  -- what it has for tests is that
  pub has_each : HasForEach run.profile inputs.mode choice_of.of_test
  has_each test it (lent, are, owned) =
      one_test (context_of inputs.workspace) inputs test it (choice_of.of_test test)
      (subst (SetsTest (context_of inputs.workspace) inputs test) (sym owned) (chooses.answers.settings test lent are)) (chooses.answers.some test).1

  -- and so is the group of each
  same_group : (test : Test) (group : TestGroup) → IsGroupFor HasOnTest run.profile test group → group ≡ (choice_of.of_test test).test_group
  same_group test group is =
      let of = chooses.answers.group test group is in
      let same : of.0 ≡ choice_of.of_test test = one_test (context_of inputs.workspace) inputs test of.0 (choice_of.of_test test) of.1 (chooses.answers.some test).1 in
      of.2 ∙ ap (λ (it : PlanSettings). it.test_group) same

  groups_alike : AreAlike (IsInGroup run.profile) choice_of.of_test
  groups_alike test m =
      let some = chooses.answers.some_group test in (
        (λ in_group. subst (λ (group : TestGroup). MatchesName m (text_of group)) (same_group test in_group.0 in_group.1) in_group.2),
        (λ matches. (some.0, some.1, subst (λ (group : TestGroup). MatchesName m (text_of group)) (sym (same_group test some.0 some.1)) matches)),
      )

-- ---- what inputs ask for

module _ (inputs : Inputs) (wanted : Wanted) (has : HasWanted inputs wanted) where
  abbrev pub own : Choice
  own = choice_of inputs wanted.run has.chooses

  -- its filters in force answer something
  pub wanted_answers : (answers : Answers) × AnswerFor inputs own answers
  wanted_answers =
      let it = wanted.run.profile.default_filter.filter.now in
      let some = some_chosen inputs own wanted.filterset it.compiled (force_of_read inputs own.run wanted.filterset it has.filtered has.chooses.default) in
      (some.0, record { sets = choice_sets inputs wanted.run has.chooses; chosen = some.1 })

  -- whatever they answer, it is what they answer as they are compiled
  pub wanted_as : (choice : Choice) (answers : Answers) → AnswerFor inputs choice answers
      → AnswerAs (in_force wanted.filterset inputs.ignore_default_filter wanted.run.profile.default_filter.filter.now.compiled) wanted.run.profile.default_filter.filter.now.compiled
      (IsInGroup wanted.run.profile) answers
  wanted_as choice answers are =
      let it = wanted.run.profile.default_filter.filter.now in
      let force = force_of_read inputs own.run wanted.filterset it has.filtered has.chooses.default in
      let same : choice ≡ own = sets_once inputs choice own are.sets (choice_sets inputs wanted.run has.chooses) in
      (answers_alike inputs.workspace (IsInGroup wanted.run.profile) own.of_test (groups_alike inputs wanted.run has.chooses) force.force
      (in_force wanted.filterset inputs.ignore_default_filter it.compiled) it.compiled answers force.compiled).1
      (answers_are inputs own force.force answers force.of_inputs (subst (λ (c : Choice). IsChosen inputs c (Ok answers)) same are.chosen))

first_not : (a b : Bool) → (not a && not b) ≡ true → a ≡ false
first_not true b is = sym is
first_not false b is = refl

-- the default filter asks for no default filter and for no group
pub wanted_serves : (inputs : Inputs) (wanted : Wanted) → HasWanted inputs wanted
    → (list_any is_default wanted.run.profile.default_filter.filter.now.compiled.leaves ≡ false) × (list_any is_group wanted.run.profile.default_filter.filter.now.compiled.leaves ≡ false)
wanted_serves inputs wanted has =
    let cx = context_of inputs.workspace in
    let text = wanted.run.settings.default_filter in
    let it = wanted.run.profile.default_filter.filter.now in (
      first_not (list_any is_default it.compiled.leaves) (list_any is_group it.compiled.leaves) (default_serves cx groups.Unavailable text it has.chooses.default),
      default_has_no_groups cx groups.Unavailable text it has.chooses.default,
    )
