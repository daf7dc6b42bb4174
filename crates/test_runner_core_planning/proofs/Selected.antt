-- A plan has exactly the tests that are wanted.
use Rattle.std.proofs.Common.{◌≡◌, inl, inr, ℕ, ◌+◌, List, [], ◌∷◌, ◌++◌, get_or, map, true, Option, None, Some, Result, Ok, Err, refl, sym, ap, ◌∙◌, subst}
use Rattle.std.specs.List.{Contains, filter}
use Rattle.std.proofs.lemmas.List.Elements.{Contains-append_left, Contains-append_right, Contains-append_cases}
use Rattle.std.proofs.lemmas.List.Sorted.{Contains-permutation, IsPermutation-sym}
use Rattle.nextest_config_elements_values.specs.Retries.{count_of}
use Rattle.nextest_filtering_filters.specs.Query.{Test}
use Rattle.nextest_run_events_results.specs.declared.instance.OwnedTestInstanceId.{OwnedTestInstanceId}
use Rattle.test_runner_core_inputs.specs.declared.inputs.Inputs.{Inputs}
use Rattle.test_runner_core_listing.specs.Answers.{Answers, seen_test}
use Rattle.test_runner_core_listing.specs.Listing.{Found, accepted_answer, accepted_names, refused_name, listing, selected_in, skipped_in, tests_of, ◌>>=◌}
use Rattle.test_runner_core_listing.specs.declared.listing_fault.ListingFault.{ListingFault}
use Rattle.test_runner_core_plan.specs.declared.plan.PlanTest.{PlanTest}
use Rattle.test_runner_core_plan.specs.declared.plan_settings.PlanSettings.{PlanSettings}
use Rattle.test_runner_core_planning.specs.Filtering.{AllCanHold, AllHold, AreAnswersOf, AreInForce, Choice, InForce, IsChosen, IsOfGroup, graph_of}
use Rattle.test_runner_core_planning.specs.Laws.{HasExactlyTheWanted, HaveTheirSettings, IsWanted, Roads}
use Rattle.test_runner_core_planning.specs.Checks.{Planned, SetsAll, listed_in}
use Rattle.test_runner_core_planning.specs.Plan.{Plans, instance_of, plan_test}
use Rattle.test_runner_core_planning.proofs.Elements.{filter_has, first_has, has_cases, has_of_filter, has_of_map, map_has, none_has, rest_has, same_binary}
use Rattle.test_runner_core_planning.proofs.NoneTwice.{instances_in, instances_joined, instances_of, planned_apart}
use Rattle.test_runner_core_planning.proofs.Once.{answers_are, sets_once}
use Rattle.test_runner_core_planning.proofs.Surely.{tree_can_be}
use Rattle.test_runner_core_workspace.specs.Lister.{Answer}
use Rattle.test_runner_core_workspace.specs.declared.record.Binary.{Binary}
use Rattle.test_runner_core_workspace.specs.declared.record.WorkspaceRecord.{WorkspaceRecord}

-- ---- what binaries give

-- a binary of a list answers a name that is selected
pub record IsListed (answer : Binary → Answer) (chosen : Answers) (binaries : List Binary) (test : OwnedTestInstanceId) : Type 0 where
  pub binary : Binary
  pub among : Contains binaries binary
  pub id : binary.id ≡ test.binary_id
  pub names : List (List ℕ)
  pub answered : answer binary ≡ Ok names
  pub named : Contains names test.test_name
  pub chosen_name : chosen.selects binary test.test_name ≡ true

accepted_is : (answered : Answer) (names : List (List ℕ)) → accepted_answer answered ≡ Ok names → answered ≡ Ok names
accepted_is (Ok found) names e = by_refusal (refused_name [] found) e
  where
    by_refusal : (refusal : Option ListingFault) → accepted_names found refusal ≡ Ok names → ◌≡◌ {A = Answer} (Ok found) (Ok names)
    by_refusal None h = let same : found ≡ names = cc in ap (λ (ns : List (List ℕ)). Ok ns) same
    by_refusal (Some refusal) h = absurd (let g = h in cc)
accepted_is (Err cause) names e = absurd (let g = e in cc)

-- a listing of binaries, at its first
record First (answer : Binary → Answer) (chosen : Answers) (binary : Binary) (binaries : List Binary) (found : Found) : Type 0 where
  names : List (List ℕ)
  answered : accepted_answer (answer binary) ≡ Ok names
  rest : Found
  listed : listing answer chosen binaries ≡ Ok rest
  tests : found.tests ≡ selected_in chosen binary names ++ rest.tests
  instances : instances_in found ≡ tests_of binary (filter (chosen.selects binary) names) ++ instances_in rest

first_of : (answer : Binary → Answer) (chosen : Answers) (binary : Binary) (binaries : List Binary) (found : Found)
    → listing answer chosen (binary ∷ binaries) ≡ Ok found → First answer chosen binary binaries found
first_of answer chosen binary binaries found e = by_answer (accepted_answer (answer binary)) refl (listing answer chosen binaries) refl e
  where
    joined : List (List ℕ) → Found → Found
    joined names rest = record { tests = selected_in chosen binary names ++ rest.tests; skipped = skipped_in chosen binary names ++ rest.skipped }

    by_answer : (first : Result (List (List ℕ)) ListingFault) → accepted_answer (answer binary) ≡ first → (more : Result Found ListingFault)
        → listing answer chosen binaries ≡ more → (first >>= (λ names. more >>= (λ rest. Ok (joined names rest)))) ≡ Ok found
        → First answer chosen binary binaries found
    by_answer (Ok names) a (Ok rest) m h =
        let g : joined names rest ≡ found = cc in
        record {
          names = names;
          answered = a;
          rest = rest;
          listed = m;
          tests = ap (λ (s : Found). s.tests) (sym g);
          instances = ap instances_in (sym g) ∙ instances_joined chosen binary names rest;
        }
    by_answer (Ok names) a (Err refusal) m h = absurd (let g = h in cc)
    by_answer (Err refusal) a more m h = absurd (let g = h in cc)

to_listed : (answer : Binary → Answer) (chosen : Answers) (binaries : List Binary) (found : Found) → listing answer chosen binaries ≡ Ok found
    → (test : OwnedTestInstanceId) → Contains (instances_in found) test → IsListed answer chosen binaries test
to_listed answer chosen [] found e test has =
    absurd (none_has test (subst (λ (s : Found). Contains (instances_in s) test) (let g : found ≡ record { tests = []; skipped = [] } = cc in g) has))
to_listed answer chosen (binary ∷ binaries) found e test has =
    let parts = first_of answer chosen binary binaries found e in
    elim (Contains-append_cases (tests_of binary (filter (chosen.selects binary) parts.names)) (instances_in parts.rest) test (subst (λ (tests : List OwnedTestInstanceId). Contains tests test) parts.instances has)) [
      | inl here ↦
          let made = has_of_map (λ (name : List ℕ). record { binary_id = binary.id; test_name = name }) (filter (chosen.selects binary) parts.names) test here in
          let name = has_of_filter (chosen.selects binary) parts.names made.of made.among in
          record {
            binary = binary;
            among = first_has binary binaries;
            id = ap (λ (t : OwnedTestInstanceId). t.binary_id) made.made;
            names = parts.names;
            answered = accepted_is (answer binary) parts.names parts.answered;
            named = subst (λ (n : List ℕ). Contains parts.names n) (ap (λ (t : OwnedTestInstanceId). t.test_name) made.made) name.among;
            chosen_name = ap (chosen.selects binary) (sym (ap (λ (t : OwnedTestInstanceId). t.test_name) made.made)) ∙ name.passes;
          }
      | inr more ↦
          let there = to_listed answer chosen binaries parts.rest parts.listed test more in
          record {
            binary = there.binary;
            among = rest_has binary there.binary binaries there.among;
            id = there.id;
            names = there.names;
            answered = there.answered;
            named = there.named;
            chosen_name = there.chosen_name;
          }
    ]

from_listed : (answer : Binary → Answer) (chosen : Answers) (binaries : List Binary) (found : Found) → listing answer chosen binaries ≡ Ok found
    → (test : OwnedTestInstanceId) → IsListed answer chosen binaries test → Contains (instances_in found) test
from_listed answer chosen [] found e test it = absurd (none_has it.binary it.among)
from_listed answer chosen (binary ∷ binaries) found e test it =
    let parts = first_of answer chosen binary binaries found e in
    subst (λ (tests : List OwnedTestInstanceId). Contains tests test) (sym parts.instances) (
    elim (has_cases binary it.binary binaries it.among) [
      | inl same ↦
          let both : Ok parts.names ≡ Ok it.names = sym (accepted_is (answer binary) parts.names parts.answered) ∙ ap answer same ∙ it.answered in
          let names : it.names ≡ parts.names = cc in
          let made : record { binary_id = binary.id; test_name = test.test_name } ≡ test = ap (λ (id : List ℕ). record { binary_id = id; test_name = test.test_name }) (ap (λ (b : Binary). b.id) same ∙ it.id) in
          Contains-append_left (tests_of binary (filter (chosen.selects binary) parts.names)) (instances_in parts.rest) test
          (subst (λ (t : OwnedTestInstanceId). Contains (tests_of binary (filter (chosen.selects binary) parts.names)) t) made
          (map_has (λ (name : List ℕ). record { binary_id = binary.id; test_name = name }) (filter (chosen.selects binary) parts.names) test.test_name
          (filter_has (chosen.selects binary) parts.names test.test_name (subst (λ (ns : List (List ℕ)). Contains ns test.test_name) names it.named)
          (ap (λ (b : Binary). chosen.selects b test.test_name) same ∙ it.chosen_name))))
      | inr more ↦
          Contains-append_right (tests_of binary (filter (chosen.selects binary) parts.names)) (instances_in parts.rest) test
          (from_listed answer chosen binaries parts.rest parts.listed test
          (record { binary = it.binary; among = more; id = it.id; names = it.names; answered = it.answered; named = it.named; chosen_name = it.chosen_name }))
    ])

-- each test that is found is one of a listed binary
of_binaries : (answer : Binary → Answer) (chosen : Answers) (binaries : List Binary) (found : Found) → listing answer chosen binaries ≡ Ok found
    → (test : Test) → Contains found.tests test → (binary : Binary) × Contains binaries binary × (test ≡ seen_test binary test.name)
of_binaries answer chosen [] found e test has =
    absurd (none_has test (subst (λ (s : Found). Contains s.tests test) (let g : found ≡ record { tests = []; skipped = [] } = cc in g) has))
of_binaries answer chosen (binary ∷ binaries) found e test has =
    let parts = first_of answer chosen binary binaries found e in
    elim (Contains-append_cases (selected_in chosen binary parts.names) parts.rest.tests test (subst (λ (tests : List Test). Contains tests test) parts.tests has)) [
      | inl here ↦
          let made = has_of_map (seen_test binary) (filter (chosen.selects binary) parts.names) test here in
          (binary, first_has binary binaries, sym made.made ∙ ap (seen_test binary) (ap (λ (t : Test). t.name) made.made))
      | inr more ↦ let there = of_binaries answer chosen binaries parts.rest parts.listed test more in (there.0, rest_has binary there.0 binaries there.1, there.2)
    ]

-- two tests of a plan that are of one id and one name are one
pub by_instance : (answer : Binary → Answer) (inputs : Inputs) (it : Planned) → Plans answer inputs (Ok it) → (a b : PlanTest) → Contains (map (plan_test it.choice.of_test) it.found.tests) a
    → Contains (map (plan_test it.choice.of_test) it.found.tests) b → a.instance ≡ b.instance → a ≡ b
by_instance answer inputs it planned a b has also same =
    let listed = listed_in inputs it.answers in
    let one = has_of_map (plan_test it.choice.of_test) it.found.tests a has in
    let other = has_of_map (plan_test it.choice.of_test) it.found.tests b also in
    let from = of_binaries answer it.answers listed it.found planned.found.found one.of one.among in
    let from_other = of_binaries answer it.answers listed it.found planned.found.found other.of other.among in
    let instances : instance_of one.of ≡ instance_of other.of = ap (λ (t : PlanTest). t.instance) one.made ∙ same ∙ sym (ap (λ (t : PlanTest). t.instance) other.made) in
    let ids : from.0.id ≡ from_other.0.id =
    sym (ap (λ (t : Test). t.binary.id) from.2) ∙ ap (λ (i : OwnedTestInstanceId). i.binary_id) instances ∙ ap (λ (t : Test). t.binary.id) from_other.2 in
    let binary : from.0 ≡ from_other.0 =
    same_binary inputs.workspace.binaries from.0 from_other.0 (planned_apart answer inputs it planned) (has_of_filter it.answers.lists inputs.workspace.binaries from.0 from.1).among
    (has_of_filter it.answers.lists inputs.workspace.binaries from_other.0 from_other.1).among ids in
    let name : one.of.name ≡ other.of.name = ap (λ (i : OwnedTestInstanceId). i.test_name) instances in
    let tests : one.of ≡ other.of = from.2 ∙ ap (λ (b : Binary). seen_test b one.of.name) binary ∙ ap (seen_test from_other.0) name ∙ sym from_other.2 in
    sym one.made ∙ ap (plan_test it.choice.of_test) tests ∙ other.made

-- ---- filters

-- where all hold on a test of a binary, each can hold on the binary
all_can_hold : (workspace : WorkspaceRecord) (of_test : Test → PlanSettings) (force : InForce) (binary : Binary) (name : List ℕ) → AllHold workspace of_test force binary name → AllCanHold workspace force binary
all_can_hold workspace of_test force binary name all = λ k d within. tree_can_be (graph_of workspace) (get_or force.filters k d) force.default (seen_test binary name) (IsOfGroup of_test (seen_test binary name)) true (all k d within)

-- a selected test of a listed binary is wanted
wanted_of : (answer : Binary → Answer) (inputs : Inputs) (choice : Choice) (force : InForce) (answers : Answers) (test : OwnedTestInstanceId) → AreAnswersOf inputs.workspace choice.of_test force answers
    → IsListed answer answers (listed_in inputs answers) test → IsWanted answer inputs choice force test
wanted_of answer inputs choice force answers test are it = record {
  binary = it.binary;
  among = (has_of_filter answers.lists inputs.workspace.binaries it.binary it.among).among;
  id = it.id;
  names = it.names;
  answered = it.answered;
  named = it.named;
  holds = (are.selects it.binary test.test_name).0 it.chosen_name;
}

of_wanted : (answer : Binary → Answer) (inputs : Inputs) (choice : Choice) (force : InForce) (answers : Answers) (test : OwnedTestInstanceId) → AreAnswersOf inputs.workspace choice.of_test force answers
    → IsWanted answer inputs choice force test → IsListed answer answers (listed_in inputs answers) test
of_wanted answer inputs choice force answers test are it = record {
  binary = it.binary;
  among = filter_has answers.lists inputs.workspace.binaries it.binary it.among
      ((are.lists it.binary).1 (all_can_hold inputs.workspace choice.of_test force it.binary test.test_name it.holds));
  id = it.id;
  names = it.names;
  answered = it.answered;
  named = it.named;
  chosen_name = (are.selects it.binary test.test_name).1 it.holds;
}

-- what a plan's inputs ask for
pub plan_choice : (answer : Binary → Answer) (inputs : Inputs) (it : Planned) (choice : Choice) → Plans answer inputs (Ok it) → SetsAll inputs choice → it.choice ≡ choice
plan_choice answer inputs it choice planned sets = sets_once inputs it.choice choice planned.found.answers.sets sets

-- and what the filters in force answer
pub plan_answers : (answer : Binary → Answer) (inputs : Inputs) (it : Planned) (choice : Choice) (force : InForce) → Plans answer inputs (Ok it) → SetsAll inputs choice
    → AreInForce inputs choice.run force → AreAnswersOf inputs.workspace choice.of_test force it.answers
plan_answers answer inputs it choice force planned settles is =
    answers_are inputs choice force it.answers is
    (subst (λ (c : Choice). IsChosen inputs c (Ok it.answers)) (plan_choice answer inputs it choice planned settles) planned.found.answers.chosen)

pub exactly_the_wanted : HasExactlyTheWanted
exactly_the_wanted answer inputs plan choice force (it, planned, built) settles is test =
    let are = plan_answers answer inputs it choice force planned settles is in
    let listed = listed_in inputs it.answers in
    let tests = map (λ (t : PlanTest). t.instance) plan.tests in
    let same = instances_of inputs it plan built in (
      λ has.
          wanted_of answer inputs choice force it.answers test are
          (to_listed answer it.answers listed it.found planned.found.found test (Contains-permutation tests (instances_in it.found) test (IsPermutation-sym (instances_in it.found) tests same) has)),
      λ wanted.
          Contains-permutation (instances_in it.found) tests test same (from_listed answer it.answers listed it.found planned.found.found test (of_wanted answer inputs choice force it.answers test are wanted)),
    )

-- names that are accepted are those that were answered
same_names : (answered : Answer) (names found : List (List ℕ)) → accepted_answer answered ≡ Ok names → answered ≡ Ok found → found ≡ names
same_names answered names found e f = let g : ◌≡◌ {A = Answer} (Ok found) (Ok names) = sym f ∙ accepted_is answered names e in cc

-- where all binaries answer, the wanted tests are theirs
pub roads : Roads
roads answer inputs names plan choice force all built sets is test =
    let same = exactly_the_wanted answer inputs plan choice force built sets is test in (
      λ has.
          let it = same.0 has in
          record {
            binary = it.binary;
            among = it.among;
            id = it.id;
            named = subst (λ (given : List (List ℕ)). Contains given test.test_name) (same_names (answer it.binary) (names it.binary) it.names (all it.binary it.among) it.answered) it.named;
            holds = it.holds;
          },
      λ it.
          same.1
          (record {
            binary = it.binary;
            among = it.among;
            id = it.id;
            names = names it.binary;
            answered = accepted_is (answer it.binary) (names it.binary) (all it.binary it.among);
            named = it.named;
            holds = it.holds;
          }),
    )

-- each test of a plan has the settings that are set for it
pub have_their_settings : HaveTheirSettings
have_their_settings answer inputs plan choice (it, planned, built) settles test has =
    let all = map (plan_test it.choice.of_test) it.found.tests in
    let made = has_of_map (plan_test it.choice.of_test) it.found.tests test (Contains-permutation plan.tests all test (IsPermutation-sym all plan.tests built.tests) has) in
    let from = of_binaries answer it.answers (listed_in inputs it.answers) it.found planned.found.found made.of made.among in
    let same = plan_choice answer inputs it choice planned settles in
    let name : made.of.name ≡ test.instance.test_name = ap (λ (t : PlanTest). t.instance.test_name) made.made in
    record {
      binary = from.0;
      among = (has_of_filter it.answers.lists inputs.workspace.binaries from.0 from.1).among;
      id = sym (ap (λ (t : Test). t.binary.id) from.2) ∙ ap (λ (t : PlanTest). t.instance.binary_id) made.made;
      settings = ap (λ (t : PlanTest). t.settings) (sym made.made) ∙ ap (λ (c : Choice). c.of_test made.of) same ∙ ap choice.of_test (from.2 ∙ ap (seen_test from.0) name);
      tries = ap (λ (t : PlanTest). t.tries) (sym made.made) ∙ ap (λ (t : PlanTest). count_of t.settings.retries + 1) made.made;
    }
