-- The tests of a plan, one after another.
use Rattle.std.proofs.Common.{◌≡◌, ℕ, zero, suc, ◌+◌, ◌≤◌, List, [], ◌∷◌, ◌++◌, Option, Some, None, length, map, take, drop, refl, sym, ap, ◌∙◌, subst, arith, append-nil}
use Rattle.std.proofs.lemmas.List.{map-append, take-append-drop, take_all}
use Rattle.std.specs.Prelude.{slice_get}
use Rattle.test_runner_core_plan.specs.declared.plan.Plan.{Plan}
use Rattle.test_runner_core_plan.specs.declared.plan.PlanTest.{PlanTest}
use Rattle.test_runner_core_report_lines.specs.Texts.{NamedTest}
use Rattle.test_runner_core_report_lines.specs.declared.shows.Shows.{Shows}
use Rattle.nextest_run_events_results.specs.declared.record.Record.{Record}
use Rattle.test_runner_core_run_model.specs.declared.mark.Mark.{Mark}
use Rattle.test_runner_core_run_model.specs.declared.run_test.RunTest.{RunTest}
use Rattle.test_runner_core_run_model.specs.State.{TestState}
use Rattle.test_runner_core_session.specs.Session.{IsKeptTest}
use Rattle.test_runner_core_session.specs.declared.plan_run.KeptTest.{KeptTest}
use Rattle.test_runner_core_reporter.specs.Final.{part_of_shown, shown_part, shown_tests, shows_of}
use Rattle.test_runner_core_reporter.specs.Parts.{Part}
use Rattle.test_runner_core_reporter.specs.Writes.{WritesAll, WritesPrefix}
use Rattle.test_runner_core_reporter.specs.declared.final_text.ShownTest.{ShownTest}
use Rattle.test_runner_core_reporter.proofs.Each.{take_next}
use Rattle.test_runner_core_reporter.proofs.Told.{all_then, front_more, front_then}

-- a test of a plan that is so far
with_shows : Plan → PlanTest → TestState → ShownTest
with_shows plan test state = record { shows = shows_of plan test; test = record { name = test.instance; state = state } }

same_shown : (plan : Plan) (first test : PlanTest) (one state : TestState) → first ≡ test → one ≡ state → Some (with_shows plan first one) ≡ Some (with_shows plan test state)
same_shown plan first test one state tests states = ap (λ (o : PlanTest). Some (with_shows plan o one)) tests ∙ ap (λ (s : TestState). Some (with_shows plan test s)) states

pub shown_here : (plan : Plan) (tests : List PlanTest) (states : List TestState) (place : ℕ) (test : PlanTest) (state : TestState)
    → slice_get tests place ≡ Some test → slice_get states place ≡ Some state
    → slice_get (shown_tests plan tests states) place ≡ Some (record { shows = shows_of plan test; test = record { name = test.instance; state = state } })
unfolding with_shows
shown_here plan [] states place test state here there = absurd (let e = here in cc)
shown_here plan (first ∷ tests) [] place test state here there = absurd (let e = there in cc)
shown_here plan (first ∷ tests) (one ∷ states) zero test state here there =
    same_shown plan first test one state (let e = here in cc) (let e = there in cc)
shown_here plan (first ∷ tests) (one ∷ states) (suc place) test state here there = shown_here plan tests states place test state here there

pub no_test : (plan : Plan) (tests : List PlanTest) (states : List TestState) (place : ℕ) → slice_get tests place ≡ None → slice_get (shown_tests plan tests states) place ≡ None
no_test plan [] states place none = refl
no_test plan (first ∷ tests) [] place none = refl
no_test plan (first ∷ tests) (one ∷ states) zero none = absurd (let e = none in cc)
no_test plan (first ∷ tests) (one ∷ states) (suc place) none = no_test plan tests states place none

pub no_state : (plan : Plan) (tests : List PlanTest) (states : List TestState) (place : ℕ) → slice_get states place ≡ None → slice_get (shown_tests plan tests states) place ≡ None
no_state plan [] states place none = refl
no_state plan (first ∷ tests) [] place none = refl
no_state plan (first ∷ tests) (one ∷ states) zero none = absurd (let e = none in cc)
no_state plan (first ∷ tests) (one ∷ states) (suc place) none = no_state plan tests states place none

-- by what is kept of a test
pub kept_none : {Kept : Type 0} (are_of : RunTest → Kept → Type 0) (records : Kept → List Record) (plan : Plan) (tests : List PlanTest) (states : List TestState) (place : ℕ)
    → IsKeptTest are_of records (slice_get states place) None → slice_get (shown_tests plan tests states) place ≡ None
kept_none are_of records plan tests states place is = by_state (slice_get states place) refl is
  where
    by_state : (found : Option TestState) → slice_get states place ≡ found → IsKeptTest are_of records found None → slice_get (shown_tests plan tests states) place ≡ None
    by_state None e is = no_state plan tests states place e
    by_state (Some state) e is = absurd is

named_as : (told : NamedTest) (test : PlanTest) (state : TestState) → told.name.binary_id ≡ test.instance.binary_id → told.name.test_name ≡ test.instance.test_name → told.state ≡ state
    → told ≡ record { name = test.instance; state = state }
named_as told test state binary name same =
    ap (λ (x : List ℕ). record { name = record { binary_id = x; test_name = told.name.test_name }; state = told.state }) binary
    ∙ ap (λ (x : List ℕ). record { name = record { binary_id = test.instance.binary_id; test_name = x }; state = told.state }) name
    ∙ ap (λ (x : TestState). record { name = test.instance; state = x }) same

shown_as : (plan : Plan) (shows : Shows) (told : NamedTest) (test : PlanTest) (state : TestState) → shows ≡ shows_of plan test → told ≡ record { name = test.instance; state = state }
    → Some (record { shows = shows; test = told }) ≡ Some (with_shows plan test state)
unfolding with_shows
shown_as plan shows told test state set named =
    ap (λ (s : Shows). Some (record { shows = s; test = told })) set ∙ ap (λ (t : NamedTest). Some (record { shows = shows_of plan test; test = t })) named

abbrev state_as : RunTest → List Record → Mark → TestState
state_as plan records mark = record { plan = plan; records = records; mark = mark }

pub kept_some : {Kept : Type 0} (are_of : RunTest → Kept → Type 0) (records : Kept → List Record) (plan : Plan) (tests : List PlanTest) (states : List TestState) (place : ℕ)
    (test : PlanTest) (kept : KeptTest Kept) (shows : Shows) (told : NamedTest) (own : List Record)
    → slice_get tests place ≡ Some test → IsKeptTest are_of records (slice_get states place) (Some kept) → shows ≡ shows_of plan test
    → told.name.binary_id ≡ test.instance.binary_id → told.name.test_name ≡ test.instance.test_name
    → told.state ≡ record { plan = kept.plan; records = own; mark = kept.mark } → own ≡ records kept.attempts.now
    → Some (record { shows = shows; test = told }) ≡ slice_get (shown_tests plan tests states) place
unfolding with_shows
kept_some are_of records plan tests states place test kept shows told own here is set binary name as_told same = by_state (slice_get states place) refl is
  where
    by_state : (found : Option TestState) → slice_get states place ≡ found → IsKeptTest are_of records found (Some kept) → Some (record { shows = shows; test = told }) ≡ slice_get (shown_tests plan tests states) place
    by_state None e is = absurd is
    by_state (Some state) e is =
        let whole : told.state ≡ state =
        as_told
        ∙ ap (λ (p : RunTest). state_as p own kept.mark) is.1
        ∙ ap (λ (m : Mark). state_as state.plan own m) is.0
        ∙ ap (λ (r : List Record). state_as state.plan r state.mark) (same ∙ is.2.1)
        in
        shown_as plan shows told test state set (named_as told test state binary name whole) ∙ sym (shown_here plan tests states place test state here e)

-- there are no more than the plan has
pub shown_within : (plan : Plan) (tests : List PlanTest) (states : List TestState) → length (shown_tests plan tests states) ≤ length tests
shown_within plan [] states = omega arith
shown_within plan (first ∷ tests) [] = omega arith
shown_within plan (first ∷ tests) (one ∷ states) = let within = shown_within plan tests states in omega arith

-- none more
pub take_same : {X : Type 0} (xs : List X) (place : ℕ) → slice_get xs place ≡ None → take (suc place) xs ≡ take place xs
take_same [] zero none = refl
take_same [] (suc place) none = refl
take_same (first ∷ xs) zero none = absurd (let e = none in cc)
take_same (first ∷ xs) (suc place) none = ap (λ (ys : List _). first ∷ ys) (take_same xs place none)

-- the parts of the tests at the first places, and at one more
pub shown_next : (xs : List ShownTest) (place : ℕ) → map shown_part (take (suc place) xs) ≡ map shown_part (take place xs) ++ part_of_shown (slice_get xs place)
shown_next xs place = by_test (slice_get xs place) refl
  where
    by_test : (found : Option ShownTest) → slice_get xs place ≡ found → map shown_part (take (suc place) xs) ≡ map shown_part (take place xs) ++ part_of_shown found
    by_test None e = ap (map shown_part) (take_same xs place e) ∙ sym (append-nil (map shown_part (take place xs)))
    by_test (Some test) e = ap (map shown_part) (take_next xs place test e) ∙ map-append shown_part (take place xs) (test ∷ [])

-- those of all
pub shown_rest : (xs : List ShownTest) (place : ℕ) → map shown_part xs ≡ (map shown_part (take place xs) ++ part_of_shown (slice_get xs place)) ++ map shown_part (drop (suc place) xs)
shown_rest xs place =
    ap (map shown_part) (sym (take-append-drop (suc place) xs))
    ∙ map-append shown_part (take (suc place) xs) (drop (suc place) xs)
    ∙ ap (λ (ys : List Part). ys ++ map shown_part (drop (suc place) xs)) (shown_next xs place)

-- reporting them one after another
pub all_next : (xs : List ShownTest) (place : ℕ) (before now after : Option (List ℕ)) (waited mid waits : List ℕ)
    → WritesAll (map shown_part (take place xs)) before waited now mid → WritesAll (part_of_shown (slice_get xs place)) now mid after waits
    → WritesAll (map shown_part (take (place + 1) xs)) before waited after waits
all_next xs place before now after waited mid waits told here =
    let next : suc place ≡ place + 1 = omega arith in
    subst (λ (n : ℕ). WritesAll (map shown_part (take n xs)) before waited after waits) next
    (subst (λ (parts : List Part). WritesAll parts before waited after waits) (sym (shown_next xs place))
    (all_then (map shown_part (take place xs)) (part_of_shown (slice_get xs place)) before now after waited mid waits told here))

pub front_here : (xs : List ShownTest) (place : ℕ) (before now after : Option (List ℕ)) (waited mid : List ℕ)
    → WritesAll (map shown_part (take place xs)) before waited now mid → WritesPrefix (part_of_shown (slice_get xs place)) now mid after
    → WritesPrefix (map shown_part xs) before waited after
front_here xs place before now after waited mid told here =
    subst (λ (parts : List Part). WritesPrefix parts before waited after) (sym (shown_rest xs place))
    (front_more (map shown_part (take place xs) ++ part_of_shown (slice_get xs place)) (map shown_part (drop (suc place) xs)) before after waited
    (front_then (map shown_part (take place xs)) (part_of_shown (slice_get xs place)) before now after waited mid told here))

pub all_written : (plan : Plan) (tests : List PlanTest) (states : List TestState) (place : ℕ) (before after : Option (List ℕ)) (waited waits : List ℕ) → length tests ≤ place
    → WritesAll (map shown_part (take place (shown_tests plan tests states))) before waited after waits
    → WritesAll (map shown_part (shown_tests plan tests states)) before waited after waits
all_written plan tests states place before after waited waits over told =
    let within = shown_within plan tests states in
    subst (λ (xs : List ShownTest). WritesAll (map shown_part xs) before waited after waits) (take_all place (shown_tests plan tests states) (omega arith)) told
