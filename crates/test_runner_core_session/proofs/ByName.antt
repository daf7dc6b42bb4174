-- Where the test of a name stands among tests.
use Rattle.std.proofs.Common.{◌≡◌, ℕ, zero, suc, ◌+◌, ◌<◌, ◌≤◌, List, [], ◌∷◌, length, map, get_or, slice_get, Bool, true, false, cond, ◌&&◌, Option, Some, None, refl, ap, sym, ◌∙◌, subst, arith, inl, inr}
use Rattle.std.proofs.lemmas.Bool.{cases_Bool}
use Rattle.std.proofs.lemmas.List.{get_or-map, length-map}
use Rattle.std.proofs.lemmas.Map.Keys.{apart_from_distinct}
use Rattle.std.proofs.lemmas.Option.{get_or_from_slice_get, slice_get-get_or, slice_get_within}
use Rattle.std.specs.Cmp.Lexicographic.{nat_list_eq_equiv}
use Rattle.std.specs.List.{IsDistinct, position_from}
use Rattle.std.specs.Option.{option_map_or, unwrap_or}
use Rattle.std.specs.Str.{bytes_eq}
use Rattle.nextest_run_events_results.specs.declared.instance.OwnedTestInstanceId.{OwnedTestInstanceId}
use Rattle.nextest_run_events_results.specs.declared.instance.TestInstanceId.{TestInstanceId}
use Rattle.test_runner_core_plan.specs.declared.plan.PlanTest.{PlanTest}
use Rattle.test_runner_core_session.specs.Names.{is_named, name_of, names, place_of}

pub length_names : (tests : List PlanTest) → length (names tests) ≡ length tests
length_names tests = length-map tests (λ (t : PlanTest). t.instance)

abbrev pub has : List ℕ → List ℕ → PlanTest → Bool
has id name test = is_named id name test.instance

-- ---- a list and a test

first_from : {X : Type 0} (test : X → Bool) (xs : List X) (start k : ℕ) (d : X) → k < length xs → test (get_or xs k d) ≡ true
    → ((j : ℕ) → j < k → test (get_or xs j d) ≡ false) → position_from test start xs ≡ Some (start + k)
first_from test [] start k d within it apart = absurd (omega (arith, within))
first_from test (x ∷ xs) start zero d within it apart =
    let sum : start ≡ start + 0 = omega arith in
    ap (λ (b : Bool). cond b (Some start) (position_from test (start + 1) xs)) it ∙ ap (λ (n : ℕ). Some n) sum
first_from test (x ∷ xs) start (suc k) d within it apart =
    let sum : start + 1 + k ≡ start + suc k = omega arith in
    ap (λ (b : Bool). cond b (Some start) (position_from test (start + 1) xs)) (apart 0 (omega arith))
    ∙ first_from test xs (start + 1) k d (omega (arith, within)) it (λ j below. apart (suc j) (omega (arith, below)))
    ∙ ap (λ (n : ℕ). Some n) sum

none_from : {X : Type 0} (test : X → Bool) (xs : List X) (start : ℕ) → ((j : ℕ) (d : X) → j < length xs → test (get_or xs j d) ≡ false) → position_from test start xs ≡ None
none_from test [] start apart = refl
none_from test (x ∷ xs) start apart =
    ap (λ (b : Bool). cond b (Some start) (position_from test (start + 1) xs)) (apart 0 x (omega arith))
    ∙ none_from test xs (start + 1) (λ j d inside. apart (suc j) d (omega (arith, inside)))

by_name : (id name : List ℕ) (tests : List PlanTest) (start : ℕ) → position_from (is_named id name) start (names tests) ≡ position_from (has id name) start tests
by_name id name [] start = refl
by_name id name (test ∷ tests) start = ap (λ (more : Option ℕ). cond (has id name test) (Some start) more) (by_name id name tests (start + 1))

-- ---- one after another

-- a place has the first test of the name, where it has one, and those before it have other names
pub first_named : (tests : List PlanTest) (id name : List ℕ) (place : ℕ)
    → ((test : PlanTest) → place < length tests → has id name (get_or tests place test) ≡ true → (j : ℕ) → j < place → has id name (get_or tests j test) ≡ false)
    → option_map_or (has id name) (slice_get tests place) false ≡ true → place ≡ place_of (names tests) id name
first_named tests id name place apart = found (slice_get tests place) refl
  where
    found : (o : Option PlanTest) → slice_get tests place ≡ o → option_map_or (has id name) o false ≡ true → place ≡ place_of (names tests) id name
    found None is h = cc
    found (Some test) is h =
        let within = slice_get_within tests place test is in
        let at : get_or tests place test ≡ test = get_or_from_slice_get tests place test test is in
        let here : has id name (get_or tests place test) ≡ true = ap (has id name) at ∙ h in
        let first = first_from (has id name) tests 0 place test within here (apart test within here) in
        let zero_more : 0 + place ≡ place = omega arith in
        sym (ap (λ (o : Option ℕ). unwrap_or o (length (names tests))) (by_name id name tests 0 ∙ first ∙ ap (λ (n : ℕ). Some n) zero_more))

-- and one past the end has none, where all have other names
pub none_named : (tests : List PlanTest) (id name : List ℕ) → ((j : ℕ) (d : PlanTest) → j < length tests → has id name (get_or tests j d) ≡ false)
    → length tests ≡ place_of (names tests) id name
none_named tests id name apart =
    sym (ap (λ (o : Option ℕ). unwrap_or o (length (names tests))) (by_name id name tests 0 ∙ none_from (has id name) tests 0 apart) ∙ length_names tests)

-- a test that was looked at has another name
pub looked_at : (tests : List PlanTest) (id name : List ℕ) (j : ℕ) (d : PlanTest) → j < length tests → option_map_or (has id name) (slice_get tests j) false ≡ false
    → has id name (get_or tests j d) ≡ false
looked_at tests id name j d inside apart = sym (ap (λ (o : Option PlanTest). option_map_or (has id name) o false) (slice_get-get_or tests j d inside)) ∙ apart

-- ---- by an index

-- two lent names are one
abbrev pub is_same : TestInstanceId → TestInstanceId → Bool
is_same one other = bytes_eq one.binary_id.now other.binary_id.now && bytes_eq one.test_name.now other.test_name.now

-- a position among lent names is one among names
pub position_owned : (id name : List ℕ) (lent : List TestInstanceId) (start : ℕ)
    → position_from (λ (it : TestInstanceId). is_named id name (name_of it)) start lent ≡ position_from (is_named id name) start (map name_of lent)
position_owned id name [] start = refl
position_owned id name (it ∷ lent) start = ap (λ (more : Option ℕ). cond (is_named id name (name_of it)) (Some start) more) (position_owned id name lent (start + 1))

both_true : (a b : Bool) → (a && b) ≡ true → (a ≡ true) × (b ≡ true)
both_true true b h = (refl, h)
both_true false b h = cc

-- of two lent names that differ one at most is this name
apart_named : (id name : List ℕ) (one other : TestInstanceId) → is_same one other ≡ false → is_named id name (name_of other) ≡ true → is_named id name (name_of one) ≡ false
apart_named id name one other differ here = elim (cases_Bool (is_named id name (name_of one))) [
  | inl it ↦
      let first = both_true (bytes_eq id one.binary_id.now) (bytes_eq name one.test_name.now) it in
      let second = both_true (bytes_eq id other.binary_id.now) (bytes_eq name other.test_name.now) here in
      let ids : bytes_eq one.binary_id.now other.binary_id.now ≡ true = sym (nat_list_eq_equiv.congr id one.binary_id.now other.binary_id.now first.0) ∙ second.0 in
      let texts : bytes_eq one.test_name.now other.test_name.now ≡ true = sym (nat_list_eq_equiv.congr name one.test_name.now other.test_name.now first.1) ∙ second.1 in
      let same : is_same one other ≡ true = ap (λ (b : Bool). b && bytes_eq one.test_name.now other.test_name.now) ids ∙ texts in
      cc
  | inr apart ↦ apart
]

-- where no two lent names are one, and they are the tests', a test of a name is the first of it
pub stands : (index : List TestInstanceId) (tests : List PlanTest) (id name : List ℕ) (place : ℕ) → IsDistinct is_same index → map name_of index ≡ names tests
    → option_map_or (has id name) (slice_get tests place) false ≡ true → place ≡ place_of (names tests) id name
stands index tests id name place distinct same = first_named tests id name place apart
  where
    length_index : length index ≡ length tests
    length_index = sym (length-map index name_of) ∙ ap length same ∙ length_names tests

    lent : PlanTest → TestInstanceId
    lent test = record { binary_id = record { ref_ptr = (0, 0); now = test.instance.binary_id }; test_name = record { ref_ptr = (0, 0); now = test.instance.test_name } }

    at : (k : ℕ) (test : PlanTest) → k < length tests → (get_or tests k test).instance ≡ name_of (get_or index k (lent test))
    at k test inside =
        sym (get_or-map (λ (t : PlanTest). t.instance) tests k test test.instance inside)
        ∙ ap (λ (them : List OwnedTestInstanceId). get_or them k test.instance) (sym same)
        ∙ get_or-map name_of index k (lent test) test.instance (omega (arith, inside, length_index))

    apart : (test : PlanTest) → place < length tests → has id name (get_or tests place test) ≡ true → (j : ℕ) → j < place → has id name (get_or tests j test) ≡ false
    apart test within here j below =
        ap (is_named id name) (at j test (omega (arith, below, within)))
        ∙ apart_named id name (get_or index j (lent test)) (get_or index place (lent test))
        (apart_from_distinct is_same index j place (lent test) distinct below (omega (arith, within, length_index)))
        (sym (ap (is_named id name) (at place test within)) ∙ here)
