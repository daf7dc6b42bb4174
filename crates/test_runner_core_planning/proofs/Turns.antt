-- Tests turn by turn, of each priority.
use Rattle.std.proofs.Common.{◌≡◌, ◌<◌, ◌≤◌, ◌+◌, ℕ, zero, suc, ℤ, length, get_or, drop, min, arith, Bool, true, false, not, ◌||◌, List, [], ◌∷◌, ◌++◌, cond, refl, sym, ap, ◌∙◌, subst, append_assoc}
use Rattle.std.specs.List.{filter, list_any}
use Rattle.std.specs.List.Sorted.{IsPermutation}
use Rattle.std.specs.Ordering.{int_eq}
use Rattle.std.proofs.lemmas.List.{append-nil, drop_all, drop_more}
use Rattle.std.proofs.lemmas.Bool.{false≢true}
use Rattle.std.proofs.lemmas.Bool.Decides.{Decides-int_eq}
use Rattle.std.proofs.lemmas.List.Folds.{list_any-append}
use Rattle.std.proofs.lemmas.List.Sorted.{IsPermutation-append_left, IsPermutation-cons, IsPermutation-filter_both, IsPermutation-refl, IsPermutation-sym, IsPermutation-to_front, IsPermutation-trans}
use Rattle.test_runner_core_plan.specs.declared.plan.PlanTest.{PlanTest}
use Rattle.test_runner_core_plan.specs.declared.plan_settings.PlanSettings.{PlanSettings}
use Rattle.test_runner_core_planning.specs.Settled.{is_among, settled_test, tests_of_binary}

-- an element in the middle, at the front
to_front : {X : Type 0} (front back : List X) (x : X) → IsPermutation (x ∷ (front ++ back)) (front ++ x ∷ back)
to_front front back x =
    IsPermutation-sym (front ++ x ∷ back) (x ∷ (front ++ back))
    (subst (λ (l : List _). IsPermutation l (x ∷ (front ++ back))) (append_assoc front (x ∷ []) back)
    (IsPermutation-append_left back (front ++ x ∷ []) (x ∷ front) (IsPermutation-to_front front x)))

-- what passes one of two tests that never both pass is what passes the first, and then the second
parted : {X : Type 0} (p q r : X → Bool) → ((x : X) → r x ≡ (p x || q x)) → ((x : X) → p x ≡ true → q x ≡ true → ⊥) → (xs : List X) → IsPermutation (filter r xs) (filter p xs ++ filter q xs)
parted p q r either apart [] = IsPermutation-refl []
parted {X = X} p q r either apart (x ∷ xs) = by_tests (p x) (q x) (r x) refl refl (either x) (parted p q r either apart xs) where
  by_tests : (a b c : Bool) → p x ≡ a → q x ≡ b → c ≡ (a || b) → IsPermutation (filter r xs) (filter p xs ++ filter q xs)
      → IsPermutation (cond c (x ∷ filter r xs) (filter r xs)) (cond a (x ∷ filter p xs) (filter p xs) ++ cond b (x ∷ filter q xs) (filter q xs))
  by_tests true true c first second is more = absurd (apart x first second)
  by_tests true false c first second is more = rw is (IsPermutation-cons x (filter r xs) (filter p xs ++ filter q xs) more)
  by_tests false true c first second is more =
      rw is (IsPermutation-trans (x ∷ filter r xs) (x ∷ (filter p xs ++ filter q xs)) (filter p xs ++ x ∷ filter q xs)
      (IsPermutation-cons x (filter r xs) (filter p xs ++ filter q xs) more) (to_front (filter p xs) (filter q xs) x))
  by_tests false false c first second is more = rw is more

-- ---- one after another

-- the test at a place
pub test_at : (id : List ℕ) (names : List (List ℕ)) (settings : List PlanSettings) (i : ℕ) (name : List ℕ) (it : PlanSettings) (other : PlanTest) → i < length names → i < length settings
    → name ≡ get_or names i [] → it ≡ get_or settings i it → get_or (tests_of_binary id names settings) i other ≡ settled_test id name it
test_at id [] settings i name it other named has is_name is = absurd (omega (arith, named))
test_at id (first ∷ names) [] i name it other named has is_name is = absurd (omega (arith, has))
test_at id (first ∷ names) (own ∷ settings) zero name it other named has is_name is = ap (λ text. settled_test id text own) (sym is_name) ∙ ap (settled_test id name) (sym is)
test_at id (first ∷ names) (own ∷ settings) (suc i) name it other named has is_name is = test_at id names settings i name it other (omega (arith, named)) (omega (arith, has)) is_name is

-- how many there are
pub tests_count : (id : List ℕ) (names : List (List ℕ)) (settings : List PlanSettings) → length (tests_of_binary id names settings) ≡ min (length names) (length settings)
tests_count id [] settings = omega arith
tests_count id (name ∷ names) [] = omega arith
tests_count id (name ∷ names) (own ∷ settings) = omega (arith, tests_count id names settings)

-- a test whose turn it isn't is passed
pub turn_passed : (its : PlanTest → Bool) (all before initial : List PlanTest) (i : ℕ) (test : PlanTest) → i < length all → get_or all i test ≡ test → its test ≡ false
    → before ++ filter its (drop i all) ≡ initial ++ filter its all → before ++ filter its (drop (i + 1) all) ≡ initial ++ filter its all
turn_passed its all before initial i test within is not_its so_far =
    let rest = filter its (drop (i + 1) all) in
    ap (λ left. before ++ left) (sym (ap (filter its) (drop_more all i test within ∙ ap (λ one. one ∷ drop (i + 1) all) is) ∙ ap (λ truth. cond truth (test ∷ rest) rest) not_its)) ∙ so_far

-- one whose turn it is is added
pub turn_taken : (its : PlanTest → Bool) (all before after initial : List PlanTest) (i : ℕ) (test : PlanTest) → i < length all → get_or all i test ≡ test → its test ≡ true → after ≡ before ++ test ∷ []
    → before ++ filter its (drop i all) ≡ initial ++ filter its all → after ++ filter its (drop (i + 1) all) ≡ initial ++ filter its all
turn_taken its all before after initial i test within is its_turn adds so_far =
    let rest = filter its (drop (i + 1) all) in
    ap (λ tests. tests ++ rest) adds
    ∙ append_assoc before (test ∷ []) rest
    ∙ ap (λ left. before ++ left) (sym (ap (filter its) (drop_more all i test within ∙ ap (λ one. one ∷ drop (i + 1) all) is) ∙ ap (λ truth. cond truth (test ∷ rest) rest) its_turn))
    ∙ so_far

-- at the end none is left
pub turn_done : (its : PlanTest → Bool) (all before initial : List PlanTest) (i : ℕ) → length all ≤ i → before ++ filter its (drop i all) ≡ initial ++ filter its all → before ≡ initial ++ filter its all
turn_done its all before initial i past so_far = sym (append-nil before) ∙ ap (λ left. before ++ filter its left) (sym (drop_all i all past)) ∙ so_far

-- ---- turn by turn

-- at first it was no test's turn
pub none_yet : (tests : List PlanTest) → filter (is_among []) tests ≡ []
none_yet [] = refl
none_yet (test ∷ tests) = none_yet tests

-- the turn of one more priority
pub turn_more : (done more : List ℤ) (priority : ℤ) (all before after : List PlanTest) → list_any (λ other. int_eq other priority) done ≡ false → more ≡ done ++ priority ∷ []
    → after ≡ before ++ filter (λ test. int_eq priority test.settings.priority) all → IsPermutation (filter (is_among done) all) before → IsPermutation (filter (is_among more) all) after
turn_more done more priority all before after new longer adds so_far =
    rw (longer, adds)
    (IsPermutation-trans (filter (is_among (done ++ priority ∷ [])) all) (filter (is_among done) all ++ filter its all) (before ++ filter its all)
    (parted (is_among done) its (is_among (done ++ priority ∷ [])) either apart all)
    (IsPermutation-append_left (filter its all) (filter (is_among done) all) before so_far))
  where
    its : PlanTest → Bool
    its test = int_eq priority test.settings.priority

    last : (b : Bool) → (b || false) ≡ b
    last true = refl
    last false = refl

    either : (test : PlanTest) → is_among (done ++ priority ∷ []) test ≡ (is_among done test || its test)
    either test = list_any-append (λ other. int_eq other test.settings.priority) done (priority ∷ []) ∙ ap (λ (b : Bool). list_any (λ other. int_eq other test.settings.priority) done || b) (last (its test))

    apart : (test : PlanTest) → is_among done test ≡ true → its test ≡ true → ⊥
    apart test there here =
        let same : priority ≡ test.settings.priority = (Decides-int_eq priority test.settings.priority).0 here in
        false≢true (sym new ∙ subst (λ (p : ℤ). list_any (λ other. int_eq other p) done ≡ true) (sym same) there)

-- those that are left, at the end
pub turns_end : (done : List ℤ) (all before after : List PlanTest) → after ≡ before ++ filter (λ test. not (is_among done test)) all → IsPermutation (filter (is_among done) all) before
    → IsPermutation all after
turns_end done all before after adds so_far =
    rw adds
    (IsPermutation-trans all (filter (is_among done) all ++ filter left all) (before ++ filter left all)
    (IsPermutation-filter_both (is_among done) left (λ test. refl) all)
    (IsPermutation-append_left (filter left all) (filter (is_among done) all) before so_far))
  where
    left : PlanTest → Bool
    left test = not (is_among done test)
