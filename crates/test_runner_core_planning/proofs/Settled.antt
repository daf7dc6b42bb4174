-- The settings that are shared by rows, and the tests that have them.
use Rattle.std.proofs.Common.{◌≡◌, ℕ, zero, suc, ◌+◌, ◌≤◌, Bool, true, false, cond, List, [], ◌∷◌, ◌++◌, Option, Some, IfSome, Result, Ok, Err, MatchResult, IfOk, nat_cmp, length, map, slice_get, refl, sym, ap, ◌∙◌, subst, arith}
use Rattle.std.specs.BTreeMap.{BTreeMap, Updates, get, is_at}
use Rattle.std.proofs.lemmas.Grind.{flat_map-append}
use Rattle.std.proofs.lemmas.List.{append-nil, map-append}
use Rattle.std.proofs.lemmas.Map.Lookups.{exact_unsigned}
use Rattle.std.proofs.lemmas.Slice.Eq.{slice_eq-Decides}
use Rattle.std.specs.Bool.{beq}
use Rattle.std.specs.Cmp.{Equal-is, booleans_Decides}
use Rattle.std.specs.Cmp.Lexicographic.{pointwise}
use Rattle.nextest_config_elements_choices.specs.declared.run_mode.NextestRunMode.{NextestRunMode}
use Rattle.nextest_config_resolution_profiles.specs.Evaluatable.{Evaluatable}
use Rattle.nextest_config_resolution_profiles.specs.HeldRules.{Columns, held_row, row_number, rule_count}
use Rattle.nextest_config_resolution_profiles.proofs.RowNumbers.{held_length, one_numbered}
use Rattle.nextest_filtering_compiling.specs.declared.filterset.Filterset.{Filterset}
use Rattle.nextest_filtering_filters.specs.Query.{Test}
use Rattle.test_runner_core_listing.specs.Answers.{seen_test}
use Rattle.test_runner_core_listing.specs.Selected.{tests_in, tests_of_one}
use Rattle.test_runner_core_listing.specs.declared.selection.SelectedTests.{SelectedTests}
use Rattle.test_runner_core_plan.specs.declared.plan.PlanTest.{PlanTest}
use Rattle.test_runner_core_plan.specs.declared.plan_settings.PlanSettings.{PlanSettings}
use Rattle.test_runner_core_planning.specs.Plan.{with_settings}
use Rattle.test_runner_core_planning.specs.Settled.{settled_test, tests_of_all, tests_of_binary}
use Rattle.test_runner_core_planning.specs.Tests.{AreShared, HasForRow, IsShared}
use Rattle.test_runner_core_planning.specs.declared.settled_tests.RowSettings.{RowSettings}
use Rattle.test_runner_core_platforms.specs.declared.platform_spec.PlatformSpec.{PlatformSpec}
use Rattle.test_runner_core_workspace.specs.declared.record.Binary.{Binary}

-- ---- what is shared

pub shared_found : (profile : Evaluatable Filterset PlatformSpec) (mode : NextestRunMode) (shared : BTreeMap ℕ RowSettings) (number : ℕ) (it : RowSettings)
    → AreShared profile mode shared → get nat_cmp shared number ≡ Some it → IsShared profile mode number it
shared_found profile mode shared number it are is = subst (λ (found : Option RowSettings). IfSome found (IsShared profile mode number)) is (are number)

pub shared_more : (profile : Evaluatable Filterset PlatformSpec) (mode : NextestRunMode) (before after : BTreeMap ℕ RowSettings) (number : ℕ) (row : List Bool) (settings : PlanSettings) (it : RowSettings)
    → AreShared profile mode before → length row ≡ length profile.rules + length profile.script_rules → number ≡ row_number row → HasForRow profile mode row settings → it.row.items ≡ row → it.settings ≡ settings
    → Updates nat_cmp before after number (Some it) → AreShared profile mode after
shared_more profile mode before after number row settings it are counted numbered has under same updates key =
    subst (λ (found : Option RowSettings). IfSome found (IsShared profile mode key)) (sym (updates.0 key)) (by_test (is_at (nat_cmp number) key) refl)
  where
    own : IsShared profile mode number it
    own = record {
      has = subst (λ (row' : List Bool). HasForRow profile mode row' it.settings) (sym under) (subst (HasForRow profile mode row) (sym same) has);
      counted = ap length under ∙ counted;
      numbered = numbered ∙ ap row_number (sym under);
    }

    by_test : (here : Bool) → is_at (nat_cmp number) key ≡ here → IfSome (cond here (Some it) (get nat_cmp before key)) (IsShared profile mode key)
    by_test true is = subst (λ (n : ℕ). IsShared profile mode n it) (exact_unsigned number key ((Equal-is (nat_cmp number key)).0 is)) own
    by_test false is = are key

-- rows that are compared are one
pub one_row : (row other : List Bool) → pointwise beq row other ≡ true → row ≡ other
one_row row other same = (slice_eq-Decides booleans_Decides row other (pointwise beq row other) refl).0 same

-- and so are those of at most 64 rules of which the numbers are
pub numbered_row : (row : List Bool) (place : ℕ) (held : Columns) → rule_count held ≤ 64 → length row ≡ rule_count held → row_number row ≡ row_number (held_row place held) → row ≡ held_row place held
numbered_row row place held few long same =
    one_numbered row (held_row place held) (long ∙ sym (held_length place held)) (subst (λ (n : ℕ). n ≤ 64) (sym long) few) same

-- a copy is what it is a copy of
pub copied : {X E : Type 0} (Fails : E → Type 0) (P : X → Type 0) (it : X) (result : Result X E) → MatchResult result (λ (copy : X). copy ≡ it) Fails → P it → IfOk result P
copied Fails P it (Ok copy) same is = subst P (sym same) is
copied Fails P it (Err error) same is = tt

-- the tests of one more binary
pub tests_more : (selected : List SelectedTests) (it : SelectedTests) → tests_in (selected ++ it ∷ []) ≡ tests_in selected ++ tests_of_one it
tests_more selected it = flat_map-append tests_of_one selected (it ∷ []) ∙ ap (λ (last : List Test). tests_in selected ++ last) (append-nil (tests_of_one it))

pub settled_more : (of_test : Test → PlanSettings) (selected : List SelectedTests) (it : SelectedTests) (before after : List (List PlanTest)) (tests : List PlanTest)
    → tests_of_all before ≡ map (with_settings of_test) (tests_in selected) → after ≡ before ++ tests ∷ [] → tests ≡ map (with_settings of_test) (tests_of_one it)
    → tests_of_all after ≡ map (with_settings of_test) (tests_in (selected ++ it ∷ []))
settled_more of_test selected it before after tests so_far adds told =
    ap tests_of_all adds
    ∙ flat_map-append (λ (them : List PlanTest). them) before (tests ∷ [])
    ∙ ap (λ (last : List PlanTest). tests_of_all before ++ last) (append-nil tests ∙ told)
    ∙ ap (λ (front : List PlanTest). front ++ map (with_settings of_test) (tests_of_one it)) so_far
    ∙ sym (map-append (with_settings of_test) (tests_in selected) (tests_of_one it))
    ∙ sym (ap (map (with_settings of_test)) (tests_more selected it))

-- ---- tests with their settings

-- what holds of each place of a list holds with one more behind it
pub each_push : {X : Type 0} (P : ℕ → X → Type 0) (xs : List X) (x : X) → ((place : ℕ) → IfSome (slice_get xs place) (P place)) → P (length xs) x → (place : ℕ) → IfSome (slice_get (xs ++ x ∷ []) place) (P place)
each_push P [] x all one zero = one
each_push P [] x all one (suc place) = tt
each_push P (y ∷ xs) x all one zero = all 0
each_push P (y ∷ xs) x all one (suc place) = each_push (λ n. P (suc n)) xs x (λ n. all (suc n)) one place

-- the tests of a binary, where each has its settings
pub settled_names : (of_test : Test → PlanSettings) (binary : Binary) (names : List (List ℕ)) (settings : List PlanSettings) → length settings ≡ length names
    → ((place : ℕ) (name : List ℕ) (it : PlanSettings) → slice_get names place ≡ Some name → slice_get settings place ≡ Some it → it ≡ of_test (seen_test binary name))
    → tests_of_binary binary.id names settings ≡ map (with_settings of_test) (map (seen_test binary) names)
settled_names of_test binary [] settings long each = refl
settled_names of_test binary (name ∷ names) [] long each = cc
settled_names of_test binary (name ∷ names) (it ∷ settings) long each =
    ap (λ (given : PlanSettings). settled_test binary.id name given ∷ tests_of_binary binary.id names settings) (each 0 name it refl refl)
    ∙ ap (λ (tests : List PlanTest). with_settings of_test (seen_test binary name) ∷ tests)
    (settled_names of_test binary names settings (omega (arith, long)) (λ place. each (suc place)))
