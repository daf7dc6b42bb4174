-- Which rules of a profile hold on the tests of a binary, found at once for all of them.
use Rattle.std.specs.Prelude.{◌≡◌, ℕ, nat_lt, ◌+◌, ◌*◌, ◌^◌, ◌%◌, ◌<◌, Bool, true, false, List, [], ◌∷◌, ◌++◌, Some, if◌then◌else◌, length, map, slice_get, slice_index, unwrap_or}
use Rattle.std.specs.List.{AllZip}
use Rattle.nextest_config_resolution_profiles.specs.Evaluatable.{Evaluatable}
use Rattle.nextest_config_resolution_profiles.specs.Held.{Holds}
use Rattle.nextest_config_resolution_profiles.specs.Platforms.{RuleOn}
use Rattle.nextest_filtering_filters.specs.Meaning.{Tells}
use Rattle.nextest_filtering_filters.specs.Query.{Binary, Test}

-- of which of some rules this is so, in their order
abbrev pub IsRowBy : {R : Type 0} → (R → Type 0) → List R → List Bool → Type 0
IsRowBy Holding rules row = AllZip (λ rule value. Tells (Holding rule) value) rules row

-- whether each of some rules holds on a test
abbrev pub IsRowOn : {P F S : Type 0} → (F → F → Test → Bool → Type 0) → F → Test → List (RuleOn P F S) → List Bool → Type 0
IsRowOn OnTest default test rules row = IsRowBy (Holds OnTest default test) rules row

-- whether each of the overrides of a profile does, and then whether each of its script rules does
pub record IsHeldRow {F S : Type 0} (OnTest : F → F → Test → Bool → Type 0) (profile : Evaluatable F S) (test : Test) (row : List Bool) : Type 0 where
  pub front : List Bool
  pub back : List Bool
  pub divided : row ≡ front ++ back
  pub overrides : IsRowOn OnTest profile.default_filter.filter.now test profile.rules front
  pub scripts : IsRowOn OnTest profile.default_filter.filter.now test profile.script_rules back

-- the rules at which a row is true, in their order
abbrev pub rules_at : {R : Type 0} → List Bool → List R → List R
rules_at row [] = []
rules_at [] (rule ∷ rules) = []
rules_at (true ∷ row) (rule ∷ rules) = rule ∷ rules_at row rules
rules_at (false ∷ row) (rule ∷ rules) = rules_at row rules

-- ---- the same for each of some tests

-- whether a rule holds on the test at a place, by its column; past the column's end it doesn't
abbrev pub value_at : ℕ → List Bool → Bool
value_at place column = unwrap_or (slice_get column place) false

-- what the columns of rules say of the test at a place
abbrev pub row_at : ℕ → List (List Bool) → List Bool
row_at place columns = map (value_at place) columns

-- a column says which tests of a binary, by their names, this is so of
abbrev pub TellsEach : (List ℕ → Type 0) → List (List ℕ) → List Bool → Type 0
TellsEach So names column = (place : ℕ) (name : List ℕ) → slice_get names place ≡ Some name → Tells (So name) (value_at place column)

-- the column of a rule says on which of them the rule holds
abbrev pub IsColumn : {P F S : Type 0} → (F → F → Test → Bool → Type 0) → F → Binary → List (List ℕ) → RuleOn P F S → List Bool → Type 0
IsColumn OnTest default binary names rule column = TellsEach (λ name. Holds OnTest default (record { binary = binary; name = name }) rule) names column

-- so does the column of each of some rules
abbrev pub AreColumns : {P F S : Type 0} → (F → F → Test → Bool → Type 0) → F → Binary → List (List ℕ) → List (RuleOn P F S) → List (List Bool) → Type 0
AreColumns OnTest default binary names rules columns = AllZip (IsColumn OnTest default binary names) rules columns

-- the columns of the overrides of a profile, and those of its script rules
pub record Columns : Type 0 where
  pub overrides : List (List Bool)
  pub scripts : List (List Bool)

pub record AreHeldColumns {F S : Type 0} (OnTest : F → F → Test → Bool → Type 0) (profile : Evaluatable F S) (binary : Binary) (names : List (List ℕ)) (it : Columns) : Type 0 where
  pub overrides : AreColumns OnTest profile.default_filter.filter.now binary names profile.rules it.overrides
  pub scripts : AreColumns OnTest profile.default_filter.filter.now binary names profile.script_rules it.scripts

-- what they say of the test at a place
abbrev pub held_row : ℕ → Columns → List Bool
held_row place it = row_at place it.overrides ++ row_at place it.scripts

-- how many rules they are of
abbrev pub rule_count : Columns → ℕ
rule_count it = length it.overrides + length it.scripts

-- ---- rows as numbers

-- the weight of the rule behind one of this weight: twice as much, and behind 2 ^ 63 again one
abbrev pub next_weight : ℕ → ℕ
next_weight weight = if nat_lt weight (2 ^ 63) then weight * 2 else 1

-- the weights of the rules at which a row is true, where the first rule has this one
abbrev pub row_weight : ℕ → List Bool → ℕ
row_weight weight [] = 0
row_weight weight (holds ∷ row) = (if holds then weight else 0) + row_weight (next_weight weight) row

-- a row as a number: what its rules weigh, modulo 2 ^ 64
abbrev pub row_number : List Bool → ℕ
row_number row = row_weight 1 row % 2 ^ 64

-- numbers of the rows at the first places
pub record AreNumbers (row_of : ℕ → List Bool) (count : ℕ) (numbers : List ℕ) : Type 0 where
  pub counted : length numbers ≡ count
  pub each : (place : ℕ) → place < count → slice_index numbers place ≡ row_number (row_of place)
