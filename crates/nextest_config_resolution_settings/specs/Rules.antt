-- The rules of a chain, and which of them hold: overrides and script rules, in the order in which
-- they are asked.
use Rattle.std.specs.Prelude.{◌≡◌, ℕ, Bool, List, [], ◌∷◌, ◌++◌, Option, Some, All, filter, flat_map, bytes_eq}
use Rattle.nextest_config_resolution_settings.specs.Nearest.{IsNearest}
use Rattle.nextest_config_resolution_overrides.specs.declared.override_id.OverrideId.{OverrideId}
use Rattle.nextest_config_resolution_overrides.specs.declared.placed_override.PlacedOverride.{PlacedOverride}
use Rattle.nextest_config_resolution_scripts.specs.declared.script_rule.PlacedScriptRule.{PlacedScriptRule}

-- where an override is written
abbrev pub id_of : PlacedOverride → OverrideId
id_of rule = rule.id

-- the name of the profile in which a rule is written
abbrev pub profile_of : PlacedOverride → List ℕ
profile_of rule = rule.id.profile

abbrev pub script_profile_of : PlacedScriptRule → List ℕ
script_profile_of rule = rule.id.profile

-- a rule of the profile of a name
abbrev pub is_of_profile : {R : Type 0} → (R → List ℕ) → List ℕ → R → Bool
is_of_profile profile_of name rule = bytes_eq (profile_of rule) name

-- those of a profile, in the order of all rules: the files from the highest, and in a file by index
abbrev pub rules_of_profile : {R : Type 0} → (R → List ℕ) → List R → List ℕ → List R
rules_of_profile profile_of all name = filter (is_of_profile profile_of name) all

-- those of a chain: of its profiles one after another
abbrev pub rules_of : {R : Type 0} → (R → List ℕ) → List R → List (List ℕ) → List R
rules_of profile_of all names = flat_map (rules_of_profile profile_of all) names

-- ---- rules that hold

-- these of some rules hold, in their order, and the others don't
pub data AreHeld {R : Type 0} (Holds : R → Type 0) : List R → List R → Type 0 where
  none_left : AreHeld Holds [] []
  holds_too : (rule : R) (rules held : List R) → Holds rule → AreHeld Holds rules held → AreHeld Holds (rule ∷ rules) (rule ∷ held)
  left_out : (rule : R) (rules held : List R) → ¬ Holds rule → AreHeld Holds rules held → AreHeld Holds (rule ∷ rules) held

-- a rule holds and sets a value
abbrev pub HoldsAndSets : {R V : Type 0} → (R → Type 0) → (R → Option V) → R → Type 0
HoldsAndSets {R} {V} Holds set_by rule = Holds rule × ((value : V) × (set_by rule ≡ Some value))

-- no rule of a list does
abbrev pub NoneHoldsAndSets : {R V : Type 0} → (R → Type 0) → (R → Option V) → List R → Type 0
NoneHoldsAndSets Holds set_by rules = All (λ rule. ¬ HoldsAndSets Holds set_by rule) rules

-- the least rule that holds and sets a value: none before it holds and sets one
pub record IsLeast {R V : Type 0} (Holds : R → Type 0) (set_by : R → Option V) (rules : List R) (rule : R) (value : V) : Type 0 where
  pub front : List R
  pub back : List R
  pub divided : rules ≡ front ++ rule ∷ back
  pub before : NoneHoldsAndSets Holds set_by front
  pub holds : Holds rule
  pub sets : set_by rule ≡ Some value

-- the nearest layer that sets a value is this rule
pub record IsNearestRule {R V : Type 0} (set_by : R → Option V) (rules : List R) (rule : R) (value : V) : Type 0 where
  pub place : ℕ
  pub nearest : IsNearest set_by rules place value
  pub is : nearest.layer ≡ rule
