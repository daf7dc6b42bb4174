-- What the laws say, of rules in their order, those of them that hold, and which value each sets.
use Rattle.std.specs.Prelude.{◌≡◌, ℕ, Bool, true, List, Option, filter}
use Rattle.nextest_config_resolution_settings.specs.Nearest.{IsNearest, SetsNone}
use Rattle.nextest_config_resolution_settings.specs.Rules.{AreHeld, IsLeast, IsNearestRule, NoneHoldsAndSets}

-- a rule holds
abbrev pub Holding : {R : Type 0} → (R → Bool) → R → Type 0
Holding holds rule = holds rule ≡ true

-- some of the rules hold, and these are the ones that a test finds
abbrev pub SomeHeld : Type 0 → Type 0
SomeHeld R = (holds : R → Bool) (rules : List R) → AreHeld (Holding holds) rules (filter holds rules)

abbrev pub OneHeld : Type 0 → Type 0
OneHeld R = (holds : R → Bool) (rules held : List R) → AreHeld (Holding holds) rules held → held ≡ filter holds rules

-- the nearest of those that hold is the least rule
abbrev pub NearestIsLeast : {R V : Type 0} → (R → Option V) → Type 0
NearestIsLeast {R} {V} set_by =
    (holds : R → Bool) (rules held : List R) (place : ℕ) (value : V) → AreHeld (Holding holds) rules held
    → (n : IsNearest set_by held place value) → IsLeast (Holding holds) set_by rules n.layer value

-- the least rule is the nearest of those that hold
abbrev pub LeastIsNearest : {R V : Type 0} → (R → Option V) → Type 0
LeastIsNearest {R} {V} set_by =
    (holds : R → Bool) (rules held : List R) (rule : R) (value : V) → AreHeld (Holding holds) rules held
    → IsLeast (Holding holds) set_by rules rule value → IsNearestRule set_by held rule value

-- none of those that hold sets a value exactly if no rule holds and sets one
abbrev pub NoneIsLeast : {R V : Type 0} → (R → Option V) → Type 0
NoneIsLeast {R} {V} set_by =
    (holds : R → Bool) (rules held : List R) → AreHeld (Holding holds) rules held
    → (SetsNone set_by held → NoneHoldsAndSets (Holding holds) set_by rules) × (NoneHoldsAndSets (Holding holds) set_by rules → SetsNone set_by held)

-- there is at most one least rule, and one value of it
abbrev pub OneLeast : {R V : Type 0} → (R → Option V) → Type 0
OneLeast {R} {V} set_by =
    (holds : R → Bool) (rules : List R) (one other : R) (value second : V)
    → IsLeast (Holding holds) set_by rules one value → IsLeast (Holding holds) set_by rules other second → (one ≡ other) × (value ≡ second)
