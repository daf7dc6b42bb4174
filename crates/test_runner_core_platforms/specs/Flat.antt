-- Conditions part by part: each operation stands right behind what it is over.
use Rattle.std.specs.Prelude.{◌≡◌, ℕ, ◌-◌, ◌==◌, if◌then◌else◌, List, [], ◌∷◌, ◌++◌, length}
use Rattle.test_runner_core_platforms.specs.Spec.{Condition, fact, fact_value, negation, all_of, any_of, Conditions, no_conditions, with_first}
use Rattle.test_runner_core_platforms.specs.declared.part.Joint.{Joint}
use Rattle.test_runner_core_platforms.specs.declared.part.Joint.TheVariants as joints
use Rattle.test_runner_core_platforms.specs.declared.part.Part.{Part}
use Rattle.test_runner_core_platforms.specs.declared.part.Part.TheVariants as part

-- these, and more behind them
abbrev pub append : Conditions → Conditions → Conditions
append no_conditions more = more
append (with_first it each) more = with_first it (append each more)

-- one more behind them
abbrev pub with_last : Conditions → Condition → Conditions
with_last each it = append each (with_first it no_conditions)

abbrev pub joined_by : Joint → Conditions → Condition
joined_by joints.All each = all_of each
joined_by joints.Any each = any_of each

-- ---- the parts of a condition

abbrev mutual
  pub flat : Condition → List Part
  flat (fact name) = part.Fact name ∷ []
  flat (fact_value name value) = part.FactValue name value ∷ []
  flat (negation it) = flat it ++ part.Not (length (flat it)) ∷ []
  flat (all_of each) = flat_all each ++ part.Joined joints.All (length (flat_all each)) ∷ []
  flat (any_of each) = flat_all each ++ part.Joined joints.Any (length (flat_all each)) ∷ []

  pub flat_all : Conditions → List Part
  flat_all no_conditions = []
  flat_all (with_first it each) = flat it ++ flat_all each

-- how many parts before a part belong to it
abbrev pub inside_of : Part → ℕ
inside_of (part.Fact name) = 0
inside_of (part.FactValue name value) = 0
inside_of (part.Not inside) = inside
inside_of (part.Joined joint inside) = inside

-- ---- the condition of parts

-- the last conditions, which have that many parts, in front of these; and those before them, the
-- last one first
abbrev pub last_conditions : ℕ → List Condition → Conditions → Conditions × List Condition
last_conditions count [] each = (each, [])
last_conditions count (it ∷ more) each = if count == 0 then (each, it ∷ more) else last_conditions (count - length (flat it)) more (with_first it each)

-- what a part makes of the conditions before it, the last one first
abbrev pub after_part : Part → List Condition → List Condition
after_part (part.Fact name) before = fact name ∷ before
after_part (part.FactValue name value) before = fact_value name value ∷ before
after_part (part.Not inside) [] = []
after_part (part.Not inside) (it ∷ before) = negation it ∷ before
after_part (part.Joined joint inside) before = joined_by joint (last_conditions inside before no_conditions).0 ∷ (last_conditions inside before no_conditions).1

-- what parts make of them
abbrev pub after : List Part → List Condition → List Condition
after [] before = before
after (first ∷ more) before = after more (after_part first before)

abbrev pub last_of : List Condition → Condition
last_of [] = fact []
last_of (last ∷ before) = last

-- the condition that parts make up
abbrev pub condition_of : List Part → Condition
condition_of parts = last_of (after parts [])

-- the conditions that they make up
abbrev pub conditions_of : List Part → Conditions
conditions_of parts = (last_conditions (length parts) (after parts []) no_conditions).0

-- they are the parts of a condition, and no more
abbrev pub IsFlat : List Part → Type 0
IsFlat parts = parts ≡ flat (condition_of parts)

-- they are those of conditions
abbrev pub AreFlat : List Part → Type 0
AreFlat parts = parts ≡ flat_all (conditions_of parts)

-- the parts of conditions are those of all but the last one, and those of the last one
pub record IsLastChild (parts ahead child : List Part) : Type 0 where
  pub whole : parts ≡ ahead ++ child
  pub ahead_flat : AreFlat ahead
  pub child_flat : IsFlat child
  pub each : conditions_of parts ≡ with_last (conditions_of ahead) (condition_of child)
