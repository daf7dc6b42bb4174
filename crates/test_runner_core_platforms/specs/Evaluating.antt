-- What the steps of an evaluation answer.
use Rattle.std.specs.Prelude.{◌≡◌, ◌<◌, ◌≤◌, Bool, List, length, Option, ◌⊎◌}
use Rattle.test_runner_core_platforms.specs.Flat.{condition_of, conditions_of, IsFlat}
use Rattle.test_runner_core_platforms.specs.Joints.{join_by, outcome, value_by}
use Rattle.test_runner_core_platforms.specs.Meaning.{condition_value}
use Rattle.test_runner_core_platforms.specs.declared.condition.Way.{Way}
use Rattle.test_runner_core_platforms.specs.declared.condition.Way.TheVariants as way
use Rattle.test_runner_core_platforms.specs.declared.fact.Fact.{Fact}
use Rattle.test_runner_core_platforms.specs.declared.outcomes.Outcomes.{Outcomes}
use Rattle.test_runner_core_platforms.specs.declared.part.Joint.{Joint}
use Rattle.test_runner_core_platforms.specs.declared.part.Part.{Part}

abbrev pub value_in : List Fact → List Part → Option Bool
value_in known parts = condition_value known (condition_of parts)

-- the value of a condition is told by that of a part of it
pub record LeadsInside (known : List Fact) (parts : List Part) (outcomes : Outcomes) (inside : List Part) : Type 0 where
  pub flat : IsFlat inside
  pub fewer : length inside < length parts
  pub value : outcome outcomes (value_in known inside) ≡ value_in known parts

-- the value is known, or told by that of a part
abbrev pub Leads : List Fact → List Part → Way → Type 0
Leads known parts (way.Known value) = value ≡ value_in known parts
Leads known parts (way.Inside outcomes inside) = LeadsInside known parts outcomes inside.now

-- two lists in either order
abbrev pub IsEither : List Part → List Part → List Part → List Part → Type 0
IsEither one other first second = ((first ≡ one) × (second ≡ other)) ⊎ ((first ≡ other) × (second ≡ one))

-- all conditions come to what all but one do, joined with that one
pub record IsApart (joint : Joint) (known : List Fact) (parts : List Part) (found : Option Bool) (largest : List Part) : Type 0 where
  pub flat : IsFlat largest
  pub within : length largest ≤ length parts
  pub value : join_by joint found (value_in known largest) ≡ value_by joint known (conditions_of parts)
