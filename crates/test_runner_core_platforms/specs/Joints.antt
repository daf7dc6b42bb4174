-- What conditions come to that are joined, and what a condition comes to by a part of it.
use Rattle.std.specs.Prelude.{Bool, true, false, List, Option, None, Some}
use Rattle.test_runner_core_platforms.specs.Spec.{Conditions}
use Rattle.test_runner_core_platforms.specs.Meaning.{both, either, value_of_all, value_of_any}
use Rattle.test_runner_core_platforms.specs.declared.fact.Fact.{Fact}
use Rattle.test_runner_core_platforms.specs.declared.outcomes.Outcomes.{Outcomes}
use Rattle.test_runner_core_platforms.specs.declared.part.Joint.{Joint}
use Rattle.test_runner_core_platforms.specs.declared.part.Joint.TheVariants as joints

-- no conditions at all
abbrev pub none_by : Joint → Option Bool
none_by joints.All = Some true
none_by joints.Any = Some false

-- two
abbrev pub join_by : Joint → Option Bool → Option Bool → Option Bool
join_by joints.All = both
join_by joints.Any = either

-- conditions
abbrev pub value_by : Joint → List Fact → Conditions → Option Bool
value_by joints.All = value_of_all
value_by joints.Any = value_of_any

-- a condition, where a part of it comes to this
abbrev pub outcome : Outcomes → Option Bool → Option Bool
outcome it (Some true) = it.holds
outcome it (Some false) = it.fails
outcome it None = it.unknown
