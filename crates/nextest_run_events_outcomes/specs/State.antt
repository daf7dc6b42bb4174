-- What a unit is doing.
use Rattle.std.specs.Prelude.{Bool, true, false}
use Rattle.nextest_run_events_outcomes.specs.declared.unit_state.UnitState.{UnitState}
use Rattle.nextest_run_events_outcomes.specs.declared.unit_state.UnitState.TheVariants as unit

-- an attempt that is still to come has no output
abbrev pub has_valid_output : UnitState → Bool
has_valid_output (unit.Running pid time_taken slow_after) = true
has_valid_output (unit.Exiting pid time_taken slow_after tentative waited remaining) = true
has_valid_output (unit.Terminating state) = true
has_valid_output (unit.Exited ended time_taken slow_after) = true
has_valid_output (unit.DelayBeforeNextAttempt previous slow waited remaining) = false
