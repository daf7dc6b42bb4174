use Rattle.std.proofs.Common.{◌≡◌, take}
use Rattle.std.specs.Prelude.{fold}
use Rattle.nextest_run_events_outcomes.specs.Outcome.{higher_of}
use Rattle.nextest_run_events_outcomes.specs.declared.outcome.RunOutcome.TheVariants.{NoTestsRun}
use Rattle.nextest_run_events_outcomes.proofs.outcome.RunOutcome.of_sub_runs.Given as goal

abbrev pub invariant-loop-outcome : goal.invariant-loop-outcome
invariant-loop-outcome l = l.highest ≡ fold higher_of NoTestsRun (take l.outcome-index l.outcomes)
