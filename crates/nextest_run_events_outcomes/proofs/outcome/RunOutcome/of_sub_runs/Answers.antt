use Rattle.std.proofs.Common.{◌≡◌, arith}
use Rattle.std.proofs.lemmas.Grind.{common_steps}
use Rattle.std.specs.Prelude.{fold}
use Rattle.nextest_run_events_outcomes.specs.Outcome.{higher_of}
use Rattle.nextest_run_events_outcomes.specs.declared.outcome.RunOutcome.TheVariants.{NoTestsRun}
use Rattle.nextest_run_events_outcomes.proofs.Highest.{fold_is_highest}
use Rattle.nextest_run_events_outcomes.proofs.outcome.RunOutcome.of_sub_runs.Goals as goal

pub returns : goal.returns
returns c =
    let same : c.loop-outcome.highest ≡ fold higher_of NoTestsRun c.args.outcomes.now = grind (arith, common_steps) in
    rw same (fold_is_highest c.args.outcomes.now)
