-- What a run came to, and what several sub-runs come to together.
use Rattle.std.specs.Prelude.{ℕ, ◌≤◌, List, ◌∷◌, All, Contains, nat_lt, if◌then◌else◌}
use Rattle.nextest_run_events_counters.specs.Summary.{step_of}
use Rattle.nextest_run_events_counters.specs.declared.summary.FinalRunStats.{FinalRunStats}
use Rattle.nextest_run_events_counters.specs.declared.summary.FinalRunStats.TheVariants as summed
use Rattle.nextest_run_events_counters.specs.declared.summary.RunFailureStep.TheVariants as step
use Rattle.nextest_run_events_outcomes.specs.declared.outcome.RunOutcome.{RunOutcome}
use Rattle.nextest_run_events_outcomes.specs.declared.outcome.RunOutcome.TheVariants.{Success, NoTestsRun, Cancelled, Failed}

-- a summary without its reason and numbers
abbrev pub outcome_of : FinalRunStats → RunOutcome
outcome_of summed.Success = Success
outcome_of summed.NoTestsRun = NoTestsRun
outcome_of (summed.Cancelled reason kind) = Cancelled (step_of kind)
outcome_of (summed.Failed kind) = Failed (step_of kind)

-- outcomes rise in this order
abbrev pub rank : RunOutcome → ℕ
rank NoTestsRun = 0
rank Success = 1
rank (Cancelled step.Test) = 2
rank (Cancelled step.SetupScript) = 3
rank (Failed step.Test) = 4
rank (Failed step.SetupScript) = 5

-- the higher of two outcomes
abbrev pub higher_of : RunOutcome → RunOutcome → RunOutcome
higher_of a b = if nat_lt (rank a) (rank b) then b else a

-- the highest of these outcomes, or `NoTestsRun` where there is none
pub record IsHighest (outcomes : List RunOutcome) (it : RunOutcome) : Type 0 where
  pub among : Contains (NoTestsRun ∷ outcomes) it
  pub above : All (λ other. rank other ≤ rank it) (NoTestsRun ∷ outcomes)
