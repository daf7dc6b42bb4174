use Rattle.std.proofs.lemmas.List.Sorted.{IsPermutation-cons, All-permutation, Contains-permutation}
use Rattle.std.proofs.Common.{◌≤◌, ◌∷◌}
use Rattle.nextest_run_events_outcomes.specs.Outcome.{rank}
use Rattle.nextest_run_events_outcomes.specs.declared.outcome.RunOutcome.TheVariants.{NoTestsRun}
use Rattle.nextest_run_events_outcomes.proofs.laws.in_any_order.Goals as goal

pub returns : goal.returns
returns c = λ outcomes others it moved highest.
    let all_moved = IsPermutation-cons NoTestsRun outcomes others moved in
    record {
      among = Contains-permutation (NoTestsRun ∷ outcomes) (NoTestsRun ∷ others) it all_moved highest.among;
      above = All-permutation (λ other. rank other ≤ rank it) (NoTestsRun ∷ outcomes) (NoTestsRun ∷ others) all_moved highest.above;
    }
