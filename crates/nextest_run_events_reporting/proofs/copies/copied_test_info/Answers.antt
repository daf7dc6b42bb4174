use Rattle.std.proofs.Common.{rules, ◌≡◌}
use Rattle.std.proofs.lemmas.Result.{MatchResult-weaker}
use Rattle.nextest_run_events_reporting.proofs.Clones.{same_run, same_state}
use Rattle.nextest_run_events_reporting.proofs.copies.copied_test_info.Goals as goal

-- src/copies.rt
pub returns : goal.returns
returns c = MatchResult-weaker c.clone.result c.clone.ensures.cases
    (λ copy is.
    let test = c.args.test.now in
    let stress_index : copy.stress_index ≡ test.stress_index = search (rules, is.0) in
    let test_instance : copy.test_instance ≡ test.test_instance = search (rules, is.1.0) in
    let retry_data : copy.retry_data ≡ test.retry_data = search (rules, is.1.1.0) in
    let state : copy.state ≡ test.state = same_state test.state copy.state is.1.1.1.0 in
    let output : copy.output ≡ test.output = same_run test.output copy.output is.1.1.1.1 in
    λ i. record { stress_index = stress_index i; test_instance = test_instance i; retry_data = retry_data i; state = state i; output = output i })
    (λ _ _. tt)
