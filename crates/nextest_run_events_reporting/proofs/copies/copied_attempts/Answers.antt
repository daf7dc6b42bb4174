use Rattle.std.proofs.Common.{◌≡◌, ap, sym, ◌∙◌}
use Rattle.std.proofs.lemmas.Result.{MatchResult-weaker}
use Rattle.nextest_run_events_reporting.proofs.Clones.{same_attempt, same_attempts}
use Rattle.nextest_run_events_reporting.proofs.copies.copied_attempts.Goals as goal

-- src/copies.rt
pub returns : goal.returns
returns c = MatchResult-weaker c.clone.result c.clone.ensures.cases
    (λ copy is.
    let attempts = c.args.attempts.now in
    let items = is.4.0.equal same_attempt in
    let statuses : copy.statuses ≡ attempts.statuses = ap (λ it. it.statuses) (sym is.3) ∙ items ∙ ap (λ it. it.statuses) is.2 in
    let flaky_result : copy.flaky_result ≡ attempts.flaky_result = ap (λ it. it.flaky_result) (sym is.3) ∙ is.4.1 ∙ ap (λ it. it.flaky_result) is.2 in
    same_attempts attempts copy statuses flaky_result)
    (λ _ _. tt)
