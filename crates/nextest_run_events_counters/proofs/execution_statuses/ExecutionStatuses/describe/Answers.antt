use Rattle.std.proofs.Common.{◌≡◌, ◌-◌, ◌<◌, List, [], ◌∷◌, length, take, drop, get_or, Some, true, false, ap, refl, arith, suc}
use Rattle.std.proofs.Math.Seq.{take-length}
use Rattle.nextest_config_elements_choices.specs.declared.timeouts.FlakyResult.{FlakyResult}
use Rattle.nextest_run_events_results.specs.Result.{is_success}
use Rattle.nextest_run_events_outputs.specs.declared.execute_status.ExecuteStatus.{ExecuteStatus}
use Rattle.nextest_run_events_counters.specs.Attempts.{last}
use Rattle.nextest_run_events_counters.specs.Description.{Success, Flaky, Failure, description_of}
use Rattle.nextest_run_events_counters.proofs.execution_statuses.ExecutionStatuses.describe.Goals as goal

failed : {S O : Type 0} (all : List (ExecuteStatus S O)) (rule : FlakyResult) (first final : ExecuteStatus S O)
    → 0 < length all → first ≡ get_or all 0 first → last all ≡ Some final → is_success final.result ≡ false
    → Some (Failure first final (take (length all - 1) (drop 1 all))) ≡ description_of all rule
failed [] rule first final some at_first at_last failure = absurd (omega arith)
failed (one ∷ retries) rule first final some at_first at_last failure =
    let e : suc (length retries) - 1 ≡ length retries = omega arith in
    let is_one : first ≡ one = at_first in
    rw (at_last, failure, e, take-length retries, is_one) refl

passed : {S O : Type 0} (all : List (ExecuteStatus S O)) (rule : FlakyResult) (final : ExecuteStatus S O)
    → 0 < length all → last all ≡ Some final → is_success final.result ≡ true → length all - 1 ≡ 0
    → Some (Success final) ≡ description_of all rule
passed [] rule final some at_last success lone = absurd (omega arith)
passed (one ∷ retries) rule final some at_last success lone =
    let none : length retries ≡ 0 = omega arith in
    rw (at_last, success, none) refl

passed_late : {S O : Type 0} (all : List (ExecuteStatus S O)) (rule : FlakyResult) (final : ExecuteStatus S O)
    → last all ≡ Some final → is_success final.result ≡ true → 0 < length all - 1
    → Some (Flaky final (take (length all - 1) all) rule) ≡ description_of all rule
passed_late [] rule final at_last success many = absurd (omega arith)
passed_late (one ∷ []) rule final at_last success many = absurd (omega arith)
passed_late (one ∷ two ∷ retries) rule final at_last success many =
    let e : suc (suc (length retries)) - 1 ≡ suc (length retries) = omega arith in
    rw (at_last, success, e) refl

pub returns-then-not-is_success-clause-description : goal.returns-then-not-is_success-clause-description
returns-then-not-is_success-clause-description g c =
    rw (← c.as_slice-statuses.ensures.statuses)
    (failed c.as_slice-statuses.result.now c.args.self.now.flaky_result _ _
    c.as_slice-statuses.ensures.not_empty c.index-statuses-0.is (cc) (cc))

pub returns-then-retry_count-eq0-clause-description : goal.returns-then-retry_count-eq0-clause-description
returns-then-retry_count-eq0-clause-description g c =
    rw (← c.as_slice-statuses.ensures.statuses)
    (passed c.as_slice-statuses.result.now c.args.self.now.flaky_result _
    c.as_slice-statuses.ensures.not_empty (cc) (cc) c.if-retry_count-eq0.true)

pub returns-else-retry_count-eq0-clause-description : goal.returns-else-retry_count-eq0-clause-description
returns-else-retry_count-eq0-clause-description g c =
    let rule : c.self.inside.flaky_result ≡ c.args.self.now.flaky_result = ap (λ it. it.flaky_result) c.self.view_is in
    rw (← c.as_slice-statuses.ensures.statuses, ← rule)
    (passed_late c.as_slice-statuses.result.now c.self.inside.flaky_result _ (cc) (cc) (omega arith))
