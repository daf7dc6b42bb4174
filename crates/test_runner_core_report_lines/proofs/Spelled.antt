-- What a log line spells is reported as it is spelled.
use Rattle.std.proofs.Common.{◌≡◌, ℕ, true, false, List, [], ◌∷◌, ◌++◌, sym, ap, subst, ◌∙◌}
use Rattle.std.specs.Prelude.{Bool}
use Rattle.nextest_run_events_results.specs.declared.result.AbortDescription.TheVariants as aborted_by
use Rattle.nextest_run_events_results.specs.declared.result.FailureDescription.{FailureDescription}
use Rattle.nextest_run_events_results.specs.declared.result.FailureDescription.TheVariants as failed_by
use Rattle.nextest_run_events_results.specs.declared.result.ExecutionResultDescription.{ExecutionResultDescription}
use Rattle.nextest_run_events_results.specs.declared.result.ExecutionResultDescription.TheVariants as ended
use Rattle.test_runner_core_line_syntax.specs.Spelling.{SpellsFailure, SpellsResult, SpellsSlow, line_of_fields, leaked_suffix}
use Rattle.test_runner_core_report_lines.specs.Laws.{ResultIsSpelled, EndIsSpelled}
use Rattle.test_runner_core_report_lines.specs.Texts.{failure_text, result_text, slow_word}

failure_spelled : (failure : FailureDescription) (text : List ℕ) → SpellsFailure failure text → text ≡ failure_text failure
failure_spelled (failed_by.ExitCode code) text spelled = spelled.2
failure_spelled (failed_by.Abort (aborted_by.UnixSignal signal name)) text spelled = spelled.2
failure_spelled (failed_by.Abort (aborted_by.WindowsNtStatus code message)) text spelled = absurd spelled
failure_spelled (failed_by.Abort aborted_by.WindowsJobObject) text spelled = absurd spelled

result_told : (result : ExecutionResultDescription) (field : List ℕ) → SpellsResult result field → field ≡ result_text result
result_told ended.Pass field spelled = spelled
result_told (ended.Leak judged) field spelled = spelled
result_told (ended.Fail failure leaked) field spelled = spelled.2 ∙ ap (λ (text : List ℕ). text ++ leaked_suffix leaked) (failure_spelled failure spelled.0 spelled.1)
result_told ended.ExecFail field spelled = spelled
result_told (ended.Timeout judged) field spelled = spelled

slow_told : (slow : Bool) (field : List ℕ) → SpellsSlow slow field → field ≡ slow_word slow
slow_told true field spelled = spelled
slow_told false field spelled = spelled

pub result_is_spelled : ResultIsSpelled
result_is_spelled result field spelled = subst (SpellsResult result) (result_told result field spelled) spelled

pub end_is_spelled : EndIsSpelled
end_is_spelled told result slow nanos out err spelled =
    sym (ap (λ (first : List ℕ). line_of_fields (first ∷ slow ∷ nanos ∷ [])) (result_told told.result result spelled.0)
    ∙ ap (λ (second : List ℕ). line_of_fields (result_text told.result ∷ second ∷ nanos ∷ [])) (slow_told told.slow slow spelled.1)
    ∙ ap (λ (third : List ℕ). line_of_fields (result_text told.result ∷ slow_word told.slow ∷ third ∷ [])) spelled.2.1)
