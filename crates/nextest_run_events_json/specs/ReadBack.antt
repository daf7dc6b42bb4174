-- What is written is read as what it was.
use Rattle.std.specs.Prelude.{◌≡◌, ℤ, pos, negsuc, ℕ, ◌+◌, ◌^◌, codes, List, [], ◌∷◌, Bool, true, ◌&&◌, Some, None, Ok, Err, FitsSigned, refl, map, ⊤, if◌then◌else◌, option_and_then}
use Rattle.std.specs.Option.{option_map_or}
use Rattle.std.specs.Int.{w32}
use Rattle.std.proofs.Common.{ap, ◌∙◌, le_of_suc-le-suc, lt_of_lt_of_le}
use Rattle.std.proofs.lemmas.Bool.{le-leb, leb-true, lt-ltb}
use Rattle.serde_json.specs.Data.{boolean, string}
use Rattle.nextest_json.specs.Reading.{Reading, ◌>>=◌, under, each, text}
use Rattle.nextest_json.proofs.Lists.{listed_items}
use Rattle.nextest_run_events_json.specs.Forms as form
use Rattle.nextest_run_events_json.specs.Reading as read
use Rattle.nextest_run_events_json.specs.Laws.{FitsAbort, FitsFailure, FitsResult}
use Rattle.nextest_config_elements_choices.specs.declared.timeouts.LeakTimeoutResult as leak_judged
use Rattle.nextest_config_elements_choices.specs.declared.timeouts.SlowTimeoutResult as timeout_judged
use Rattle.nextest_run_events_results.specs.declared.result.AbortDescription.{AbortDescription}
use Rattle.nextest_run_events_results.specs.declared.result.AbortDescription.TheVariants as aborted
use Rattle.nextest_run_events_results.specs.declared.result.FailureDescription.{FailureDescription}
use Rattle.nextest_run_events_results.specs.declared.result.FailureDescription.TheVariants as failed
use Rattle.nextest_run_events_results.specs.declared.result.ExecutionResultDescription.{ExecutionResultDescription}
use Rattle.nextest_run_events_results.specs.declared.result.ExecutionResultDescription.TheVariants as ended
use Rattle.nextest_run_events_outputs.specs.declared.serializable_error.ErrorChain.{ErrorChain}

pub truth_back : (value : Bool) → ⊤ → read.truth (boolean value) ≡ Ok value
truth_back value h = refl

pub text_back : (value : List ℕ) → ⊤ → text (string value) ≡ Ok value
text_back value h = refl

pub leak_back : (value : leak_judged.LeakTimeoutResult) → ⊤ → read.leak (form.leak value) ≡ Ok value
leak_back leak_judged.TheVariants.Pass h = refl
leak_back leak_judged.TheVariants.Fail h = refl

pub timeout_back : (value : timeout_judged.SlowTimeoutResult) → ⊤ → read.timeout (form.timeout value) ≡ Ok value
timeout_back timeout_judged.TheVariants.Pass h = refl
timeout_back timeout_judged.TheVariants.Fail h = refl

pub whole_back : (value : ℤ) → FitsSigned w32 value → read.whole (form.whole value) ≡ Ok value
whole_back (pos n) h =
    ap (λ (fits : Bool). option_map_or Ok (option_and_then read.in_32_bits (if fits then Some (pos n) else None)) (Err []))
    (lt-ltb n (2 ^ 63) (lt_of_lt_of_le h.sfits (leb-true (2 ^ 31) (2 ^ 63) refl)))
    ∙ ap (λ (fits : Bool). option_map_or Ok (if fits then Some (pos n) else None) (Err [])) (le-leb n 2147483647 (le_of_suc-le-suc h.sfits))
whole_back (negsuc n) h =
    ap (λ (fits : Bool). option_map_or Ok (if fits && true then Some (negsuc n) else None) (Err [])) (le-leb n 2147483647 (le_of_suc-le-suc h.sfits))

pub abort_back : (value : AbortDescription) → FitsAbort value → read.abort (form.abort value) ≡ Ok value
abort_back (aborted.UnixSignal signal None) h = ap (λ whole. under (codes "signal") whole >>= λ signal. Ok (aborted.UnixSignal signal None)) (whole_back signal h)
abort_back (aborted.UnixSignal signal (Some name)) h = ap (λ whole. under (codes "signal") whole >>= λ signal. Ok (aborted.UnixSignal signal (Some name))) (whole_back signal h)
abort_back (aborted.WindowsNtStatus code None) h = ap (λ whole. under (codes "code") whole >>= λ code. Ok (aborted.WindowsNtStatus code None)) (whole_back code h)
abort_back (aborted.WindowsNtStatus code (Some message)) h = ap (λ whole. under (codes "code") whole >>= λ code. Ok (aborted.WindowsNtStatus code (Some message))) (whole_back code h)
abort_back aborted.WindowsJobObject h = refl

-- a failure with what reading its abort gives
abbrev with_abort : Reading AbortDescription → Reading FailureDescription
with_abort read = under (codes "abort") read >>= λ how. Ok (failed.Abort how)

pub failure_back : (value : FailureDescription) → FitsFailure value → read.failure (form.failure value) ≡ Ok value
failure_back (failed.ExitCode code) h = ap (λ whole. under (codes "code") whole >>= λ code. Ok (failed.ExitCode code)) (whole_back code h)
failure_back (failed.Abort (aborted.UnixSignal signal name)) h = ap with_abort (abort_back (aborted.UnixSignal signal name) h)
failure_back (failed.Abort (aborted.WindowsNtStatus code message)) h = ap with_abort (abort_back (aborted.WindowsNtStatus code message) h)
failure_back (failed.Abort aborted.WindowsJobObject) h = ap with_abort (abort_back aborted.WindowsJobObject h)

-- a failed result with what reading its failure gives
abbrev with_failure : Bool → Reading FailureDescription → Reading ExecutionResultDescription
with_failure leaked read = under (codes "failure") read >>= λ why. Ok (ended.Fail why leaked)

pub result_back : (value : ExecutionResultDescription) → FitsResult value → read.result (form.result value) ≡ Ok value
result_back ended.Pass h = refl
result_back (ended.Leak leak_judged.TheVariants.Pass) h = refl
result_back (ended.Leak leak_judged.TheVariants.Fail) h = refl
result_back (ended.Fail (failed.ExitCode code) leaked) h = ap (with_failure leaked) (failure_back (failed.ExitCode code) h)
result_back (ended.Fail (failed.Abort how) leaked) h = ap (with_failure leaked) (failure_back (failed.Abort how) h)
result_back ended.ExecFail h = refl
result_back (ended.Timeout timeout_judged.TheVariants.Pass) h = refl
result_back (ended.Timeout timeout_judged.TheVariants.Fail) h = refl

texts_back : (position : ℕ) (texts : List (List ℕ)) → each text position (map string texts) ≡ Ok texts
texts_back position [] = refl
texts_back position (first ∷ rest) = ap (λ read. read >>= λ more. Ok (first ∷ more)) (texts_back (position + 1) rest)

pub error_back : (value : ErrorChain) → ⊤ → read.error (form.error value) ≡ Ok value
error_back value h =
    ap (λ read. under (codes "causes") read >>= λ causes. Ok (record { message = value.message; causes = causes }))
    (ap (each text 0) (listed_items (map string value.causes)) ∙ texts_back 0 value.causes)
