-- What is spelled tells what it was spelled from, and the other way round.
use Rattle.std.proofs.Common.{◌≡◌, ◌≢◌, ℕ, suc, ◌^◌, ◌<◌, Bool, true, false, nat_eq, List, [], ◌∷◌, ◌++◌, length, get_or, Option, Some, None, refl, sym, ap, subst, ◌∙◌, arith, lit<}
use Rattle.std.specs.Prelude.{ℤ, pos, negsuc, FitsSigned, codes, decimal, ◌&&◌, not}
use Rattle.std.specs.Fmt.{signed_decimal}
use Rattle.std.specs.Int.{w32, IsInRange}
use Rattle.std.specs.Int.Signed.{mag}
use Rattle.std.specs.List.{AllByRecursion}
use Rattle.std.proofs.lemmas.Bool.{eqb-false, not-true, and_parts}
use Rattle.std.proofs.lemmas.Fmt.{decimal_injective, signed_decimal_injective, digits_decimal}
use Rattle.std.proofs.lemmas.List.{append_cancel_left, append_cancel_right, append-nil}
use Rattle.std.proofs.lemmas.List.Elements.{recursion_from_All, All-from_get_or}
use Rattle.std.proofs.lemmas.Str.Parse.{numerals_by_value, tells_by_index}
use Rattle.nextest_config_elements_choices.specs.declared.timeouts.LeakTimeoutResult as leak_judged
use Rattle.nextest_config_elements_choices.specs.declared.timeouts.SlowTimeoutResult as timeout_judged
use Rattle.nextest_run_events_results.specs.Signals.{signal_name}
use Rattle.nextest_run_events_results.specs.declared.cancel_reason.CancelReason.{CancelReason}
use Rattle.nextest_run_events_results.specs.declared.cancel_reason.CancelReason.TheVariants as why
use Rattle.nextest_run_events_results.specs.declared.result.AbortDescription.TheVariants as aborted_by
use Rattle.nextest_run_events_results.specs.declared.result.FailureDescription.{FailureDescription}
use Rattle.nextest_run_events_results.specs.declared.result.FailureDescription.TheVariants as failed_by
use Rattle.nextest_run_events_results.specs.declared.result.ExecutionResultDescription.{ExecutionResultDescription}
use Rattle.nextest_run_events_results.specs.declared.result.ExecutionResultDescription.TheVariants as ended
use Rattle.nextest_run_events_results.specs.declared.record.Record.{Record}
use Rattle.nextest_run_events_results.specs.declared.record.RecordOutput.{RecordOutput}
use Rattle.nextest_run_events_results.specs.declared.record.RecordOutput.TheVariants as wrote
use Rattle.test_runner_core_line_syntax.specs.declared.log_line.LogLine.{LogLine}
use Rattle.test_runner_core_line_syntax.specs.declared.log_line.LogLine.TheVariants as line
use Rattle.test_runner_core_line_syntax.proofs.Apart.{apart, word_of}
use Rattle.test_runner_core_line_syntax.proofs.Hex.{hex_end, hex_is_one}
use Rattle.test_runner_core_line_syntax.specs.Spelling.{leak_word, timeout_word, leaked_suffix, IsSignal, SpellsFailure, SpellsResult, SpellsSlow, SpellsNanos, SpellsHex, SpellsStream, SpellsOutput, Pairs, is_exec_fail, has_message, SpellsRecord, reason_word, SpellsReason, SpellsFields}

-- ---- a failure

pub mag_fits : (code : ℤ) → FitsSigned w32 code → mag code < 2 ^ 63
mag_fits code fits = let small : mag code < 2 ^ 31 = fits.sfits in omega arith

pub mag_signal : (signal : ℤ) → IsSignal signal → mag signal < 2 ^ 63
mag_signal signal is = let small : is.0 < 128 = is.3 in rw is.1 (omega arith)

abbrev a_code : List ℕ → ℤ → Type 0
a_code text code = text ≡ codes "fail:" ++ signed_decimal code

abbrev a_signal : List ℕ → ℤ → Type 0
a_signal text signal = text ≡ codes "abort:" ++ signed_decimal signal

code_is_one : (x y : ℤ) (text : List ℕ) → FitsSigned w32 x → FitsSigned w32 y → a_code text x → a_code text y → x ≡ y
code_is_one x y text fits_x fits_y is_x is_y =
    signed_decimal_injective x y (mag_fits x fits_x) (mag_fits y fits_y) (append_cancel_left (codes "fail:") (signed_decimal x) (signed_decimal y) (sym is_x ∙ is_y))

signal_is_one : (x y : ℤ) (text : List ℕ) → IsSignal x → IsSignal y → a_signal text x → a_signal text y → x ≡ y
signal_is_one x y text fits_x fits_y is_x is_y =
    signed_decimal_injective x y (mag_signal x fits_x) (mag_signal y fits_y) (append_cancel_left (codes "abort:") (signed_decimal x) (signed_decimal y) (sym is_x ∙ is_y))

-- no text is a code and a signal
code_or_signal : (code signal : ℤ) (text : List ℕ) → a_code text code → a_signal text signal → ⊥
code_or_signal code signal text is_code is_signal = apart (codes "fail:" ++ signed_decimal code) (codes "abort:" ++ signed_decimal signal) refl (sym is_code ∙ is_signal)

abort_same : (x y : ℤ) (of_x of_y : Option (List ℕ)) → x ≡ y → of_x ≡ of_y
    → ◌≡◌ {A = FailureDescription} (failed_by.Abort (aborted_by.UnixSignal x of_x)) (failed_by.Abort (aborted_by.UnixSignal y of_y))
abort_same x y of_x of_y signals names = cc

failure_is_one : (a b : FailureDescription) (text : List ℕ) → SpellsFailure a text → SpellsFailure b text → a ≡ b
failure_is_one (failed_by.ExitCode x) (failed_by.ExitCode y) text of_a of_b = ap (λ (code : ℤ). failed_by.ExitCode code) (code_is_one x y text of_a.0 of_b.0 of_a.2 of_b.2)
failure_is_one (failed_by.ExitCode x) (failed_by.Abort (aborted_by.UnixSignal y of_y)) text of_a of_b = absurd (code_or_signal x y text of_a.2 of_b.2)
failure_is_one (failed_by.Abort (aborted_by.UnixSignal x of_x)) (failed_by.ExitCode y) text of_a of_b = absurd (code_or_signal y x text of_b.2 of_a.2)
failure_is_one (failed_by.Abort (aborted_by.UnixSignal x of_x)) (failed_by.Abort (aborted_by.UnixSignal y of_y)) text of_a of_b =
    let same = signal_is_one x y text of_a.0 of_b.0 of_a.2 of_b.2 in
    abort_same x y of_x of_y same (of_a.1 ∙ ap signal_name same ∙ sym of_b.1)
failure_is_one (failed_by.Abort (aborted_by.WindowsNtStatus code message)) b text of_a of_b = absurd of_a
failure_is_one (failed_by.Abort aborted_by.WindowsJobObject) b text of_a of_b = absurd of_a
failure_is_one a (failed_by.Abort (aborted_by.WindowsNtStatus code message)) text of_a of_b = absurd of_b
failure_is_one a (failed_by.Abort aborted_by.WindowsJobObject) text of_a of_b = absurd of_b

failure_has_one : (told : FailureDescription) (x y : List ℕ) → SpellsFailure told x → SpellsFailure told y → x ≡ y
failure_has_one (failed_by.ExitCode code) x y of_x of_y = of_x.2 ∙ sym of_y.2
failure_has_one (failed_by.Abort (aborted_by.UnixSignal signal name)) x y of_x of_y = of_x.2 ∙ sym of_y.2
failure_has_one (failed_by.Abort (aborted_by.WindowsNtStatus code message)) x y of_x of_y = absurd of_x
failure_has_one (failed_by.Abort aborted_by.WindowsJobObject) x y of_x of_y = absurd of_x

-- ---- what stands behind a failure

-- no byte is the last one of `:leaked`, a `d`
abbrev pub HasNoD : List ℕ → Type 0
HasNoD text = AllByRecursion (λ byte. byte ≢ 100) text

no_d-append : (x y : List ℕ) → HasNoD x → HasNoD y → HasNoD (x ++ y)
no_d-append [] y left right = right
no_d-append (byte ∷ x) y left right = (left.0, no_d-append x y left.1 right)

abbrev lacks_d : List ℕ → Bool
lacks_d [] = true
lacks_d (byte ∷ bytes) = not (nat_eq byte 100) && lacks_d bytes

no_d_word : (bytes : List ℕ) → lacks_d bytes ≡ true → HasNoD bytes
no_d_word [] lacks = tt
no_d_word (byte ∷ bytes) lacks =
    let parts = and_parts (not (nat_eq byte 100)) (lacks_d bytes) lacks in
    ((λ d. eqb-false byte 100 (not-true (nat_eq byte 100) parts.0) d), no_d_word bytes parts.1)

no_d_behind : (x y : List ℕ) → HasNoD (x ++ y) → HasNoD y
no_d_behind [] y all = all
no_d_behind (byte ∷ x) y all = no_d_behind x y all.1

no_d_digits : (digits : List ℕ) → ((i : ℕ) → i < length digits → IsInRange 48 57 (get_or digits i 0)) → HasNoD digits
no_d_digits digits each =
    let P : ℕ → Type 0 = λ byte. byte ≢ 100 in
    recursion_from_All P digits (All-from_get_or P digits 0 (λ i lt. let digit = each i lt in (λ d. absurd (omega arith))))

no_d_decimal : (n : ℕ) → n < 2 ^ 64 → HasNoD (decimal n)
no_d_decimal n small = no_d_digits (decimal n) (digits_decimal (numerals_by_value (λ ds. (i : ℕ) → i < length ds → IsInRange 48 57 (get_or ds i 0)) tells_by_index) n small)

no_d_signed : (z : ℤ) → mag z < 2 ^ 63 → HasNoD (signed_decimal z)
no_d_signed (pos n) small = no_d_decimal n (omega arith)
no_d_signed (negsuc n) small = ((λ d. eqb-false 45 100 refl d), no_d_decimal (suc n) (omega arith))

pub failure_has_no_d : (told : FailureDescription) (text : List ℕ) → SpellsFailure told text → HasNoD text
failure_has_no_d (failed_by.ExitCode code) text spelled =
    subst HasNoD (sym spelled.2) (no_d-append (codes "fail:") (signed_decimal code) (no_d_word (codes "fail:") refl) (no_d_signed code (mag_fits code spelled.0)))
failure_has_no_d (failed_by.Abort (aborted_by.UnixSignal signal name)) text spelled =
    subst HasNoD (sym spelled.2) (no_d-append (codes "abort:") (signed_decimal signal) (no_d_word (codes "abort:") refl) (no_d_signed signal (mag_signal signal spelled.0)))
failure_has_no_d (failed_by.Abort (aborted_by.WindowsNtStatus code message)) text spelled = absurd spelled
failure_has_no_d (failed_by.Abort aborted_by.WindowsJobObject) text spelled = absurd spelled

-- a text with no `d` doesn't end in `:leaked`
pub no_leaked_end : (front text : List ℕ) → HasNoD text → text ≡ front ++ codes ":leaked" → ⊥
no_leaked_end front text none same = (no_d_behind front (codes ":leaked") (subst HasNoD same none)).1.1.1.1.1.1.0 refl

-- so what stands before `:leaked`, and whether it stands there, are known
pub suffix_is_one : (x y : List ℕ) (a b : Bool) → HasNoD x → HasNoD y → x ++ leaked_suffix a ≡ y ++ leaked_suffix b → (x ≡ y) × (a ≡ b)
suffix_is_one x y true true none_x none_y same = (append_cancel_right x y (codes ":leaked") same, refl)
suffix_is_one x y true false none_x none_y same = absurd (no_leaked_end x y none_y (sym (append-nil y) ∙ sym same))
suffix_is_one x y false true none_x none_y same = absurd (no_leaked_end y x none_x (sym (append-nil x) ∙ same))
suffix_is_one x y false false none_x none_y same = (sym (append-nil x) ∙ same ∙ append-nil y, refl)

-- ---- a result

-- the first byte of its field
abbrev first_byte : ExecutionResultDescription → ℕ
first_byte ended.Pass = 112
first_byte (ended.Leak judged) = 108
first_byte (ended.Fail (failed_by.ExitCode code) leaked) = 102
first_byte (ended.Fail (failed_by.Abort abort) leaked) = 97
first_byte ended.ExecFail = 101
first_byte (ended.Timeout judged) = 116

first_of_field : (told : ExecutionResultDescription) (field : List ℕ) → SpellsResult told field → (rest : List ℕ) × (field ≡ first_byte told ∷ rest)
first_of_field ended.Pass field spelled = (codes "ass", spelled)
first_of_field (ended.Leak judged) field spelled = (codes "eak:" ++ leak_word judged, spelled)
first_of_field (ended.Fail (failed_by.ExitCode code) leaked) field spelled =
    ((codes "ail:" ++ signed_decimal code) ++ leaked_suffix leaked, spelled.2 ∙ ap (λ (text : List ℕ). text ++ leaked_suffix leaked) spelled.1.2)
first_of_field (ended.Fail (failed_by.Abort (aborted_by.UnixSignal signal name)) leaked) field spelled =
    ((codes "bort:" ++ signed_decimal signal) ++ leaked_suffix leaked, spelled.2 ∙ ap (λ (text : List ℕ). text ++ leaked_suffix leaked) spelled.1.2)
first_of_field (ended.Fail (failed_by.Abort (aborted_by.WindowsNtStatus code message)) leaked) field spelled = absurd spelled.1
first_of_field (ended.Fail (failed_by.Abort aborted_by.WindowsJobObject) leaked) field spelled = absurd spelled.1
first_of_field ended.ExecFail field spelled = (codes "xec-fail", spelled)
first_of_field (ended.Timeout judged) field spelled = (codes "imeout:" ++ timeout_word judged, spelled)

leak_is_one : (a b : leak_judged.LeakTimeoutResult) (field : List ℕ) → field ≡ codes "leak:" ++ leak_word a → field ≡ codes "leak:" ++ leak_word b → a ≡ b
leak_is_one leak_judged.TheVariants.Pass leak_judged.TheVariants.Pass field of_a of_b = refl
leak_is_one leak_judged.TheVariants.Pass leak_judged.TheVariants.Fail field of_a of_b = absurd (apart (codes "leak:pass") (codes "leak:fail") refl (sym of_a ∙ of_b))
leak_is_one leak_judged.TheVariants.Fail leak_judged.TheVariants.Pass field of_a of_b = absurd (apart (codes "leak:fail") (codes "leak:pass") refl (sym of_a ∙ of_b))
leak_is_one leak_judged.TheVariants.Fail leak_judged.TheVariants.Fail field of_a of_b = refl

timeout_is_one : (a b : timeout_judged.SlowTimeoutResult) (field : List ℕ) → field ≡ codes "timeout:" ++ timeout_word a → field ≡ codes "timeout:" ++ timeout_word b → a ≡ b
timeout_is_one timeout_judged.TheVariants.Pass timeout_judged.TheVariants.Pass field of_a of_b = refl
timeout_is_one timeout_judged.TheVariants.Pass timeout_judged.TheVariants.Fail field of_a of_b = absurd (apart (codes "timeout:pass") (codes "timeout:fail") refl (sym of_a ∙ of_b))
timeout_is_one timeout_judged.TheVariants.Fail timeout_judged.TheVariants.Pass field of_a of_b = absurd (apart (codes "timeout:fail") (codes "timeout:pass") refl (sym of_a ∙ of_b))
timeout_is_one timeout_judged.TheVariants.Fail timeout_judged.TheVariants.Fail field of_a of_b = refl

fail_same : (f g : FailureDescription) (a b : Bool) → f ≡ g → a ≡ b → ◌≡◌ {A = ExecutionResultDescription} (ended.Fail f a) (ended.Fail g b)
fail_same f g a b failures leaks = cc

fail_is_one : (f g : FailureDescription) (a b : Bool) (field : List ℕ) → SpellsResult (ended.Fail f a) field → SpellsResult (ended.Fail g b) field
    → ◌≡◌ {A = ExecutionResultDescription} (ended.Fail f a) (ended.Fail g b)
fail_is_one f g a b field of_f of_g =
    let parts = suffix_is_one of_f.0 of_g.0 a b (failure_has_no_d f of_f.0 of_f.1) (failure_has_no_d g of_g.0 of_g.1) (sym of_f.2 ∙ of_g.2) in
    fail_same f g a b (failure_is_one f g of_g.0 (subst (λ (text : List ℕ). SpellsFailure f text) parts.0 of_f.1) of_g.1) parts.1

-- fields that begin alike
same_kind : (a b : ExecutionResultDescription) (field : List ℕ) → first_byte a ≡ first_byte b → SpellsResult a field → SpellsResult b field → a ≡ b
same_kind ended.Pass ended.Pass field first of_a of_b = refl
same_kind (ended.Leak x) (ended.Leak y) field first of_a of_b = ap (λ (judged : leak_judged.LeakTimeoutResult). ended.Leak judged) (leak_is_one x y field of_a of_b)
same_kind (ended.Fail f a) (ended.Fail g b) field first of_a of_b = fail_is_one f g a b field of_a of_b
same_kind ended.ExecFail ended.ExecFail field first of_a of_b = refl
same_kind (ended.Timeout x) (ended.Timeout y) field first of_a of_b = ap (λ (judged : timeout_judged.SlowTimeoutResult). ended.Timeout judged) (timeout_is_one x y field of_a of_b)
same_kind ended.Pass (ended.Fail (failed_by.ExitCode code) leaked) field first of_a of_b = absurd (eqb-false (first_byte ended.Pass) (first_byte (ended.Fail (failed_by.ExitCode code) leaked)) refl first)
same_kind ended.Pass (ended.Fail (failed_by.Abort abort) leaked) field first of_a of_b = absurd (eqb-false (first_byte ended.Pass) (first_byte (ended.Fail (failed_by.Abort abort) leaked)) refl first)
same_kind ended.ExecFail (ended.Fail (failed_by.ExitCode code) leaked) field first of_a of_b = absurd (eqb-false (first_byte ended.ExecFail) (first_byte (ended.Fail (failed_by.ExitCode code) leaked)) refl first)
same_kind ended.ExecFail (ended.Fail (failed_by.Abort abort) leaked) field first of_a of_b = absurd (eqb-false (first_byte ended.ExecFail) (first_byte (ended.Fail (failed_by.Abort abort) leaked)) refl first)
same_kind (ended.Leak x) (ended.Fail (failed_by.ExitCode code) leaked) field first of_a of_b = absurd (eqb-false (first_byte (ended.Leak x)) (first_byte (ended.Fail (failed_by.ExitCode code) leaked)) refl first)
same_kind (ended.Leak x) (ended.Fail (failed_by.Abort abort) leaked) field first of_a of_b = absurd (eqb-false (first_byte (ended.Leak x)) (first_byte (ended.Fail (failed_by.Abort abort) leaked)) refl first)
same_kind (ended.Timeout x) (ended.Fail (failed_by.ExitCode code) leaked) field first of_a of_b = absurd (eqb-false (first_byte (ended.Timeout x)) (first_byte (ended.Fail (failed_by.ExitCode code) leaked)) refl first)
same_kind (ended.Timeout x) (ended.Fail (failed_by.Abort abort) leaked) field first of_a of_b = absurd (eqb-false (first_byte (ended.Timeout x)) (first_byte (ended.Fail (failed_by.Abort abort) leaked)) refl first)
same_kind (ended.Fail (failed_by.ExitCode code) leaked) b field first of_a of_b = absurd (eqb-false (first_byte (ended.Fail (failed_by.ExitCode code) leaked)) (first_byte b) refl first)
same_kind (ended.Fail (failed_by.Abort abort) leaked) b field first of_a of_b = absurd (eqb-false (first_byte (ended.Fail (failed_by.Abort abort) leaked)) (first_byte b) refl first)
same_kind a b field first of_a of_b = absurd (eqb-false (first_byte a) (first_byte b) refl first)

pub result_is_one : (a b : ExecutionResultDescription) (field : List ℕ) → SpellsResult a field → SpellsResult b field → a ≡ b
result_is_one a b field of_a of_b =
    let x = first_of_field a field of_a in
    let y = first_of_field b field of_b in
    let x_is = x.1 in
    let y_is = y.1 in
    let first : first_byte a ≡ first_byte b = cc in
    same_kind a b field first of_a of_b

result_has_one : (told : ExecutionResultDescription) (x y : List ℕ) → SpellsResult told x → SpellsResult told y → x ≡ y
result_has_one ended.Pass x y of_x of_y = of_x ∙ sym of_y
result_has_one (ended.Leak judged) x y of_x of_y = of_x ∙ sym of_y
result_has_one (ended.Fail failure leaked) x y of_x of_y =
    of_x.2 ∙ ap (λ (text : List ℕ). text ++ leaked_suffix leaked) (failure_has_one failure of_x.0 of_y.0 of_x.1 of_y.1) ∙ sym of_y.2
result_has_one ended.ExecFail x y of_x of_y = of_x ∙ sym of_y
result_has_one (ended.Timeout judged) x y of_x of_y = of_x ∙ sym of_y

-- ---- a reason

reason_is_one : (a b : CancelReason) (word : List ℕ) → word ≡ reason_word a → word ≡ reason_word b → a ≡ b
reason_is_one why.SetupScriptFailure why.SetupScriptFailure word of_a of_b = refl
reason_is_one why.TestFailure why.TestFailure word of_a of_b = refl
reason_is_one why.ReportError why.ReportError word of_a of_b = refl
reason_is_one why.TestFailureImmediate why.TestFailureImmediate word of_a of_b = refl
reason_is_one why.GlobalTimeout why.GlobalTimeout word of_a of_b = refl
reason_is_one why.Signal why.Signal word of_a of_b = refl
reason_is_one why.Interrupt why.Interrupt word of_a of_b = refl
reason_is_one why.SecondSignal why.SecondSignal word of_a of_b = refl
reason_is_one a b word of_a of_b = absurd (apart (reason_word a) (reason_word b) refl (sym of_a ∙ of_b))

-- ---- the other fields of a record

slow_is_one : (a b : Bool) (field : List ℕ) → SpellsSlow a field → SpellsSlow b field → a ≡ b
slow_is_one true true field of_a of_b = refl
slow_is_one true false field of_a of_b = cc
slow_is_one false true field of_a of_b = cc
slow_is_one false false field of_a of_b = refl

slow_has_one : (told : Bool) (x y : List ℕ) → SpellsSlow told x → SpellsSlow told y → x ≡ y
slow_has_one true x y of_x of_y = of_x ∙ sym of_y
slow_has_one false x y of_x of_y = of_x ∙ sym of_y

-- no bytes are spelled as a stream that was not captured
no_dash : (bytes : List ℕ) → SpellsHex bytes (codes "-") → ⊥
no_dash bytes spelled = absurd (cc (hex_end bytes (codes "-") (lit< tt) spelled).1)

hex_has_one : (bytes x y : List ℕ) → SpellsHex bytes x → SpellsHex bytes y → x ≡ y
hex_has_one bytes x y of_x of_y = of_x.1 ∙ sym of_y.1

stream_is_one : (a b : Option (List ℕ)) (field : List ℕ) → SpellsStream a field → SpellsStream b field → a ≡ b
stream_is_one None None field of_a of_b = refl
stream_is_one None (Some y) field of_a of_b = absurd (no_dash y (subst (λ (x : List ℕ). SpellsHex y x) of_a of_b))
stream_is_one (Some x) None field of_a of_b = absurd (no_dash x (subst (λ (y : List ℕ). SpellsHex x y) of_b of_a))
stream_is_one (Some x) (Some y) field of_a of_b = ap (λ (bytes : List ℕ). let o : Option (List ℕ) = Some bytes in o) (hex_is_one x y field of_a of_b)

stream_has_one : (told : Option (List ℕ)) (x y : List ℕ) → SpellsStream told x → SpellsStream told y → x ≡ y
stream_has_one None x y of_x of_y = of_x ∙ sym of_y
stream_has_one (Some bytes) x y of_x of_y = hex_has_one bytes x y of_x of_y

-- two outputs of one kind
output_is_one : (a b : RecordOutput) (out err : List ℕ) → has_message a ≡ has_message b → SpellsOutput a out err → SpellsOutput b out err → a ≡ b
output_is_one (wrote.Streams a_out a_err) (wrote.Streams b_out b_err) out err kinds of_a of_b =
    let same_out : a_out ≡ b_out = stream_is_one a_out b_out out of_a.0 of_b.0 in
    let same_err : a_err ≡ b_err = stream_is_one a_err b_err err of_a.1 of_b.1 in cc
output_is_one (wrote.Streams a_out a_err) (wrote.Message y) out err kinds of_a of_b = absurd cc
output_is_one (wrote.Message x) (wrote.Streams b_out b_err) out err kinds of_a of_b = absurd cc
output_is_one (wrote.Message x) (wrote.Message y) out err kinds of_a of_b = ap (λ (text : List ℕ). let o : RecordOutput = wrote.Message text in o) (hex_is_one x y out of_a.1 of_b.1)

output_has_one : (told : RecordOutput) (x_out x_err y_out y_err : List ℕ) → SpellsOutput told x_out x_err → SpellsOutput told y_out y_err → (x_out ≡ y_out) × (x_err ≡ y_err)
output_has_one (wrote.Streams out err) x_out x_err y_out y_err of_x of_y = (stream_has_one out x_out y_out of_x.0 of_y.0, stream_has_one err x_err y_err of_x.1 of_y.1)
output_has_one (wrote.Message message) x_out x_err y_out y_err of_x of_y = (hex_has_one message x_out y_out of_x.1 of_y.1, of_x.2 ∙ sym of_y.2)

-- ---- a record

-- its five fields
pub record FiveFields (told : Record) (fields : List (List ℕ)) : Type 0 where
  pub result : List ℕ
  pub slow : List ℕ
  pub nanos : List ℕ
  pub out : List ℕ
  pub err : List ℕ
  pub are : fields ≡ result ∷ slow ∷ nanos ∷ out ∷ err ∷ []
  pub spells_result : SpellsResult told.result result
  pub spells_slow : SpellsSlow told.slow slow
  pub spells_nanos : SpellsNanos told.nanos nanos
  pub spells_output : SpellsOutput told.output out err
  pub pairs : Pairs told.result told.output

pub five_fields : (told : Record) (fields : List (List ℕ)) → SpellsRecord told fields → FiveFields told fields
five_fields told [] spelled = absurd spelled
five_fields told (result ∷ []) spelled = absurd spelled
five_fields told (result ∷ slow ∷ []) spelled = absurd spelled
five_fields told (result ∷ slow ∷ nanos ∷ []) spelled = absurd spelled
five_fields told (result ∷ slow ∷ nanos ∷ out ∷ []) spelled = absurd spelled
five_fields told (result ∷ slow ∷ nanos ∷ out ∷ err ∷ []) spelled =
    record { result = result; slow = slow; nanos = nanos; out = out; err = err; are = refl; spells_result = spelled.0; spells_slow = spelled.1; spells_nanos = spelled.2; spells_output = spelled.3; pairs = spelled.4 }
five_fields told (result ∷ slow ∷ nanos ∷ out ∷ err ∷ next ∷ more) spelled = absurd spelled

record_same : (a b : Record) → a.result ≡ b.result → a.slow ≡ b.slow → a.nanos ≡ b.nanos → a.output ≡ b.output → a ≡ b
record_same a b result slow nanos output =
    ap (λ (x : ExecutionResultDescription). record { result = x; slow = a.slow; nanos = a.nanos; output = a.output }) result
    ∙ ap (λ (x : Bool). record { result = b.result; slow = x; nanos = a.nanos; output = a.output }) slow
    ∙ ap (λ (x : ℕ). record { result = b.result; slow = b.slow; nanos = x; output = a.output }) nanos
    ∙ ap (λ (x : RecordOutput). record { result = b.result; slow = b.slow; nanos = b.nanos; output = x }) output

nanos_is_one : (a b : ℕ) (field : List ℕ) → SpellsNanos a field → SpellsNanos b field → a ≡ b
nanos_is_one a b field of_a of_b = decimal_injective a b of_a.0 of_b.0 (sym of_a.1 ∙ of_b.1)

five_same : (a b c d e v w x y z : List ℕ) → a ≡ v → b ≡ w → c ≡ x → d ≡ y → e ≡ z → ◌≡◌ {A = List (List ℕ)} (a ∷ b ∷ c ∷ d ∷ e ∷ []) (v ∷ w ∷ x ∷ y ∷ z ∷ [])
five_same a b c d e v w x y z first second third fourth fifth = cc

record_is_one : (a b : Record) (fields : List (List ℕ)) → SpellsRecord a fields → SpellsRecord b fields → a ≡ b
record_is_one a b fields of_a of_b =
    let x = five_fields a fields of_a in
    let spelled : SpellsRecord b (x.result ∷ x.slow ∷ x.nanos ∷ x.out ∷ x.err ∷ []) = subst (λ (f : List (List ℕ)). SpellsRecord b f) x.are of_b in
    let results = result_is_one a.result b.result x.result x.spells_result spelled.0 in
    record_same a b results
    (slow_is_one a.slow b.slow x.slow x.spells_slow spelled.1)
    (nanos_is_one a.nanos b.nanos x.nanos x.spells_nanos spelled.2)
    (output_is_one a.output b.output x.out x.err (sym x.pairs ∙ ap is_exec_fail results ∙ spelled.4) x.spells_output spelled.3)

record_has_one : (told : Record) (first second : List (List ℕ)) → SpellsRecord told first → SpellsRecord told second → first ≡ second
record_has_one told first second of_first of_second =
    let x = five_fields told first of_first in
    let y = five_fields told second of_second in
    let result : x.result ≡ y.result = result_has_one told.result x.result y.result x.spells_result y.spells_result in
    let slow : x.slow ≡ y.slow = slow_has_one told.slow x.slow y.slow x.spells_slow y.spells_slow in
    let nanos : x.nanos ≡ y.nanos = x.spells_nanos.1 ∙ sym y.spells_nanos.1 in
    let output = output_has_one told.output x.out x.err y.out y.err x.spells_output y.spells_output in
    let are_x = x.are in
    let are_y = y.are in
    are_x ∙ five_same x.result x.slow x.nanos x.out x.err y.result y.slow y.nanos y.out y.err result slow nanos output.0 output.1 ∙ sym are_y

-- ---- an event

-- the record of an end, behind the fields before it
pub record EndsIn (before : List (List ℕ)) (told : Record) (fields : List (List ℕ)) : Type 0 where
  pub rest : List (List ℕ)
  pub are : fields ≡ before ++ rest
  pub spells : SpellsRecord told rest

pub script_fields : (id : List ℕ) (told : Record) (fields : List (List ℕ)) → SpellsFields (line.Script id told) fields → EndsIn (codes "script" ∷ id ∷ []) told fields
script_fields id told [] spelled = absurd spelled
script_fields id told (word ∷ []) spelled = absurd spelled
script_fields id told (word ∷ first ∷ rest) spelled =
    record { rest = rest; are = rw (spelled.0, spelled.1) refl; spells = spelled.2 }

pub start_fields : (binary name : List ℕ) (fields : List (List ℕ)) → SpellsFields (line.Start binary name) fields → fields ≡ codes "start" ∷ binary ∷ name ∷ []
start_fields binary name [] spelled = absurd spelled
start_fields binary name (word ∷ []) spelled = absurd spelled
start_fields binary name (word ∷ first ∷ []) spelled = absurd spelled
start_fields binary name (word ∷ first ∷ second ∷ []) spelled = rw (spelled.0, spelled.1, spelled.2) refl
start_fields binary name (word ∷ first ∷ second ∷ third ∷ more) spelled = absurd spelled

pub end_fields : (binary name : List ℕ) (told : Record) (fields : List (List ℕ)) → SpellsFields (line.End binary name told) fields → EndsIn (codes "end" ∷ binary ∷ name ∷ []) told fields
end_fields binary name told [] spelled = absurd spelled
end_fields binary name told (word ∷ []) spelled = absurd spelled
end_fields binary name told (word ∷ first ∷ []) spelled = absurd spelled
end_fields binary name told (word ∷ first ∷ second ∷ rest) spelled =
    record { rest = rest; are = rw (spelled.0, spelled.1, spelled.2) refl; spells = spelled.3 }

-- the reason of a stop
pub record StopsBy (reason : CancelReason) (fields : List (List ℕ)) : Type 0 where
  pub named : List ℕ
  pub are : fields ≡ codes "stop" ∷ named ∷ []
  pub spells : SpellsReason reason named

pub stop_fields : (reason : CancelReason) (fields : List (List ℕ)) → SpellsFields (line.Stop reason) fields → StopsBy reason fields
stop_fields reason [] spelled = absurd spelled
stop_fields reason (word ∷ []) spelled = absurd spelled
stop_fields reason (word ∷ named ∷ []) spelled = record { named = named; are = rw spelled.0 refl; spells = spelled.1 }
stop_fields reason (word ∷ named ∷ next ∷ more) spelled = absurd spelled

abbrev Line : Type 0
Line = LogLine

script_same : (x y : List ℕ) (a b : Record) → x ≡ y → a ≡ b → ◌≡◌ {A = Line} (line.Script x a) (line.Script y b)
script_same x y a b texts records = cc

start_same : (v w x y : List ℕ) → v ≡ x → w ≡ y → ◌≡◌ {A = Line} (line.Start v w) (line.Start x y)
start_same v w x y binaries names = cc

end_same : (v w x y : List ℕ) (a b : Record) → v ≡ x → w ≡ y → a ≡ b → ◌≡◌ {A = Line} (line.End v w a) (line.End x y b)
end_same v w x y a b binaries names records = cc

stop_same : (a b : CancelReason) → a ≡ b → ◌≡◌ {A = Line} (line.Stop a) (line.Stop b)
stop_same a b reasons = cc

-- two spellings of records behind as many texts
same_tail : (a b : Record) (first second : List (List ℕ)) → first ≡ second → SpellsRecord a first → SpellsRecord b second → a ≡ b
same_tail a b first second same of_a of_b = record_is_one a b second (subst (λ (f : List (List ℕ)). SpellsRecord a f) same of_a) of_b

pub line_is_one : (a b : LogLine) (fields : List (List ℕ)) → SpellsFields a fields → SpellsFields b fields → a ≡ b
line_is_one (line.Script i a) (line.Script j b) fields of_a of_b =
    let x = script_fields i a fields of_a in
    let y = script_fields j b fields of_b in
    let x_are = x.are in
    let y_are = y.are in
    let rests : x.rest ≡ y.rest = cc in
    let ids : i ≡ j = cc in
    script_same i j a b ids (same_tail a b x.rest y.rest rests x.spells y.spells)
line_is_one (line.Script i a) (line.Start v w) fields of_a of_b =
    let x_are = (script_fields i a fields of_a).are in
    let y_are = start_fields v w fields of_b in cc
line_is_one (line.Script i a) (line.End v w b) fields of_a of_b =
    let x_are = (script_fields i a fields of_a).are in
    let y_are = (end_fields v w b fields of_b).are in cc
line_is_one (line.Script i a) (line.Stop reason) fields of_a of_b =
    absurd (apart (codes "script") (codes "stop") refl (sym (ap word_of (script_fields i a fields of_a).are) ∙ ap word_of (stop_fields reason fields of_b).are))
line_is_one (line.Start v w) (line.Script i a) fields of_a of_b =
    let x_are = (script_fields i a fields of_b).are in
    let y_are = start_fields v w fields of_a in cc
line_is_one (line.Start v w) (line.Start x y) fields of_a of_b =
    let x_are = start_fields v w fields of_a in
    let y_are = start_fields x y fields of_b in
    let binaries : v ≡ x = cc in
    let names : w ≡ y = cc in
    start_same v w x y binaries names
line_is_one (line.Start v w) (line.End x y b) fields of_a of_b =
    let x_are = start_fields v w fields of_a in
    let y_are = (end_fields x y b fields of_b).are in cc
line_is_one (line.Start v w) (line.Stop reason) fields of_a of_b =
    absurd (apart (codes "start") (codes "stop") refl (sym (ap word_of (start_fields v w fields of_a)) ∙ ap word_of (stop_fields reason fields of_b).are))
line_is_one (line.End v w a) (line.Script i b) fields of_a of_b =
    let x_are = (end_fields v w a fields of_a).are in
    let y_are = (script_fields i b fields of_b).are in cc
line_is_one (line.End v w a) (line.Start x y) fields of_a of_b =
    let x_are = (end_fields v w a fields of_a).are in
    let y_are = start_fields x y fields of_b in cc
line_is_one (line.End v w a) (line.End x y b) fields of_a of_b =
    let f = end_fields v w a fields of_a in
    let g = end_fields x y b fields of_b in
    let f_are = f.are in
    let g_are = g.are in
    let rests : f.rest ≡ g.rest = cc in
    let binaries : v ≡ x = cc in
    let names : w ≡ y = cc in
    end_same v w x y a b binaries names (same_tail a b f.rest g.rest rests f.spells g.spells)
line_is_one (line.End v w a) (line.Stop reason) fields of_a of_b =
    absurd (apart (codes "end") (codes "stop") refl (sym (ap word_of (end_fields v w a fields of_a).are) ∙ ap word_of (stop_fields reason fields of_b).are))
line_is_one (line.Stop reason) (line.Script i b) fields of_a of_b =
    absurd (apart (codes "stop") (codes "script") refl (sym (ap word_of (stop_fields reason fields of_a).are) ∙ ap word_of (script_fields i b fields of_b).are))
line_is_one (line.Stop reason) (line.Start v w) fields of_a of_b =
    absurd (apart (codes "stop") (codes "start") refl (sym (ap word_of (stop_fields reason fields of_a).are) ∙ ap word_of (start_fields v w fields of_b)))
line_is_one (line.Stop reason) (line.End v w b) fields of_a of_b =
    absurd (apart (codes "stop") (codes "end") refl (sym (ap word_of (stop_fields reason fields of_a).are) ∙ ap word_of (end_fields v w b fields of_b).are))
line_is_one (line.Stop a) (line.Stop b) fields of_a of_b =
    let x = stop_fields a fields of_a in
    let y = stop_fields b fields of_b in
    let x_are = x.are in
    let y_are = y.are in
    let words : x.named ≡ y.named = cc in
    stop_same a b (reason_is_one a b x.named x.spells.1 (words ∙ y.spells.1))

pub line_has_one : (told : LogLine) (first second : List (List ℕ)) → SpellsFields told first → SpellsFields told second → first ≡ second
line_has_one (line.Script id told) first second of_first of_second =
    let x = script_fields id told first of_first in
    let y = script_fields id told second of_second in
    x.are ∙ ap (λ (rest : List (List ℕ)). codes "script" ∷ id ∷ rest) (record_has_one told x.rest y.rest x.spells y.spells) ∙ sym y.are
line_has_one (line.Start binary name) first second of_first of_second = start_fields binary name first of_first ∙ sym (start_fields binary name second of_second)
line_has_one (line.End binary name told) first second of_first of_second =
    let x = end_fields binary name told first of_first in
    let y = end_fields binary name told second of_second in
    x.are ∙ ap (λ (rest : List (List ℕ)). codes "end" ∷ binary ∷ name ∷ rest) (record_has_one told x.rest y.rest x.spells y.spells) ∙ sym y.are
line_has_one (line.Stop reason) first second of_first of_second =
    let x = stop_fields reason first of_first in
    let y = stop_fields reason second of_second in
    x.are ∙ ap (λ (named : List ℕ). codes "stop" ∷ named ∷ []) (x.spells.1 ∙ sym y.spells.1) ∙ sym y.are
