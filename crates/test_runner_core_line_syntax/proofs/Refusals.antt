-- Why what is refused spells nothing.
use Rattle.std.proofs.Common.{◌≡◌, ◌≢◌, ℕ, ◌<◌, ◌≤◌, Bool, true, false, List, ◌∷◌, ◌++◌, length, get_or, nat_eq, Option, Some, None, MatchBool, is_some, arith, refl, sym, ap, subst, ◌∙◌}
use Rattle.std.specs.Prelude.{ℤ, pos, FitsSigned, codes}
use Rattle.std.specs.Fmt.{signed_decimal}
use Rattle.std.specs.Int.{w32}
use Rattle.std.specs.List.{AllByRecursion}
use Rattle.std.specs.Str.Pattern.{FindsChar}
use Rattle.std.proofs.Math.Facts.{to_z-of_z}
use mir.Val.{to_z, of_z}
use Rattle.std.proofs.lemmas.Bool.{both_ways, eqb-true}
use Rattle.std.proofs.lemmas.Fmt.{signed_decimal_injective}
use Rattle.std.proofs.lemmas.List.{append_cancel_left, append_cancel_right, append-nil}
use Rattle.std.proofs.lemmas.List.Elements.{All-from_recursion, All-get_or, recursion_from_All, All-from_get_or}
use Rattle.std.proofs.lemmas.Str.Pattern.{contains_char}
use Rattle.memchr.specs.Find.{IsFirstByte, is_byte}
use Rattle.nextest_config_elements_choices.specs.declared.timeouts.LeakTimeoutResult as leak_judged
use Rattle.nextest_config_elements_choices.specs.declared.timeouts.SlowTimeoutResult as timeout_judged
use Rattle.nextest_run_events_results.specs.declared.result.AbortDescription.TheVariants as aborted_by
use Rattle.nextest_run_events_results.specs.declared.result.FailureDescription.{FailureDescription}
use Rattle.nextest_run_events_results.specs.declared.result.ExecutionResultDescription.{ExecutionResultDescription}
use Rattle.nextest_run_events_results.specs.declared.result.ExecutionResultDescription.TheVariants as ended
use Rattle.nextest_run_events_results.specs.declared.result.FailureDescription.TheVariants as failed_by
use Rattle.nextest_run_events_results.specs.declared.record.Record.{Record}
use Rattle.test_runner_core_line_syntax.specs.declared.log_line.LogLine.{LogLine}
use Rattle.test_runner_core_line_syntax.specs.declared.log_line.LogLine.TheVariants as line
use Rattle.test_runner_core_line_syntax.proofs.Apart.{apart, word_of}
use Rattle.test_runner_core_line_syntax.specs.Spelling.{IsSignal, SpellsFailure, SpellsResult, SpellsRecord, SpellsFields}
use Rattle.test_runner_core_line_syntax.proofs.Spellings.{mag_fits, mag_signal, failure_has_no_d, no_leaked_end, script_fields, start_fields, end_fields, stop_fields}

-- ---- a code of 0

-- the code 0 is no other code
pub zero_is : (code : ℤ) → FitsSigned w32 code → of_z w32 code ≡ 0 → code ≡ pos 0
zero_is code fits zero = sym (to_z-of_z fits) ∙ ap (to_z w32) zero

pub zero_code : (text digits : List ℕ) (code : ℤ) → text ≡ codes "fail:" ++ digits → digits ≡ signed_decimal code → FitsSigned w32 code → of_z w32 code ≡ 0
    → (told : FailureDescription) → SpellsFailure told text → ⊥
zero_code text digits code front back fits zero (failed_by.ExitCode other) spelled =
    let same : digits ≡ signed_decimal other = append_cancel_left (codes "fail:") digits (signed_decimal other) (sym front ∙ spelled.2) in
    spelled.1 (signed_decimal_injective other code (mag_fits other spelled.0) (mag_fits code fits) (sym same ∙ back) ∙ zero_is code fits zero)
zero_code text digits code front back fits zero (failed_by.Abort (aborted_by.UnixSignal signal name)) spelled =
    apart (codes "fail:" ++ digits) (codes "abort:" ++ signed_decimal signal) refl (sym front ∙ spelled.2)
zero_code text digits code front back fits zero (failed_by.Abort (aborted_by.WindowsNtStatus status message)) spelled = spelled
zero_code text digits code front back fits zero (failed_by.Abort aborted_by.WindowsJobObject) spelled = spelled

-- bits that aren't 0 are no code 0
pub other_code : (code : ℤ) → of_z w32 code ≢ 0 → code ≢ pos 0
other_code code bits zero = bits (ap (of_z w32) zero)

-- ---- a number that is no signal

pub no_signal : (text digits : List ℕ) → text ≡ codes "abort:" ++ digits → ((signal : ℤ) → IsSignal signal → digits ≢ signed_decimal signal)
    → (told : FailureDescription) → SpellsFailure told text → ⊥
no_signal text digits front none (failed_by.ExitCode code) spelled =
    apart (codes "abort:" ++ digits) (codes "fail:" ++ signed_decimal code) refl (sym front ∙ spelled.2)
no_signal text digits front none (failed_by.Abort (aborted_by.UnixSignal signal name)) spelled =
    none signal spelled.0 (append_cancel_left (codes "abort:") digits (signed_decimal signal) (sym front ∙ spelled.2))
no_signal text digits front none (failed_by.Abort (aborted_by.WindowsNtStatus status message)) spelled = spelled
no_signal text digits front none (failed_by.Abort aborted_by.WindowsJobObject) spelled = spelled

-- another number
pub other_number : (text digits : List ℕ) (number : ℤ) → text ≡ codes "abort:" ++ digits → digits ≡ signed_decimal number → FitsSigned w32 number → (IsSignal number → ⊥)
    → (told : FailureDescription) → SpellsFailure told text → ⊥
other_number text digits number front back fits other =
    no_signal text digits front (λ signal is same.
    other (subst IsSignal (signed_decimal_injective signal number (mag_signal signal is) (mag_fits number fits) (sym same ∙ back)) is))

-- ---- no failure, with or without `:leaked` behind it

pub no_leaked_failure : (field text : List ℕ) → field ≡ text ++ codes ":leaked" → ((told : FailureDescription) → SpellsFailure told text → ⊥)
    → (told : FailureDescription) (leaked : Bool) → SpellsResult (ended.Fail told leaked) field → ⊥
no_leaked_failure field text front none told true spelled =
    none told (subst (λ (x : List ℕ). SpellsFailure told x) (append_cancel_right spelled.0 text (codes ":leaked") (sym spelled.2 ∙ front)) spelled.1)
no_leaked_failure field text front none told false spelled =
    no_leaked_end text spelled.0 (failure_has_no_d told spelled.0 spelled.1) (sym (append-nil spelled.0) ∙ sym spelled.2 ∙ front)

-- ---- a result without its words

pub no_result : (field : List ℕ) → field ≢ codes "pass" → field ≢ codes "exec-fail" → field ≢ codes "leak:pass" → field ≢ codes "leak:fail" → field ≢ codes "timeout:pass" → field ≢ codes "timeout:fail"
    → ((told : FailureDescription) (leaked : Bool) → SpellsResult (ended.Fail told leaked) field → ⊥) → (told : ExecutionResultDescription) → SpellsResult told field → ⊥
no_result field pass exec_fail leak_pass leak_fail timeout_pass timeout_fail none ended.Pass spelled = pass spelled
no_result field pass exec_fail leak_pass leak_fail timeout_pass timeout_fail none (ended.Leak leak_judged.TheVariants.Pass) spelled = leak_pass spelled
no_result field pass exec_fail leak_pass leak_fail timeout_pass timeout_fail none (ended.Leak leak_judged.TheVariants.Fail) spelled = leak_fail spelled
no_result field pass exec_fail leak_pass leak_fail timeout_pass timeout_fail none (ended.Fail told leaked) spelled = none told leaked spelled
no_result field pass exec_fail leak_pass leak_fail timeout_pass timeout_fail none ended.ExecFail spelled = exec_fail spelled
no_result field pass exec_fail leak_pass leak_fail timeout_pass timeout_fail none (ended.Timeout timeout_judged.TheVariants.Pass) spelled = timeout_pass spelled
no_result field pass exec_fail leak_pass leak_fail timeout_pass timeout_fail none (ended.Timeout timeout_judged.TheVariants.Fail) spelled = timeout_fail spelled

-- ---- an event without its record, or without its word

abbrev SpellsNoRecord : List (List ℕ) → Type 0
SpellsNoRecord fields = (told : Record) → SpellsRecord told fields → ⊥

pub script_without_record : (id : List ℕ) (fields : List (List ℕ)) → SpellsNoRecord fields → (told : LogLine) → SpellsFields told (codes "script" ∷ id ∷ fields) → ⊥
script_without_record id fields none (line.Script name told) spelled = none told spelled.2
script_without_record id fields none (line.Start binary name) spelled = let are = start_fields binary name (codes "script" ∷ id ∷ fields) spelled in cc
script_without_record id fields none (line.End binary name told) spelled = let are = (end_fields binary name told (codes "script" ∷ id ∷ fields) spelled).are in cc
script_without_record id fields none (line.Stop reason) spelled = apart (codes "script") (codes "stop") refl (ap word_of (stop_fields reason (codes "script" ∷ id ∷ fields) spelled).are)

pub end_without_record : (binary name : List ℕ) (fields : List (List ℕ)) → SpellsNoRecord fields → (told : LogLine) → SpellsFields told (codes "end" ∷ binary ∷ name ∷ fields) → ⊥
end_without_record binary name fields none (line.Script id told) spelled = let are = (script_fields id told (codes "end" ∷ binary ∷ name ∷ fields) spelled).are in cc
end_without_record binary name fields none (line.Start first second) spelled = let are = start_fields first second (codes "end" ∷ binary ∷ name ∷ fields) spelled in cc
end_without_record binary name fields none (line.End first second told) spelled = none told spelled.3
end_without_record binary name fields none (line.Stop reason) spelled = apart (codes "end") (codes "stop") refl (ap word_of (stop_fields reason (codes "end" ∷ binary ∷ name ∷ fields) spelled).are)

pub unknown_word : (word : List ℕ) (fields : List (List ℕ)) → word ≢ codes "script" → word ≢ codes "start" → word ≢ codes "end" → word ≢ codes "stop" → (told : LogLine) → SpellsFields told (word ∷ fields) → ⊥
unknown_word word fields not_script not_start not_end not_stop (line.Script id told) spelled = let are = (script_fields id told (word ∷ fields) spelled).are in not_script cc
unknown_word word fields not_script not_start not_end not_stop (line.Start binary name) spelled = let are = start_fields binary name (word ∷ fields) spelled in not_start cc
unknown_word word fields not_script not_start not_end not_stop (line.End binary name told) spelled = let are = (end_fields binary name told (word ∷ fields) spelled).are in not_end cc
unknown_word word fields not_script not_start not_end not_stop (line.Stop reason) spelled = let are = (stop_fields reason (word ∷ fields) spelled).are in not_stop cc

-- ---- a byte that must not stand in a text

-- what `contains` says of an ASCII character
abbrev SaysOfByte : ℕ → List ℕ → Bool → Type 0
SaysOfByte ascii bytes has = MatchBool has ((i : ℕ) × (j : ℕ) × FindsChar ascii bytes (Some (i, j)) × (i ≤ j) × (j ≤ length bytes)) (FindsChar ascii bytes None)

pub byte_found : (ascii : ℕ) (bytes : List ℕ) (has : Bool) → ascii < 128 → SaysOfByte ascii bytes has → has ≡ true → AllByRecursion (λ byte. byte ≢ ascii) bytes → ⊥
byte_found ascii bytes has low says found none =
    let place = (contains_char ascii bytes has says low).0 found in
    All-get_or (λ byte. byte ≢ ascii) bytes place.0 0 place.1 (All-from_recursion (λ byte. byte ≢ ascii) bytes none) place.2

pub byte_none : (ascii : ℕ) (bytes : List ℕ) (has : Bool) → ascii < 128 → SaysOfByte ascii bytes has → has ≡ false → AllByRecursion (λ byte. byte ≢ ascii) bytes
byte_none ascii bytes has low says none =
    recursion_from_All (λ byte. byte ≢ ascii) bytes (All-from_get_or (λ byte. byte ≢ ascii) bytes 0 (λ i lt same.
    both_ways has none ((contains_char ascii bytes has says low).1 i lt same)))

-- what a search for a line feed says
pub feed_found : (bytes : List ℕ) (found : Option ℕ) → IsFirstByte (is_byte 10) bytes found → is_some found ≡ true → AllByRecursion (λ byte. byte ≢ 10) bytes → ⊥
feed_found bytes None first some none = cc
feed_found bytes (Some at) first some none =
    All-get_or (λ byte. byte ≢ 10) bytes at 0 first.0.high (All-from_recursion (λ byte. byte ≢ 10) bytes none) (eqb-true (get_or bytes at 0) 10 first.1)

pub feed_none : (bytes : List ℕ) (found : Option ℕ) → IsFirstByte (is_byte 10) bytes found → is_some found ≡ false → AllByRecursion (λ byte. byte ≢ 10) bytes
feed_none bytes None first none =
    recursion_from_All (λ byte. byte ≢ 10) bytes (All-from_get_or (λ byte. byte ≢ 10) bytes 0 (λ at less ten. first at (omega arith) less (eqb-same ten)))
  where
    eqb-same : {byte : ℕ} → byte ≡ 10 → nat_eq byte 10 ≡ true
    eqb-same ten = rw ten refl
feed_none bytes (Some at) first none = cc
