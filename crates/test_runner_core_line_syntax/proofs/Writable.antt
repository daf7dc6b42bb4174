-- Which events have a line: those whose texts can be fields, and whose record has a spelling.
use Rattle.std.proofs.Common.{◌≡◌, ◌≢◌, ℕ, suc, ◌^◌, ◌<◌, Bool, true, false, nat_eq, List, [], ◌∷◌, ◌++◌, length, get_or, Option, Some, None, refl, sym, ap, subst, ◌∙◌, append_assoc, arith, nat_lt, lit<}
use Rattle.std.specs.Prelude.{ℤ, pos, negsuc, FitsSigned, codes, decimal, ◌&&◌, not, IsTrue, IfSome, ◌↔◌}
use Rattle.std.specs.Fmt.{signed_decimal}
use Rattle.std.specs.Int.{w32, IsInRange}
use Rattle.std.specs.Int.Signed.{mag}
use mir.Val.{of_z}
use Rattle.std.specs.List.{AllByRecursion}
use Rattle.std.specs.Str.{IsUtf8, IsAscii}
use Rattle.std.proofs.lemmas.Bool.{both_ways, and_parts, ltb-true, eqb-true, eqb-false, not-true, not_from_false, false_from_ne_true}
use Rattle.std.proofs.lemmas.Fmt.{digits_decimal, IsAscii-signed, IsAscii-decimal}
use Rattle.std.proofs.lemmas.List.Elements.{recursion_from_All, All-from_get_or}
use Rattle.std.proofs.lemmas.Str.{IsUtf8-append, IsUtf8-from_ascii}
use Rattle.std.proofs.lemmas.Str.Ascii.{IsAscii-nil, IsAscii-cons}
use Rattle.std.proofs.lemmas.Str.Parse.{numerals_by_value, tells_by_index}
use Rattle.nextest_config_elements_choices.specs.declared.timeouts.LeakTimeoutResult as leak_judged
use Rattle.nextest_config_elements_choices.specs.declared.timeouts.SlowTimeoutResult as timeout_judged
use Rattle.nextest_run_events_results.specs.Cancel.{is_inner}
use Rattle.nextest_run_events_results.specs.Signals.{signal_name}
use Rattle.nextest_run_events_results.specs.declared.cancel_reason.CancelReason.{CancelReason}
use Rattle.nextest_run_events_results.specs.declared.cancel_reason.CancelReason.TheVariants as why
use Rattle.nextest_run_events_results.specs.declared.result.AbortDescription.TheVariants as aborted_by
use Rattle.nextest_run_events_results.specs.declared.result.FailureDescription.{FailureDescription}
use Rattle.nextest_run_events_results.specs.declared.result.ExecutionResultDescription.{ExecutionResultDescription}
use Rattle.nextest_run_events_results.specs.declared.result.ExecutionResultDescription.TheVariants as ended
use Rattle.nextest_run_events_results.specs.declared.result.FailureDescription.TheVariants as failed_by
use Rattle.nextest_run_events_results.specs.declared.record.Record.{Record}
use Rattle.nextest_run_events_results.specs.declared.record.RecordOutput.{RecordOutput}
use Rattle.nextest_run_events_results.specs.declared.record.RecordOutput.TheVariants as wrote
use Rattle.test_runner_core_line_syntax.specs.declared.log_line.LogLine.{LogLine}
use Rattle.test_runner_core_line_syntax.specs.declared.log_line.LogLine.TheVariants as line
use Rattle.test_runner_core_line_syntax.specs.Spelling.{leak_word, timeout_word, leaked_suffix, IsSignal, SpellsFailure, SpellsResult, reason_word, SpellsSlow, SpellsHex, SpellsStream, Pairs, SpellsOutput, SpellsRecord, SpellsFields, Spells, IsField, line_of_fields, HasSpelling}
use Rattle.test_runner_core_line_syntax.specs.Writing.{Appends, IsSpellable, SpellsBothStreams, SpellsRecordText}
use Rattle.hex.specs.Hex.{IsBytes, encode_lower, is_hex_digit, lower_digits}
use Rattle.hex.proofs.HexLemmas.{IsAscii-encode_with, decode_of-encode_lower, decode_of-ok}
use Rattle.test_runner_core_line_syntax.proofs.Lines.{spells_joined}
use Rattle.test_runner_core_line_syntax.proofs.Refusals.{zero_is, other_code}
use Rattle.test_runner_core_line_syntax.proofs.Spellings.{mag_fits, mag_signal, five_fields, script_fields, start_fields, end_fields, stop_fields}

-- ---- a field

-- it can stand between tabs
pub record IsWritable (field : List ℕ) : Type 0 where
  pub plain : IsField field
  pub utf8 : IsUtf8 field

IsField-append : (x y : List ℕ) → IsField x → IsField y → IsField (x ++ y)
IsField-append [] y left right = right
IsField-append (byte ∷ x) y left right = (left.0, IsField-append x y left.1 right)

IsWritable-append : (x y : List ℕ) → IsWritable x → IsWritable y → IsWritable (x ++ y)
IsWritable-append x y left right = record { plain = IsField-append x y left.plain right.plain; utf8 = IsUtf8-append x y left.utf8 right.utf8 }

-- each byte is above a line feed, and ASCII
abbrev are_graphic : List ℕ → Bool
are_graphic [] = true
are_graphic (byte ∷ bytes) = nat_lt 10 byte && (nat_lt byte 128 && are_graphic bytes)

graphic_field : (bytes : List ℕ) → are_graphic bytes ≡ true → IsField bytes
graphic_field [] graphic = tt
graphic_field (byte ∷ bytes) graphic =
    let first = and_parts (nat_lt 10 byte) (nat_lt byte 128 && are_graphic bytes) graphic in
    let second = and_parts (nat_lt byte 128) (are_graphic bytes) first.1 in
    let above : 10 < byte = ltb-true 10 byte first.0 in
    (((λ tab. absurd (omega arith)), (λ feed. absurd (omega arith))), graphic_field bytes second.1)

graphic_ascii : (bytes : List ℕ) → are_graphic bytes ≡ true → IsAscii bytes
graphic_ascii [] graphic = IsAscii-nil
graphic_ascii (byte ∷ bytes) graphic =
    let first = and_parts (nat_lt 10 byte) (nat_lt byte 128 && are_graphic bytes) graphic in
    let second = and_parts (nat_lt byte 128) (are_graphic bytes) first.1 in
    IsAscii-cons byte bytes (ltb-true byte 128 second.0) (graphic_ascii bytes second.1)

IsWritable-word : (bytes : List ℕ) → are_graphic bytes ≡ true → IsWritable bytes
IsWritable-word bytes graphic = record { plain = graphic_field bytes graphic; utf8 = IsUtf8-from_ascii bytes (graphic_ascii bytes graphic) }

digits_field : (digits : List ℕ) → ((i : ℕ) → i < length digits → IsInRange 48 57 (get_or digits i 0)) → IsField digits
digits_field digits each =
    let P : ℕ → Type 0 = λ byte. (byte ≢ 9) × (byte ≢ 10) in
    recursion_from_All P digits (All-from_get_or P digits 0 (λ i lt. let digit = each i lt in ((λ tab. absurd (omega arith)), (λ feed. absurd (omega arith)))))

decimal_field : (n : ℕ) → n < 2 ^ 64 → IsField (decimal n)
decimal_field n small = digits_field (decimal n) (digits_decimal (numerals_by_value (λ ds. (i : ℕ) → i < length ds → IsInRange 48 57 (get_or ds i 0)) tells_by_index) n small)

IsWritable-decimal : (n : ℕ) → n < 2 ^ 64 → IsWritable (decimal n)
IsWritable-decimal n small = record { plain = decimal_field n small; utf8 = IsUtf8-from_ascii (decimal n) (IsAscii-decimal n small) }

signed_field : (z : ℤ) → mag z < 2 ^ 63 → IsField (signed_decimal z)
signed_field (pos n) small = decimal_field n (omega arith)
signed_field (negsuc n) small = (((λ tab. cc), (λ feed. cc)), decimal_field (suc n) (omega arith))

IsWritable-signed : (z : ℤ) → mag z < 2 ^ 63 → IsWritable (signed_decimal z)
IsWritable-signed z small = record { plain = signed_field z small; utf8 = IsUtf8-from_ascii (signed_decimal z) (IsAscii-signed z small) }

-- ---- fields

fields_plain : (fields : List (List ℕ)) → AllByRecursion IsWritable fields → AllByRecursion IsField fields
fields_plain [] each = tt
fields_plain (field ∷ fields) each = (each.0.plain, fields_plain fields each.1)

tab_utf8 : (bytes : List ℕ) → IsUtf8 bytes → IsUtf8 (9 ∷ bytes)
tab_utf8 bytes utf8 = IsUtf8-append (9 ∷ []) bytes (IsUtf8-from_ascii (9 ∷ []) (IsAscii-cons 9 [] (lit< tt) IsAscii-nil)) utf8

fields_utf8 : (fields : List (List ℕ)) → AllByRecursion IsWritable fields → IsUtf8 (line_of_fields fields)
fields_utf8 [] each = IsUtf8-from_ascii [] IsAscii-nil
fields_utf8 (field ∷ []) each = each.0.utf8
fields_utf8 (field ∷ next ∷ fields) each = IsUtf8-append field (9 ∷ line_of_fields (next ∷ fields)) each.0.utf8 (tab_utf8 (line_of_fields (next ∷ fields)) (fields_utf8 (next ∷ fields) each.1))

-- fields that can be written spell the event on a line
pub writable : (event : LogLine) (fields : List (List ℕ)) → SpellsFields event fields → AllByRecursion IsWritable fields → HasSpelling event
writable event fields spelled each =
    (line_of_fields fields, record { fields = fields; spelled = spelled; plain = fields_plain fields each; whole = refl; utf8 = fields_utf8 fields each })

-- ---- a record

failure_writable : (told : FailureDescription) (text : List ℕ) → SpellsFailure told text → IsWritable text
failure_writable (failed_by.ExitCode code) text spelled =
    subst IsWritable (sym spelled.2) (IsWritable-append (codes "fail:") (signed_decimal code) (IsWritable-word (codes "fail:") refl) (IsWritable-signed code (mag_fits code spelled.0)))
failure_writable (failed_by.Abort (aborted_by.UnixSignal signal name)) text spelled =
    subst IsWritable (sym spelled.2) (IsWritable-append (codes "abort:") (signed_decimal signal) (IsWritable-word (codes "abort:") refl) (IsWritable-signed signal (mag_signal signal spelled.0)))
failure_writable (failed_by.Abort (aborted_by.WindowsNtStatus code message)) text spelled = absurd spelled
failure_writable (failed_by.Abort aborted_by.WindowsJobObject) text spelled = absurd spelled

suffix_writable : (leaked : Bool) → IsWritable (leaked_suffix leaked)
suffix_writable true = IsWritable-word (codes ":leaked") refl
suffix_writable false = IsWritable-word [] refl

result_writable : (told : ExecutionResultDescription) (field : List ℕ) → SpellsResult told field → IsWritable field
result_writable ended.Pass field spelled = subst IsWritable (sym spelled) (IsWritable-word (codes "pass") refl)
result_writable (ended.Leak leak_judged.TheVariants.Pass) field spelled = subst IsWritable (sym spelled) (IsWritable-word (codes "leak:pass") refl)
result_writable (ended.Leak leak_judged.TheVariants.Fail) field spelled = subst IsWritable (sym spelled) (IsWritable-word (codes "leak:fail") refl)
result_writable (ended.Fail failure leaked) field spelled =
    subst IsWritable (sym spelled.2) (IsWritable-append spelled.0 (leaked_suffix leaked) (failure_writable failure spelled.0 spelled.1) (suffix_writable leaked))
result_writable ended.ExecFail field spelled = subst IsWritable (sym spelled) (IsWritable-word (codes "exec-fail") refl)
result_writable (ended.Timeout timeout_judged.TheVariants.Pass) field spelled = subst IsWritable (sym spelled) (IsWritable-word (codes "timeout:pass") refl)
result_writable (ended.Timeout timeout_judged.TheVariants.Fail) field spelled = subst IsWritable (sym spelled) (IsWritable-word (codes "timeout:fail") refl)

slow_writable : (told : Bool) (field : List ℕ) → SpellsSlow told field → IsWritable field
slow_writable true field spelled = subst IsWritable (sym spelled) (IsWritable-word (codes "slow") refl)
slow_writable false field spelled = subst IsWritable (sym spelled) (IsWritable-word (codes "-") refl)

-- no digit is a tab or a line feed
digits_plain : (digits : List ℕ) → AllByRecursion (λ digit. is_hex_digit digit ≡ true) digits → IsField digits
digits_plain [] each = tt
digits_plain (digit ∷ digits) each =
    let is = each.0 in
    (((λ tab. both_ways (is_hex_digit digit) (ap is_hex_digit tab) is), (λ feed. both_ways (is_hex_digit digit) (ap is_hex_digit feed) is)), digits_plain digits each.1)

hex_writable : (bytes field : List ℕ) → SpellsHex bytes field → IsWritable field
hex_writable bytes field spelled =
    let digits = (decode_of-ok (encode_lower bytes) bytes (decode_of-encode_lower bytes spelled.0)).1 in
    subst IsWritable (sym spelled.1) (record {
      plain = digits_plain (encode_lower bytes) (recursion_from_All (λ digit. is_hex_digit digit ≡ true) (encode_lower bytes) digits);
      utf8 = IsUtf8-from_ascii (encode_lower bytes) (IsAscii-encode_with lower_digits bytes (graphic_ascii lower_digits refl));
    })

stream_writable : (told : Option (List ℕ)) (field : List ℕ) → SpellsStream told field → IsWritable field
stream_writable None field spelled = subst IsWritable (sym spelled) (IsWritable-word (codes "-") refl)
stream_writable (Some bytes) field spelled = hex_writable bytes field spelled

output_writable : (told : RecordOutput) (out err : List ℕ) → SpellsOutput told out err → IsWritable out × IsWritable err
output_writable (wrote.Streams first second) out err spelled = (stream_writable first out spelled.0, stream_writable second err spelled.1)
output_writable (wrote.Message message) out err spelled = (hex_writable message out spelled.1, subst IsWritable (sym spelled.2) (IsWritable-word (codes "-") refl))

pub record_writable : (told : Record) (fields : List (List ℕ)) → SpellsRecord told fields → AllByRecursion IsWritable fields
record_writable told fields spelled =
    let five = five_fields told fields spelled in
    let streams = output_writable told.output five.out five.err five.spells_output in
    subst (AllByRecursion IsWritable) (sym five.are) (
      result_writable told.result five.result five.spells_result,
      (
        slow_writable told.slow five.slow five.spells_slow,
        (
          subst IsWritable (sym five.spells_nanos.1) (IsWritable-decimal told.nanos five.spells_nanos.0),
          (streams.0, (streams.1, tt)),
        ),
      ),
    )

-- a code has a spelling just where it isn't 0
pub code_spellable : (code : ℤ) → FitsSigned w32 code → IsTrue (not (nat_eq (of_z w32 code) 0)) ↔ IsSpellable (SpellsFailure (failed_by.ExitCode code))
code_spellable code fits = (
  (λ other. (codes "fail:" ++ signed_decimal code, (fits, other_code code (eqb-false (of_z w32 code) 0 (not-true (nat_eq (of_z w32 code) 0) other)), refl))),
  (λ spellable. not_from_false (nat_eq (of_z w32 code) 0) (false_from_ne_true (nat_eq (of_z w32 code) 0) (λ zero.
      spellable.1.1 (zero_is code fits (eqb-true (of_z w32 code) 0 zero))))),
)

-- a leak or a timeout has a spelling, however it is judged
pub leak_spellable : (judged : leak_judged.LeakTimeoutResult) → IsTrue true ↔ IsSpellable (SpellsResult (ended.Leak judged))
leak_spellable judged = ((λ _. (codes "leak:" ++ leak_word judged, refl)), (λ _. refl))

pub timeout_spellable : (judged : timeout_judged.SlowTimeoutResult) → IsTrue true ↔ IsSpellable (SpellsResult (ended.Timeout judged))
timeout_spellable judged = ((λ _. (codes "timeout:" ++ timeout_word judged, refl)), (λ _. refl))

-- a failure has a spelling, whatever was left open, just where its text has one
pub fail_spellable : (failure : FailureDescription) (leaked : Bool) → IsSpellable (SpellsFailure failure) ↔ IsSpellable (SpellsResult (ended.Fail failure leaked))
fail_spellable failure leaked = (
  (λ spellable. (spellable.0 ++ leaked_suffix leaked, (spellable.0, spellable.1, refl))),
  (λ spellable. (spellable.1.0, spellable.1.1)),
)

-- an abort by a signal has a spelling just where the name is the signal's
pub signal_spellable : (signal : ℤ) (name : Option (List ℕ)) → IsSignal signal → (name ≡ signal_name signal) ↔ IsSpellable (SpellsFailure (failed_by.Abort (aborted_by.UnixSignal signal name)))
signal_spellable signal name is = (
  (λ named. (codes "abort:" ++ signed_decimal signal, (is, named, refl))),
  (λ spellable. spellable.1.1),
)

-- what could not be started has a spelling
pub exec_fail_spellable : IsTrue true ↔ IsSpellable (SpellsResult ended.ExecFail)
exec_fail_spellable = ((λ _. (codes "exec-fail", refl)), (λ _. refl))

pub stream_spellable : (told : Option (List ℕ)) → IfSome told IsBytes → IsSpellable (SpellsStream told)
stream_spellable None fits = (codes "-", refl)
stream_spellable (Some bytes) fits = (encode_lower bytes, (fits, refl))

pub streams_spellable : (out err : Option (List ℕ)) → IsSpellable (SpellsStream out) → IsSpellable (SpellsStream err) → IsSpellable (SpellsBothStreams (wrote.Streams out err))
streams_spellable out err first second = (first.0 ++ 9 ∷ second.0, (first.0, second.0, (first.1, second.1), refl))

pub message_spellable : (message : List ℕ) → IsUtf8 message → IsBytes message → IsSpellable (SpellsBothStreams (wrote.Message message))
message_spellable message utf8 fits = (encode_lower message ++ 9 ∷ codes "-", (encode_lower message, codes "-", (utf8, (fits, refl), refl), refl))

slow_text : (told : Bool) → (field : List ℕ) × SpellsSlow told field
slow_text true = (codes "slow", refl)
slow_text false = (codes "-", refl)

-- a record has a spelling where its result and its output have
pub record_spellable : (told : Record) → told.nanos < 2 ^ 64 → IsSpellable (SpellsResult told.result) → IsSpellable (SpellsBothStreams told.output) → Pairs told.result told.output → IsSpellable (SpellsRecordText told)
record_spellable told small ends wrote_both pairs =
    let slow = slow_text told.slow in
    let streams = wrote_both.1 in
    let fields : List (List ℕ) = ends.0 ∷ slow.0 ∷ decimal told.nanos ∷ streams.0 ∷ streams.1 ∷ [] in
    (line_of_fields fields, (fields, (ends.1, slow.1, (small, refl), streams.2, pairs), refl))

pub record_parts : (told : Record) → IsSpellable (SpellsRecordText told) → IsSpellable (SpellsResult told.result) × Pairs told.result told.output
record_parts told spellable =
    let five = five_fields told spellable.1.0 spellable.1.1 in
    ((five.result, five.spells_result), five.pairs)

-- ---- an event

pub script_spellable : (id : List ℕ) (told : Record) → IsField id → IsUtf8 id → IsSpellable (SpellsRecordText told) → HasSpelling (line.Script id told)
script_spellable id told plain utf8 spellable =
    let rest = spellable.1.0 in
    writable (line.Script id told) (codes "script" ∷ id ∷ rest) (refl, refl, spellable.1.1)
    (IsWritable-word (codes "script") refl, (record { plain = plain; utf8 = utf8 }, record_writable told rest spellable.1.1))

pub script_record : (id : List ℕ) (told : Record) → HasSpelling (line.Script id told) → IsSpellable (SpellsRecordText told)
script_record id told has = let ends = script_fields id told has.1.fields has.1.spelled in (line_of_fields ends.rest, (ends.rest, ends.spells, refl))

pub start_spellable : (binary name : List ℕ) → IsField binary → IsUtf8 binary → IsField name → IsUtf8 name → HasSpelling (line.Start binary name)
start_spellable binary name binary_plain binary_utf8 name_plain name_utf8 =
    writable (line.Start binary name) (codes "start" ∷ binary ∷ name ∷ []) (refl, refl, refl)
    (IsWritable-word (codes "start") refl, (record { plain = binary_plain; utf8 = binary_utf8 }, (record { plain = name_plain; utf8 = name_utf8 }, tt)))

pub start_texts : (binary name : List ℕ) → HasSpelling (line.Start binary name) → IsField binary × IsField name
start_texts binary name has =
    let plain : AllByRecursion IsField (codes "start" ∷ binary ∷ name ∷ []) = subst (AllByRecursion IsField) (start_fields binary name has.1.fields has.1.spelled) has.1.plain in
    (plain.1.0, plain.1.1.0)

pub end_spellable : (binary name : List ℕ) (told : Record) → IsField binary → IsUtf8 binary → IsField name → IsUtf8 name → IsSpellable (SpellsRecordText told) → HasSpelling (line.End binary name told)
end_spellable binary name told binary_plain binary_utf8 name_plain name_utf8 spellable =
    let rest = spellable.1.0 in
    writable (line.End binary name told) (codes "end" ∷ binary ∷ name ∷ rest) (refl, refl, refl, spellable.1.1)
    (IsWritable-word (codes "end") refl, (record { plain = binary_plain; utf8 = binary_utf8 }, (record { plain = name_plain; utf8 = name_utf8 }, record_writable told rest spellable.1.1)))

pub stop_spellable : (reason : CancelReason) → (is_inner reason ≡ false) ↔ HasSpelling (line.Stop reason)
stop_spellable reason = (
  (λ outer. writable (line.Stop reason) (codes "stop" ∷ reason_word reason ∷ []) (refl, (outer, refl)) (IsWritable-word (codes "stop") refl, (word_writable reason, tt))),
  (λ has. (stop_fields reason has.1.fields has.1.spelled).spells.0),
)
  where
    word_writable : (reason : CancelReason) → IsWritable (reason_word reason)
    word_writable why.SetupScriptFailure = IsWritable-word (codes "setup-script-failure") refl
    word_writable why.TestFailure = IsWritable-word (codes "test-failure") refl
    word_writable why.ReportError = IsWritable-word (codes "report-error") refl
    word_writable why.TestFailureImmediate = IsWritable-word (codes "test-failure-immediate") refl
    word_writable why.GlobalTimeout = IsWritable-word (codes "global-timeout") refl
    word_writable why.Signal = IsWritable-word (codes "signal") refl
    word_writable why.Interrupt = IsWritable-word (codes "interrupt") refl
    word_writable why.SecondSignal = IsWritable-word (codes "second-signal") refl

pub end_record : (binary name : List ℕ) (told : Record) → HasSpelling (line.End binary name told) → IsSpellable (SpellsRecordText told)
end_record binary name told has = let ends = end_fields binary name told has.1.fields has.1.spelled in (line_of_fields ends.rest, (ends.rest, ends.spells, refl))

-- ---- what is written

-- the fields of a record stand behind a tab
joined_behind : (before : List ℕ) (told : Record) (fields : List (List ℕ)) → SpellsRecord told fields → line_of_fields (before ∷ fields) ≡ before ++ 9 ∷ line_of_fields fields
joined_behind before told [] spelled = absurd spelled
joined_behind before told (field ∷ fields) spelled = refl

three_parts : (a b c : List ℕ) → (a ++ 9 ∷ b) ++ 9 ∷ c ≡ a ++ 9 ∷ (b ++ 9 ∷ c)
three_parts a b c = append_assoc a (9 ∷ b) (9 ∷ c)

-- the fields of a record, written one after another
pub record_printed : (told : Record) (old a b c new : List ℕ) → Pairs told.result told.output → told.nanos < 2 ^ 64 → Appends (SpellsResult told.result) old a → Appends (SpellsSlow told.slow) a b
    → c ≡ b ++ 9 ∷ decimal told.nanos → Appends (SpellsBothStreams told.output) c new → Appends (SpellsRecordText told) old new
record_printed told old a b c new pairs small result slow nanos output =
    let fields : List (List ℕ) = result.0 ∷ slow.0 ∷ decimal told.nanos ∷ output.1.0 ∷ output.1.1 ∷ [] in (
      line_of_fields fields,
      (fields, (result.1, slow.1, (small, refl), output.1.2, pairs), refl),
      rw (output.2, output.1.3, nanos, slow.2, result.2) (
          three_parts ((old ++ 9 ∷ result.0) ++ 9 ∷ slow.0) (decimal told.nanos) (output.1.0 ++ 9 ∷ output.1.1)
          ∙ three_parts (old ++ 9 ∷ result.0) slow.0 (decimal told.nanos ++ 9 ∷ (output.1.0 ++ 9 ∷ output.1.1))
          ∙ three_parts old result.0 (slow.0 ++ 9 ∷ (decimal told.nanos ++ 9 ∷ (output.1.0 ++ 9 ∷ output.1.1)))),
    )

pub script_printed : (id : List ℕ) (told : Record) (fields : List (List ℕ)) (bytes : List ℕ) → HasSpelling (line.Script id told) → SpellsRecord told fields
    → bytes ≡ (codes "script" ++ 9 ∷ id) ++ 9 ∷ line_of_fields fields → Spells (line.Script id told) bytes
script_printed id told fields bytes has spelled is =
    spells_joined (line.Script id told) (codes "script" ∷ id ∷ fields) bytes has (refl, refl, spelled)
    (is ∙ three_parts (codes "script") id (line_of_fields fields) ∙ ap (λ (rest : List ℕ). codes "script" ++ 9 ∷ rest) (sym (joined_behind id told fields spelled)))

pub end_printed : (binary name : List ℕ) (told : Record) (fields : List (List ℕ)) (bytes : List ℕ) → HasSpelling (line.End binary name told) → SpellsRecord told fields
    → bytes ≡ ((codes "end" ++ 9 ∷ binary) ++ 9 ∷ name) ++ 9 ∷ line_of_fields fields → Spells (line.End binary name told) bytes
end_printed binary name told fields bytes has spelled is =
    spells_joined (line.End binary name told) (codes "end" ∷ binary ∷ name ∷ fields) bytes has (refl, refl, refl, spelled)
    (is ∙ three_parts (codes "end" ++ 9 ∷ binary) name (line_of_fields fields) ∙ three_parts (codes "end") binary (name ++ 9 ∷ line_of_fields fields)
    ∙ ap (λ (rest : List ℕ). codes "end" ++ 9 ∷ (binary ++ 9 ∷ rest)) (sym (joined_behind name told fields spelled)))
