-- The nanoseconds of a text are those of the duration that it is.
use Rattle.std.proofs.Common.{◌≡◌, ℕ, zero, suc, ◌+◌, ◌*◌, ◌^◌, ◌<◌, ◌≤◌, Bool, true, false, List, [], ◌∷◌, ◌++◌, length, Option, Some, None, IfSome, IfNone, refl, sym, ap, ◌∙◌, subst, inl, inr, arith, length-append}
use Rattle.std.specs.Prelude.{nat_lt, option_map, option_and_then}
use Rattle.std.specs.Char.{is_ascii_alphabetic, is_ascii_digit}
use Rattle.std.specs.Str.Parse.{digits_value}
use Rattle.std.proofs.lemmas.Bool.{cond-true, cond-false, ltb-true, lt-ltb, le-ltb}
use Rattle.nextest_config_elements_values.specs.Duration.{is_blank, unit_nanos, text_of_part, IsZero, IsSum, IsDuration}
use Rattle.nextest_config_elements_values.specs.Ahead.{run, behind, from_word, behind_part, StartsWith, Reads, is_zero}
use Rattle.nextest_config_elements_values.specs.DurationLaws.{NanosOfDurations}
use Rattle.nextest_config_elements_values.specs.Nanos.{nanos_of_part, first_nanos, sum_in, fitting, parts_in, nanos_ahead, nanos_in}
use Rattle.nextest_config_elements_values.proofs.Meanings.{is_zero_text, is_sum_text, zero_ahead, sum_ahead, zero_no_sum, some_left}
use Rattle.nextest_config_elements_values.proofs.Parts.{start_is}
use Rattle.nextest_config_elements_values.proofs.Sums.{nothing_reads, reads_none, reads_start, reads_more, reads_less}

-- the part that stands first
unit_found : (unit : Option ℕ) (value nanos : ℕ) → option_map (λ it. value * it) unit ≡ Some nanos
    → (it : ℕ) × (unit ≡ Some it) × (nanos ≡ value * it)
unit_found None value nanos e = absurd (cc)
unit_found (Some it) value nanos e = (it, refl, cc)

measured_is : (digits word : List ℕ) (nanos : ℕ) → nanos_of_part digits word ≡ Some nanos
    → (unit : ℕ) × (0 < length digits) × (unit_nanos word ≡ Some unit) × (nanos ≡ digits_value 10 digits * unit)
measured_is [] word nanos e = absurd (cc)
measured_is (digit ∷ digits) word nanos e =
    let found = unit_found (unit_nanos word) (digits_value 10 (digit ∷ digits)) nanos e in
    (found.0, omega arith, found.1, found.2)

is_measured : (digits word : List ℕ) (unit nanos : ℕ) → 0 < length digits → unit_nanos word ≡ Some unit
    → nanos ≡ digits_value 10 digits * unit → nanos_of_part digits word ≡ Some nanos
is_measured [] word unit nanos some named value = absurd (omega arith)
is_measured (digit ∷ digits) word unit nanos some named value =
    ap (option_map (λ it. digits_value 10 (digit ∷ digits) * it)) named ∙ ap Some (sym value)

first_starts : (text : List ℕ) (nanos : ℕ) → first_nanos text ≡ Some nanos → StartsWith text nanos
first_starts text nanos e =
    let found = measured_is (run is_ascii_digit text) (run is_ascii_alphabetic (from_word text)) nanos e in
    record { unit = found.0; some = found.1; named = found.2; value = found.3 }

start_first : (text : List ℕ) (nanos : ℕ) → StartsWith text nanos → first_nanos text ≡ Some nanos
start_first text nanos start =
    is_measured (run is_ascii_digit text) (run is_ascii_alphabetic (from_word text)) start.unit nanos start.some start.named start.value

behind_less : (text : List ℕ) (nanos : ℕ) → StartsWith text nanos → length (behind_part text) < length text
behind_less text nanos start =
    let first = start_is text nanos start in
    let part = first.0 in
    let some = first.1.number.0 in
    let all = length-append (text_of_part part) (behind_part text) in
    let front = length-append part.digits (part.gap ++ (part.word ++ part.blanks)) in
    omega (arith, ap length first.3, all, front, some)

-- parts
taken : (first more : Option ℕ) (nanos : ℕ) → option_and_then (λ n. option_map (λ m. n + m) more) first ≡ Some nanos
    → (n : ℕ) × (m : ℕ) × (first ≡ Some n) × (more ≡ Some m) × (n + m ≡ nanos)
taken None more nanos e = absurd (cc)
taken (Some n) None nanos e = absurd (cc)
taken (Some n) (Some m) nanos e = (n, m, refl, refl, cc)

sum_reads : (most : ℕ) (text : List ℕ) (nanos : ℕ) → sum_in most text ≡ Some nanos → Reads text nanos
sum_reads most [] nanos e =
    let same : 0 ≡ nanos = cc in
    subst (λ (n : ℕ). Reads [] n) same (nothing_reads [] refl)
sum_reads zero (byte ∷ bytes) nanos e = absurd (cc)
sum_reads (suc most) (byte ∷ bytes) nanos e =
    let text = byte ∷ bytes in
    let parts = taken (first_nanos text) (sum_in most (behind_part text)) nanos e in
    let rest = sum_reads most (behind_part text) parts.1 parts.3 in
    subst (λ (n : ℕ). Reads text n) parts.4 (reads_more text parts.0 parts.1 (first_starts text parts.0 parts.2) rest)

reads_sum : (most : ℕ) (text : List ℕ) (nanos : ℕ) → length text ≤ most → Reads text nanos → sum_in most text ≡ Some nanos
reads_sum most [] nanos within reads = ap Some (sym (reads_none [] nanos refl reads))
reads_sum zero (byte ∷ bytes) nanos within reads = absurd (omega arith)
reads_sum (suc most) (byte ∷ bytes) nanos within reads =
    let text = byte ∷ bytes in
    let start = reads_start text nanos (omega arith) reads in
    let less = reads_less text start.0 nanos start.1 reads in
    let first : first_nanos text ≡ Some start.0 = start_first text start.0 start.1 in
    let shorter = behind_less text start.0 start.1 in
    let rest : sum_in most (behind_part text) ≡ Some less.0 = reads_sum most (behind_part text) less.0 (omega (arith, within, shorter)) less.2 in
    joined (first_nanos text) (sum_in most (behind_part text)) start.0 less.0 nanos first rest less.1
  where
    joined : (first more : Option ℕ) (n m nanos : ℕ) → first ≡ Some n → more ≡ Some m → nanos ≡ n + m
        → option_and_then (λ n. option_map (λ m. n + m) more) first ≡ Some nanos
    joined first more n m nanos is rest sum = rw (is, rest) (ap Some (sym sum))

-- sums that fit
fitting_is : (sum nanos : ℕ) (b : Bool) → nat_lt sum (2 ^ 64) ≡ b → fitting sum ≡ Some nanos → (sum ≡ nanos) × (nanos < 2 ^ 64)
fitting_is sum nanos true fits e =
    let some : Some sum ≡ Some nanos = sym (cond-true (nat_lt sum (2 ^ 64)) (Some sum) None fits) ∙ e in
    let same : sum ≡ nanos = cc in
    (same, subst (λ (n : ℕ). n < 2 ^ 64) same (ltb-true sum (2 ^ 64) fits))
fitting_is sum nanos false large e =
    let none : None ≡ Some nanos = sym (cond-false (nat_lt sum (2 ^ 64)) (Some sum) None large) ∙ e in absurd (cc)

fitted : (sum : Option ℕ) (nanos : ℕ) → option_and_then fitting sum ≡ Some nanos → (sum ≡ Some nanos) × (nanos < 2 ^ 64)
fitted None nanos e = absurd (cc)
fitted (Some sum) nanos e =
    let is = fitting_is sum nanos (nat_lt sum (2 ^ 64)) refl e in
    (ap Some is.0, is.1)

is_fitting : (nanos : ℕ) → nanos < 2 ^ 64 → fitting nanos ≡ Some nanos
is_fitting nanos fits = cond-true (nat_lt nanos (2 ^ 64)) (Some nanos) None (lt-ltb nanos (2 ^ 64) fits)

no_fitting : (nanos : ℕ) → 2 ^ 64 ≤ nanos → fitting nanos ≡ None
no_fitting nanos large = cond-false (nat_lt nanos (2 ^ 64)) (Some nanos) None (le-ltb nanos (2 ^ 64) large)

parts_read : (rest : List ℕ) (nanos : ℕ) → parts_in rest ≡ Some nanos → (0 < length rest) × Reads rest nanos × (nanos < 2 ^ 64)
parts_read [] nanos e = absurd (cc)
parts_read (byte ∷ bytes) nanos e =
    let is = fitted (sum_in (length (byte ∷ bytes)) (byte ∷ bytes)) nanos e in
    (omega arith, sum_reads (length (byte ∷ bytes)) (byte ∷ bytes) nanos is.0, is.1)

summed : (rest : List ℕ) (nanos : ℕ) → Reads rest nanos → sum_in (length rest) rest ≡ Some nanos
summed rest nanos reads = reads_sum (length rest) rest nanos (omega arith) reads

read_parts : (rest : List ℕ) (nanos : ℕ) → 0 < length rest → Reads rest nanos → nanos < 2 ^ 64 → parts_in rest ≡ Some nanos
read_parts [] nanos some reads fits = absurd (omega arith)
read_parts (byte ∷ bytes) nanos some reads fits = ap (option_and_then fitting) (summed (byte ∷ bytes) nanos reads) ∙ is_fitting nanos fits

no_parts : (rest : List ℕ) → ((nanos : ℕ) → Reads rest nanos → 2 ^ 64 ≤ nanos) → parts_in rest ≡ None
no_parts [] large = refl
no_parts (byte ∷ bytes) large = by_sum (sum_in (length (byte ∷ bytes)) (byte ∷ bytes)) refl
  where
    by_sum : (sum : Option ℕ) → sum_in (length (byte ∷ bytes)) (byte ∷ bytes) ≡ sum → parts_in (byte ∷ bytes) ≡ None
    by_sum None is = ap (option_and_then fitting) is
    by_sum (Some nanos) is =
        ap (option_and_then fitting) is
        ∙ no_fitting nanos (large nanos (sum_reads (length (byte ∷ bytes)) (byte ∷ bytes) nanos is))

-- durations
by_zero : (text : List ℕ) (nanos : ℕ) (b : Bool) → is_zero (behind is_blank text) ≡ b → nanos_in text ≡ Some nanos → IsDuration text nanos
by_zero text nanos true is e =
    let some : Some 0 ≡ Some nanos = sym (cond-true (is_zero (behind is_blank text)) (Some 0) (parts_in (behind is_blank text)) is) ∙ e in
    let same : 0 ≡ nanos = cc in
    inl (subst (λ (n : ℕ). IsZero text n) same (is_zero_text text is))
by_zero text nanos false other e =
    let parts = parts_read (behind is_blank text) nanos (sym (cond-false (is_zero (behind is_blank text)) (Some 0) (parts_in (behind is_blank text)) other) ∙ e) in
    inr (is_sum_text text nanos parts.0 parts.1 parts.2)

pub nanos_is_duration : (text : List ℕ) (nanos : ℕ) → nanos_in text ≡ Some nanos → IsDuration text nanos
nanos_is_duration text nanos e = by_zero text nanos (is_zero (behind is_blank text)) refl e

no_zero : (text : List ℕ) (nanos : ℕ) → IsSum text nanos → (b : Bool) → is_zero (behind is_blank text) ≡ b → is_zero (behind is_blank text) ≡ false
no_zero text nanos sum true is = absurd (zero_no_sum text 0 nanos (is_zero_text text is) sum)
no_zero text nanos sum false other = other

pub duration_nanos : (text : List ℕ) (nanos : ℕ) → IsDuration text nanos → nanos_in text ≡ Some nanos
duration_nanos text nanos (inl is) =
    cond-true (is_zero (behind is_blank text)) (Some 0) (parts_in (behind is_blank text)) (zero_ahead text nanos is) ∙ ap Some (sym is.none)
duration_nanos text nanos (inr sum) =
    cond-false (is_zero (behind is_blank text)) (Some 0) (parts_in (behind is_blank text))
    (no_zero text nanos sum (is_zero (behind is_blank text)) refl)
    ∙ read_parts (behind is_blank text) nanos (some_left text nanos sum) (sum_ahead text nanos sum) sum.fits

pub no_nanos : (text : List ℕ) (nanos : ℕ) → nanos_in text ≡ None → IsDuration text nanos → ⊥
no_nanos text nanos none duration =
    let some : Some nanos ≡ None = sym (duration_nanos text nanos duration) ∙ none in
    cc

pub nanos_of_durations : NanosOfDurations
nanos_of_durations text nanos = (nanos_is_duration text nanos, duration_nanos text nanos)

-- what follows the blanks of a text
read_of : (rest : List ℕ) (read : Option ℕ) → 0 < length rest → IfSome read (λ nanos. Reads rest nanos)
    → IfNone read ((nanos : ℕ) → Reads rest nanos → 2 ^ 64 ≤ nanos) → IfSome read (λ nanos. nanos < 2 ^ 64) → read ≡ parts_in rest
read_of rest None some found none fits = sym (no_parts rest none)
read_of rest (Some nanos) some found none fits = sym (read_parts rest nanos some found fits)

pub at_parts : (text rest : List ℕ) (read : Option ℕ) → rest ≡ behind is_blank text → is_zero rest ≡ false → 0 < length rest
    → IfSome read (λ nanos. Reads rest nanos) → IfNone read ((nanos : ℕ) → Reads rest nanos → 2 ^ 64 ≤ nanos)
    → IfSome read (λ nanos. nanos < 2 ^ 64) → read ≡ nanos_in text
at_parts text rest read is other some found none fits =
    read_of rest read some found none fits ∙ sym (cond-false (is_zero rest) (Some 0) (parts_in rest) other) ∙ ap nanos_ahead is
