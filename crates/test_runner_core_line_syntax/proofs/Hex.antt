-- What digits spell, and that they spell one list of bytes.
use Rattle.std.proofs.Common.{◌≡◌, ℕ, zero, suc, ◌<◌, ◌*◌, ◌+◌, ◌/◌, ◌%◌, ◌↔◌, List, [], ◌∷◌, length, get_or, take, drop, take_all, Bool, ◌&&◌, ◌≤◌, ◌-◌, Some, None, Result, Ok, Err, refl, sym, ap, subst, ◌∙◌, arith}
use Rattle.std.specs.Prelude.{slice_index}
use Rattle.std.specs.Result.{result_unwrap_or}
use Rattle.std.specs.Prelude.{IsTrue}
use Rattle.std.specs.List.{All, AllByRecursion}
use Rattle.std.specs.Str.{IsUtf8}
use Rattle.std.proofs.Math.Bool.{and-eq-true_iff}
use Rattle.std.proofs.lemmas.List.{get_or-take, length-take-le}
use Rattle.std.proofs.lemmas.List.Elements.{All-from_get_or, All-from_recursion, All-more, recursion_from_All}
use Rattle.hex.specs.Hex.{IsBytes, decode_of, encode_lower, encode_with, lower_digits}
use Rattle.hex.specs.declared.error.FromHexError.{FromHexError}
use Rattle.hex.proofs.HexLemmas.{decode_of-encode_lower, decode_of-ok, decode_of-same}
use Rattle.simdutf8.specs.Steps.{IsClosed, Step, StepsThen}
use Rattle.simdutf8.proofs.Chars.{StepsThen-IsUtf8}
use Rattle.test_runner_core_line_syntax.specs.Spelling.{SpellsHex}
use Rattle.test_runner_core_line_syntax.specs.Hex.{bytes_of_hex, IsDigit, IsHex, SpellsByte, SpellsDigit}

-- ---- one byte

-- two digits that spell a byte
pub byte_spelled : (high low h l : ℕ) → h < 16 → l < 16 → slice_index lower_digits h ≡ high → slice_index lower_digits l ≡ low
    → (h * 16 + l < 256) × (encode_lower ((h * 16 + l) ∷ []) ≡ high ∷ low ∷ [])
unfolding encode_with
byte_spelled high low h l small_h small_l is_high is_low =
    let front : (h * 16 + l) / 16 ≡ h = omega arith in
    let back : (h * 16 + l) % 16 ≡ l = omega arith in
    (omega arith, rw (front, back, is_high, is_low) refl)

-- the digits of a byte
digits_of : (byte high low : ℕ) → encode_lower (byte ∷ []) ≡ high ∷ low ∷ [] → (slice_index lower_digits (byte / 16) ≡ high) × (slice_index lower_digits (byte % 16) ≡ low)
unfolding encode_with
digits_of byte high low same = (ap (λ (s : List ℕ). get_or s 0 0) same, ap (λ (s : List ℕ). get_or s 1 0) same)

pub no_high : (high low : ℕ) → SpellsDigit high None → SpellsByte high low None
no_high high low none byte small same = none (byte / 16) (omega arith) (digits_of byte high low same).0

pub no_low : (high low : ℕ) → SpellsDigit low None → SpellsByte high low None
no_low high low none byte small same = none (byte % 16) (omega arith) (digits_of byte high low same).1

one_byte : (byte : ℕ) → byte < 256 → IsBytes (byte ∷ [])
one_byte byte small zero = small
one_byte byte small (suc i) = omega arith

byte_same : (a b : ℕ) (digits : List ℕ) → a < 256 → b < 256 → encode_lower (a ∷ []) ≡ digits → encode_lower (b ∷ []) ≡ digits → a ≡ b
byte_same a b digits small_a small_b of_a of_b =
    ap (λ (s : List ℕ). get_or s 0 0) (decode_of-same digits (a ∷ []) (b ∷ [])
    (ap decode_of (sym of_a) ∙ decode_of-encode_lower (a ∷ []) (one_byte a small_a))
    (ap decode_of (sym of_b) ∙ decode_of-encode_lower (b ∷ []) (one_byte b small_b)))

-- ---- the bytes that digits spell

pub hex_bytes : (bytes digits : List ℕ) → SpellsHex bytes digits → bytes_of_hex digits ≡ bytes
hex_bytes bytes digits spelled =
    ap (λ (r : Result (List ℕ) FromHexError). result_unwrap_or r []) (ap decode_of spelled.1 ∙ decode_of-encode_lower bytes spelled.0)

pub hex_again : (digits : List ℕ) → IsHex digits → encode_lower (bytes_of_hex digits) ≡ digits
hex_again digits is = ap encode_lower (hex_bytes is.0 digits is.1) ∙ sym is.1.1

bytes_fit : (digits : List ℕ) (r : Result (List ℕ) FromHexError) → decode_of digits ≡ r → IsBytes (result_unwrap_or r [])
bytes_fit digits (Ok bytes) is = (decode_of-ok digits bytes is).3
bytes_fit digits (Err error) is = λ i. omega arith

pub hex_spells : (digits : List ℕ) → encode_lower (bytes_of_hex digits) ≡ digits → SpellsHex (bytes_of_hex digits) digits
hex_spells digits again = (bytes_fit digits (decode_of digits) refl, sym again)

pub hex_decodes : (digits : List ℕ) → encode_lower (bytes_of_hex digits) ≡ digits → decode_of digits ≡ Ok (bytes_of_hex digits)
hex_decodes digits again =
    let spelled = hex_spells digits again in
    ap decode_of spelled.1 ∙ decode_of-encode_lower (bytes_of_hex digits) spelled.0

-- ---- the first byte of the digits that are left

-- a byte, and what is spelled behind it
pub record Begins (bytes : List ℕ) (high low : ℕ) (rest : List ℕ) : Type 0 where
  pub byte : ℕ
  pub behind : List ℕ
  pub are : bytes ≡ byte ∷ behind
  pub small : byte < 256
  pub digits : encode_lower (byte ∷ []) ≡ high ∷ low ∷ []
  pub spelled : SpellsHex behind rest

pub hex_begins : (bytes : List ℕ) (high low : ℕ) (rest : List ℕ) → SpellsHex bytes (high ∷ low ∷ rest) → Begins bytes high low rest
unfolding encode_with
hex_begins [] high low rest spelled = let same = spelled.1 in cc
hex_begins (byte ∷ behind) high low rest spelled = record {
  byte = byte;
  behind = behind;
  are = refl;
  small = spelled.0 0;
  digits = sym (ap (λ (s : List ℕ). get_or s 0 0 ∷ get_or s 1 0 ∷ []) spelled.1);
  spelled = ((λ i. spelled.0 (suc i)), ap (λ (s : List ℕ). drop 2 s) spelled.1);
}

hex_onto : (byte high low : ℕ) (rest bytes : List ℕ) → byte < 256 → encode_lower (byte ∷ []) ≡ high ∷ low ∷ [] → SpellsHex bytes rest → SpellsHex (byte ∷ bytes) (high ∷ low ∷ rest)
unfolding encode_with
hex_onto byte high low rest bytes small digits spelled =
    let two = digits_of byte high low digits in
    (fits, rw (two.0, two.1, ← spelled.1) refl)
  where
    fits : IsBytes (byte ∷ bytes)
    fits zero = small
    fits (suc i) = spelled.0 i

-- what stands behind the first two digits
abbrev behind_two : List ℕ → List ℕ
behind_two rest = take (length rest - 2) (drop 2 rest)

behind_two-is : (high low : ℕ) (rest : List ℕ) → behind_two (high ∷ low ∷ rest) ≡ rest
behind_two-is high low rest = take_all (length (high ∷ low ∷ rest) - 2) rest (omega arith)

-- digits that spell a byte may be left out
pub hex_step : (rest : List ℕ) (byte : ℕ) → 2 ≤ length rest → SpellsByte (get_or rest 0 0) (get_or rest 1 0) (Some byte) → IsHex (behind_two rest) ↔ IsHex rest
hex_step [] byte long is = absurd (omega arith)
hex_step (digit ∷ []) byte long is = absurd (omega arith)
hex_step (high ∷ low ∷ rest) byte long is = rw (behind_two-is high low rest) (
  (λ left. (byte ∷ left.0, hex_onto byte high low rest left.0 is.0 is.1 left.1)),
  (λ all. let begins = hex_begins all.0 high low rest all.1 in (begins.behind, begins.spelled)),
)

pub hex_stop : (rest : List ℕ) → 2 ≤ length rest → SpellsByte (get_or rest 0 0) (get_or rest 1 0) None → IsHex rest → ⊥
hex_stop [] long none is = absurd (omega arith)
hex_stop (digit ∷ []) long none is = absurd (omega arith)
hex_stop (high ∷ low ∷ rest) long none is =
    let begins = hex_begins is.0 high low rest is.1 in
    none begins.byte begins.small begins.digits

-- less than two digits spell nothing but no byte
pub hex_end : (bytes rest : List ℕ) → length rest < 2 → SpellsHex bytes rest → (bytes ≡ []) × (rest ≡ [])
unfolding encode_with
hex_end [] rest short spelled = (refl, spelled.1)
hex_end (byte ∷ bytes) rest short spelled = absurd (let long = ap length spelled.1 in omega arith)

-- ---- digits, one after another

-- what a front of the digits says, and the next one
pub digits_more : (digits : List ℕ) (i : ℕ) (so_far is : Bool) → i < length digits → IsTrue so_far ↔ All IsDigit (take i digits) → IsTrue is ↔ IsDigit (get_or digits i 0)
    → IsTrue (so_far && is) ↔ All IsDigit (take (i + 1) digits)
digits_more digits i so_far is less front next =
    let both = and-eq-true_iff so_far is in (
      (λ yes. let two = both.0 yes in All-more IsDigit digits i 0 less (front.0 two.0) (next.0 two.1)),
      (λ all. both.1 (front.1 (before all), next.1 (subst IsDigit (get_or-take (i + 1) digits i 0 (omega arith)) (all i 0 (omega (arith, long)))))),
    )
  where
    long : length (take (i + 1) digits) ≡ i + 1
    long = length-take-le (i + 1) digits (omega arith)

    short : length (take i digits) ≡ i
    short = length-take-le i digits (omega arith)

    before : All IsDigit (take (i + 1) digits) → All IsDigit (take i digits)
    before all = All-from_get_or IsDigit (take i digits) 0
        (λ k lt. subst IsDigit (get_or-take (i + 1) digits k 0 (omega (arith, short)) ∙ sym (get_or-take i digits k 0 (omega (arith, short)))) (all k 0 (omega (arith, short, long))))

-- an even number of digits spells bytes
hex_of : (digits : List ℕ) → length digits % 2 ≡ 0 → AllByRecursion IsDigit digits → IsHex digits
unfolding encode_with
hex_of [] even each = ([], ((λ i. omega arith), refl))
hex_of (digit ∷ []) even each = absurd (omega arith)
hex_of (high ∷ low ∷ rest) even each =
    let h = each.0 in
    let l = each.1.0 in
    let behind = hex_of rest (omega arith) each.1.1 in
    let byte = byte_spelled high low h.0 l.0 h.1 l.1 h.2 l.2 in
    ((h.0 * 16 + l.0) ∷ behind.0, hex_onto (h.0 * 16 + l.0) high low rest behind.0 byte.0 byte.1 behind.1)

pub hex_from_digits : (digits : List ℕ) → length digits % 2 ≡ 0 → All IsDigit digits → IsHex digits
hex_from_digits digits even all = hex_of digits even (recursion_from_All IsDigit digits all)

-- what spells bytes are digits, an even number of them
digits_in : (bytes digits : List ℕ) → SpellsHex bytes digits → (length digits % 2 ≡ 0) × AllByRecursion IsDigit digits
unfolding encode_with
digits_in [] digits spelled = rw (spelled.1) (refl, tt)
digits_in (byte ∷ bytes) [] spelled = absurd (let none = ap length spelled.1 in omega arith)
digits_in (byte ∷ bytes) (digit ∷ []) spelled = absurd (let none = ap length spelled.1 in omega arith)
digits_in (byte ∷ bytes) (high ∷ low ∷ rest) spelled =
    let begins = hex_begins (byte ∷ bytes) high low rest spelled in
    let two = digits_of begins.byte high low begins.digits in
    let small = begins.small in
    let behind = digits_in bytes rest ((λ i. spelled.0 (suc i)), ap (λ (s : List ℕ). drop 2 s) spelled.1) in
    (omega (arith, behind.0), ((begins.byte / 16, omega arith, two.0), ((begins.byte % 16, omega arith, two.1), behind.1)))

pub digits_from_hex : (digits : List ℕ) → IsHex digits → (length digits % 2 ≡ 0) × All IsDigit digits
digits_from_hex digits is =
    let two = digits_in is.0 digits is.1 in
    (two.0, All-from_recursion IsDigit digits two.1)

pub hex_is_one : (a b field : List ℕ) → SpellsHex a field → SpellsHex b field → a ≡ b
hex_is_one a b field of_a of_b = sym (hex_bytes a field of_a) ∙ hex_bytes b field of_b

-- ---- texts

-- what is left of the digits is UTF-8 behind the last three bytes just where the whole is
pub record TextAhead (digits rest : List ℕ) (first second third : ℕ) : Type 0 where
  pub bytes : List ℕ
  pub spelled : SpellsHex bytes rest
  pub whole : StepsThen IsClosed first second third bytes ↔ IsUtf8 (bytes_of_hex digits)

pub text_starts : (digits : List ℕ) → IsHex digits → TextAhead digits digits 0 0 0
text_starts digits is = record {
  bytes = bytes_of_hex digits;
  spelled = hex_spells digits (hex_again digits is);
  whole = StepsThen-IsUtf8 (bytes_of_hex digits);
}

-- the next byte
text_begins : (digits rest : List ℕ) (first second third high low byte : ℕ) → TextAhead digits (high ∷ low ∷ rest) first second third → SpellsByte high low (Some byte)
    → (behind : List ℕ) × SpellsHex behind rest × (StepsThen IsClosed first second third (byte ∷ behind) ↔ IsUtf8 (bytes_of_hex digits))
text_begins digits rest first second third high low byte ahead is =
    let begins = hex_begins ahead.bytes high low rest ahead.spelled in
    let same : begins.byte ≡ byte = byte_same begins.byte byte (high ∷ low ∷ []) begins.small is.0 begins.digits is.1 in (
      begins.behind,
      begins.spelled,
      subst (λ (bytes : List ℕ). StepsThen IsClosed first second third bytes ↔ IsUtf8 (bytes_of_hex digits))
          (begins.are ∙ ap (λ (b : ℕ). b ∷ begins.behind) same) ahead.whole,
    )

pub text_step : (digits rest : List ℕ) (first second third byte : ℕ) → 2 ≤ length rest → TextAhead digits rest first second third → SpellsByte (get_or rest 0 0) (get_or rest 1 0) (Some byte)
    → Step first second third byte → TextAhead digits (behind_two rest) second third byte
text_step digits [] first second third byte long ahead is follows = absurd (omega arith)
text_step digits (digit ∷ []) first second third byte long ahead is follows = absurd (omega arith)
text_step digits (high ∷ low ∷ rest) first second third byte long ahead is follows =
    let next = text_begins digits rest first second third high low byte ahead is in
    rw (behind_two-is high low rest) (record { bytes = next.0; spelled = next.1; whole = ((λ steps. next.2.0 (follows, steps)), (λ utf8. (next.2.1 utf8).1)) })

pub text_stop : (digits rest : List ℕ) (first second third byte : ℕ) → 2 ≤ length rest → TextAhead digits rest first second third → SpellsByte (get_or rest 0 0) (get_or rest 1 0) (Some byte)
    → (Step first second third byte → ⊥) → IsUtf8 (bytes_of_hex digits) → ⊥
text_stop digits [] first second third byte long ahead is not utf8 = omega arith
text_stop digits (digit ∷ []) first second third byte long ahead is not utf8 = omega arith
text_stop digits (high ∷ low ∷ rest) first second third byte long ahead is not utf8 =
    not ((text_begins digits rest first second third high low byte ahead is).2.1 utf8).0

-- there always is a next byte
pub text_bytes : (digits rest : List ℕ) (first second third : ℕ) → 2 ≤ length rest → TextAhead digits rest first second third → SpellsByte (get_or rest 0 0) (get_or rest 1 0) None → ⊥
text_bytes digits rest first second third long ahead none = hex_stop rest long none (ahead.bytes, ahead.spelled)

pub text_ends : (digits rest : List ℕ) (first second third : ℕ) → TextAhead digits rest first second third → length rest < 2 → IsClosed first second third ↔ IsUtf8 (bytes_of_hex digits)
text_ends digits rest first second third ahead short =
    subst (λ (bytes : List ℕ). StepsThen IsClosed first second third bytes ↔ IsUtf8 (bytes_of_hex digits)) (hex_end ahead.bytes rest short ahead.spelled).0 ahead.whole
