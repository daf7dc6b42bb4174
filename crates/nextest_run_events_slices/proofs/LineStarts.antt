-- A line starts behind each line feed.
use Rattle.std.proofs.Common.{◌≡◌, ◌+◌, ◌-◌, ◌<◌, ◌≤◌, ℕ, List, Some, None, length, take, drop, slice_index, get_or, get_or-drop, length-drop, sym, ap, ◌∙◌, inl, inr, arith}
use Rattle.std.proofs.lemmas.Bool.{cases_lt, eqb-true, eq-eqb}
use Rattle.std.proofs.lemmas.List.{take_rest, get_or_past}
use Rattle.bstr.specs.Find.{IsFirstByte, is_byte}
use Rattle.nextest_run_events_slices.specs.Places.{IsLineStart}

-- the byte at a place is 10, so that the place is within
pub feed_within : (output : List ℕ) (place : ℕ) → slice_index output place ≡ 10 → place < length output
feed_within output place is = elim (cases_lt place (length output)) [
  | inl below ↦ below
  | inr past ↦ let none : get_or output place 0 ≡ 0 = get_or_past output place 0 past in absurd (omega (arith, is, none))
]

pub line_byte : (output : List ℕ) (place : ℕ) → 0 < place → IsLineStart output place → (slice_index output (place - 1) ≡ 10) × (place ≤ length output)
line_byte output place some line = elim line [
  | inl start ↦ absurd (omega arith)
  | inr feed ↦ (feed.1, omega (arith, feed_within output (place - 1) feed.1))
]

module _ (output : List ℕ) (from : ℕ) (some : 0 < from) where
  abbrev pub ahead : List ℕ
  ahead = take (length output - (from - 1)) (drop (from - 1) output)

  ahead_byte : (k : ℕ) → slice_index ahead k ≡ slice_index output (from - 1 + k)
  ahead_byte k = ap (λ l. get_or l k 0) (take_rest output (from - 1)) ∙ get_or-drop (from - 1) output k 0

  ahead_length : length ahead ≡ length output - (from - 1)
  ahead_length = ap length (take_rest output (from - 1)) ∙ length-drop (from - 1) output

  feed_ahead : (place : ℕ) → from ≤ place → IsLineStart output place → (slice_index ahead (place - from) ≡ 10) × (place - from < length ahead)
  feed_ahead place above line =
      let byte = line_byte output place (omega arith) line in
      let same : from - 1 + (place - from) ≡ place - 1 = omega arith in
      (ahead_byte (place - from) ∙ ap (slice_index output) same ∙ byte.0, omega (arith, ahead_length, byte.1))

  pub no_line_start : IsFirstByte (is_byte 10) ahead None → (place : ℕ) → from ≤ place → ¬ (IsLineStart output place)
  no_line_start none place above line =
      let feed = feed_ahead place above line in
      none (place - from) (omega arith) feed.1 (eq-eqb _ 10 feed.0)

  pub line_start_there : (feed : ℕ) → IsFirstByte (is_byte 10) ahead (Some feed)
      → (from ≤ from + feed) × (from + feed ≤ length output) × IsLineStart output (from + feed) × ((place : ℕ) → from ≤ place → place < from + feed → ¬ (IsLineStart output place))
  line_start_there feed found =
      let same : from + feed - 1 ≡ from - 1 + feed = omega arith in
      let byte : slice_index output (from + feed - 1) ≡ 10 = ap (slice_index output) same ∙ sym (ahead_byte feed) ∙ eqb-true _ 10 found.1 in
      let within = feed_within output (from + feed - 1) byte in (
        omega arith,
        omega arith,
        inr (omega arith, byte),
        λ place above below line.
            let other = feed_ahead place above line in
            found.0.before (place - from) (omega arith) (omega arith) (eq-eqb _ 10 other.0),
      )
