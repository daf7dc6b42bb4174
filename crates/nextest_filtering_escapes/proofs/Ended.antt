-- The bad escapes of the bytes before an end are bad escapes of all.
use Rattle.std.proofs.Common.{◌≡◌, ℕ, ◌+◌, ◌<◌, ◌≤◌, Bool, true, false, not, ◌&&◌, eqb, List, [], ◌∷◌, ◌++◌, length, get_or, suc, refl, sym, ap, ◌∙◌, subst, arith, inl, inr}
use Rattle.std.specs.Prelude.{encode_utf8}
use Rattle.std.specs.List.{AllByRecursion, flat_map}
use Rattle.std.specs.Str.Parse.{AllDigits}
use Rattle.std.proofs.lemmas.Bool.{and_parts, not-true, or_from, ne_eqb, cases_lt, false≢true}
use Rattle.std.proofs.lemmas.List.{append-nil, append_assoc, length-append}
use Rattle.std.proofs.lemmas.Str.{encode_ascii, inside_one, len_utf8_bounds, length-encode}
use Rattle.nextest_filtering_escapes.specs.declared.escapes.EscapeSpan.{EscapeSpan}
use Rattle.nextest_filtering_escapes.specs.Text.{Piece, Plain, Escaped, Unicode, IsPiece, spelling, is_end}
use Rattle.nextest_filtering_escapes.specs.Ends.{is_unended, IsUnended, IsEnded}
use Rattle.nextest_filtering_escapes.specs.Spans.{IsBadEscape, IsSpanOf}
use Rattle.nextest_filtering_escapes.specs.Parts.{Part, Good, Bad, IsPart, AreParts, IsRead, part_bytes, spans_of}
use Rattle.nextest_filtering_escapes.proofs.Fronts.{digit_not}
use Rattle.nextest_filtering_escapes.proofs.Readings.{piece_tight}

-- ---- what a reading passes

-- a byte that is no end and no `\`
passes : (byte : ℕ) (more : List ℕ) → is_end byte ≡ false → eqb byte 92 ≡ false → is_unended false (byte ∷ more) ≡ is_unended false more
passes byte more other bare =
    ap (λ (e : Bool). not e && is_unended (eqb byte 92) more) other ∙ ap (λ (b : Bool). is_unended b more) bare

digits_pass : (digits more : List ℕ) → AllDigits 16 digits → is_unended false ((digits ++ 125 ∷ []) ++ more) ≡ is_unended false more
digits_pass [] more are = refl
digits_pass (byte ∷ digits) more are =
    passes byte ((digits ++ 125 ∷ []) ++ more) (or_from (eqb byte 41) (eqb byte 44) (digit_not byte 41 are.0 refl) (digit_not byte 44 are.0 refl)) (digit_not byte 92 are.0 refl)
    ∙ digits_pass digits more are.1

piece_passes : (p : Piece) (more : List ℕ) → IsPiece p → is_unended false (spelling p ++ more) ≡ is_unended false more
piece_passes (Plain byte) more is =
    let parts = and_parts (not (eqb byte 92)) (not (is_end byte)) is in
    passes byte more (not-true (is_end byte) parts.1) (not-true (eqb byte 92) parts.0)
piece_passes (Escaped letter meant) more is = refl
piece_passes (Unicode digits scalar) more is = digits_pass digits more is.0.2

-- no byte of a character is ASCII but where it is the only one
abbrev AreHigh : List ℕ → Type 0
AreHigh bytes = (i : ℕ) → i < length bytes → 128 ≤ get_or bytes i 0

high_pass : (bytes more : List ℕ) → AreHigh bytes → is_unended false (bytes ++ more) ≡ is_unended false more
high_pass [] more high = refl
high_pass (byte ∷ bytes) more high =
    let is = high 0 (omega arith) in
    passes byte (bytes ++ more)
    (or_from (eqb byte 41) (eqb byte 44) (ne_eqb byte 41 (λ same. omega arith)) (ne_eqb byte 44 (λ same. omega arith))) (ne_eqb byte 92 (λ same. omega arith))
    ∙ high_pass bytes more (λ i small. high (suc i) (omega arith))

behind_high : (bytes more : List ℕ) → 0 < length bytes → AreHigh bytes → is_unended true (bytes ++ more) ≡ is_unended false more
behind_high [] more some high = absurd (omega arith)
behind_high (byte ∷ bytes) more some high = high_pass bytes more (λ i small. high (suc i) (omega arith))

-- the character behind a `\`
character_passes : (character : ℕ) (more : List ℕ) → is_unended true (encode_utf8 character ++ more) ≡ is_unended false more
character_passes character more =
    elim (cases_lt character 128) [
      | inl low ↦ ap (λ (x : List ℕ). is_unended true (x ++ more)) (encode_ascii character low)
      | inr high ↦ behind_high (encode_utf8 character) more (omega (arith, length-encode character, (len_utf8_bounds character).0))
          (λ i small. elim (cases_lt (get_or (encode_utf8 character) i 0) 128) [
            | inl low ↦ let same = inside_one character [] (encode_utf8 character) i (sym (append-nil (encode_utf8 character))) small low in absurd (omega arith)
            | inr is ↦ is
          ])
    ]

-- ---- parts

-- what ends bytes ends those behind some that a reading passes
ended_behind : (passed rest behind : List ℕ) → ((more : List ℕ) → is_unended false (passed ++ more) ≡ is_unended false more) → IsEnded (passed ++ rest) behind → IsEnded rest behind
ended_behind passed rest [] each ended = tt
ended_behind passed rest (byte ∷ behind) each ended =
    sym (ap (λ (x : List ℕ). is_unended false x) (append_assoc passed rest (byte ∷ [])) ∙ each (rest ++ byte ∷ [])) ∙ ended

-- a `\` alone ends nothing
alone_last : (raw behind : List ℕ) → raw ≡ 92 ∷ [] → IsEnded raw behind → behind ≡ []
alone_last raw [] is ended = refl
alone_last raw (byte ∷ behind) is ended = absurd (false≢true (sym ended ∙ ap (λ (x : List ℕ). is_unended false (x ++ byte ∷ [])) is))

-- what goes on behind a part
part_goes : (part : Part) (rest behind : List ℕ) → IsPart part rest → is_unended false (part_bytes part ++ rest) ≡ true → IsEnded (part_bytes part ++ rest) behind
    → (is_unended false rest ≡ true) × IsEnded rest behind
part_goes (Good piece) rest behind is goes ended =
    let tight = piece_tight piece rest is goes in
    (tight.1, ended_behind (spelling piece) rest behind (λ more. piece_passes piece more tight.0) ended)
part_goes (Bad bytes) rest behind (inl (alone, last), never) goes ended =
    let nothing = alone_last (bytes ++ rest) behind (ap (λ (x : List ℕ). x ++ rest) alone ∙ ap (λ (x : List ℕ). 92 ∷ x) last) ended in (
      subst (λ (x : List ℕ). is_unended false x ≡ true) (sym last) refl,
      subst (λ (x : List ℕ). IsEnded rest x) (sym nothing) tt,
    )
part_goes (Bad bytes) rest behind (inr (character, scalar, is), never) goes ended =
    let each : (more : List ℕ) → is_unended false (bytes ++ more) ≡ is_unended false more =
    λ more. ap (λ (x : List ℕ). is_unended false (x ++ more)) is ∙ character_passes character more in
    (sym (each rest) ∙ goes, ended_behind bytes rest behind each ended)

-- a bad escape is one with more behind it
bad_more : (bytes rest behind : List ℕ) → IsBadEscape bytes rest → IsEnded (bytes ++ rest) behind → IsBadEscape bytes (rest ++ behind)
bad_more bytes rest behind (inl (alone, last)) ended =
    let nothing = alone_last (bytes ++ rest) behind (ap (λ (x : List ℕ). x ++ rest) alone ∙ ap (λ (x : List ℕ). 92 ∷ x) last) ended in
    inl (alone, ap (λ (x : List ℕ). x ++ behind) last ∙ nothing)
bad_more bytes rest behind (inr whole) ended = inr whole

spans_stay : (all before behind : List ℕ) (parts : List Part) → all ≡ before ++ (flat_map part_bytes parts ++ behind) → AreParts parts
    → is_unended false (flat_map part_bytes parts) ≡ true → IsEnded (flat_map part_bytes parts) behind → AllByRecursion (IsSpanOf all) (spans_of (length before) parts)
spans_stay all before behind [] whole are goes ended = tt
spans_stay all before behind (part ∷ parts) whole are goes ended =
    let rest = flat_map part_bytes parts in
    let next = part_goes part rest behind are.0 goes ended in
    let parted : all ≡ before ++ (part_bytes part ++ (rest ++ behind)) =
    whole ∙ ap (λ (x : List ℕ). before ++ x) (append_assoc (part_bytes part) rest behind) in
    let more = spans_stay all (before ++ part_bytes part) behind parts (parted ∙ sym (append_assoc before (part_bytes part) (rest ++ behind))) are.1 next.0 next.1 in
    by_part part (length-append before (part_bytes part)) are.0 ended parted more where
      by_part : (p : Part) → length (before ++ part_bytes p) ≡ length before + length (part_bytes p) → IsPart p (flat_map part_bytes parts)
          → IsEnded (part_bytes p ++ flat_map part_bytes parts) behind → all ≡ before ++ (part_bytes p ++ (flat_map part_bytes parts ++ behind))
          → AllByRecursion (IsSpanOf all) (spans_of (length (before ++ part_bytes p)) parts) → AllByRecursion (IsSpanOf all) (spans_of (length before) (p ∷ parts))
      by_part (Good piece) long is ends parted more = subst (λ (n : ℕ). AllByRecursion (IsSpanOf all) (spans_of n parts)) long more
      by_part (Bad bytes) long is ends parted more = (
        record {
          before = before;
          bytes = bytes;
          behind = flat_map part_bytes parts ++ behind;
          whole = parted ∙ sym (append_assoc before bytes (flat_map part_bytes parts ++ behind));
          begins = refl;
          long = refl;
          bad = bad_more bytes (flat_map part_bytes parts) behind is.0 ends;
        },
        subst (λ (n : ℕ). AllByRecursion (IsSpanOf all) (spans_of n parts)) long more,
      )

pub bad_escapes_stay : (raw behind text : List ℕ) (bad : List EscapeSpan) → IsUnended raw → IsEnded raw behind → IsRead raw text bad → AllByRecursion (IsSpanOf (raw ++ behind)) bad
bad_escapes_stay raw behind text bad goes ended read =
    subst (λ (spans : List EscapeSpan). AllByRecursion (IsSpanOf (raw ++ behind)) spans) (sym read.told)
    (spans_stay (raw ++ behind) [] behind read.parts (ap (λ (x : List ℕ). x ++ behind) read.whole) read.each
    (subst (λ (x : List ℕ). is_unended false x ≡ true) read.whole goes) (subst (λ (x : List ℕ). IsEnded x behind) read.whole ended))
