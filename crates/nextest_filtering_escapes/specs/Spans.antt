-- Where bad escapes stand.
use Rattle.std.specs.Prelude.{◌≡◌, ℕ, ◌+◌, ◌≤◌, List, [], ◌∷◌, ◌++◌, ◌⊎◌, length, encode_utf8}
use Rattle.std.specs.Char.{IsScalar}
use Rattle.nextest_filtering_escapes.specs.declared.escapes.EscapeSpan.{EscapeSpan}

-- a `\` with the whole character behind it, or alone at the end
abbrev pub IsBadEscape : List ℕ → List ℕ → Type 0
IsBadEscape bytes behind = ((bytes ≡ 92 ∷ []) × (behind ≡ [])) ⊎ ((character : ℕ) × IsScalar character × (bytes ≡ 92 ∷ encode_utf8 character))

-- the span holds such bytes of raw
pub record IsSpanOf (raw : List ℕ) (span : EscapeSpan) : Type 0 where
  pub before : List ℕ
  pub bytes : List ℕ
  pub behind : List ℕ
  pub whole : raw ≡ before ++ bytes ++ behind
  pub begins : span.offset ≡ length before
  pub long : span.length ≡ length bytes
  pub bad : IsBadEscape bytes behind

-- each of the spans begins where the one before ends, or later, the first at low or later, and the
-- last ends at high or earlier
abbrev pub Rise : ℕ → List EscapeSpan → ℕ → Type 0
Rise low [] high = low ≤ high
Rise low (span ∷ spans) high = (low ≤ span.offset) × Rise (span.offset + span.length) spans high
