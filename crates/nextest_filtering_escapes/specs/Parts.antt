-- All that a reading of a text with escapes gives, whatever the bytes.
use Rattle.std.specs.Prelude.{◌≡◌, ◌≢◌, ℕ, ◌+◌, List, [], ◌∷◌, ◌++◌, length, ⊤}
use Rattle.std.specs.List.{flat_map}
use Rattle.nextest_filtering_escapes.specs.declared.escapes.EscapeSpan.{EscapeSpan}
use Rattle.nextest_filtering_escapes.specs.Text.{Piece, Plain, Escaped, Unicode, IsPiece, spelling, meaning}
use Rattle.nextest_filtering_escapes.specs.Spans.{IsBadEscape}

-- a part of what is read: a piece, or the bytes of a bad escape
pub data Part : Type 0 where
  Good : Piece → Part
  Bad : List ℕ → Part

-- a piece, where a `)` or `,` that isn't escaped stands for itself too
abbrev pub IsLoosePiece : Piece → Type 0
IsLoosePiece (Plain byte) = byte ≢ 92
IsLoosePiece (Escaped letter meant) = IsPiece (Escaped letter meant)
IsLoosePiece (Unicode digits scalar) = IsPiece (Unicode digits scalar)

-- the bytes of a part
abbrev pub part_bytes : Part → List ℕ
part_bytes (Good piece) = spelling piece
part_bytes (Bad bytes) = bytes

-- what a part stands for: a bad escape for nothing
abbrev pub part_text : Part → List ℕ
part_text (Good piece) = meaning piece
part_text (Bad bytes) = []

-- what may stand before these bytes: a piece, or a bad escape, where no piece begins
abbrev pub IsPart : Part → List ℕ → Type 0
IsPart (Good piece) behind = IsLoosePiece piece
IsPart (Bad bytes) behind = IsBadEscape bytes behind × ((piece : Piece) (rest : List ℕ) → IsPiece piece → bytes ++ behind ≡ spelling piece ++ rest → ⊥)

-- each part may stand before the bytes of those behind it
abbrev pub AreParts : List Part → Type 0
AreParts [] = ⊤
AreParts (part ∷ parts) = IsPart part (flat_map part_bytes parts) × AreParts parts

-- a bad escape of that many bytes at that place
abbrev pub span_at : ℕ → ℕ → EscapeSpan
span_at offset size = record { offset = offset; length = size }

-- where the bad escapes among the parts stand, the first part at the offset
abbrev pub spans_of : ℕ → List Part → List EscapeSpan
spans_of offset [] = []
spans_of offset (Good piece ∷ parts) = spans_of (offset + length (spelling piece)) parts
spans_of offset (Bad bytes ∷ parts) = span_at offset (length bytes) ∷ spans_of (offset + length bytes) parts

-- raw is parts, which stand for the text, and these are the places of all its bad escapes
pub record IsRead (raw text : List ℕ) (bad : List EscapeSpan) : Type 0 where
  pub parts : List Part
  pub each : AreParts parts
  pub whole : raw ≡ flat_map part_bytes parts
  pub meant : text ≡ flat_map part_text parts
  pub told : bad ≡ spans_of 0 parts
