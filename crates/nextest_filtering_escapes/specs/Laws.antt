-- What holds of every text, and of how it prints.
use Rattle.std.specs.Prelude.{◌≡◌, ◌↔◌, ◌⊎◌, ℕ, true, false, List, [], ◌∷◌, ◌++◌}
use Rattle.std.specs.List.{AllByRecursion}
use Rattle.nextest_filtering_escapes.specs.Text.{IsText, is_blank}
use Rattle.nextest_filtering_escapes.specs.Ends.{IsUnended, IsEnded}
use Rattle.nextest_filtering_escapes.specs.Spans.{IsSpanOf}
use Rattle.nextest_filtering_escapes.specs.Parts.{IsRead}
use Rattle.nextest_filtering_escapes.specs.Printing.{text_with_escapes}
use Rattle.nextest_filtering_escapes.specs.declared.escapes.EscapeSpan.{EscapeSpan}
use Rattle.nextest_filtering_escapes.specs.Regex.{IsRegexText}

-- bytes stand for one text at most
abbrev pub OneText : Type 0
OneText = (raw a b : List ℕ) → IsText raw a → IsText raw b → a ≡ b

-- bytes, of whatever kind, are read in one way: as one text, with one list of bad escapes
abbrev pub OneReading : Type 0
OneReading = (raw a b : List ℕ) (s t : List EscapeSpan) → IsRead raw a s → IsRead raw b t → (a ≡ b) × (s ≡ t)

-- the bad escapes of the bytes before an end are bad escapes of all: a `\` that is told alone is
-- the last byte
abbrev pub BadEscapesStay : Type 0
BadEscapesStay = (raw behind text : List ℕ) (bad : List EscapeSpan) → IsUnended raw → IsEnded raw behind → IsRead raw text bad
    → AllByRecursion (IsSpanOf (raw ++ behind)) bad

-- bytes stand for one regular expression at most
abbrev pub OneRegex : Type 0
OneRegex = (raw a b : List ℕ) → IsRegexText raw a → IsRegexText raw b → a ≡ b

-- a text that was printed is read as what it was
abbrev pub EscapedReadsBack : Type 0
EscapedReadsBack = (text : List ℕ) → IsText (text_with_escapes text) text

-- the first byte of what is printed is that of the text, or a `\`
abbrev pub BeginsAs : List ℕ → List ℕ → Type 0
BeginsAs text shown = (first : ℕ) (rest : List ℕ) → shown ≡ first ∷ rest → (first ≡ 92) ⊎ ((behind : List ℕ) × (text ≡ first ∷ behind))

-- neither the first nor the last byte is blank
abbrev pub HasNoBlankEnds : List ℕ → Type 0
HasNoBlankEnds shown = ((first : ℕ) (rest : List ℕ) → shown ≡ first ∷ rest → is_blank first ≡ false)
    × ((front : List ℕ) (last : ℕ) → shown ≡ front ++ last ∷ [] → is_blank last ≡ false)

-- a text that was printed is empty just where the text is, begins as it or with a `\`, never with a
-- `/`, and has no blank ends
abbrev pub EscapedHasNoBlankEnds : Type 0
EscapedHasNoBlankEnds = (text : List ℕ) → ((text_with_escapes text ≡ []) ↔ (text ≡ [])) × BeginsAs text (text_with_escapes text)
    × ((rest : List ℕ) → text_with_escapes text ≡ 47 ∷ rest → ⊥) × HasNoBlankEnds (text_with_escapes text)

-- blanks around a text stand for themselves
abbrev pub PlainAround : Type 0
PlainAround = (before raw behind text : List ℕ) → AllByRecursion (λ byte. is_blank byte ≡ true) before
    → AllByRecursion (λ byte. is_blank byte ≡ true) behind → IsText raw text → IsText (before ++ raw ++ behind) (before ++ text ++ behind)
