-- What stands between the slashes of a regular expression.
use Rattle.std.specs.Prelude.{◌≡◌, ◌≢◌, ℕ, List, [], ◌∷◌, ◌++◌}
use Rattle.nextest_filtering_escapes.specs.Printing.{regex_text_of}

-- the last byte is no `\`
abbrev pub EndsBare : List ℕ → Type 0
EndsBare text = (front : List ℕ) → text ≢ front ++ 92 ∷ []

-- raw stands for the regular expression text
abbrev pub IsRegexText : List ℕ → List ℕ → Type 0
IsRegexText raw text = (raw ≡ regex_text_of text) × EndsBare text

-- raw stands for some regular expression
abbrev pub HasRegexText : List ℕ → Type 0
HasRegexText raw = (text : List ℕ) × IsRegexText raw text

-- no front stands for a regular expression with a `/` behind it
abbrev pub HasNoRegex : List ℕ → Type 0
HasNoRegex input = (raw text rest : List ℕ) → IsRegexText raw text → input ≡ raw ++ 47 ∷ rest → ⊥

-- whatever front stands for one with a `/` behind it is this front, and what follows this rest
abbrev pub IsOnlyRegex : List ℕ → List ℕ → List ℕ → Type 0
IsOnlyRegex input front behind = (raw text rest : List ℕ) → IsRegexText raw text → input ≡ raw ++ 47 ∷ rest → (raw ≡ front) × (rest ≡ behind)
