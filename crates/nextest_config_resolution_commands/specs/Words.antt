-- The words of a command that is written as one text, as a Unix shell divides them. All is over
-- bytes.
use Rattle.std.specs.Prelude.{◌≡◌, ◌≢◌, ℕ, ◌==◌, Bool, true, false, ◌||◌, not, ◌&&◌, List, [], ◌∷◌, ◌++◌}
use Rattle.std.specs.List.{AllByRecursion}

-- a space, a tab or a line feed divides words
abbrev pub is_divider : ℕ → Bool
is_divider byte = byte == 32 || byte == 9 || byte == 10

-- what a backslash takes between double quotes: `"`, `\`, `$` and a backtick
abbrev pub is_taken : ℕ → Bool
is_taken byte = byte == 34 || byte == 92 || byte == 36 || byte == 96

-- bytes among which this one isn't
abbrev pub HasNo : ℕ → List ℕ → Type 0
HasNo byte text = AllByRecursion (λ one. one ≢ byte) text

-- bytes between double quotes, and what they say: those that stand for themselves; what a backslash
-- takes; nothing for a backslash and a line feed; and before anything else a backslash stands for
-- itself
pub data IsQuoted : List ℕ → List ℕ → Type 0 where
  quoted_nothing : IsQuoted [] []
  quoted_itself : (byte : ℕ) (text said : List ℕ) → byte ≢ 34 → byte ≢ 92 → IsQuoted text said → IsQuoted (byte ∷ text) (byte ∷ said)
  quoted_taken : (byte : ℕ) (text said : List ℕ) → is_taken byte ≡ true → IsQuoted text said → IsQuoted (92 ∷ byte ∷ text) (byte ∷ said)
  quoted_joined : (text said : List ℕ) → IsQuoted text said → IsQuoted (92 ∷ 10 ∷ text) said
  quoted_kept : (byte : ℕ) (text said : List ℕ) → is_taken byte ≡ false → byte ≢ 10 → IsQuoted text said → IsQuoted (92 ∷ byte ∷ text) (92 ∷ byte ∷ said)

-- a byte that stands for itself in a word: no divider, quote or backslash
abbrev pub is_plain : ℕ → Bool
is_plain byte = not (is_divider byte || byte == 39 || byte == 34 || byte == 92)

-- pieces of a word stand at the front of a text, say this, and then the rest follows: bytes that
-- stand for themselves; what a backslash takes, any byte but a line feed, with which it stands for
-- nothing; a backslash at the end of the text, which stands for itself; what is between single
-- quotes, as it stands; what is between double quotes
pub data ArePieces : List ℕ → List ℕ → List ℕ → Type 0 where
  no_pieces : (rest : List ℕ) → ArePieces rest [] rest
  itself : (byte : ℕ) (text said rest : List ℕ) → is_plain byte ≡ true → ArePieces text said rest → ArePieces (byte ∷ text) (byte ∷ said) rest
  escaped : (byte : ℕ) (text said rest : List ℕ) → byte ≢ 10 → ArePieces text said rest → ArePieces (92 ∷ byte ∷ text) (byte ∷ said) rest
  joined : (text said rest : List ℕ) → ArePieces text said rest → ArePieces (92 ∷ 10 ∷ text) said rest
  last : ArePieces (92 ∷ []) (92 ∷ []) []
  literal : (inside text said rest : List ℕ) → HasNo 39 inside → ArePieces text said rest
      → ArePieces (39 ∷ inside ++ 39 ∷ text) (inside ++ said) rest
  quoted : (inside meant text said rest : List ℕ) → IsQuoted inside meant → ArePieces text said rest
      → ArePieces (34 ∷ inside ++ 34 ∷ text) (meant ++ said) rest

-- what may stand before a word, and behind the last one: dividers, a backslash with a line feed,
-- and comments, each from a `#` up to the next line feed or the end
pub data IsGap : List ℕ → List ℕ → Type 0 where
  no_gap : (rest : List ℕ) → IsGap rest rest
  divided : (byte : ℕ) (text rest : List ℕ) → is_divider byte ≡ true → IsGap text rest → IsGap (byte ∷ text) rest
  continued : (text rest : List ℕ) → IsGap text rest → IsGap (92 ∷ 10 ∷ text) rest
  comment : (inside text rest : List ℕ) → HasNo 10 inside → IsGap text rest → IsGap (35 ∷ inside ++ 10 ∷ text) rest
  last_comment : (inside : List ℕ) → HasNo 10 inside → IsGap (35 ∷ inside) []

-- a text begins with a word: with no divider, no `#`, and no backslash with a line feed
abbrev pub begins_word : List ℕ → Bool
begins_word [] = false
begins_word (byte ∷ []) = not (is_divider byte || byte == 35)
begins_word (byte ∷ (next ∷ rest)) = not (is_divider byte || byte == 35) && not (byte == 92 && next == 10)

-- a word ends where a divider or nothing follows
abbrev pub ends_word : List ℕ → Bool
ends_word [] = true
ends_word (byte ∷ rest) = is_divider byte

-- a text has these words, each behind a gap, and a gap behind the last
pub data AreWords : List ℕ → List (List ℕ) → Type 0 where
  no_words : (text : List ℕ) → IsGap text [] → AreWords text []
  one_more : (text inside word behind : List ℕ) (words : List (List ℕ)) → IsGap text inside → begins_word inside ≡ true
      → ArePieces inside word behind → ends_word behind ≡ true → AreWords behind words → AreWords text (word ∷ words)
