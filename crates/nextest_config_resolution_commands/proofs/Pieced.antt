-- What pieces make up is what is read from the left.
use Rattle.std.proofs.Common.{◌≡◌, ℕ, true, List, [], ◌∷◌, ◌++◌, Option, Some, refl, sym, ap, ◌∙◌}
use Rattle.std.specs.Prelude.{option_map}
use Rattle.std.proofs.lemmas.List.{append-nil, append_assoc}
use Rattle.nextest_config_resolution_commands.specs.Words as w
use Rattle.nextest_config_resolution_commands.specs.Words.{HasNo, IsQuoted, ArePieces, IsGap, AreWords, begins_word, ends_word, is_divider}
use Rattle.nextest_config_resolution_commands.specs.Splitting as split
use Rattle.nextest_config_resolution_commands.specs.Splitting.{by_step, words_from, words_of}
use Rattle.nextest_config_resolution_commands.specs.declared.steps.Place.{Place}
use Rattle.nextest_config_resolution_commands.specs.declared.steps.Place.TheVariants as place
use Rattle.nextest_config_resolution_commands.specs.declared.steps.SplitStep.{SplitStep}
use Rattle.nextest_config_resolution_commands.proofs.Bytes as bytes
use Rattle.nextest_config_resolution_commands.proofs.Bytes.{Byte, byte_is}

abbrev pub Split : Type 0
Split = Option (List (List ℕ))

-- a step that is known is taken
pub stepped : (text word : List ℕ) (byte : ℕ) (a b : SplitStep) → a ≡ b → by_step (words_from text) a word (byte ∷ []) ≡ by_step (words_from text) b word (byte ∷ [])
stepped text word byte a b e = ap (λ (it : SplitStep). by_step (words_from text) it word (byte ∷ [])) e

-- one byte more of a word, and what follows
one_more : (at : Place) (rest word said : List ℕ) (byte : ℕ)
    → words_from rest at ((word ++ byte ∷ []) ++ said) ≡ words_from rest at (word ++ byte ∷ said)
one_more at rest word said byte = ap (λ (it : List ℕ). words_from rest at it) (append_assoc word (byte ∷ []) said)

none_more : (at : Place) (rest word : List ℕ) → words_from rest at word ≡ words_from rest at (word ++ [])
none_more at rest word = ap (λ (it : List ℕ). words_from rest at it) (sym (append-nil word))

-- ---- quotes

literal_read : (inside rest word : List ℕ) → HasNo 39 inside → words_from (inside ++ 39 ∷ rest) place.Literal word ≡ words_from rest place.Inside (word ++ inside)
literal_read [] rest word isnt = none_more place.Inside rest word
literal_read (byte ∷ inside) rest word isnt =
    stepped (inside ++ 39 ∷ rest) word byte _ _ (bytes.takes_literal (byte_is byte) isnt.0)
    ∙ literal_read inside rest (word ++ byte ∷ []) isnt.1
    ∙ one_more place.Inside rest word inside byte

quoted_read : {inside meant : List ℕ} → IsQuoted inside meant → (rest word : List ℕ)
    → words_from (inside ++ 34 ∷ rest) place.Quoted word ≡ words_from rest place.Inside (word ++ meant)
quoted_read w.quoted_nothing rest word = none_more place.Inside rest word
quoted_read (w.quoted_itself byte inside meant isnt nor is) rest word =
    stepped (inside ++ 34 ∷ rest) word byte _ _ (bytes.takes_quoted (byte_is byte) isnt nor)
    ∙ quoted_read is rest (word ++ byte ∷ [])
    ∙ one_more place.Inside rest word meant byte
quoted_read (w.quoted_taken byte inside meant taken is) rest word =
    stepped (inside ++ 34 ∷ rest) word byte _ _ (bytes.takes_taken (byte_is byte) taken)
    ∙ quoted_read is rest (word ++ byte ∷ [])
    ∙ one_more place.Inside rest word meant byte
quoted_read (w.quoted_joined inside meant is) rest word = quoted_read is rest word
quoted_read (w.quoted_kept byte inside meant kept isnt is) rest word =
    stepped (inside ++ 34 ∷ rest) word byte _ _ (bytes.keeps (byte_is byte) kept isnt)
    ∙ quoted_read is rest (word ++ 92 ∷ byte ∷ [])
    ∙ ap (λ (it : List ℕ). words_from rest place.Inside it) (append_assoc word (92 ∷ byte ∷ []) meant)

-- ---- a word

pub pieces_read : {text said rest : List ℕ} → ArePieces text said rest → (word : List ℕ)
    → words_from text place.Inside word ≡ words_from rest place.Inside (word ++ said)
pieces_read (w.no_pieces rest) word = none_more place.Inside rest word
pieces_read (w.itself byte text said rest plain are) word =
    stepped text word byte _ _ (bytes.takes_plain (byte_is byte) plain)
    ∙ pieces_read are (word ++ byte ∷ [])
    ∙ one_more place.Inside rest word said byte
pieces_read (w.escaped byte text said rest isnt are) word =
    stepped text word byte _ _ (bytes.takes_escaped (byte_is byte) isnt place.Inside)
    ∙ pieces_read are (word ++ byte ∷ [])
    ∙ one_more place.Inside rest word said byte
pieces_read (w.joined text said rest are) word = pieces_read are word
pieces_read w.last word = refl
pieces_read (w.literal inside text said rest isnt are) word =
    literal_read inside text word isnt
    ∙ pieces_read are (word ++ inside)
    ∙ ap (λ (it : List ℕ). words_from rest place.Inside it) (append_assoc word inside said)
pieces_read (w.quoted inside meant text said rest is are) word =
    quoted_read is text word
    ∙ pieces_read are (word ++ meant)
    ∙ ap (λ (it : List ℕ). words_from rest place.Inside it) (append_assoc word meant said)

-- ---- before and behind it

comment_read : (inside rest : List ℕ) → HasNo 10 inside → words_from (inside ++ 10 ∷ rest) place.Comment [] ≡ words_from rest place.Between []
comment_read [] rest isnt = refl
comment_read (byte ∷ inside) rest isnt = stepped (inside ++ 10 ∷ rest) [] byte _ _ (bytes.passes_comment (byte_is byte) isnt.0) ∙ comment_read inside rest isnt.1

last_read : (inside : List ℕ) → HasNo 10 inside → words_from inside place.Comment [] ≡ Some []
last_read [] isnt = refl
last_read (byte ∷ inside) isnt = stepped inside [] byte _ _ (bytes.passes_comment (byte_is byte) isnt.0) ∙ last_read inside isnt.1

gap_read : {text rest : List ℕ} → IsGap text rest → words_from text place.Between [] ≡ words_from rest place.Between []
gap_read (w.no_gap rest) = refl
gap_read (w.divided byte text rest divides gap) = stepped text [] byte _ _ (bytes.passes_divider (byte_is byte) divides) ∙ gap_read gap
gap_read (w.continued text rest gap) = gap_read gap
gap_read (w.comment inside text rest isnt gap) = comment_read inside text isnt ∙ gap_read gap
gap_read (w.last_comment inside isnt) = last_read inside isnt

-- a word begins
begun : {byte : ℕ} → Byte byte → (text : List ℕ) → begins_word (byte ∷ text) ≡ true
    → words_from (byte ∷ text) place.Between [] ≡ words_from (byte ∷ text) place.Inside []
begun bytes.line_feed [] e = absurd (cc)
begun bytes.line_feed (next ∷ text) e = absurd (cc)
begun bytes.space [] e = absurd (cc)
begun bytes.space (next ∷ text) e = absurd (cc)
begun bytes.tab [] e = absurd (cc)
begun bytes.tab (next ∷ text) e = absurd (cc)
begun bytes.quote text e = refl
begun bytes.double_quote text e = refl
begun bytes.backslash [] e = refl
begun bytes.backslash (next ∷ text) e = slashed next (byte_is next) text e where
  slashed : (next : ℕ) → Byte next → (text : List ℕ) → begins_word (92 ∷ next ∷ text) ≡ true
      → words_from (next ∷ text) place.BetweenEscaped [] ≡ words_from (next ∷ text) place.InsideEscaped []
  slashed next bytes.line_feed text e = absurd (cc)
  slashed next bytes.space text e = refl
  slashed next bytes.tab text e = refl
  slashed next bytes.quote text e = refl
  slashed next bytes.double_quote text e = refl
  slashed next bytes.backslash text e = refl
  slashed next bytes.hash text e = refl
  slashed next bytes.dollar text e = refl
  slashed next bytes.backtick text e = refl
  slashed next (bytes.other byte is) text e =
      stepped text [] byte _ _ (ap (split.after_backslash place.Between) is.is) ∙ sym (stepped text [] byte _ _ (ap (split.after_backslash place.Inside) is.is))
begun bytes.hash [] e = absurd (cc)
begun bytes.hash (next ∷ text) e = absurd (cc)
begun bytes.dollar text e = refl
begun bytes.backtick text e = refl
begun (bytes.other byte is) text e = stepped text [] byte _ _ (ap split.between is.is) ∙ sym (stepped text [] byte _ _ (ap split.inside is.is))

begins : (text : List ℕ) → begins_word text ≡ true → words_from text place.Between [] ≡ words_from text place.Inside []
begins [] e = absurd (cc)
begins (byte ∷ text) e = begun (byte_is byte) text e

-- a word ends
ended : {byte : ℕ} → Byte byte → (text word : List ℕ) → is_divider byte ≡ true
    → words_from (byte ∷ text) place.Inside word ≡ option_map (λ words. word ∷ words) (words_from (byte ∷ text) place.Between [])
ended {byte = byte} it text word e =
    stepped text word byte _ _ (bytes.ends_at it e)
    ∙ ap (λ (it : Split). option_map (λ words. word ∷ words) it) (sym (stepped text [] byte _ _ (bytes.passes_divider it e)))

ends : (text word : List ℕ) → ends_word text ≡ true
    → words_from text place.Inside word ≡ option_map (λ words. word ∷ words) (words_from text place.Between [])
ends [] word e = refl
ends (byte ∷ text) word e = ended (byte_is byte) text word e

pub words_read : {text : List ℕ} {words : List (List ℕ)} → AreWords text words → words_of text ≡ Some words
words_read (w.no_words text gap) = gap_read gap
words_read (w.one_more text inside word behind words gap start are end more) =
    gap_read gap ∙ begins inside start ∙ pieces_read are [] ∙ ends behind word end
    ∙ ap (λ (it : Split). option_map (λ words. word ∷ words) it) (words_read more)
