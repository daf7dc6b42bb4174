-- What becomes of a character is what becomes of its bytes.
use Rattle.std.proofs.Common.{◌≡◌, ℕ, ◌<◌, ◌≤◌, List, [], ◌∷◌, ◌++◌, length, get_or, None, Some, suc, refl, sym, ap, ◌∙◌, arith, inl, inr, ◌⊎◌}
use Rattle.std.specs.Prelude.{option_map, encode_utf8}
use native.Mathlib.Decide.{dec_lt}
use Rattle.std.specs.List.{AllByRecursion}
use Rattle.std.proofs.lemmas.List.{append-nil, append_assoc}
use Rattle.std.proofs.lemmas.Str.{encode_ascii, inside_one, length-encode, len_utf8_bounds}
use Rattle.nextest_config_resolution_commands.specs.Splitting as split
use Rattle.nextest_config_resolution_commands.specs.Splitting.{by_step, words_from}
use Rattle.nextest_config_resolution_commands.specs.declared.steps.Kind.{Kind}
use Rattle.nextest_config_resolution_commands.specs.declared.steps.Kind.TheVariants as kind
use Rattle.nextest_config_resolution_commands.specs.declared.steps.Place.{Place}
use Rattle.nextest_config_resolution_commands.specs.declared.steps.Place.TheVariants as place
use Rattle.nextest_config_resolution_commands.specs.declared.steps.SplitStep.{SplitStep}
use Rattle.nextest_config_resolution_commands.specs.declared.steps.SplitStep.TheVariants as step
use Rattle.nextest_config_resolution_commands.proofs.Bytes as bytes
use Rattle.nextest_config_resolution_commands.proofs.Bytes.{Byte, byte_is}
use Rattle.nextest_config_resolution_commands.proofs.Pieced.{Split, stepped}

-- ---- the bytes of a character that isn't ASCII

abbrev pub AreHigh : List ℕ → Type 0
AreHigh said = AllByRecursion (λ byte. 128 ≤ byte) said

high_from : (said : List ℕ) → ((i : ℕ) → i < length said → 128 ≤ get_or said i 0) → AreHigh said
high_from [] each = tt
high_from (byte ∷ said) each = (each 0 (omega arith), high_from said (λ i small. each (suc i) (omega arith)))

high_or : (a b : ℕ) → (a < b) ⊎ (b ≤ a)
high_or a b = elim (dec_lt a b) [ yes small ↦ inl small | no large ↦ inr (omega arith) ]

encoded_high : (character : ℕ) → 128 ≤ character → AreHigh (encode_utf8 character)
encoded_high character high = high_from (encode_utf8 character) each where
  each : (i : ℕ) → i < length (encode_utf8 character) → 128 ≤ get_or (encode_utf8 character) i 0
  each i within = elim (high_or (get_or (encode_utf8 character) i 0) 128) [
    | inl low ↦ let same = inside_one character [] (encode_utf8 character) i (sym (append-nil (encode_utf8 character))) within low in absurd (omega arith)
    | inr it ↦ it
  ]

-- what isn't ASCII is no special character
other_kind : {byte : ℕ} → Byte byte → 128 ≤ byte → split.kind_of byte ≡ kind.Other
other_kind bytes.line_feed high = absurd (omega arith)
other_kind bytes.space high = absurd (omega arith)
other_kind bytes.tab high = absurd (omega arith)
other_kind bytes.quote high = absurd (omega arith)
other_kind bytes.double_quote high = absurd (omega arith)
other_kind bytes.backslash high = absurd (omega arith)
other_kind bytes.hash high = absurd (omega arith)
other_kind bytes.dollar high = absurd (omega arith)
other_kind bytes.backtick high = absurd (omega arith)
other_kind (bytes.other byte is) high = is.is

-- one such byte
high_step : (at : Place) (byte : ℕ) (text word : List ℕ) → 128 ≤ byte
    → words_from (byte ∷ text) at word ≡ by_step (words_from text) (split.step_at at kind.Other) word (byte ∷ [])
high_step at byte text word high = stepped text word byte _ _ (ap (split.step_at at) (other_kind (byte_is byte) high))

-- such bytes, where each is taken, or passed over
high_taken : (at : Place) (said ahead word : List ℕ) → AreHigh said → split.step_at at kind.Other ≡ step.Take at
    → words_from (said ++ ahead) at word ≡ words_from ahead at (word ++ said)
high_taken at [] ahead word high is = ap (λ (it : List ℕ). words_from ahead at it) (sym (append-nil word))
high_taken at (byte ∷ said) ahead word high is =
    high_step at byte (said ++ ahead) word high.0
    ∙ stepped (said ++ ahead) word byte _ _ is
    ∙ high_taken at said ahead (word ++ byte ∷ []) high.1 is
    ∙ ap (λ (it : List ℕ). words_from ahead at it) (append_assoc word (byte ∷ []) said)

high_passed : (said ahead word : List ℕ) → AreHigh said → words_from (said ++ ahead) place.Comment word ≡ words_from ahead place.Comment word
high_passed [] ahead word high = refl
high_passed (byte ∷ said) ahead word high = high_step place.Comment byte (said ++ ahead) word high.0 ∙ high_passed said ahead word high.1

high_read : (at : Place) (said ahead word : List ℕ) → 0 < length said → AreHigh said
    → words_from (said ++ ahead) at word ≡ by_step (words_from ahead) (split.step_at at kind.Other) word said
high_read at [] ahead word some high = absurd (omega arith)
high_read at (byte ∷ said) ahead word some high = high_step at byte (said ++ ahead) word high.0 ∙ further at where
  -- the rest is taken where the first byte is
  taken : (to : Place) → split.step_at to kind.Other ≡ step.Take to
      → words_from (said ++ ahead) to (word ++ byte ∷ []) ≡ words_from ahead to (word ++ byte ∷ said)
  taken to is = high_taken to said ahead (word ++ byte ∷ []) high.1 is ∙ ap (λ (it : List ℕ). words_from ahead to it) (append_assoc word (byte ∷ []) said)

  further : (at : Place) → by_step (words_from (said ++ ahead)) (split.step_at at kind.Other) word (byte ∷ [])
      ≡ by_step (words_from ahead) (split.step_at at kind.Other) word (byte ∷ said)
  further place.Between = taken place.Inside refl
  further place.BetweenEscaped = taken place.Inside refl
  further place.Inside = taken place.Inside refl
  further place.InsideEscaped = taken place.Inside refl
  further place.Literal = taken place.Literal refl
  further place.Quoted = taken place.Quoted refl
  further place.QuotedEscaped =
      high_taken place.Quoted said ahead (word ++ 92 ∷ byte ∷ []) high.1 refl
      ∙ ap (λ (it : List ℕ). words_from ahead place.Quoted it) (append_assoc word (92 ∷ byte ∷ []) said)
  further place.Comment = high_passed said ahead word high.1

-- ---- any character

pub character_read : (at : Place) (character : ℕ) (ahead word : List ℕ)
    → words_from (encode_utf8 character ++ ahead) at word
    ≡ by_step (words_from ahead) (split.step_at at (split.kind_of character)) word (encode_utf8 character)
character_read at character ahead word = elim (high_or character 128) [
  | inl low ↦ let one = encode_ascii character low in rw one refl
  | inr high ↦ high_read at (encode_utf8 character) ahead word (omega (arith, length-encode character, (len_utf8_bounds character).0)) (encoded_high character high)
      ∙ ap (λ (it : Kind). by_step (words_from ahead) (split.step_at at it) word (encode_utf8 character)) (sym (other_kind (byte_is character) high))
]

-- what a step that is known comes to
pub read_by : (words : List (List ℕ)) (at : Place) (word : List ℕ) (character : ℕ) (it : Kind) (found known : SplitStep)
    → it ≡ split.kind_of character → found ≡ split.step_at at it → found ≡ known → (ahead : List ℕ)
    → option_map (λ more. words ++ more) (words_from (encode_utf8 character ++ ahead) at word)
    ≡ option_map (λ more. words ++ more) (by_step (words_from ahead) known word (encode_utf8 character))
read_by words at word character it found known kind_is found_is known_is ahead =
    let step_is : split.step_at at (split.kind_of character) ≡ known = ap (split.step_at at) (sym kind_is) ∙ sym found_is ∙ known_is in
    ap (λ (read : Split). option_map (λ more. words ++ more) read)
    (character_read at character ahead word ∙ ap (λ (by : SplitStep). by_step (words_from ahead) by word (encode_utf8 character)) step_is)

-- the word with more of it
pub grown : (words : List (List ℕ)) (at : Place) (word longer ahead : List ℕ) → longer ≡ word
    → option_map (λ more. words ++ more) (words_from ahead at word) ≡ option_map (λ more. words ++ more) (words_from ahead at longer)
grown words at word longer ahead e = ap (λ (it : List ℕ). option_map (λ more. words ++ more) (words_from ahead at it)) (sym e)

-- with the backslash before it
pub kept : (word slashed longer : List ℕ) (character : ℕ) → slashed ≡ word ++ encode_utf8 92 → longer ≡ slashed ++ encode_utf8 character
    → longer ≡ word ++ 92 ∷ encode_utf8 character
kept word slashed longer character first second =
    second ∙ ap (λ (it : List ℕ). it ++ encode_utf8 character) (first ∙ ap (λ (it : List ℕ). word ++ it) (encode_ascii 92 (omega arith)))
    ∙ append_assoc word (92 ∷ []) (encode_utf8 character)

-- the word is one of those that have ended
pub word_ended : (words : List (List ℕ)) (word : List ℕ) (found : Split)
    → option_map (λ more. words ++ more) (option_map (λ more. word ∷ more) found) ≡ option_map (λ more. (words ++ word ∷ []) ++ more) found
word_ended words word None = refl
word_ended words word (Some more) = ap Some (sym (append_assoc words (word ∷ []) more))
