-- What the NFC of a text says of it as the name of a tool.
use Rattle.std.proofs.Common.{◌≡◌, ℕ, ◌<◌, true, false, List, [], ◌∷◌, length, Ok, Err, chars, refl, sym, arith}
use Rattle.std.specs.Prelude.{IsUtf8, encode_utf8_all}
use Rattle.std.proofs.lemmas.Bool.{cond-true, cond-false}
use Rattle.std.proofs.lemmas.Str.{chars_from_encodes, length-le-encodes}
use Rattle.unicode_normalization.specs.Forms.{nfc}
pub use Rattle.unicode_normalization.proofs.FormsLemmas.{nfc_idem}
use Rattle.nextest_config_elements_identifiers.specs.declared.invalid_identifier.InvalidIdentifier.TheVariants as refused
use Rattle.nextest_config_elements_identifiers.specs.Identifier.{nfc_of, is_plain, name_of, tool_name}

-- the characters of an NFC
pub chars-composed : (text name : List ℕ) → IsUtf8 name → name ≡ nfc_of text → nfc (chars text) ≡ chars name
chars-composed text name utf8 is = chars_from_encodes (nfc (chars text)) name utf8 (sym is)

-- each way in which characters are a name, as they stand
name_of-empty : (characters : List ℕ) → length (encode_utf8_all characters) ≡ 0 → name_of characters ≡ Err refused.Empty
name_of-empty [] none = refl
name_of-empty (first ∷ further) none = absurd (omega (arith, length-le-encodes (first ∷ further)))

name_of-plain : (characters : List ℕ) → is_plain characters ≡ true
    → name_of characters ≡ Ok (encode_utf8_all characters)
name_of-plain [] plain = cc
name_of-plain (first ∷ further) plain = cond-true _ _ _ plain

name_of-other : (characters : List ℕ) → is_plain characters ≡ false → 0 < length (encode_utf8_all characters)
    → name_of characters ≡ Err (refused.InvalidXid (encode_utf8_all characters))
name_of-other [] other some = absurd (omega arith)
name_of-other (first ∷ further) other some = cond-false _ _ _ other

-- each way in which a text is read, by its NFC
pub tool_name-empty : (text : List ℕ) → length (nfc_of text) ≡ 0 → tool_name text ≡ Err refused.Empty
tool_name-empty text = name_of-empty (nfc (chars text))

pub tool_name-plain : (text : List ℕ) → is_plain (nfc (chars text)) ≡ true → tool_name text ≡ Ok (nfc_of text)
tool_name-plain text = name_of-plain (nfc (chars text))

pub tool_name-other : (text : List ℕ) → is_plain (nfc (chars text)) ≡ false → 0 < length (nfc_of text)
    → tool_name text ≡ Err (refused.InvalidXid (nfc_of text))
tool_name-other text = name_of-other (nfc (chars text))

-- what reads a text; a name is read as itself, since its NFC is its own NFC
pub ruleset readings = (tool_name-empty, tool_name-plain, tool_name-other, nfc_idem)
