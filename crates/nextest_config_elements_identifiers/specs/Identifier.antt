-- Which texts are plain identifiers, and how the name of a tool is read.
use Rattle.std.specs.Prelude.{◌≡◌, ℕ, ◌==◌, Bool, false, ◌&&◌, ◌||◌, List, [], ◌∷◌, Result, Ok, Err, chars, encode_utf8_all, if◌then◌else◌}
use Rattle.std.specs.List.{list_all}
use Rattle.unicode_ident.specs.Ident.{is_xid_start, is_xid_continue}
use Rattle.unicode_normalization.specs.Forms.{nfc}
use Rattle.nextest_config_elements_identifiers.specs.declared.invalid_identifier.InvalidIdentifier.{InvalidIdentifier}
use Rattle.nextest_config_elements_identifiers.specs.declared.invalid_identifier.InvalidIdentifier.TheVariants as refused

-- the NFC of a text
abbrev pub nfc_of : List ℕ → List ℕ
nfc_of text = encode_utf8_all (nfc (chars text))

-- a character may stand in a plain identifier behind its first
abbrev pub is_further : ℕ → Bool
is_further character = is_xid_continue character || character == 45

-- characters make a plain identifier
abbrev pub is_plain : List ℕ → Bool
is_plain [] = false
is_plain (first ∷ further) = is_xid_start first && list_all is_further further

-- what characters are as the name of a tool, as they stand: the text of a plain identifier, or why
-- they are none
abbrev pub name_of : List ℕ → Result (List ℕ) InvalidIdentifier
name_of [] = Err refused.Empty
name_of (first ∷ further) =
    if is_plain (first ∷ further) then Ok (encode_utf8_all (first ∷ further))
    else Err (refused.InvalidXid (encode_utf8_all (first ∷ further)))

-- what a text is as the name of a tool: it is taken in its NFC
abbrev pub tool_name : List ℕ → Result (List ℕ) InvalidIdentifier
tool_name text = name_of (nfc (chars text))

-- a text is the name of a tool: it is what it is read as
abbrev pub IsToolName : List ℕ → Type 0
IsToolName text = tool_name text ≡ Ok text

-- a read gives what the text is as the name of a tool; running out of memory says nothing
abbrev pub ReadsToolName : List ℕ → Result (List ℕ) InvalidIdentifier → Type 0
ReadsToolName given (Ok name) = tool_name given ≡ Ok name
ReadsToolName given (Err refused.OutOfMemory) = Unit {0}
ReadsToolName given (Err refusal) = tool_name given ≡ Err refusal
