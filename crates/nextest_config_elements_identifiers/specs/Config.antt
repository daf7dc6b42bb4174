-- Which texts are identifiers of a configuration.
use Rattle.std.specs.Prelude.{◌≡◌, ℕ, ◌==◌, Bool, ◌&&◌, ◌||◌, List, length, Option, Some, None, Result, Ok, Err, chars, slice_index, if◌then◌else◌}
use Rattle.nextest_config_elements_identifiers.specs.Identifier.{nfc_of, is_plain}
use Rattle.nextest_config_elements_identifiers.specs.Parts.{tool_parts}
use Rattle.nextest_config_elements_identifiers.specs.declared.invalid_identifier.InvalidIdentifier.{InvalidIdentifier}
use Rattle.nextest_config_elements_identifiers.specs.declared.invalid_identifier.InvalidIdentifier.TheVariants as refused

-- a text is empty
abbrev pub is_empty : List ℕ → Bool
is_empty text = length text == 0

-- a text begins with `@`, as the identifiers of tools do and no others
abbrev pub is_tool : List ℕ → Bool
is_tool text = slice_index text 0 == 64

-- what a text is as an identifier of a tool, with its two names: itself, or why it is none
abbrev pub named_by : List ℕ → Option (List ℕ × List ℕ) → Result (List ℕ) InvalidIdentifier
named_by text None = Err (refused.ToolIdentifierInvalidFormat text)
named_by text (Some names) =
    if is_empty names.0 || is_empty names.1 then Err (refused.ToolComponentEmpty text)
    else if is_plain (chars names.0) && is_plain (chars names.1) then Ok text
    else Err (refused.ToolIdentifierInvalidXid text)

-- what a text is as an identifier, as it stands: itself, or why it is none
abbrev pub identifier_of : List ℕ → Result (List ℕ) InvalidIdentifier
identifier_of text =
    if is_empty text then Err refused.Empty
    else if is_tool text then named_by text (tool_parts text)
    else if is_plain (chars text) then Ok text
    else Err (refused.InvalidXid text)

-- what a text is as an identifier: it is taken in its NFC
abbrev pub identifier : List ℕ → Result (List ℕ) InvalidIdentifier
identifier text = identifier_of (nfc_of text)

-- a text is an identifier: it is what it is read as
abbrev pub IsIdentifier : List ℕ → Type 0
IsIdentifier text = identifier text ≡ Ok text

-- an answer is the one that is meant; running out of memory says nothing
abbrev pub Answers : {Value : Type 0} → Result Value InvalidIdentifier → Result Value InvalidIdentifier → Type 0
Answers meant (Ok value) = meant ≡ Ok value
Answers meant (Err refused.OutOfMemory) = Unit {0}
Answers meant (Err refusal) = meant ≡ Err refusal
