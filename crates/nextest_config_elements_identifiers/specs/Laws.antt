-- What the laws say.
use Rattle.std.specs.Prelude.{◌≡◌, ℕ, List, true, IsUtf8}
use Rattle.nextest_config_elements_identifiers.specs.Identifier.{nfc_of}
use Rattle.nextest_config_elements_identifiers.specs.Config.{IsIdentifier, identifier, is_tool}
use Rattle.nextest_config_elements_identifiers.specs.Parts.{IsOfTool}

-- texts with one NFC are one identifier, or refused alike
abbrev pub OneIdentifier : Type 0
OneIdentifier = (one other : List ℕ) → nfc_of one ≡ nfc_of other → identifier one ≡ identifier other

-- an identifier that begins with `@` is of this form
abbrev pub ToolIdentifier : Type 0
ToolIdentifier = (text : List ℕ) → IsUtf8 text → IsIdentifier text → is_tool text ≡ true
    → (first : List ℕ) × (second : List ℕ) × IsOfTool text first second
