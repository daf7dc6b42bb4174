-- What is read as an identifier.
use Rattle.std.proofs.Common.{◌≡◌, ℕ, Bool, true, false, List, Option, Some, None, Ok, chars, refl, sym, ap, ◌∙◌, subst}
use Rattle.std.specs.Prelude.{encode_utf8_all}
use Rattle.unicode_normalization.specs.Forms.{nfc}
use Rattle.unicode_normalization.proofs.FormsLemmas.{nfc_idem}
use Rattle.nextest_config_elements_identifiers.specs.Identifier.{nfc_of, is_plain}
use Rattle.nextest_config_elements_identifiers.specs.Config.{IsIdentifier, identifier_of, is_empty, is_tool, named_by}
use Rattle.nextest_config_elements_identifiers.specs.Parts.{tool_parts}

-- a text that is read as an identifier of a tool is read as itself
named_same : (text name : List ℕ) (names : Option (List ℕ × List ℕ)) → named_by text names ≡ Ok name → text ≡ name
named_same text name None is = cc
named_same text name (Some names) is = go (is_empty names.0) (is_empty names.1) (is_plain (chars names.0)) (is_plain (chars names.1)) refl refl refl refl
  where
    go : (no_tool no_own tool own : Bool) → is_empty names.0 ≡ no_tool → is_empty names.1 ≡ no_own
        → is_plain (chars names.0) ≡ tool → is_plain (chars names.1) ≡ own → text ≡ name
    go true _ _ _ e _ _ _ = let known = rw e at is in cc
    go false true _ _ e f _ _ = let known = rw (e, f) at is in cc
    go false false false _ e f g _ = let known = rw (e, f, g) at is in cc
    go false false true false e f g h = let known = rw (e, f, g, h) at is in cc
    go false false true true e f g h = let known = rw (e, f, g, h) at is in cc

-- a text that is read as an identifier is read as itself
pub identifier_same : (text name : List ℕ) → identifier_of text ≡ Ok name → text ≡ name
identifier_same text name is = go (is_empty text) (is_tool text) (is_plain (chars text)) refl refl refl
  where
    go : (empty tool plain : Bool) → is_empty text ≡ empty → is_tool text ≡ tool → is_plain (chars text) ≡ plain → text ≡ name
    go true _ _ e _ _ = let known = rw e at is in cc
    go false true _ e f _ = let known = rw (e, f) at is in named_same text name (tool_parts text) known
    go false false true e f g = let known = rw (e, f, g) at is in cc
    go false false false e f g = let known = rw (e, f, g) at is in cc

-- what an NFC is read as is an identifier, since it is its own NFC
pub identifier_composed : (given text name : List ℕ) → text ≡ nfc_of given → chars text ≡ nfc (chars given)
    → identifier_of text ≡ Ok name → IsIdentifier name
identifier_composed given text name is characters read =
    let same : text ≡ name = identifier_same text name read in
    let own : nfc_of text ≡ text = ap (λ cs. encode_utf8_all (nfc cs)) characters ∙ ap encode_utf8_all (nfc_idem (chars given)) ∙ sym is in
    subst IsIdentifier same (ap identifier_of own ∙ read ∙ ap Ok (sym same))
