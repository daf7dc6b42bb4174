-- The form of the identifiers of tools.
use Rattle.std.proofs.Common.{◌≡◌, ℕ, ◌+◌, ◌<◌, Bool, true, false, List, [], ◌∷◌, ◌++◌, length, drop, get_or, Option, Some, None, is_some, Ok, chars, eqb, eqb-true, refl, sym, ap, ◌∙◌, subst, arith}
use Rattle.std.specs.Prelude.{IfSome, IsUtf8, codes, not}
use Rattle.std.specs.Borrow.{Bor}
use Rattle.std.specs.List.{list_any, list_all, starts_with}
use Rattle.std.specs.Str.{NonePass, NoCharPasses}
use Rattle.std.proofs.lemmas.Bool.{false≢true, and_parts}
use Rattle.std.proofs.lemmas.Bool.Decides.{nat_tests, Decides-eqb}
use Rattle.std.proofs.lemmas.List.{append_assoc, get_or_at, get_or_default, drop_at, length_push, length-append}
use Rattle.std.proofs.lemmas.List.Folds.{list_any_none}
use Rattle.std.proofs.lemmas.Slice.Eq.{starts_is}
use Rattle.std.proofs.lemmas.Str.{encodes-chars, IsUtf8-drop, IsCharBoundary-after_ascii, NoCharPasses-byte}
use Rattle.unicode_ident.proofs.IdentLemmas.{is_xid_continue-ascii, is_xid_start-is_xid_continue}
use Rattle.nextest_config_elements_identifiers.specs.Identifier.{nfc_of, is_plain, is_further}
use Rattle.nextest_config_elements_identifiers.specs.Config.{IsIdentifier, identifier_of, is_empty, is_tool, named_by}
use Rattle.nextest_config_elements_identifiers.specs.Parts.{IsOfTool, is_colon, division_of, tool_parts, behind}
use Rattle.nextest_config_elements_identifiers.specs.Laws.{ToolIdentifier}
use Rattle.nextest_config_elements_identifiers.proofs.Division.{parted_whole}
use Rattle.nextest_config_elements_identifiers.proofs.Reading.{identifier_same}

-- an identifier is one as it stands
as_it_stands : (text : List ℕ) → IsIdentifier text → identifier_of text ≡ Ok text
as_it_stands text is = subst (λ name. identifier_of name ≡ Ok text) (identifier_same (nfc_of text) text is) is

-- one that begins with `@` is read by its parts
by_its_parts : (text : List ℕ) → identifier_of text ≡ Ok text → is_tool text ≡ true → named_by text (tool_parts text) ≡ Ok text
by_its_parts text is tool = go (is_empty text) refl
  where
    go : (empty : Bool) → is_empty text ≡ empty → named_by text (tool_parts text) ≡ Ok text
    go true e = let known = rw e at is in cc
    go false e = let known = rw (e, tool) at is in known

-- what is read by its parts has two, and they are plain identifiers
pub record IsNamed (names : Option (List ℕ × List ℕ)) : Type 0 where
  pub parts : List ℕ × List ℕ
  pub are : names ≡ Some parts
  pub own : is_plain (chars parts.1) ≡ true

named : (text : List ℕ) (names : Option (List ℕ × List ℕ)) → named_by text names ≡ Ok text → IsNamed names
named text None is = cc
named text (Some parts) is = go (is_empty parts.0) (is_empty parts.1) (is_plain (chars parts.0)) (is_plain (chars parts.1)) refl refl refl refl
  where
    go : (no_tool no_own tool own : Bool) → is_empty parts.0 ≡ no_tool → is_empty parts.1 ≡ no_own
        → is_plain (chars parts.0) ≡ tool → is_plain (chars parts.1) ≡ own → IsNamed (Some parts)
    go true _ _ _ e _ _ _ = let known = rw e at is in cc
    go false true _ _ e f _ _ = let known = rw (e, f) at is in cc
    go false false false _ e f g _ = let known = rw (e, f, g) at is in cc
    go false false true false e f g h = let known = rw (e, f, g, h) at is in cc
    go false false true true e f g h = record { parts = parts; are = refl; own = h }

-- a text that doesn't begin with `@` doesn't begin with `@tool:`
no_parts : (text : List ℕ) → is_tool text ≡ false → tool_parts text ≡ None
no_parts [] other = refl
no_parts (byte ∷ text) other = let no : eqb 64 byte ≡ false = grind (arith, nat_tests) in rw no refl

-- two parts are lent of an identifier just where it begins with `@`
pub lent_of_tool : (text : List ℕ) (lent : Option (Bor (List ℕ) × Bor (List ℕ))) → IsIdentifier text
    → behind lent ≡ tool_parts text → is_some lent ≡ is_tool text
lent_of_tool text lent is are = go (is_tool text) refl lent are
  where
    go : (tool : Bool) → is_tool text ≡ tool → (lent : Option (Bor (List ℕ) × Bor (List ℕ))) → behind lent ≡ tool_parts text
        → is_some lent ≡ is_tool text
    go true e None are = let read = named text (tool_parts text) (by_its_parts text (as_it_stands text is) e) in let both = read.are in cc
    go true e (Some parts) are = sym e
    go false e None are = sym e
    go false e (Some parts) are = let none = no_parts text e in cc

-- the two parts of an identifier of a tool make it up
whole : (text : List ℕ) (parts : List ℕ × List ℕ) → tool_parts text ≡ Some parts
    → (text ≡ codes "@tool:" ++ (parts.0 ++ (58 ∷ parts.1))) × (list_any is_colon parts.0 ≡ false)
whole text parts is = go (starts_with eqb text (codes "@tool:")) refl
  where
    go : (test : Bool) → starts_with eqb text (codes "@tool:") ≡ test
        → (text ≡ codes "@tool:" ++ (parts.0 ++ (58 ∷ parts.1))) × (list_any is_colon parts.0 ≡ false)
    go false e = let known = rw e at is in cc
    go true e =
        let known : division_of (drop 6 text) ≡ Some parts = rw e at is in
        let divided = parted_whole (drop 6 text) parts known in
        let front : text ≡ codes "@tool:" ++ drop 6 text = (starts_is Decides-eqb text (codes "@tool:") true (sym e)).0 refl in
        (front ∙ ap (λ rest. codes "@tool:" ++ rest) divided.0, divided.1)

-- what stands behind a text is longer than nothing
stands_inside : (front behind : List ℕ) → 0 < length behind → length front < length (front ++ behind)
stands_inside front behind some = let both = length-append front behind in omega (arith, both, some)

-- the part behind the second `:` is text
own_utf8 : (text first second : List ℕ) → IsUtf8 text → text ≡ codes "@tool:" ++ (first ++ (58 ∷ second)) → IsUtf8 second
own_utf8 text first second utf8 is =
    let front = codes "@tool:" ++ first in
    let parts : text ≡ front ++ (58 ∷ second) = is ∙ sym (append_assoc (codes "@tool:") first (58 ∷ second)) in
    let place : ℕ = length front in
    let at : get_or text place 0 ≡ 58 = ap (λ bytes. get_or bytes place 0) parts ∙ get_or_at front 58 second 0 place refl in
    let inside : place < length text = rw parts (stands_inside front (58 ∷ second) (omega arith)) in
    let rest : drop (place + 1) text ≡ second
    = ap (drop (place + 1)) (parts ∙ sym (append_assoc front (58 ∷ []) second))
    ∙ drop_at (front ++ 58 ∷ []) second (place + 1) (length_push front 58) in
    subst IsUtf8 rest (IsUtf8-drop text (place + 1) utf8 (IsCharBoundary-after_ascii text place utf8 inside (omega (arith, at))))

-- characters that may all stand in an identifier
none_else : (characters : List ℕ) → list_all is_further characters ≡ true → NonePass (λ character. not (is_further character)) characters
none_else [] all = tt
none_else (first ∷ further) all =
    let both = and_parts (is_further first) (list_all is_further further) all in (ap not both.0, none_else further both.1)

-- each character of a plain identifier may stand behind its first
all_further : (characters : List ℕ) → is_plain characters ≡ true → list_all is_further characters ≡ true
all_further [] plain = cc
all_further (first ∷ further) plain =
    let both = and_parts _ (list_all is_further further) plain in
    let start = is_xid_start-is_xid_continue first both.0 in
    rw (start, both.1) refl

-- a plain identifier has no `:`
plain_lacks : (text : List ℕ) → IsUtf8 text → is_plain (chars text) ≡ true → list_any is_colon text ≡ false
plain_lacks text utf8 plain =
    let none : NoCharPasses (λ character. not (is_further character)) text
    = (chars text, encodes-chars text utf8, none_else (chars text) (all_further (chars text) plain)) in
    list_any_none is_colon text (λ k d lt. go k d lt none (is_colon (get_or text k d)) refl)
  where
    go : (k d : ℕ) → k < length text → NoCharPasses (λ character. not (is_further character)) text
        → (test : Bool) → is_colon (get_or text k d) ≡ test → is_colon (get_or text k d) ≡ false
    go k d lt none false e = e
    go k d lt none true e =
        let same : get_or text k 0 ≡ get_or text k d = get_or_default text k 0 d lt in
        let is : get_or text k 0 ≡ 58 = same ∙ eqb-true _ _ e in
        let small : get_or text k 0 < 128 = omega (arith, is) in
        let no : not (is_further 58) ≡ false = subst (λ byte. not (is_further byte) ≡ false) is (NoCharPasses-byte _ text k none lt small) in
        let continue = is_xid_continue-ascii 58 (omega arith) in
        let yes : not (is_further 58) ≡ true = rw continue refl in
        absurd (false≢true (sym no ∙ yes))

-- an identifier of these two parts is of their form
of_tool : (text : List ℕ) (parts : List ℕ × List ℕ) → IsUtf8 text → IsNamed (tool_parts text) → tool_parts text ≡ Some parts
    → IsOfTool text parts.0 parts.1
of_tool text parts utf8 read are =
    let made = whole text parts are in
    let both : Some read.parts ≡ Some parts = sym read.are ∙ are in
    let same : read.parts ≡ parts = cc in
    let own : is_plain (chars parts.1) ≡ true = subst (λ (names : List ℕ × List ℕ). is_plain (chars names.1) ≡ true) same read.own in
    record {
      whole = made.0;
      tool = made.1;
      own = plain_lacks parts.1 (own_utf8 text parts.0 parts.1 utf8 made.0) own;
    }

pub tool_identifier : ToolIdentifier
tool_identifier text utf8 is tool =
    let read = named text (tool_parts text) (by_its_parts text (as_it_stands text is) tool) in
    (read.parts.0, read.parts.1, of_tool text read.parts utf8 read read.are)

-- the parts that are lent of an identifier are those of its form
pub lent_form : (text : List ℕ) (lent : Option (Bor (List ℕ) × Bor (List ℕ))) → IsUtf8 text → IsIdentifier text
    → behind lent ≡ tool_parts text → IfSome lent (λ names. IsOfTool text names.0.now names.1.now)
lent_form text None utf8 is are = tt
lent_form text (Some names) utf8 is are = go (is_tool text) refl
  where
    go : (tool : Bool) → is_tool text ≡ tool → IsOfTool text names.0.now names.1.now
    go true e =
        of_tool text (names.0.now, names.1.now) utf8 (named text (tool_parts text) (by_its_parts text (as_it_stands text is) e)) (sym are)
    go false e = let none = no_parts text e in cc
