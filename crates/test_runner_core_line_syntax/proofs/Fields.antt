-- The fields of a line are its parts between tabs: to join them gives the line, and to part a line
-- gives its fields.
use Rattle.std.proofs.Common.{◌≡◌, ◌≢◌, ℕ, ◌<◌, Bool, false, nat_eq, List, [], ◌∷◌, ◌++◌, length, take, drop, get_or, add-one, ◌+◌, zero, suc, refl, sym, ap, ◌∙◌, arith, inl, inr}
use Rattle.std.specs.List.{AllByRecursion, onto_first}
use Rattle.std.proofs.lemmas.Bool.{eqb-true, eqb-false, ne_eqb, cases_Bool, false_from_ne_true}
use Rattle.std.proofs.lemmas.List.Splits.{slice_split-cons_yes, slice_split-cons_no, slice_split_none, slice_split_at}
use Rattle.std.proofs.lemmas.List.Elements.{All-from_get_or, All-from_recursion}
use Rattle.std.proofs.lemmas.Str.{IsCharBoundary-after_ascii}
use Rattle.std.proofs.Math.Seq.{split_at}
use Rattle.std.specs.Str.{IsCharBoundary, IsUtf8}
use Rattle.memchr.specs.Find.{NoneBefore, Nowhere, Passes, is_byte}
use Rattle.test_runner_core_line_syntax.specs.Spelling.{IsField, line_of_fields}
use Rattle.test_runner_core_line_syntax.specs.Fields.{fields_of}

abbrev is_tab : ℕ → Bool
is_tab byte = nat_eq byte 9

-- no byte is a line feed
abbrev pub HasNoLineFeed : List ℕ → Type 0
HasNoLineFeed bytes = AllByRecursion (λ byte. byte ≢ 10) bytes

-- ---- parting

no_tab_before : (bytes : List ℕ) (at : ℕ) → ((k : ℕ) → k < at → is_tab (get_or bytes k 0) ≡ false) → AllByRecursion (λ byte. is_tab byte ≡ false) (take at bytes)
no_tab_before [] zero none = tt
no_tab_before [] (suc at) none = tt
no_tab_before (byte ∷ bytes) zero none = tt
no_tab_before (byte ∷ bytes) (suc at) none = (none 0 (omega arith), no_tab_before bytes at (λ k less. none (suc k) (omega arith)))

-- where a search for a tab finds none, there is one field
pub fields_without_tab : (bytes : List ℕ) → Nowhere (Passes (is_byte 9) bytes) 0 (length bytes) → fields_of bytes ≡ bytes ∷ []
fields_without_tab bytes none =
    slice_split_none is_tab bytes (All-from_get_or (λ byte. is_tab byte ≡ false) bytes 0 (λ k less. false_from_ne_true (is_tab (get_or bytes k 0)) (none k (omega arith) less)))

-- the first tab ends the first field
pub fields_at_tab : (bytes : List ℕ) (at : ℕ) → NoneBefore (Passes (is_byte 9) bytes) 0 (length bytes) at → Passes (is_byte 9) bytes at
    → fields_of bytes ≡ take at bytes ∷ fields_of (drop (at + 1) bytes)
fields_at_tab bytes at first is =
    let none = no_tab_before bytes at (λ k less. false_from_ne_true (is_tab (get_or bytes k 0)) (first.before k (omega arith) less)) in
    ap fields_of (split_at bytes at 0 first.high)
    ∙ slice_split_at is_tab (take at bytes) (get_or bytes at 0) (drop (suc at) bytes) (All-from_recursion (λ byte. is_tab byte ≡ false) (take at bytes) none) is
    ∙ ap (λ (n : ℕ). take at bytes ∷ fields_of (drop n bytes)) (sym (add-one at))

-- a field begins behind a tab
pub behind_tab : (bytes : List ℕ) (at : ℕ) → IsUtf8 bytes → at < length bytes → Passes (is_byte 9) bytes at → IsCharBoundary bytes (at + 1)
behind_tab bytes at utf8 less is = let nine : get_or bytes at 0 ≡ 9 = eqb-true (get_or bytes at 0) 9 is in IsCharBoundary-after_ascii bytes at utf8 less (omega arith)

-- a line has a first field
pub fields_first : (bytes : List ℕ) → (first : List ℕ) × (rest : List (List ℕ)) × (fields_of bytes ≡ first ∷ rest)
fields_first [] = ([], [], refl)
fields_first (byte ∷ bytes) =
    elim (cases_Bool (is_tab byte)) [
      | inl tab ↦ ([], fields_of bytes, slice_split-cons_yes is_tab byte bytes tab)
      | inr other ↦ let next = fields_first bytes in
          (byte ∷ next.0, next.1, slice_split-cons_no is_tab byte bytes other ∙ ap (onto_first byte) next.2)
    ]

-- to join what a line was parted into gives the line

joined-onto_first : (byte : ℕ) (first : List ℕ) (rest : List (List ℕ)) → line_of_fields ((byte ∷ first) ∷ rest) ≡ byte ∷ line_of_fields (first ∷ rest)
joined-onto_first byte first [] = refl
joined-onto_first byte first (second ∷ rest) = refl

pub joined-fields_of : (bytes : List ℕ) → line_of_fields (fields_of bytes) ≡ bytes
joined-fields_of [] = refl
joined-fields_of (byte ∷ bytes) =
    let next = fields_first bytes in
    let whole : line_of_fields (next.0 ∷ next.1) ≡ bytes = ap line_of_fields (sym next.2) ∙ joined-fields_of bytes in
    elim (cases_Bool (is_tab byte)) [
      | inl tab ↦ let nine : byte ≡ 9 = eqb-true byte 9 tab in
          ap line_of_fields (slice_split-cons_yes is_tab byte bytes tab ∙ ap (λ (x : List (List ℕ)). [] ∷ x) next.2)
          ∙ ap (λ (x : List ℕ). 9 ∷ x) whole ∙ ap (λ (x : ℕ). x ∷ bytes) (sym nine)
      | inr other ↦ ap line_of_fields (slice_split-cons_no is_tab byte bytes other ∙ ap (onto_first byte) next.2)
          ∙ joined-onto_first byte next.0 next.1 ∙ ap (λ (x : List ℕ). byte ∷ x) whole
    ]

-- ---- joining

no_tabs : (field : List ℕ) → IsField field → AllByRecursion (λ byte. is_tab byte ≡ false) field
no_tabs [] plain = tt
no_tabs (byte ∷ field) plain = (ne_eqb byte 9 plain.0.0, no_tabs field plain.1)

-- a line of plain fields is parted into them
pub fields_of-joined : (first : List ℕ) (rest : List (List ℕ)) → AllByRecursion IsField (first ∷ rest) → fields_of (line_of_fields (first ∷ rest)) ≡ first ∷ rest
fields_of-joined first [] plain = slice_split_none is_tab first (All-from_recursion (λ byte. is_tab byte ≡ false) first (no_tabs first plain.0))
fields_of-joined first (second ∷ rest) plain =
    slice_split_at is_tab first 9 (line_of_fields (second ∷ rest)) (All-from_recursion (λ byte. is_tab byte ≡ false) first (no_tabs first plain.0)) refl
    ∙ ap (λ (x : List (List ℕ)). first ∷ x) (fields_of-joined second rest plain.1)

-- ---- line feeds

no_feed-append : (x y : List ℕ) → HasNoLineFeed x → HasNoLineFeed y → HasNoLineFeed (x ++ y)
no_feed-append [] y left right = right
no_feed-append (byte ∷ x) y left right = (left.0, no_feed-append x y left.1 right)

no_feed_field : (field : List ℕ) → IsField field → HasNoLineFeed field
no_feed_field [] plain = tt
no_feed_field (byte ∷ field) plain = (plain.0.1, no_feed_field field plain.1)

-- a line of plain fields has no line feed
pub no_feed-joined : (fields : List (List ℕ)) → AllByRecursion IsField fields → HasNoLineFeed (line_of_fields fields)
no_feed-joined [] plain = tt
no_feed-joined (field ∷ []) plain = no_feed_field field plain.0
no_feed-joined (field ∷ next ∷ fields) plain =
    no_feed-append field (9 ∷ line_of_fields (next ∷ fields)) (no_feed_field field plain.0) ((λ same. cc), no_feed-joined (next ∷ fields) plain.1)

-- each field of a line with no line feed is plain
pub plain-fields_of : (bytes : List ℕ) → HasNoLineFeed bytes → AllByRecursion IsField (fields_of bytes)
plain-fields_of [] none = (tt, tt)
plain-fields_of (byte ∷ bytes) none =
    let next = fields_first bytes in
    let plain : AllByRecursion IsField (next.0 ∷ next.1) = rw next.2 at (plain-fields_of bytes none.1) in
    elim (cases_Bool (is_tab byte)) [
      | inl tab ↦ rw (slice_split-cons_yes is_tab byte bytes tab) (tt, plain-fields_of bytes none.1)
      | inr other ↦ rw (slice_split-cons_no is_tab byte bytes other, next.2) ((((λ nine. eqb-false byte 9 other nine), none.0), plain.0), plain.1)
    ]
