-- How a text prints: it is read back, and has no blank ends.
use Rattle.std.proofs.Common.{◌≡◌, ◌≢◌, ◌↔◌, ◌⊎◌, ℕ, ◌<◌, ◌≤◌, Bool, true, false, ◌||◌, eqb, ltb, leb, Option, List, [], ◌∷◌, ◌++◌, length, get_or, suc, Some, None, if◌then◌else◌, refl, sym, ap, ◌∙◌, subst, arith, inl, inr, lit<, lit≤}
use Rattle.std.specs.Prelude.{encode_utf8}
use Rattle.std.specs.Fmt.{digits}
use Rattle.std.specs.List.{flat_map}
use Rattle.std.specs.Option.{option_map_or}
use Rattle.std.proofs.lemmas.Bool.{eqb-true, eqb-false, or_cases, or_parts, or_from, and_from, not_from_false, ltb-true, ltb-false, lt-ltb, cases_lt, leb-true, cond_both, agree_below_at, false≢true, cond-false, ne_eqb}
use Rattle.std.proofs.lemmas.Fmt.{digits_is_IsNumeral}
use Rattle.std.proofs.lemmas.List.{append-nil, append_assoc}
use Rattle.std.proofs.lemmas.Str.{encode_ascii, inside_one}
use Rattle.std.proofs.lemmas.List.Concat.{flat_map-append}
use lib.Utf8.{low_scalar}
use Rattle.nextest_filtering_escapes.specs.Text.{Plain, Escaped, Unicode, IsText, is_plain, is_blank, is_end, escape_of}
use Rattle.nextest_filtering_escapes.specs.Printing.{by_number, letter_of, text_of_byte, printed_character, text_with_escapes, escaped_behind}
use Rattle.nextest_filtering_escapes.specs.Laws.{BeginsAs, HasNoBlankEnds}
use Rattle.nextest_filtering_escapes.proofs.Pieces.{text_none, text_piece, text-append}

-- ---- read back

few_digits : (byte : ℕ) → byte < 128 → leb (length (digits 16 false byte)) 6 ≡ true
unfolding digits
few_digits byte small = agree_below_at (λ n. leb (length (digits 16 false n)) 6) (λ n. true) 128 byte refl small

number_text : (byte : ℕ) → byte < 128 → IsText (by_number byte) (byte ∷ [])
number_text byte small =
    let numeral = digits_is_IsNumeral 16 false (lit≤ tt) (lit≤ tt) byte (omega arith) in
    let few = leb-true (length (digits 16 false byte)) 6 (few_digits byte small) in
    let whole = text_piece (Unicode (digits 16 false byte) byte)
    ((numeral.0.0, few, numeral.0.1, sym numeral.1), low_scalar byte (omega arith)) in
    subst (λ (text : List ℕ). IsText (by_number byte) text) (encode_ascii byte small) whole

-- `\`, `/`, `)` and `,` are letters that stand for themselves, and no blanks
special : (byte : ℕ) → ((eqb byte 92 || eqb byte 47) || is_end byte) ≡ true → (escape_of byte ≡ Some byte) × (is_blank byte ≡ false)
special byte is =
    elim (or_cases (eqb byte 92 || eqb byte 47) (is_end byte) is) [
      | inl first ↦ elim (or_cases (eqb byte 92) (eqb byte 47) first) [
        | inl same ↦ at 92 refl refl same
        | inr same ↦ at 47 refl refl same
      ]
      | inr second ↦ elim (or_cases (eqb byte 41) (eqb byte 44) second) [
        | inl same ↦ at 41 refl refl same
        | inr same ↦ at 44 refl refl same
      ]
    ] where
      at : (n : ℕ) → escape_of n ≡ Some n → is_blank n ≡ false → eqb byte n ≡ true → (escape_of byte ≡ Some byte) × (is_blank byte ≡ false)
      at n stands blank same =
          let is_n = sym (eqb-true byte n same) in
          (subst (λ (b : ℕ). escape_of b ≡ Some b) is_n stands, subst (λ (b : ℕ). is_blank b ≡ false) is_n blank)

special_small : (byte : ℕ) → ((eqb byte 92 || eqb byte 47) || is_end byte) ≡ true → byte < 128
special_small byte is = elim (or_cases (eqb byte 92 || eqb byte 47) (is_end byte) is) [
  | inl first ↦ elim (or_cases (eqb byte 92) (eqb byte 47) first) [
    | inl same ↦ omega (arith, eqb-true byte 92 same)
    | inr same ↦ omega (arith, eqb-true byte 47 same)
  ]
  | inr second ↦ elim (or_cases (eqb byte 41) (eqb byte 44) second) [
    | inl same ↦ omega (arith, eqb-true byte 41 same)
    | inr same ↦ omega (arith, eqb-true byte 44 same)
  ]
]

letter_text : (byte n letter : ℕ) → eqb byte n ≡ true → escape_of letter ≡ Some n → IsText (92 ∷ letter ∷ []) (byte ∷ [])
letter_text byte n letter same stands =
    subst (λ (b : ℕ). IsText (92 ∷ letter ∷ []) (b ∷ [])) (sym (eqb-true byte n same)) (text_piece (Escaped letter n) stands)

control_small : (byte : ℕ) → (ltb byte 32 || eqb byte 127) ≡ true → byte < 128
control_small byte is = elim (or_cases (ltb byte 32) (eqb byte 127) is) [
  | inl low ↦ let small = ltb-true byte 32 low in omega arith
  | inr same ↦ let at = eqb-true byte 127 same in omega arith
]

plain_from : (byte : ℕ) → ((eqb byte 92 || eqb byte 47) || is_end byte) ≡ false → is_plain byte ≡ true
plain_from byte other =
    let parts = or_parts (eqb byte 92 || eqb byte 47) (is_end byte) other in
    and_from _ _ (not_from_false _ (or_parts (eqb byte 92) (eqb byte 47) parts.0).0) (not_from_false _ parts.1)

-- what holds of each way in which a byte prints holds of what it prints as
each_way : (byte : ℕ) (P : List ℕ → Type 0)
    → (((eqb byte 92 || eqb byte 47) || is_end byte) ≡ true → P (92 ∷ byte ∷ []))
    → (eqb byte 10 ≡ true → P (92 ∷ 110 ∷ [])) → (eqb byte 13 ≡ true → P (92 ∷ 114 ∷ [])) → (eqb byte 9 ≡ true → P (92 ∷ 116 ∷ []))
    → ((ltb byte 32 || eqb byte 127) ≡ true → P (by_number byte))
    → (((eqb byte 92 || eqb byte 47) || is_end byte) ≡ false → eqb byte 10 ≡ false → eqb byte 13 ≡ false → eqb byte 9 ≡ false → P (byte ∷ []))
    → P (text_of_byte byte)
each_way byte P special feed return tab control plain =
    let L : Option ℕ → Type 0 = λ letter. P (option_map_or (λ l. 92 ∷ l ∷ []) letter (if ltb byte 32 || eqb byte 127 then by_number byte else byte ∷ [])) in
    cond_both ((eqb byte 92 || eqb byte 47) || is_end byte) (Some byte) _ L special (λ other.
    cond_both (eqb byte 10) (Some 110) _ L feed (λ no_feed.
    cond_both (eqb byte 13) (Some 114) _ L return (λ no_return.
    cond_both (eqb byte 9) (Some 116) None L tab (λ no_tab.
    cond_both (ltb byte 32 || eqb byte 127) (by_number byte) (byte ∷ []) P control (λ _. plain other no_feed no_return no_tab)))))

printed_text : (byte : ℕ) → IsText (text_of_byte byte) (byte ∷ [])
printed_text byte = each_way byte (λ shown. IsText shown (byte ∷ []))
    (λ yes. text_piece (Escaped byte byte) (special byte yes).0)
    (λ yes. letter_text byte 10 110 yes refl)
    (λ yes. letter_text byte 13 114 yes refl)
    (λ yes. letter_text byte 9 116 yes refl)
    (λ yes. number_text byte (control_small byte yes))
    (λ other feed return tab. text_piece (Plain byte) (plain_from byte other))

space_text : (byte : ℕ) → eqb byte 32 ≡ true → IsText (by_number 32) (byte ∷ [])
space_text byte same = subst (λ (b : ℕ). IsText (by_number 32) (b ∷ [])) (sym (eqb-true byte 32 same)) (number_text 32 (lit< tt))

behind_text : (bytes : List ℕ) → IsText (escaped_behind bytes) bytes
behind_text [] = text_none
behind_text (byte ∷ []) = cond_both (eqb byte 32) _ _ (λ (shown : List ℕ). IsText shown (byte ∷ [])) (space_text byte) (λ _. printed_text byte)
behind_text (byte ∷ next ∷ rest) = text-append (text_of_byte byte) (byte ∷ []) (escaped_behind (next ∷ rest)) (next ∷ rest) (printed_text byte) (behind_text (next ∷ rest))

pub escaped_reads_back : (text : List ℕ) → IsText (text_with_escapes text) text
escaped_reads_back [] = text_none
escaped_reads_back (byte ∷ rest) = cond_both (eqb byte 32) _ _ (λ (shown : List ℕ). IsText shown (byte ∷ rest))
    (λ yes. text-append (by_number 32) (byte ∷ []) (escaped_behind rest) rest (space_text byte yes) (behind_text rest))
    (λ _. behind_text (byte ∷ rest))

-- ---- ends

-- what is shown begins with a `\`, or with the byte itself, which is no blank and no `/`
abbrev Front : ℕ → List ℕ → Type 0
Front byte shown = ((rest : List ℕ) × (shown ≡ 92 ∷ rest)) ⊎ ((rest : List ℕ) × (shown ≡ byte ∷ rest) × (is_blank byte ≡ false) × (byte ≡ 47 → ⊥))

-- what is shown ends with a byte that is no blank
abbrev Back : List ℕ → Type 0
Back shown = (front : List ℕ) × (last : ℕ) × (shown ≡ front ++ last ∷ []) × (is_blank last ≡ false)

plain_no_blank : (byte : ℕ) → eqb byte 32 ≡ false → eqb byte 10 ≡ false → eqb byte 13 ≡ false → eqb byte 9 ≡ false → is_blank byte ≡ false
plain_no_blank byte space feed return tab =
    or_from _ _ (or_from _ _ (or_from _ _ space tab) feed) return

printed_front : (byte : ℕ) → eqb byte 32 ≡ false → Front byte (text_of_byte byte)
printed_front byte space = each_way byte (Front byte)
    (λ yes. inl (byte ∷ [], refl))
    (λ yes. inl (110 ∷ [], refl))
    (λ yes. inl (114 ∷ [], refl))
    (λ yes. inl (116 ∷ [], refl))
    (λ yes. inl (117 ∷ 123 ∷ digits 16 false byte ++ 125 ∷ [], refl))
    (λ other feed return tab. inr (
      [],
      refl,
      plain_no_blank byte space feed return tab,
      eqb-false byte 47 (or_parts (eqb byte 92) (eqb byte 47) (or_parts (eqb byte 92 || eqb byte 47) (is_end byte) other).0).1,
    ))

printed_back : (byte : ℕ) → eqb byte 32 ≡ false → Back (text_of_byte byte)
printed_back byte space = each_way byte Back
    (λ yes. (92 ∷ [], byte, refl, (special byte yes).1))
    (λ yes. (92 ∷ [], 110, refl, refl))
    (λ yes. (92 ∷ [], 114, refl, refl))
    (λ yes. (92 ∷ [], 116, refl, refl))
    (λ yes. (92 ∷ 117 ∷ 123 ∷ digits 16 false byte, 125, refl, refl))
    (λ other feed return tab. ([], byte, refl, plain_no_blank byte space feed return tab))

front-append : (byte : ℕ) (shown more : List ℕ) → Front byte shown → Front byte (shown ++ more)
front-append byte shown more (inl (rest, is)) = inl (rest ++ more, ap (λ (x : List ℕ). x ++ more) is)
front-append byte shown more (inr (rest, is, blank, slash)) = inr (rest ++ more, ap (λ (x : List ℕ). x ++ more) is, blank, slash)

back-append : (shown more : List ℕ) → Back more → Back (shown ++ more)
back-append shown more (front, last, is, blank) =
    (shown ++ front, last, ap (λ (x : List ℕ). shown ++ x) is ∙ sym (append_assoc shown front (last ∷ [])), blank)

number_back : (byte : ℕ) → Back (by_number byte)
number_back byte = (92 ∷ 117 ∷ 123 ∷ digits 16 false byte, 125, refl, refl)

behind_back : (byte : ℕ) (rest : List ℕ) → Back (escaped_behind (byte ∷ rest))
behind_back byte [] = cond_both (eqb byte 32) _ _ Back (λ _. number_back 32) (printed_back byte)
behind_back byte (next ∷ rest) = back-append (text_of_byte byte) (escaped_behind (next ∷ rest)) (behind_back next rest)

behind_front : (byte : ℕ) (rest : List ℕ) → eqb byte 32 ≡ false → Front byte (escaped_behind (byte ∷ rest))
behind_front byte [] space = cond_both (eqb byte 32) _ _ (Front byte) (λ yes. absurd (false≢true (sym space ∙ yes))) (λ _. printed_front byte space)
behind_front byte (next ∷ rest) space = front-append byte (text_of_byte byte) (escaped_behind (next ∷ rest)) (printed_front byte space)

opened_back : (rest : List ℕ) → Back (by_number 32 ++ escaped_behind rest)
opened_back [] = subst Back (sym (append-nil (by_number 32))) (number_back 32)
opened_back (byte ∷ rest) = back-append (by_number 32) (escaped_behind (byte ∷ rest)) (behind_back byte rest)

escaped_back : (byte : ℕ) (rest : List ℕ) → Back (text_with_escapes (byte ∷ rest))
escaped_back byte rest = cond_both (eqb byte 32) _ _ Back (λ _. opened_back rest) (λ _. behind_back byte rest)

escaped_front : (byte : ℕ) (rest : List ℕ) → Front byte (text_with_escapes (byte ∷ rest))
escaped_front byte rest = cond_both (eqb byte 32) _ _ (Front byte)
    (λ _. inl (117 ∷ 123 ∷ (digits 16 false 32 ++ 125 ∷ []) ++ escaped_behind rest, refl)) (behind_front byte rest)

pub snoc_not_nil : (front : List ℕ) (last : ℕ) → front ++ last ∷ [] ≡ [] → ⊥
snoc_not_nil [] last same = cc
snoc_not_nil (byte ∷ front) last same = cc

pub last_same : (f g : List ℕ) (l m : ℕ) → f ++ l ∷ [] ≡ g ++ m ∷ [] → l ≡ m
last_same [] [] l m same = cc
last_same [] (y ∷ g) l m same = absurd (snoc_not_nil g m (cc))
last_same (x ∷ f) [] l m same = absurd (snoc_not_nil f l (cc))
last_same (x ∷ f) (y ∷ g) l m same = last_same f g l m (cc)

no_slash : (byte : ℕ) (shown rest : List ℕ) → Front byte shown → shown ≡ 47 ∷ rest → ⊥
no_slash byte shown rest (inl (more, is)) same = eqb-false 92 47 refl (ap (λ (x : List ℕ). get_or x 0 0) (sym is ∙ same))
no_slash byte shown rest (inr (more, is, blank, slash)) same = slash (ap (λ (x : List ℕ). get_or x 0 0) (sym is ∙ same))

begins : (byte : ℕ) (behind shown : List ℕ) → Front byte shown → BeginsAs (byte ∷ behind) shown
begins byte behind shown (inl (more, is)) first rest same = inl (cc)
begins byte behind shown (inr (more, is, blank, slash)) first rest same = inr (behind, (cc))

first_bare : (byte : ℕ) (shown : List ℕ) → Front byte shown → (first : ℕ) (rest : List ℕ) → shown ≡ first ∷ rest → is_blank first ≡ false
first_bare byte shown (inl (more, is)) first rest same = let at : first ≡ 92 = cc in subst (λ (b : ℕ). is_blank b ≡ false) (sym at) refl
first_bare byte shown (inr (more, is, blank, slash)) first rest same = let at : byte ≡ first = cc in subst (λ (b : ℕ). is_blank b ≡ false) at blank

last_bare : (shown : List ℕ) → Back shown → (front : List ℕ) (last : ℕ) → shown ≡ front ++ last ∷ [] → is_blank last ≡ false
last_bare shown (f, l, is, blank) front last same =
    subst (λ (b : ℕ). is_blank b ≡ false) (last_same f front l last (sym is ∙ same)) blank

not_shown_empty : (shown : List ℕ) → Back shown → shown ≡ [] → ⊥
not_shown_empty shown (f, l, is, blank) same = snoc_not_nil f l (sym is ∙ same)

pub escaped_has_no_blank_ends : (text : List ℕ) → ((text_with_escapes text ≡ []) ↔ (text ≡ [])) × BeginsAs text (text_with_escapes text)
    × ((rest : List ℕ) → text_with_escapes text ≡ 47 ∷ rest → ⊥) × HasNoBlankEnds (text_with_escapes text)
escaped_has_no_blank_ends [] = (
  (λ same. same, λ same. same),
  (λ first rest same. cc),
  (λ rest same. cc),
  ((λ first rest same. cc), (λ front last same. absurd (snoc_not_nil front last (sym same)))),
)
escaped_has_no_blank_ends (byte ∷ rest) =
    let shown = text_with_escapes (byte ∷ rest) in
    let front = escaped_front byte rest in
    let back = escaped_back byte rest in (
      ((λ same. absurd (not_shown_empty shown back same)), (λ same. cc)),
      begins byte rest shown front,
      (λ more. no_slash byte shown more front),
      (first_bare byte shown front, last_bare shown back),
    )

-- ---- the ends of a text

number_space : by_number 32 ≡ 92 ∷ 117 ∷ 123 ∷ 50 ∷ 48 ∷ 125 ∷ []
unfolding digits
number_space = refl

-- a space in front
pub opened : (text rest : List ℕ) → text ≡ 32 ∷ rest → text_with_escapes text ≡ 92 ∷ 117 ∷ 123 ∷ 50 ∷ 48 ∷ 125 ∷ escaped_behind rest
opened text rest is = ap text_with_escapes is ∙ ap (λ (x : List ℕ). x ++ escaped_behind rest) number_space

-- none in front
pub not_opened : (text : List ℕ) → ((rest : List ℕ) → text ≢ 32 ∷ rest) → text_with_escapes text ≡ escaped_behind text
not_opened [] none = refl
not_opened (byte ∷ rest) none =
    cond-false (eqb byte 32) (by_number 32 ++ escaped_behind rest) (escaped_behind (byte ∷ rest))
    (ne_eqb byte 32 (λ same. none rest (ap (λ (x : ℕ). x ∷ rest) same)))

-- a space at the end
pub closed : (rest middle : List ℕ) → rest ≡ middle ++ 32 ∷ []
    → escaped_behind rest ≡ flat_map text_of_byte middle ++ 92 ∷ 117 ∷ 123 ∷ 50 ∷ 48 ∷ 125 ∷ []
closed rest middle is = ap escaped_behind is ∙ behind_space middle where
  behind_space : (middle : List ℕ) → escaped_behind (middle ++ 32 ∷ []) ≡ flat_map text_of_byte middle ++ 92 ∷ 117 ∷ 123 ∷ 50 ∷ 48 ∷ 125 ∷ []
  behind_space [] = number_space
  behind_space (byte ∷ []) = ap (λ (x : List ℕ). text_of_byte byte ++ x) number_space
      ∙ ap (λ (x : List ℕ). x ++ 92 ∷ 117 ∷ 123 ∷ 50 ∷ 48 ∷ 125 ∷ []) (sym (append-nil (text_of_byte byte)))
  behind_space (byte ∷ next ∷ middle) = ap (λ (x : List ℕ). text_of_byte byte ++ x) (behind_space (next ∷ middle))
      ∙ sym (append_assoc (text_of_byte byte) (flat_map text_of_byte (next ∷ middle)) (92 ∷ 117 ∷ 123 ∷ 50 ∷ 48 ∷ 125 ∷ []))

-- none at the end
pub not_closed : (rest : List ℕ) → ((front : List ℕ) → rest ≢ front ++ 32 ∷ []) → escaped_behind rest ≡ flat_map text_of_byte rest ++ []
not_closed rest none = behind_bare rest none ∙ sym (append-nil (flat_map text_of_byte rest)) where
  behind_bare : (rest : List ℕ) → ((front : List ℕ) → rest ≢ front ++ 32 ∷ []) → escaped_behind rest ≡ flat_map text_of_byte rest
  behind_bare [] none = refl
  behind_bare (byte ∷ []) none =
      cond-false (eqb byte 32) (by_number 32) (text_of_byte byte) (ne_eqb byte 32 (λ same. none [] (ap (λ (x : ℕ). x ∷ []) same)))
      ∙ sym (append-nil (text_of_byte byte))
  behind_bare (byte ∷ next ∷ rest) none = ap (λ (x : List ℕ). text_of_byte byte ++ x)
      (behind_bare (next ∷ rest) (λ front same. none (byte ∷ front) (ap (λ (x : List ℕ). byte ∷ x) same)))

-- ---- characters inside a text

printed_high : (byte : ℕ) → 128 ≤ byte → text_of_byte byte ≡ byte ∷ []
printed_high byte high = each_way byte (λ shown. shown ≡ byte ∷ [])
    (λ yes. let small = special_small byte yes in absurd (omega (arith, high, small)))
    (at 10 (lit< tt))
    (at 13 (lit< tt))
    (at 9 (lit< tt))
    (λ yes. let small = control_small byte yes in absurd (omega (arith, high, small)))
    (λ other feed return tab. refl)
  where
    at : {shown : List ℕ} (n : ℕ) → n < 128 → eqb byte n ≡ true → shown ≡ byte ∷ []
    at n small same = let is = eqb-true byte n same in absurd (omega arith)

all_high : (bytes : List ℕ) → ((i : ℕ) → i < length bytes → 128 ≤ get_or bytes i 0) → flat_map text_of_byte bytes ≡ bytes
all_high [] high = refl
all_high (byte ∷ bytes) high =
    ap (λ (x : List ℕ). x ++ flat_map text_of_byte bytes) (printed_high byte (high 0 (omega arith)))
    ∙ ap (λ (x : List ℕ). byte ∷ x) (all_high bytes (λ i small. high (suc i) (omega arith)))

-- what the bytes of a character print as
character_printed : (character : ℕ) → flat_map text_of_byte (encode_utf8 character) ≡ printed_character character
character_printed character =
    cond_both (ltb character 128) (text_of_byte character) (encode_utf8 character) (λ (x : List ℕ). flat_map text_of_byte (encode_utf8 character) ≡ x)
    (λ yes. ap (λ (x : List ℕ). flat_map text_of_byte x) (encode_ascii character (ltb-true character 128 yes)) ∙ append-nil (text_of_byte character))
    (λ other. let high = ltb-false character 128 other in
    all_high (encode_utf8 character) (λ i small. elim (cases_lt (get_or (encode_utf8 character) i 0) 128) [
      | inl low ↦ let same = inside_one character [] (encode_utf8 character) i (sym (append-nil (encode_utf8 character))) small low in absurd (omega arith)
      | inr is ↦ is
    ]))

-- one character more
pub printed_more : (whole done rest ahead : List ℕ) (character : ℕ) → whole ≡ done ++ flat_map text_of_byte rest → rest ≡ encode_utf8 character ++ ahead
    → whole ≡ (done ++ printed_character character) ++ flat_map text_of_byte ahead
printed_more whole done rest ahead character known parted =
    known ∙ ap (λ (x : List ℕ). done ++ x)
    (ap (λ (x : List ℕ). flat_map text_of_byte x) parted ∙ flat_map-append text_of_byte (encode_utf8 character) ahead
    ∙ ap (λ (x : List ℕ). x ++ flat_map text_of_byte ahead) (character_printed character))
    ∙ sym (append_assoc done (printed_character character) (flat_map text_of_byte ahead))

-- how a character prints, by the letter that it prints as
letter_small : (character letter : ℕ) → Some letter ≡ letter_of character → (character < 128) × (letter < 128)
letter_small character letter =
    let Q : Option ℕ → Type 0 = λ found. Some letter ≡ found → (character < 128) × (letter < 128) in
    cond_both ((eqb character 92 || eqb character 47) || is_end character) (Some character) _ Q (λ yes. itself (special_small character yes)) (λ _.
    cond_both (eqb character 10) _ _ Q (λ yes. other 10 110 (eqb-true character 10 yes) (lit< tt) (lit< tt)) (λ _.
    cond_both (eqb character 13) _ _ Q (λ yes. other 13 114 (eqb-true character 13 yes) (lit< tt) (lit< tt)) (λ _.
    cond_both (eqb character 9) _ _ Q (λ yes. other 9 116 (eqb-true character 9 yes) (lit< tt) (lit< tt)) (λ _. λ is. cc is)))) where
      itself : character < 128 → Some letter ≡ Some character → (character < 128) × (letter < 128)
      itself small is = let same : letter ≡ character = cc is in (small, omega (arith, same, small))

      other : (n shown : ℕ) → character ≡ n → n < 128 → shown < 128 → Some letter ≡ Some shown → (character < 128) × (letter < 128)
      other n shown at low small is = let same : letter ≡ shown = cc is in (omega (arith, at, low), omega (arith, same, small))

-- a character below 128 prints by its letter, or else in this way
abbrev by_letter : ℕ → Option ℕ → List ℕ
by_letter character found =
    option_map_or (λ letter. 92 ∷ letter ∷ []) found (if ltb character 32 || eqb character 127 then by_number character else character ∷ [])

low_printed : (character : ℕ) (found : Option ℕ) → character < 128 → found ≡ letter_of character → printed_character character ≡ by_letter character found
low_printed character found small is =
    ap (λ (low : Bool). if low then text_of_byte character else encode_utf8 character) (lt-ltb character 128 small) ∙ ap (by_letter character) (sym is)

pub printed_letter : (character letter : ℕ) → Some letter ≡ letter_of character → 92 ∷ encode_utf8 letter ≡ printed_character character
printed_letter character letter is =
    let small = letter_small character letter is in
    ap (λ (shown : List ℕ). 92 ∷ shown) (encode_ascii letter small.1) ∙ sym (low_printed character (Some letter) small.0 is)

pub printed_control : (character : ℕ) → None ≡ letter_of character → (ltb character 32 || eqb character 127) ≡ true
    → by_number character ≡ printed_character character
printed_control character none control = sym (
    low_printed character None (control_small character control) none
    ∙ ap (λ (controls : Bool). if controls then by_number character else character ∷ []) control)

pub printed_plain : (character : ℕ) → None ≡ letter_of character → (ltb character 32 || eqb character 127) ≡ false
    → encode_utf8 character ≡ printed_character character
printed_plain character none other =
    cond_both (ltb character 128) (text_of_byte character) (encode_utf8 character) (λ (shown : List ℕ). encode_utf8 character ≡ shown)
    (λ yes. encode_ascii character (ltb-true character 128 yes) ∙ sym (
    ap (by_letter character) (sym none) ∙ ap (λ (controls : Bool). if controls then by_number character else character ∷ []) other))
    (λ _. refl)

-- nothing is left to print
pub printed_none : (whole done rest : List ℕ) → whole ≡ done ++ flat_map text_of_byte rest → length rest ≡ 0 → done ≡ whole
printed_none whole done [] known none = sym (known ∙ append-nil done)
printed_none whole done (byte ∷ rest) known none = absurd (omega (arith, none))
