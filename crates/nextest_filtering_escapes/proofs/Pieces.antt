-- The pieces of a text: bytes are pieces in one way only, and what pieces can be joined from.
use Rattle.std.proofs.Common.{◌≡◌, ℕ, ◌<◌, true, List, [], ◌∷◌, ◌++◌, Some, refl, sym, ap, ◌∙◌, subst, arith, inl, inr}
use Rattle.std.specs.List.{AllByRecursion, flat_map}
use Rattle.std.specs.Char.{digit_value}
use Rattle.std.specs.Str.Parse.{AllDigits}
use Rattle.std.proofs.lemmas.Bool.{eqb-true, or_cases, false≢true}
use Rattle.std.proofs.lemmas.List.{append-nil}
use Rattle.std.proofs.lemmas.List.Concat.{flat_map-append}
use Rattle.nextest_filtering_escapes.specs.Text.{Piece, Plain, Escaped, Unicode, IsPiece, IsText, spelling, meaning, is_plain, is_blank, escape_of}

-- ---- one text

pub plain_not : (byte : ℕ) → is_plain byte ≡ true → byte ≡ 92 → ⊥
plain_not byte plain same = let wrong : is_plain 92 ≡ true = subst (λ (b : ℕ). is_plain b ≡ true) same plain in false≢true wrong

pub no_u : (letter meant : ℕ) → escape_of letter ≡ Some meant → letter ≡ 117 → ⊥
no_u letter meant has same = let wrong : escape_of 117 ≡ Some meant = subst (λ (b : ℕ). escape_of b ≡ Some meant) same has in cc

pub digit_not : (byte : ℕ) → digit_value byte < 16 → byte ≡ 125 → ⊥
digit_not byte small same = let wrong : digit_value 125 < 16 = subst (λ (b : ℕ). digit_value b < 16) same small in absurd (omega arith)

-- digits end at the brace
digits_same : (c d x y : List ℕ) → AllDigits 16 c → AllDigits 16 d → (c ++ 125 ∷ []) ++ x ≡ (d ++ 125 ∷ []) ++ y → (c ≡ d) × (x ≡ y)
digits_same [] [] x y left right same = (refl, (cc))
digits_same [] (b ∷ d) x y left right same = let brace : b ≡ 125 = cc in absurd (digit_not b right.0 brace)
digits_same (a ∷ c) [] x y left right same = let brace : a ≡ 125 = cc in absurd (digit_not a left.0 brace)
digits_same (a ∷ c) (b ∷ d) x y left right same =
    let tail : (c ++ 125 ∷ []) ++ x ≡ (d ++ 125 ∷ []) ++ y = cc in
    let next = digits_same c d x y left.1 right.1 tail in
    let head : a ≡ b = cc in
    let first = next.0 in
    ((cc), next.1)

-- bytes begin with one piece at most
pub same_piece : (p q : Piece) (x y : List ℕ) → IsPiece p → IsPiece q → spelling p ++ x ≡ spelling q ++ y → (p ≡ q) × (x ≡ y)
same_piece (Plain a) (Plain b) x y left right same = let bytes : a ≡ b = cc in ((cc), (cc))
same_piece (Plain a) (Escaped l m) x y left right same = absurd (plain_not a left (cc))
same_piece (Plain a) (Unicode d s) x y left right same = absurd (plain_not a left (cc))
same_piece (Escaped l m) (Plain b) x y left right same = absurd (plain_not b right (cc))
same_piece (Escaped l m) (Escaped k n) x y left right same =
    let letters : l ≡ k = cc in
    let meant : Some m ≡ Some n = sym left ∙ ap escape_of letters ∙ right in
    let means : m ≡ n = cc in
    ((cc), (cc))
same_piece (Escaped l m) (Unicode d s) x y left right same = absurd (no_u l m left (cc))
same_piece (Unicode d s) (Plain b) x y left right same = absurd (plain_not b right (cc))
same_piece (Unicode d s) (Escaped l m) x y left right same = absurd (no_u l m right (cc))
same_piece (Unicode c s) (Unicode d t) x y left right same =
    let tails : (c ++ 125 ∷ []) ++ x ≡ (d ++ 125 ∷ []) ++ y = cc in
    let both = digits_same c d x y left.0.2 right.0.2 tails in
    let digits = both.0 in
    let s_is = left.0.3 in
    let t_is = right.0.3 in
    ((cc), both.1)

-- a piece has a first byte
pub first_byte : (p : Piece) → (byte : ℕ) × (rest : List ℕ) × (spelling p ≡ byte ∷ rest)
first_byte (Plain byte) = (byte, [], refl)
first_byte (Escaped letter meant) = (92, letter ∷ [], refl)
first_byte (Unicode digits scalar) = (92, 117 ∷ 123 ∷ digits ++ 125 ∷ [], refl)

-- nothing but no pieces is spelled by no bytes
pub not_empty : (p : Piece) (x : List ℕ) → spelling p ++ x ≡ [] → ⊥
not_empty (Plain byte) x same = cc
not_empty (Escaped letter meant) x same = cc
not_empty (Unicode digits scalar) x same = cc

pieces_same : (ps qs : List Piece) → AllByRecursion IsPiece ps → AllByRecursion IsPiece qs → flat_map spelling ps ≡ flat_map spelling qs → ps ≡ qs
pieces_same [] [] left right same = refl
pieces_same [] (q ∷ qs) left right same = absurd (not_empty q (flat_map spelling qs) (sym same))
pieces_same (p ∷ ps) [] left right same = absurd (not_empty p (flat_map spelling ps) same)
pieces_same (p ∷ ps) (q ∷ qs) left right same =
    let first = same_piece p q (flat_map spelling ps) (flat_map spelling qs) left.0 right.0 same in
    let heads = first.0 in
    let tails = pieces_same ps qs left.1 right.1 first.1 in
    cc

pub one_text : (raw a b : List ℕ) → IsText raw a → IsText raw b → a ≡ b
one_text raw a b left right =
    let same = pieces_same left.pieces right.pieces left.each right.each (sym left.spelled ∙ right.spelled) in
    left.meant ∙ ap (λ (ps : List Piece). flat_map meaning ps) same ∙ sym right.meant

-- ---- joining

pub text_none : IsText [] []
text_none = record { pieces = []; each = tt; spelled = refl; meant = refl }

-- a piece before a text
pub text_more : (p : Piece) (raw text : List ℕ) → IsPiece p → IsText raw text → IsText (spelling p ++ raw) (meaning p ++ text)
text_more p raw text is rest = record {
  pieces = p ∷ rest.pieces;
  each = (is, rest.each);
  spelled = ap (λ (x : List ℕ). spelling p ++ x) rest.spelled;
  meant = ap (λ (x : List ℕ). meaning p ++ x) rest.meant;
}

-- one piece alone
pub text_piece : (p : Piece) → IsPiece p → IsText (spelling p) (meaning p)
text_piece p is = record { pieces = p ∷ []; each = (is, tt); spelled = sym (append-nil (spelling p)); meant = sym (append-nil (meaning p)) }

each-append : (ps qs : List Piece) → AllByRecursion IsPiece ps → AllByRecursion IsPiece qs → AllByRecursion IsPiece (ps ++ qs)
each-append [] qs left right = right
each-append (p ∷ ps) qs left right = (left.0, each-append ps qs left.1 right)

-- a text before a text
pub text-append : (raw text more behind : List ℕ) → IsText raw text → IsText more behind → IsText (raw ++ more) (text ++ behind)
text-append raw text more behind left right =
    let raw_is = left.spelled in
    let more_is = right.spelled in
    let text_is = left.meant in
    let behind_is = right.meant in
    let spelled = flat_map-append spelling left.pieces right.pieces in
    let meant = flat_map-append meaning left.pieces right.pieces in
    record { pieces = left.pieces ++ right.pieces; each = each-append left.pieces right.pieces left.each right.each; spelled = cc; meant = cc }

-- plain bytes stand for themselves
pub text_plain : (bytes : List ℕ) → AllByRecursion (λ byte. is_plain byte ≡ true) bytes → IsText bytes bytes
text_plain [] plain = text_none
text_plain (byte ∷ bytes) plain = text_more (Plain byte) bytes bytes plain.0 (text_plain bytes plain.1)

-- what follows the first piece of a text is a text
pub text_behind : (p : Piece) (rest raw text : List ℕ) → IsPiece p → raw ≡ spelling p ++ rest → IsText raw text
    → (more : List ℕ) × IsText rest more × (text ≡ meaning p ++ more)
text_behind p rest raw text is whole has = behind has.pieces has.each (sym whole ∙ has.spelled) has.meant where
  behind : (ps : List Piece) → AllByRecursion IsPiece ps → spelling p ++ rest ≡ flat_map spelling ps → text ≡ flat_map meaning ps
      → (more : List ℕ) × IsText rest more × (text ≡ meaning p ++ more)
  behind [] each spelled meant = absurd (not_empty p rest spelled)
  behind (q ∷ qs) each spelled meant =
      let first = same_piece p q rest (flat_map spelling qs) is each.0 spelled in
      let heads = first.0 in
      (flat_map meaning qs, record { pieces = qs; each = each.1; spelled = first.1; meant = refl }, (cc))

-- a text that isn't empty begins with a piece
pub text_first : (byte : ℕ) (bytes text : List ℕ) → IsText (byte ∷ bytes) text
    → (p : Piece) × (rest : List ℕ) × IsPiece p × (byte ∷ bytes ≡ spelling p ++ rest)
text_first byte bytes text has = first has.pieces has.each has.spelled where
  first : (ps : List Piece) → AllByRecursion IsPiece ps → byte ∷ bytes ≡ flat_map spelling ps
      → (p : Piece) × (rest : List ℕ) × IsPiece p × (byte ∷ bytes ≡ spelling p ++ rest)
  first [] each spelled = cc
  first (q ∷ qs) each spelled = (q, flat_map spelling qs, each.0, spelled)

-- ---- blanks

blank_plain : (byte : ℕ) → is_blank byte ≡ true → is_plain byte ≡ true
blank_plain byte blank =
    elim (or_cases _ _ blank) [
      | inl first ↦ elim (or_cases _ _ first) [
        | inl second ↦ elim (or_cases _ _ second) [
          | inl space ↦ subst (λ (b : ℕ). is_plain b ≡ true) (sym (eqb-true byte 32 space)) refl
          | inr tab ↦ subst (λ (b : ℕ). is_plain b ≡ true) (sym (eqb-true byte 9 tab)) refl
        ]
        | inr feed ↦ subst (λ (b : ℕ). is_plain b ≡ true) (sym (eqb-true byte 10 feed)) refl
      ]
      | inr return ↦ subst (λ (b : ℕ). is_plain b ≡ true) (sym (eqb-true byte 13 return)) refl
    ]

blanks_plain : (bytes : List ℕ) → AllByRecursion (λ byte. is_blank byte ≡ true) bytes → AllByRecursion (λ byte. is_plain byte ≡ true) bytes
blanks_plain [] blank = tt
blanks_plain (byte ∷ bytes) blank = (blank_plain byte blank.0, blanks_plain bytes blank.1)

pub plain_around : (before raw behind text : List ℕ) → AllByRecursion (λ byte. is_blank byte ≡ true) before
    → AllByRecursion (λ byte. is_blank byte ≡ true) behind → IsText raw text → IsText (before ++ raw ++ behind) (before ++ text ++ behind)
plain_around before raw behind text front end has =
    text-append (before ++ raw) (before ++ text) behind behind
    (text-append before before raw text (text_plain before (blanks_plain before front)) has)
    (text_plain behind (blanks_plain behind end))
