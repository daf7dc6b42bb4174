-- A text without the blanks around it.
use Rattle.std.proofs.Common.{◌≡◌, refl, ℕ, Bool, true, false, List, [], ◌∷◌, ◌++◌, drop, Some, sym, ap, subst, ◌∙◌, inl, inr}
use Rattle.std.specs.List.{AllByRecursion, flat_map}
use Rattle.std.proofs.lemmas.Bool.{eqb-true, or_cases, cases_Bool}
use Rattle.nextest_filtering_escapes.specs.Text.{Piece, Plain, Escaped, Unicode, IsPiece, IsText, spelling, meaning, is_blank, is_end, escape_of}
use Rattle.nextest_filtering_escapes.specs.Ends.{Stops}
use Rattle.nextest_filtering_escapes.proofs.Shown.{last_same}
use Rattle.nextest_filtering_escapes.proofs.Pieces.{text_none, text_more}
use Rattle.nextest_filtering_ast.specs.Grammar.{after_blanks}
use Rattle.nextest_filtering_arguments.specs.Blanks.{AreBlanks, HasBareEnd}
use Rattle.nextest_filtering_arguments.proofs.Trimming.{blank_cases, part_of}

-- ---- blanks at the front

-- what stands before the first byte that is no blank
pub blanks_before : (text : List ℕ) → (blanks : List ℕ) × AreBlanks blanks × (text ≡ blanks ++ after_blanks text)
blanks_before [] = ([], tt, refl)
blanks_before (byte ∷ rest) = by_test (blanks_before rest) (is_blank byte) refl where
  by_test : ((blanks : List ℕ) × AreBlanks blanks × (rest ≡ blanks ++ after_blanks rest)) → (b : Bool) → is_blank byte ≡ b
      → (blanks : List ℕ) × AreBlanks blanks × (byte ∷ rest ≡ blanks ++ after_blanks (byte ∷ rest))
  by_test next true test =
      let same : after_blanks (byte ∷ rest) ≡ after_blanks rest = Prim.rw test refl in
      (byte ∷ next.0, (test, next.1), ap (λ (x : List ℕ). byte ∷ x) (next.2 ∙ ap (λ (x : List ℕ). next.0 ++ x) (sym same)))
  by_test next false test = ([], tt, Prim.rw test refl)

pub unblanked_past : (blanks rest : List ℕ) → AreBlanks blanks → after_blanks (blanks ++ rest) ≡ after_blanks rest
unblanked_past [] rest all = refl
unblanked_past (byte ∷ blanks) rest all = Prim.rw all.0 (unblanked_past blanks rest all.1)

-- the byte that comes first without blanks is none
pub unblanked_bare : (text : List ℕ) (byte : ℕ) (rest : List ℕ) → after_blanks text ≡ byte ∷ rest → is_blank byte ≡ false
unblanked_bare [] byte rest is = cc
unblanked_bare (first ∷ text) byte rest is = by_test (unblanked_bare text byte rest) (is_blank first) refl where
  by_test : (after_blanks text ≡ byte ∷ rest → is_blank byte ≡ false) → (b : Bool) → is_blank first ≡ b → is_blank byte ≡ false
  by_test next true test = next (Prim.rw test at is)
  by_test next false test = let same : first ∷ text ≡ byte ∷ rest = Prim.rw test at is in let head : first ≡ byte = cc in subst (λ (b : ℕ). is_blank b ≡ false) head test

-- a `)` or a `,` is no blank
end_bare : (byte : ℕ) → is_end byte ≡ true → is_blank byte ≡ false
end_bare byte ends =
    elim (or_cases _ _ ends) [
      | inl is ↦ subst (λ (b : ℕ). is_blank b ≡ false) (sym (eqb-true byte 41 is)) refl
      | inr is ↦ subst (λ (b : ℕ). is_blank b ≡ false) (sym (eqb-true byte 44 is)) refl
    ]

pub unblanked_stops : (rest : List ℕ) → Stops rest → after_blanks rest ≡ rest
unblanked_stops [] stops = refl
unblanked_stops (byte ∷ rest) stops = Prim.rw (end_bare byte stops) refl

-- ---- texts that blanks end

letter_bare : (letter meant : ℕ) → escape_of letter ≡ Some meant → is_blank letter ≡ false
letter_bare letter meant is =
    elim (cases_Bool (is_blank letter)) [
      | inl blank ↦ absurd (blank_cases letter (λ (b : ℕ). escape_of b ≡ Some meant → ⊥) blank (λ e. cc) (λ e. cc) (λ e. cc) (λ e. cc) is)
      | inr bare ↦ bare
    ]

escaped_bare : (letter meant : ℕ) → escape_of letter ≡ Some meant → HasBareEnd (92 ∷ letter ∷ [])
escaped_bare letter meant is front byte same =
    subst (λ (b : ℕ). is_blank b ≡ false) (last_same (92 ∷ []) front letter byte same) (letter_bare letter meant is)

unicode_bare : (digits : List ℕ) → HasBareEnd (92 ∷ 117 ∷ 123 ∷ digits ++ 125 ∷ [])
unicode_bare digits front byte same =
    subst (λ (b : ℕ). is_blank b ≡ false) (last_same (92 ∷ 117 ∷ 123 ∷ digits) front 125 byte same) refl

-- a text with blanks at its end is one without them
abbrev HasText : List ℕ → Type 0
HasText raw = (text : List ℕ) × IsText raw text

pieces_cut : (ps : List Piece) (raw blanks : List ℕ) → AllByRecursion IsPiece ps → AreBlanks blanks → raw ++ blanks ≡ flat_map spelling ps → HasText raw
pieces_cut ps [] blanks each all is = ([], text_none)
pieces_cut [] (byte ∷ raw) blanks each all is = cc
pieces_cut (Plain letter ∷ ps) (byte ∷ raw) blanks each all is =
    let tail : raw ++ blanks ≡ flat_map spelling ps = ap (drop 1) is in
    let head : letter ≡ byte = cc in
    let next = pieces_cut ps raw blanks each.1 all tail in
    (letter ∷ next.0, subst (λ (b : ℕ). IsText (b ∷ raw) (letter ∷ next.0)) head (text_more (Plain letter) raw next.0 each.0 next.1))
pieces_cut (Escaped letter meant ∷ ps) (byte ∷ raw) blanks each all is =
    let part = part_of (92 ∷ letter ∷ []) (flat_map spelling ps) (byte ∷ raw) blanks (escaped_bare letter meant each.0) all is in
    let next = pieces_cut ps part.0 blanks each.1 all part.2 in
    (meant ∷ next.0, subst (λ (l : List ℕ). IsText l (meant ∷ next.0)) (sym part.1) (text_more (Escaped letter meant) part.0 next.0 each.0 next.1))
pieces_cut (Unicode digits scalar ∷ ps) (byte ∷ raw) blanks each all is =
    let part = part_of (92 ∷ 117 ∷ 123 ∷ digits ++ 125 ∷ []) (flat_map spelling ps) (byte ∷ raw) blanks (unicode_bare digits) all is in
    let next = pieces_cut ps part.0 blanks each.1 all part.2 in
    (meaning (Unicode digits scalar) ++ next.0, subst (λ (l : List ℕ). IsText l (meaning (Unicode digits scalar) ++ next.0)) (sym part.1) (text_more (Unicode digits scalar) part.0 next.0 each.0 next.1))

pub text_cut : (raw blanks text : List ℕ) → AreBlanks blanks → IsText (raw ++ blanks) text → (cut : List ℕ) × IsText raw cut
text_cut raw blanks text all has = pieces_cut has.pieces raw blanks has.each all has.spelled
