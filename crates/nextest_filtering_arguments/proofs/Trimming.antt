-- Blanks at the end of a text.
use Rattle.std.proofs.Common.{◌≡◌, ◌≢◌, refl, ℕ, true, List, [], ◌∷◌, ◌++◌, drop, Option, Some, None, sym, ap, subst, ◌∙◌, inl, inr}
use Rattle.std.specs.Prelude.{MatchOption, IfNone}
use Rattle.std.specs.Borrow.{Bor}
use Rattle.std.proofs.lemmas.Bool.{eqb-true, or_cases, false≢true, cases_Bool}
use Rattle.nextest_filtering_escapes.specs.Text.{is_blank}
use Rattle.nextest_filtering_arguments.specs.Blanks.{AreBlanks, HasBareEnd}

-- each kind of blank
pub blank_cases : (byte : ℕ) (P : ℕ → Type 0) → is_blank byte ≡ true → P 32 → P 9 → P 10 → P 13 → P byte
blank_cases byte P blank space tab feed return =
    elim (or_cases _ _ blank) [
      | inl first ↦ elim (or_cases _ _ first) [
        | inl second ↦ elim (or_cases _ _ second) [
          | inl is ↦ subst P (sym (eqb-true byte 32 is)) space
          | inr is ↦ subst P (sym (eqb-true byte 9 is)) tab
        ]
        | inr is ↦ subst P (sym (eqb-true byte 10 is)) feed
      ]
      | inr is ↦ subst P (sym (eqb-true byte 13 is)) return
    ]

-- a text that ends with none of the four kinds ends with no blank
pub bare_end : (text : List ℕ) (last : Option (Bor (List ℕ))) → ((front : List ℕ) → text ≢ front ++ 32 ∷ []) → ((front : List ℕ) → text ≢ front ++ 9 ∷ [])
    → ((front : List ℕ) → text ≢ front ++ 10 ∷ []) → MatchOption last ((front : List ℕ) → text ≢ front ++ (13 ∷ [])) (λ x. text ≡ x.now ++ (13 ∷ []))
    → IfNone last (HasBareEnd text)
bare_end text None space tab feed return = λ front byte is.
    elim (cases_Bool (is_blank byte)) [
      | inl blank ↦ absurd (blank_cases byte (λ (b : ℕ). text ≡ front ++ b ∷ [] → ⊥) blank (space front) (tab front) (feed front) (return front) is)
      | inr bare ↦ bare
    ]
bare_end text (Some x) space tab feed return = tt

-- what follows the first byte ends as the whole does
pub bare_tail : (byte : ℕ) (text : List ℕ) → HasBareEnd (byte ∷ text) → HasBareEnd text
bare_tail byte text bare front last is = bare (byte ∷ front) last (ap (λ (x : List ℕ). byte ∷ x) is)

-- a text that isn't empty and has a bare end isn't blank
pub not_blanks : (byte : ℕ) (text : List ℕ) → AreBlanks (byte ∷ text) → HasBareEnd (byte ∷ text) → ⊥
not_blanks byte [] all bare = false≢true (sym (bare [] byte refl) ∙ all.0)
not_blanks byte (next ∷ text) all bare = not_blanks next text all.1 (bare_tail byte (next ∷ text) bare)

pub blanks_front : (a b : List ℕ) → AreBlanks (a ++ b) → AreBlanks a
blanks_front [] b all = tt
blanks_front (byte ∷ a) b all = (all.0, blanks_front a b all.1)

-- the part with a bare end at the start of a text that blanks end
pub part_of : (s x raw blanks : List ℕ) → HasBareEnd s → AreBlanks blanks → raw ++ blanks ≡ s ++ x → (rest : List ℕ) × (raw ≡ s ++ rest) × (rest ++ blanks ≡ x)
part_of [] x raw blanks bare all is = (raw, refl, is)
part_of (c ∷ s) x [] blanks bare all is = absurd (not_blanks c s (blanks_front (c ∷ s) x (subst AreBlanks is all)) bare)
part_of (c ∷ s) x (d ∷ raw) blanks bare all is =
    let tail : raw ++ blanks ≡ s ++ x = ap (drop 1) is in
    let head : d ≡ c = cc in
    let next = part_of s x raw blanks (bare_tail c s bare) all tail in
    let rest = next.1 in
    (next.0, (cc), next.2)

-- what is left without the blanks at its end is one
pub trimmed_once : (a b x y : List ℕ) → HasBareEnd a → HasBareEnd b → AreBlanks x → AreBlanks y → a ++ x ≡ b ++ y → a ≡ b
trimmed_once [] [] x y bare other left right is = refl
trimmed_once [] (d ∷ b) x y bare other left right is = absurd (not_blanks d b (blanks_front (d ∷ b) y (subst AreBlanks is left)) other)
trimmed_once (c ∷ a) [] x y bare other left right is = absurd (not_blanks c a (blanks_front (c ∷ a) x (subst AreBlanks (sym is) right)) bare)
trimmed_once (c ∷ a) (d ∷ b) x y bare other left right is =
    let tail : a ++ x ≡ b ++ y = ap (drop 1) is in
    let head : c ≡ d = cc in
    let next = trimmed_once a b x y (bare_tail c a bare) (bare_tail d b other) left right tail in
    cc
