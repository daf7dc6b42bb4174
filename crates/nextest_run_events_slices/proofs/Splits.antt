-- A text splits in one way at the first byte that passes a test.
use Rattle.std.proofs.Common.{◌≡◌, ◌≢◌, ◌+◌, ◌<◌, ℕ, Bool, true, false, List, [], ◌∷◌, ◌++◌, Option, Some, None, MatchOption, Bor, length, take, drop, slice_index, get_or-take, length-take, take-append-drop, refl, sym, ap, ◌∙◌, arith}
use Rattle.std.specs.List.{All}
use Rattle.std.specs.Str.{bytes_eq}
use Rattle.std.proofs.lemmas.Bool.{false≢true}
use Rattle.std.proofs.lemmas.List.{drop_more, take_at}
use Rattle.std.proofs.lemmas.List.Elements.{All-from_get_or, All-head, All-tail}
use Rattle.std.proofs.lemmas.Slice.Eq.{bytes_eq-Decides}
use Rattle.bstr.specs.Find.{IsFirstByte}

not_passing : (b : Bool) → (b ≡ true → ⊥) → b ≡ false
not_passing true h = absurd (h refl)
not_passing false h = refl

module _ (test : ℕ → Bool) (text : List ℕ) where
  -- the text around the first byte that passes
  pub split_there : (k : ℕ) → IsFirstByte test text (Some k) → text ≡ take k text ++ (slice_index text k ∷ drop (k + 1) text)
  split_there k h = sym (take-append-drop k text) ∙ ap (λ rest. take k text ++ rest) (drop_more text k 0 h.0.high)

  pub none_before : (k : ℕ) → IsFirstByte test text (Some k) → All (λ byte. test byte ≡ false) (take k text)
  none_before k h = All-from_get_or (λ byte. test byte ≡ false) (take k text) 0 (λ i below.
      let inside : i < k = omega (arith, length-take k text) in
      ap test (get_or-take k text i 0 inside) ∙ not_passing _ (h.0.before i (omega arith) inside))

  pub none_at_all : IsFirstByte test text None → All (λ byte. test byte ≡ false) text
  none_at_all h = All-from_get_or (λ byte. test byte ≡ false) text 0 (λ i below. not_passing _ (h i (omega arith) below))

-- a text in which no byte passes does not hold one that does
pub none_inside : (test : ℕ → Bool) (front rest : List ℕ) (byte : ℕ) → test byte ≡ true → All (λ v. test v ≡ false) (front ++ byte ∷ rest) → ⊥
none_inside test [] rest byte passes none = false≢true (sym (All-head (λ v. test v ≡ false) byte rest none) ∙ passes)
none_inside test (x ∷ front) rest byte passes none = none_inside test front rest byte passes (All-tail (λ v. test v ≡ false) x (front ++ byte ∷ rest) none)

-- two such splits of one text are the same
pub same_split : (test : ℕ → Bool) (one other rest left : List ℕ) (byte last : ℕ) → All (λ v. test v ≡ false) one → All (λ v. test v ≡ false) other → test byte ≡ true → test last ≡ true
    → one ++ byte ∷ rest ≡ other ++ last ∷ left → (one ≡ other) × (byte ≡ last) × (rest ≡ left)
same_split test [] [] rest left byte last none none' passes passes' e = (refl, cc, cc)
same_split test [] (y ∷ other) rest left byte last none none' passes passes' e =
    let same : byte ≡ y = cc in
    absurd (false≢true (sym (All-head (λ v. test v ≡ false) y other none') ∙ ap test (sym same) ∙ passes))
same_split test (x ∷ one) [] rest left byte last none none' passes passes' e =
    let same : x ≡ last = cc in
    absurd (false≢true (sym (All-head (λ v. test v ≡ false) x one none) ∙ ap test same ∙ passes'))
same_split test (x ∷ one) (y ∷ other) rest left byte last none none' passes passes' e =
    let same : x ≡ y = cc in
    let tails : one ++ byte ∷ rest ≡ other ++ last ∷ left = cc in
    let inner = same_split test one other rest left byte last (All-tail (λ v. test v ≡ false) x one none) (All-tail (λ v. test v ≡ false) y other none') passes passes' tails in
    let equal : one ≡ other = inner.0 in
    (cc, inner.1, inner.2)

-- what stands behind a part that is stripped off
pub stripped : (text part : List ℕ) (r : Option (Bor (List ℕ))) → MatchOption r (bytes_eq (take (length part) text) part ≡ false) (λ x. (bytes_eq (take (length part) text) part ≡ true) × (x.now ≡ drop (length part) text) × (length x.now + length part ≡ length text))
    → MatchOption r ((rest : List ℕ) → text ≢ part ++ rest) (λ rest. text ≡ part ++ rest.now)
stripped text part None h = λ rest e.
    false≢true (sym h ∙ (bytes_eq-Decides (take (length part) text) part).1 (ap (take (length part)) e ∙ take_at part rest (length part) refl))
stripped text part (Some x) h =
    let front : take (length part) text ≡ part = (bytes_eq-Decides (take (length part) text) part).0 h.0 in
    sym (take-append-drop (length part) text) ∙ ap (λ f. f ++ drop (length part) text) front ∙ ap (λ r. part ++ r) (sym h.1)
