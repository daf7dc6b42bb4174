-- Texts that differ at a place.
use Rattle.std.proofs.Common.{◌≡◌, ℕ, Bool, true, false, nat_eq, List, [], ◌∷◌, cond, refl, sym, ap, ◌∙◌}
use Rattle.std.proofs.lemmas.Bool.{eq-eqb, both_ways}

-- a byte of one stands where the other has another, or none
abbrev pub differ : List ℕ → List ℕ → Bool
differ [] [] = false
differ [] (y ∷ ys) = true
differ (x ∷ xs) [] = true
differ (x ∷ xs) (y ∷ ys) = cond (nat_eq x y) (differ xs ys) true

differ_self : (bytes : List ℕ) → differ bytes bytes ≡ false
differ_self [] = refl
differ_self (byte ∷ bytes) = ap (λ (same : Bool). cond same (differ bytes bytes) true) (eq-eqb byte byte refl) ∙ differ_self bytes

pub apart : (x y : List ℕ) → differ x y ≡ true → x ≡ y → ⊥
apart x y differs same = both_ways (differ y y) (differ_self y) (sym (ap (λ (bytes : List ℕ). differ bytes y) same) ∙ differs)

-- the first field, the word of a line
abbrev pub word_of : List (List ℕ) → List ℕ
word_of [] = []
word_of (word ∷ fields) = word
