-- Characters that stand for those of a text, one by one.
use Rattle.std.proofs.Common.{◌≡◌, ℕ, List, [], ◌∷◌, ◌++◌, length, refl, sym, ap, ◌∙◌, arith}

-- the first one, and what is behind it
pub first_code : {C : Type 0} (codes : List C → List ℕ) → ((front back : List C) → codes (front ++ back) ≡ codes front ++ codes back)
    → (x : C) (c : ℕ) (rest : List C) → codes (x ∷ []) ≡ c ∷ [] → codes (x ∷ rest) ≡ c ∷ codes rest
first_code codes joined x c rest one = joined (x ∷ []) rest ∙ ap (λ l. l ++ codes rest) one

-- texts that are one begin alike
pub first_same : (c d : ℕ) (text rest : List ℕ) → c ∷ text ≡ d ∷ rest → c ≡ d
first_same c d text rest is = cc

-- one stands where one of these does
pub some_code : {C : Type 0} (codes : List C → List ℕ) → ((front back : List C) → codes (front ++ back) ≡ codes front ++ codes back)
    → ((list : List C) → length (codes list) ≡ length list) → (x : C) (rest : List C) → (c : ℕ) × (codes (x ∷ rest) ≡ c ∷ codes rest)
some_code codes joined counted x rest = by_first (codes (x ∷ [])) refl where
  by_first : (one : List ℕ) → codes (x ∷ []) ≡ one → (c : ℕ) × (codes (x ∷ rest) ≡ c ∷ codes rest)
  by_first [] e = absurd (omega (arith, ap length (sym e) ∙ counted (x ∷ [])))
  by_first (c ∷ []) e = (c, first_code codes joined x c rest e)
  by_first (c ∷ d ∷ more) e = absurd (omega (arith, ap length (sym e) ∙ counted (x ∷ [])))
