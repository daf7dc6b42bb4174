-- Scripts, one after another.
use Rattle.std.proofs.Common.{◌≡◌, ◌<◌, ℕ, ◌+◌, List, ◌∷◌, length, get_or, drop, Bool, cond, Some, ap, sym, ◌∙◌, drop-cons, add-one}
use Rattle.std.specs.List.{position_from}

-- the first place from one on
pub at_place : {X : Type 0} (test : X → Bool) (xs : List X) (i : ℕ) (x : X) (found : Bool) → i < length xs → x ≡ get_or xs i x → test x ≡ found
    → position_from test i (drop i xs) ≡ cond found (Some i) (position_from test (i + 1) (drop (i + 1) xs))
at_place {X = X} test xs i x found within is e =
    ap (λ (rest : List X). position_from test i rest) (drop-cons xs i x within ∙ ap (λ (n : ℕ). get_or xs i x ∷ drop n xs) (sym (add-one i)) ∙ ap (λ (y : X). y ∷ drop (i + 1) xs) (sym is))
    ∙ ap (λ (b : Bool). cond b (Some i) (position_from test (i + 1) (drop (i + 1) xs))) e
