-- What is taken of texts where a list of truth values says so.
use Rattle.std.proofs.Common.{◌≡◌, ◌≤◌, ◌<◌, ◌+◌, inl, inr, min, arith, ℕ, Bool, true, false, List, [], ◌∷◌, length, drop, get_or, refl, ap, ◌∙◌}
use Rattle.std.specs.List.{items_where_true}
use Rattle.std.proofs.lemmas.Bool.{cases_lt}
use Rattle.std.proofs.lemmas.List.{drop_more, drop_all}

-- the next text is taken
pub one_taken : {X : Type 0} (keep : List Bool) (texts : List X) (index : ℕ) (text : X) → index < length keep → index < length texts → get_or keep index false ≡ true
    → items_where_true (drop index keep) (drop index texts) ≡ get_or texts index text ∷ items_where_true (drop (index + 1) keep) (drop (index + 1) texts)
one_taken keep texts index text there within is =
    ap (λ rest. items_where_true rest (drop index texts)) (drop_more keep index false there ∙ ap (λ first. first ∷ drop (index + 1) keep) is)
    ∙ ap (λ rest. items_where_true (true ∷ drop (index + 1) keep) rest) (drop_more texts index text within)

-- it is left out
pub one_left : {X : Type 0} (keep : List Bool) (texts : List X) (index : ℕ) (text : X) → index < length keep → index < length texts → get_or keep index false ≡ false
    → items_where_true (drop index keep) (drop index texts) ≡ items_where_true (drop (index + 1) keep) (drop (index + 1) texts)
one_left keep texts index text there within is =
    ap (λ rest. items_where_true rest (drop index texts)) (drop_more keep index false there ∙ ap (λ first. first ∷ drop (index + 1) keep) is)
    ∙ ap (λ rest. items_where_true (false ∷ drop (index + 1) keep) rest) (drop_more texts index text within)

of_none : {X : Type 0} (keep : List Bool) (texts : List X) → texts ≡ [] → items_where_true keep texts ≡ []
of_none [] texts none = refl
of_none (kept ∷ keep) [] none = refl
of_none (kept ∷ keep) (text ∷ texts) none = absurd (omega (arith, ap length none))

-- none is left
pub all_looked_at : {X : Type 0} (keep : List Bool) (texts : List X) (index : ℕ) → min (length texts) (length keep) ≤ index → items_where_true (drop index keep) (drop index texts) ≡ []
all_looked_at keep texts index past =
    elim (cases_lt index (length keep)) [
      | inl inside ↦ of_none (drop index keep) (drop index texts) (drop_all index texts (omega (arith, inside, past)))
      | inr outside ↦ ap (λ rest. items_where_true rest (drop index texts)) (drop_all index keep outside)
    ]
