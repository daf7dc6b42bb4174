-- How the tools' sources are turned round.
use Rattle.std.proofs.Common.{◌≡◌, List, [], ◌∷◌, ◌++◌, map, reverse, refl, sym, ap, ◌∙◌}
use Rattle.std.proofs.lemmas.List.{map-append, reverse-append}

-- what is made of each item, the last first
map_reverse : {A B : Type 0} (f : A → B) (xs : List A) → map f (reverse xs) ≡ reverse (map f xs)
map_reverse f [] = refl
map_reverse {A} {B} f (x ∷ xs) =
    ap (λ (l : List A). map f l) (reverse-append (x ∷ []) xs) ∙ map-append f (reverse xs) (x ∷ [])
    ∙ ap (λ (l : List B). l ++ f x ∷ []) (map_reverse f xs) ∙ sym (reverse-append (f x ∷ []) (map f xs))

-- items turned round, and others behind them
pub turned_with : {A B : Type 0} (f : A → B) (first behind : List B) (items turned all : List A)
    → map f items ≡ first → turned ≡ reverse items → map f all ≡ map f turned ++ behind → map f all ≡ reverse first ++ behind
turned_with {A} {B} f first behind items turned all from round whole =
    whole
    ∙ ap (λ (l : List B). l ++ behind)
    (ap (λ (l : List A). map f l) round ∙ map_reverse f items ∙ ap (λ (l : List B). reverse l) from)
