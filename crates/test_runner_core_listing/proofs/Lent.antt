-- Lent names, as texts.
use Rattle.std.proofs.Common.{◌≡◌, ◌<◌, ◌+◌, ◌++◌, ◌∷◌, [], ℕ, List, Bool, true, false, length, map, get_or, take, ap, sym, ◌∙◌, subst, Bor, refl, cond}
use Rattle.std.specs.List.{filter, items_where_true}
use Rattle.std.proofs.lemmas.List.{get_or-map, length-map, take_more, map-append}
use Rattle.nextest_text.specs.Parts.{lent_texts}

pub within_lent : (names : List (Bor (List ℕ))) (i : ℕ) → i < length names → i < length (lent_texts names)
within_lent names i within = subst (λ count. i < count) (sym (length-map names (λ name. name.now))) within

-- the name at a place
pub item_lent : (names : List (Bor (List ℕ))) (i : ℕ) (other : List ℕ) → i < length names → (get_or names i (record { ref_ptr = (0, 0); now = [] })).now ≡ get_or (lent_texts names) i other
item_lent names i other within = sym (get_or-map (λ it. it.now) names i (record { ref_ptr = (0, 0); now = [] }) other within)

-- what a function makes of the names so far, with one more
pub one_told : {Y : Type 0} (f : List ℕ → Y) (names : List (Bor (List ℕ))) (i : ℕ) (one : Y) (before after : List Y) → i < length names → one ≡ f (get_or names i (record { ref_ptr = (0, 0); now = [] })).now
    → before ≡ map f (take i (lent_texts names)) → after ≡ before ++ one ∷ [] → after ≡ map f (take (i + 1) (lent_texts names))
one_told f names i one before after within told so_far adds =
    let texts = lent_texts names in
    adds
    ∙ ap (λ some. some ++ one ∷ []) so_far
    ∙ ap (λ last. map f (take i texts) ++ last ∷ []) (told ∙ ap f (item_lent names i [] within))
    ∙ sym (map-append f (take i texts) (get_or texts i [] ∷ []))
    ∙ ap (map f) (sym (take_more texts i [] (within_lent names i within)))

-- those of which a list of truth values says so
pub picked : (on : List ℕ → Bool) (names : List (List ℕ)) → items_where_true (map on names) names ≡ filter on names
picked on [] = refl
picked on (name ∷ names) = by_truth (on name) (picked on names)
  where
    by_truth : (truth : Bool) → items_where_true (map on names) names ≡ filter on names → items_where_true (truth ∷ map on names) (name ∷ names) ≡ cond truth (name ∷ filter on names) (filter on names)
    by_truth true rest = ap (λ some. name ∷ some) rest
    by_truth false rest = rest
