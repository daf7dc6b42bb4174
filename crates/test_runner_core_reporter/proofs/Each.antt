-- What is reported of the items of a list, one after another.
use Rattle.std.proofs.Common.{◌≡◌, ℕ, zero, suc, ◌+◌, ◌<◌, List, [], ◌∷◌, ◌++◌, Option, Some, length, map, take, drop, get_or, refl, sym, ap, ◌∙◌, subst, arith}
use Rattle.std.proofs.lemmas.List.{map-append, take-append-drop}
use Rattle.std.proofs.lemmas.Option.{slice_get_read}
use Rattle.std.specs.Prelude.{slice_get}
use Rattle.test_runner_core_reporter.specs.Parts.{Part}
use Rattle.test_runner_core_reporter.specs.Writes.{WritesAll, WritesPrefix}
use Rattle.test_runner_core_reporter.proofs.Told.{all_then, front_more, front_then}

-- the first items, and one more
pub take_next : {X : Type 0} (xs : List X) (place : ℕ) (x : X) → slice_get xs place ≡ Some x → take (suc place) xs ≡ take place xs ++ x ∷ []
take_next [] place x here = absurd (let e = here in cc)
take_next (first ∷ xs) zero x here = ap (λ (y : _). y ∷ []) (let e = here in cc)
take_next (first ∷ xs) (suc place) x here = ap (λ (ys : List _). first ∷ ys) (take_next xs place x here)

-- their parts
parts_next : {X : Type 0} (part : X → Part) (xs : List X) (place : ℕ) (x : X) → slice_get xs place ≡ Some x
    → map part (take (suc place) xs) ≡ map part (take place xs) ++ part x ∷ []
parts_next part xs place x here = ap (map part) (take_next xs place x here) ∙ map-append part (take place xs) (x ∷ [])

-- those of all
parts_rest : {X : Type 0} (part : X → Part) (xs : List X) (place : ℕ) (x : X) → slice_get xs place ≡ Some x
    → map part xs ≡ (map part (take place xs) ++ part x ∷ []) ++ map part (drop (suc place) xs)
parts_rest part xs place x here =
    ap (map part) (sym (take-append-drop (suc place) xs))
    ∙ map-append part (take (suc place) xs) (drop (suc place) xs)
    ∙ ap (λ (ys : List Part). ys ++ map part (drop (suc place) xs)) (parts_next part xs place x here)

-- the next one is reported
pub next_told : {X : Type 0} (part : X → Part) (xs : List X) (place : ℕ) (x : X) (before middle after : Option (List ℕ)) (waited mid waits : List ℕ) → slice_get xs place ≡ Some x
    → WritesAll (map part (take place xs)) before waited middle mid → WritesAll (part x ∷ []) middle mid after waits
    → WritesAll (map part (take (place + 1) xs)) before waited after waits
next_told part xs place x before middle after waited mid waits here told now =
    let next : suc place ≡ place + 1 = omega arith in
    subst (λ (n : ℕ). WritesAll (map part (take n xs)) before waited after waits) next
    (subst (λ (parts : List Part). WritesAll parts before waited after waits) (sym (parts_next part xs place x here))
    (all_then (map part (take place xs)) (part x ∷ []) before middle after waited mid waits told now))

-- or it fails to be reported
pub next_fails : {X : Type 0} (part : X → Part) (xs : List X) (place : ℕ) (x : X) (before middle after : Option (List ℕ)) (waited mid : List ℕ) → slice_get xs place ≡ Some x
    → WritesAll (map part (take place xs)) before waited middle mid → WritesPrefix (part x ∷ []) middle mid after
    → WritesPrefix (map part xs) before waited after
next_fails part xs place x before middle after waited mid here told failed =
    subst (λ (parts : List Part). WritesPrefix parts before waited after) (sym (parts_rest part xs place x here))
    (front_more (map part (take place xs) ++ part x ∷ []) (map part (drop (suc place) xs)) before after waited
    (front_then (map part (take place xs)) (part x ∷ []) before middle after waited mid told failed))

-- an item that is read in what is lent of a list
pub lent_here : {X : Type 0} (xs lent : List X) (place : ℕ) (x : X) → lent ≡ xs → place < length lent → x ≡ get_or lent place x → slice_get xs place ≡ Some x
lent_here xs lent place x same within is = subst (λ (l : List _). slice_get l place ≡ Some x) same (slice_get_read lent (length lent) place x refl within is)
