-- Which places are in a set. A place is named by what is left of the text behind it.
use Rattle.std.proofs.Common.{◌≡◌, ℕ, suc, Bool, true, false, List, [], ◌∷◌, ◌++◌, ◌⊎◌, length, map, subst, sym, refl, ap, arith}
use Rattle.std.specs.Prelude.{◌&&◌, ◌||◌}
use Rattle.std.proofs.lemmas.Bool.{and_parts, or_cases, false≢true}
use mathlib.Core.Logic.{inl, inr}
use Rattle.nextest_filtering_globs.specs.Inside.{next_places, later, either_of, none_of, start_of, has_last}

-- a set has a place for each character, and one for the end
abbrev pub Covers : List ℕ → List Bool → Type 0
Covers text places = length places ≡ suc (length text)

-- the place with so much behind it is in the set
abbrev pub Has : List ℕ → List Bool → List ℕ → Type 0
Has text [] rest = ⊥
Has [] (here ∷ places) rest = (here ≡ true) × (rest ≡ [])
Has (c ∷ more) (here ∷ places) rest = ((here ≡ true) × (rest ≡ c ∷ more)) ⊎ Has more places rest

pub and_both : (a b : Bool) → a ≡ true → b ≡ true → (a && b) ≡ true
and_both true b h k = k
and_both false b h k = absurd (false≢true h)

pub or_left : (a b : Bool) → a ≡ true → (a || b) ≡ true
or_left true b h = refl
or_left false b h = absurd (false≢true h)

pub or_right : (a b : Bool) → b ≡ true → (a || b) ≡ true
or_right true b h = refl
or_right false b h = h

tail_covers : (c : ℕ) (more : List ℕ) (here : Bool) (places : List Bool) → Covers (c ∷ more) (here ∷ places)
    → Covers more places
tail_covers c more here places e = omega (arith, e)

none_covers : {A : Type 0} (text : List ℕ) → Covers text [] → A
none_covers text e = absurd (omega (arith, e))

-- a character more
abbrev pub Moved : (ℕ → Bool) → List ℕ → List Bool → List ℕ → Type 0
Moved goes text places rest = (c : ℕ) × Has text places (c ∷ rest) × (goes c ≡ true)

pub moved_has : (goes : ℕ → Bool) (carried : Bool) (text : List ℕ) (places : List Bool) (rest : List ℕ)
    → Covers text places → Has text (next_places goes carried text places) rest
    → ((carried ≡ true) × (rest ≡ text)) ⊎ Moved goes text places rest
moved_has goes carried [] places rest e h = inl h
moved_has goes carried (c ∷ more) [] rest e h = none_covers (c ∷ more) e
moved_has goes carried (c ∷ more) (here ∷ places) rest e (inl h) = inl h
moved_has goes carried (c ∷ more) (here ∷ places) rest e (inr h) =
    elim (moved_has goes (here && goes c) more places rest (tail_covers c more here places e) h) [
      | inl k ↦ let both = and_parts here (goes c) k.0 in
          inr (c, inl (both.0, ap (λ x. c ∷ x) k.1), both.1)
      | inr k ↦ inr (k.0, inr k.1, k.2)
    ]

pub has_carried : (goes : ℕ → Bool) (carried : Bool) (text : List ℕ) (places : List Bool) (rest : List ℕ)
    → Covers text places → carried ≡ true → rest ≡ text → Has text (next_places goes carried text places) rest
has_carried goes carried [] places rest e h k = (h, k)
has_carried goes carried (c ∷ more) [] rest e h k = none_covers (c ∷ more) e
has_carried goes carried (c ∷ more) (here ∷ places) rest e h k = inl (h, k)

pub has_moved : (goes : ℕ → Bool) (carried : Bool) (text : List ℕ) (places : List Bool) (c : ℕ) (rest : List ℕ)
    → Covers text places → Has text places (c ∷ rest) → goes c ≡ true → Has text (next_places goes carried text places) rest
has_moved goes carried text [] c rest e h k = absurd h
has_moved goes carried [] (here ∷ places) c rest e h k = let f = h.1 in absurd cc
has_moved goes carried (d ∷ more) (here ∷ places) c rest e (inl h) k =
    let same : c ≡ d = let f = h.1 in cc in
    let left : rest ≡ more = let f = h.1 in cc in
    inr (has_carried goes (here && goes d) more places rest (tail_covers d more here places e)
    (and_both here (goes d) h.0 (subst (λ x. goes x ≡ true) same k)) left)
has_moved goes carried (d ∷ more) (here ∷ places) c rest e (inr h) k =
    inr (has_moved goes (here && goes d) more places c rest (tail_covers d more here places e) h k)

pub length-moved : (goes : ℕ → Bool) (carried : Bool) (text : List ℕ) (places : List Bool) → Covers text places
    → Covers text (next_places goes carried text places)
length-moved goes carried [] places e = refl
length-moved goes carried (c ∷ more) [] e = none_covers (c ∷ more) e
length-moved goes carried (c ∷ more) (here ∷ places) e =
    ap suc (length-moved goes (here && goes c) more places (tail_covers c more here places e))

-- any run of characters more
abbrev pub Later : List ℕ → List Bool → List ℕ → Type 0
Later text places rest = (word : List ℕ) × Has text places (word ++ rest)

abbrev pub IsEnd : List ℕ → List ℕ → Type 0
IsEnd text rest = (word : List ℕ) × (text ≡ word ++ rest)

pub later_has : (seen : Bool) (text : List ℕ) (places : List Bool) (rest : List ℕ)
    → Covers text places → Has text (later seen places) rest
    → ((seen ≡ true) × IsEnd text rest) ⊎ Later text places rest
later_has seen text [] rest e h = absurd h
later_has seen [] (here ∷ places) rest e h =
    elim (or_cases seen here h.0) [ inl k ↦ inl (k, ([], sym h.1)) | inr k ↦ inr ([], (k, h.1)) ]
later_has seen (c ∷ more) (here ∷ places) rest e (inl h) =
    elim (or_cases seen here h.0) [ inl k ↦ inl (k, ([], sym h.1)) | inr k ↦ inr ([], inl (k, h.1)) ]
later_has seen (c ∷ more) (here ∷ places) rest e (inr h) =
    elim (later_has (seen || here) more places rest (tail_covers c more here places e) h) [
      | inl k ↦ elim (or_cases seen here k.0) [
        | inl s ↦ inl (s, (c ∷ k.1.0, ap (λ x. c ∷ x) k.1.1))
        | inr s ↦ inr (c ∷ k.1.0, inl (s, ap (λ x. c ∷ x) (sym k.1.1)))
      ]
      | inr k ↦ inr (k.0, inr k.1)
    ]

pub has_seen : (seen : Bool) (text : List ℕ) (places : List Bool) (word rest : List ℕ) → Covers text places
    → seen ≡ true → text ≡ word ++ rest → Has text (later seen places) rest
has_seen seen text [] word rest e h k = none_covers text e
has_seen seen [] (here ∷ places) [] rest e h k = (or_left seen here h, sym k)
has_seen seen [] (here ∷ places) (c ∷ word) rest e h k = absurd cc
has_seen seen (d ∷ more) (here ∷ places) [] rest e h k = inl (or_left seen here h, sym k)
has_seen seen (d ∷ more) (here ∷ places) (c ∷ word) rest e h k =
    let left : more ≡ word ++ rest = cc in
    inr (has_seen (seen || here) more places word rest (tail_covers d more here places e) (or_left seen here h) left)

pub has_later : (seen : Bool) (text : List ℕ) (places : List Bool) (word rest : List ℕ) → Covers text places
    → Has text places (word ++ rest) → Has text (later seen places) rest
has_later seen text [] word rest e h = absurd h
has_later seen [] (here ∷ places) [] rest e h = (or_right seen here h.0, h.1)
has_later seen [] (here ∷ places) (c ∷ word) rest e h = let f = h.1 in absurd cc
has_later seen (d ∷ more) (here ∷ places) [] rest e (inl h) = inl (or_right seen here h.0, h.1)
has_later seen (d ∷ more) (here ∷ places) (c ∷ word) rest e (inl h) =
    let left : more ≡ word ++ rest = let f = h.1 in cc in
    inr (has_seen (seen || here) more places word rest (tail_covers d more here places e) (or_right seen here h.0) left)
has_later seen (d ∷ more) (here ∷ places) word rest e (inr h) =
    inr (has_later (seen || here) more places word rest (tail_covers d more here places e) h)

pub length-later : (seen : Bool) (places : List Bool) → length (later seen places) ≡ length places
length-later seen [] = refl
length-later seen (here ∷ places) = ap suc (length-later (seen || here) places)

-- either set
pub either_has : (text : List ℕ) (places others : List Bool) (rest : List ℕ) → Has text (either_of places others) rest
    → Has text places rest ⊎ Has text others rest
either_has text [] others rest h = absurd h
either_has text (here ∷ places) [] rest h = inl h
either_has [] (here ∷ places) (there ∷ others) rest h =
    elim (or_cases here there h.0) [ inl k ↦ inl (k, h.1) | inr k ↦ inr (k, h.1) ]
either_has (c ∷ more) (here ∷ places) (there ∷ others) rest (inl h) =
    elim (or_cases here there h.0) [ inl k ↦ inl (inl (k, h.1)) | inr k ↦ inr (inl (k, h.1)) ]
either_has (c ∷ more) (here ∷ places) (there ∷ others) rest (inr h) =
    elim (either_has more places others rest h) [ inl k ↦ inl (inr k) | inr k ↦ inr (inr k) ]

pub has_first : (text : List ℕ) (places others : List Bool) (rest : List ℕ) → Has text places rest
    → Has text (either_of places others) rest
has_first text [] others rest h = absurd h
has_first text (here ∷ places) [] rest h = h
has_first [] (here ∷ places) (there ∷ others) rest h = (or_left here there h.0, h.1)
has_first (c ∷ more) (here ∷ places) (there ∷ others) rest (inl h) = inl (or_left here there h.0, h.1)
has_first (c ∷ more) (here ∷ places) (there ∷ others) rest (inr h) = inr (has_first more places others rest h)

pub has_second : (text : List ℕ) (places others : List Bool) (rest : List ℕ) → Covers text places
    → Has text others rest → Has text (either_of places others) rest
has_second text [] others rest e h = none_covers text e
has_second text (here ∷ places) [] rest e h = absurd h
has_second [] (here ∷ places) (there ∷ others) rest e h = (or_right here there h.0, h.1)
has_second (c ∷ more) (here ∷ places) (there ∷ others) rest e (inl h) = inl (or_right here there h.0, h.1)
has_second (c ∷ more) (here ∷ places) (there ∷ others) rest e (inr h) =
    inr (has_second more places others rest (tail_covers c more here places e) h)

pub length-either : (places others : List Bool) → length (either_of places others) ≡ length places
length-either [] others = refl
length-either (here ∷ places) [] = refl
length-either (here ∷ places) (there ∷ others) = ap suc (length-either places others)

-- no place
pub none_has : (text : List ℕ) (places : List Bool) (rest : List ℕ) → Has text (none_of places) rest → ⊥
none_has text [] rest h = h
none_has [] (here ∷ places) rest h = false≢true h.0
none_has (c ∷ more) (here ∷ places) rest (inl h) = false≢true h.0
none_has (c ∷ more) (here ∷ places) rest (inr h) = none_has more places rest h

pub length-none : (places : List Bool) → length (none_of places) ≡ length places
length-none [] = refl
length-none (here ∷ places) = ap suc (length-none places)

-- the first place
none_behind : (shape text rest : List ℕ) → Has text (map (λ _. false) shape) rest → ⊥
none_behind [] text rest h = h
none_behind (c ∷ shape) [] rest h = false≢true h.0
none_behind (c ∷ shape) (d ∷ more) rest (inl h) = false≢true h.0
none_behind (c ∷ shape) (d ∷ more) rest (inr h) = none_behind shape more rest h

pub start_has : (text rest : List ℕ) → Has text (start_of text) rest → rest ≡ text
start_has [] rest h = h.1
start_has (c ∷ more) rest (inl h) = h.1
start_has (c ∷ more) rest (inr h) = absurd (none_behind (c ∷ more) more rest h)

pub has_start : (text : List ℕ) → Has text (start_of text) text
has_start [] = (refl, refl)
has_start (c ∷ more) = inl (refl, refl)

length-shape : (shape : List ℕ) → length (map (λ _. false) shape) ≡ length shape
length-shape [] = refl
length-shape (c ∷ shape) = ap suc (length-shape shape)

pub start_covers : (text : List ℕ) → Covers text (start_of text)
start_covers text = ap suc (length-shape text)

-- the last place
pub last_has : (text : List ℕ) (places : List Bool) → Covers text places → has_last places ≡ true → Has text places []
last_has text [] e h = none_covers text e
last_has [] (here ∷ []) e h = (h, refl)
last_has [] (here ∷ next ∷ places) e h = absurd (omega (arith, e))
last_has (c ∷ more) (here ∷ []) e h = absurd (omega (arith, e))
last_has (c ∷ more) (here ∷ next ∷ places) e h =
    inr (last_has more (next ∷ places) (tail_covers c more here (next ∷ places) e) h)

pub has_at_end : (text : List ℕ) (places : List Bool) → Covers text places → Has text places [] → has_last places ≡ true
has_at_end text [] e h = absurd h
has_at_end [] (here ∷ []) e h = h.0
has_at_end [] (here ∷ next ∷ places) e h = absurd (omega (arith, e))
has_at_end (c ∷ more) (here ∷ []) e h = absurd (omega (arith, e))
has_at_end (c ∷ more) (here ∷ next ∷ places) e (inl h) = let f = h.1 in absurd cc
has_at_end (c ∷ more) (here ∷ next ∷ places) e (inr h) =
    has_at_end more (next ∷ places) (tail_covers c more here (next ∷ places) e) h
