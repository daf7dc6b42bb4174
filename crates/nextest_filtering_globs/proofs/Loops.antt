-- One turn of the loops over sets of places.
use Rattle.std.proofs.Common.{◌≡◌, ℕ, zero, suc, ◌+◌, ◌-◌, ◌<◌, ◌≤◌, Bool, true, false, List, [], ◌∷◌, ◌++◌, length, take, drop, get_or, map, replicate, sym, ◌∙◌, refl, ap, arith, add-one}
use Rattle.std.specs.Prelude.{◌&&◌, ◌||◌, Result, Ok, Err, OnOk, is_ok, if◌then◌else◌}
use Rattle.std.specs.List.{copy_within}
use Rattle.std.proofs.Math.ListN.{set, drop_of_length-le}
use Rattle.std.proofs.Math.Seq.{drop-cons, take-length}
use Rattle.std.proofs.lemmas.List.{append_assoc, append-nil, length-drop, take_all, take_more_set, drop-set-lt, set_split}
use Rattle.nextest_filtering_globs.specs.declared.token.ClassRange.{ClassRange}
use Rattle.nextest_filtering_globs.specs.Inside.{next_places, later, either_of, none_of, start_of, has_last, is_in_some}

-- a list from a place on
pub from_here : {A : Type 0} (xs : List A) (i : ℕ) (default : A) → i < length xs
    → drop i xs ≡ get_or xs i default ∷ drop (i + 1) xs
from_here xs i default h = rw (add-one, drop-cons xs i default) refl

-- what is written goes from what is ahead to what is done
pub one_written : (whole now tail : List Bool) (i : ℕ) (written : Bool) → i < length now
    → whole ≡ take i now ++ written ∷ tail → whole ≡ take (i + 1) (set now i written) ++ tail
one_written whole now tail i written h e =
    e ∙ (sym (append_assoc (take i now) (written ∷ []) tail)
    ∙ ap (λ x. x ++ tail) (sym (take_more_set now i written h)))

ahead : (now : List Bool) (i : ℕ) (written : Bool) → drop (i + 1) (set now i written) ≡ drop (i + 1) now
ahead now i written = drop-set-lt (i + 1) now i written (omega arith)

pub moved_step : (goes : ℕ → Bool) (carried : Bool) (text : List ℕ) (whole now : List Bool) (i : ℕ) → i < length text
    → length now ≡ length text + 1 → whole ≡ take i now ++ next_places goes carried (drop i text) (drop i now)
    → whole ≡ take (i + 1) (set now i carried)
    ++ next_places goes (get_or now i false && goes (get_or text i 0)) (drop (i + 1) text) (drop (i + 1) (set now i carried))
moved_step goes carried text whole now i h wide e =
    let within : i < length now = omega arith in
    let turn : next_places goes carried (drop i text) (drop i now)
    ≡ carried ∷ next_places goes (get_or now i false && goes (get_or text i 0)) (drop (i + 1) text) (drop (i + 1) now) =
    ap (λ x. next_places goes carried x (drop i now)) (from_here text i 0 h)
    ∙ ap (λ x. next_places goes carried (get_or text i 0 ∷ drop (i + 1) text) x) (from_here now i false within) in
    one_written whole now
    (next_places goes (get_or now i false && goes (get_or text i 0)) (drop (i + 1) text) (drop (i + 1) (set now i carried))) i
    carried within
    (e ∙ ap (λ x. take i now ++ x) (turn
    ∙ ap (λ x. carried ∷ next_places goes (get_or now i false && goes (get_or text i 0)) (drop (i + 1) text) x)
    (sym (ahead now i carried))))

moved_back : (goes : ℕ → Bool) (carried : Bool) (text : List ℕ) (now : List Bool) (i default : ℕ) → i < length text
    → length now ≡ length text + 1
    → next_places goes carried (take (suc i) text) now ++ drop (suc (suc i)) now
    ≡ next_places goes carried (take i text) (set now (suc i) (get_or now i false && goes (get_or text i default)))
    ++ drop (suc i) (set now (suc i) (get_or now i false && goes (get_or text i default)))
moved_back goes carried [] now i default h wide = absurd (omega arith)
moved_back goes carried (c ∷ more) [] i default h wide = absurd (omega (arith, wide))
moved_back goes carried (c ∷ more) (here ∷ []) i default h wide = absurd (omega (arith, wide))
moved_back goes carried (c ∷ more) (here ∷ next ∷ places) zero default h wide = refl
moved_back goes carried (c ∷ more) (here ∷ next ∷ places) (suc i) default h wide =
    ap (λ x. carried ∷ x)
    (moved_back goes (here && goes c) more (next ∷ places) i default (omega (arith, h)) (omega (arith, wide)))

-- from the end on: what is in front of the place that is written is left
pub moved_turn : (goes : ℕ → Bool) (text : List ℕ) (whole now : List Bool) (i j here : ℕ) → i ≡ suc j → i ≤ length text
    → length now ≡ length text + 1 → here ≡ get_or text j here
    → whole ≡ next_places goes false (take i text) now ++ drop (i + 1) now
    → whole ≡ next_places goes false (take j text) (set now (j + 1) (get_or now j false && goes here))
    ++ drop (j + 1) (set now (j + 1) (get_or now j false && goes here))
moved_turn goes text whole now i j here count within wide is e =
    let written : Bool = get_or now j false && goes here in
    e ∙ (ap (λ n. next_places goes false (take n text) now ++ drop (n + 1) now) count
    ∙ (ap (λ n. next_places goes false (take (suc j) text) now ++ drop n now) (add-one (suc j))
    ∙ (moved_back goes false text now j here (omega arith) wide
    ∙ (ap (λ x. next_places goes false (take j text) (set now (suc j) (get_or now j false && goes x))
    ++ drop (suc j) (set now (suc j) (get_or now j false && goes x))) (sym is)
    ∙ ap (λ n. next_places goes false (take j text) (set now n written) ++ drop n (set now n written)) (sym (add-one j))))))

pub moved_end : (goes : ℕ → Bool) (carried : Bool) (text : List ℕ) (whole now : List Bool) (i : ℕ) → i ≡ length text
    → length now ≡ length text + 1 → whole ≡ take i now ++ next_places goes carried (drop i text) (drop i now)
    → set now i carried ≡ whole
moved_end goes carried text whole now i h wide e =
    let none_left : drop i text ≡ [] = drop_of_length-le text {i = i} (omega arith) in
    let last : drop (suc i) now ≡ [] = drop_of_length-le now {i = suc i} (omega arith) in
    set_split now i carried (omega arith) ∙ (ap (λ x. take i now ++ carried ∷ x) last
    ∙ (ap (λ x. take i now ++ next_places goes carried x (drop i now)) (sym none_left) ∙ sym e))

seen_later : (places : List Bool) → later true places ≡ replicate (length places) true
seen_later [] = refl
seen_later (here ∷ places) = ap (λ x. true ∷ x) (seen_later places)

-- behind the first place that is there, all are
pub later_found : (places : List Bool) (i : ℕ) → i < length places → get_or places i false ≡ true
    → later false places ≡ take i places ++ later false (drop i places)
    → later false places ≡ take i places ++ replicate (length places - i) true
later_found places i h there e =
    let left : suc (length (drop (i + 1) places)) ≡ length places - i = omega (arith, length-drop (i + 1) places) in
    e ∙ ap (λ x. take i places ++ x) (ap (later false) (from_here places i false h ∙ ap (λ x. x ∷ drop (i + 1) places) there)
    ∙ (ap (λ x. true ∷ x) (seen_later (drop (i + 1) places)) ∙ ap (λ n. replicate n true) left))

pub either_step : (whole now others : List Bool) (i : ℕ) → i < length now → length others ≡ length now
    → whole ≡ take i now ++ either_of (drop i now) (drop i others)
    → whole ≡ take (i + 1) (set now i (get_or now i false || get_or others i false))
    ++ either_of (drop (i + 1) (set now i (get_or now i false || get_or others i false))) (drop (i + 1) others)
either_step whole now others i h wide e =
    let written : Bool = get_or now i false || get_or others i false in
    let within : i < length others = omega arith in
    one_written whole now (either_of (drop (i + 1) (set now i written)) (drop (i + 1) others)) i written h
    (e ∙ ap (λ x. take i now ++ x) (ap (λ x. either_of x (drop i others)) (from_here now i false h)
    ∙ (ap (λ x. either_of (get_or now i false ∷ drop (i + 1) now) x) (from_here others i false within)
    ∙ ap (λ x. written ∷ either_of x (drop (i + 1) others)) (sym (ahead now i written)))))

-- the last of a list by its place
pub last_at : (places : List Bool) (i : ℕ) → suc i ≡ length places → get_or places i false ≡ has_last places
last_at [] i e = absurd (omega arith)
last_at (here ∷ []) zero e = refl
last_at (here ∷ []) (suc i) e = absurd (omega arith)
last_at (here ∷ next ∷ places) zero e = absurd (omega arith)
last_at (here ∷ next ∷ places) (suc i) e = last_at (next ∷ places) i (omega arith)

pub range_here : (c : ℕ) (ranges : List ClassRange) (i : ℕ) (here : ClassRange) → i < length ranges
    → here ≡ get_or ranges i here
    → is_in_some c (drop i ranges) ≡ is_in_some c (here ∷ drop (i + 1) ranges)
range_here c ranges i here h e =
    ap (is_in_some c) (from_here ranges i here h) ∙ ap (λ x. is_in_some c (x ∷ drop (i + 1) ranges)) (sym e)

-- a set without a place
pub all_false : {A : Type 0} (xs : List A) → map (λ _. false) xs ≡ replicate (length xs) false
all_false [] = refl
all_false (x ∷ xs) = ap (λ more. false ∷ more) (all_false xs)

-- what a call makes where it goes well
pub on_ok : {T E X : Type 0} {now all : X} (result : Result T E) (more before : X)
    → now ≡ (if is_ok result then more else before) → more ≡ all → OnOk result (now ≡ all)
on_ok (Ok it) more before e k = e ∙ k
on_ok (Err it) more before e k = tt

-- places that are not in the set are filled up behind what was there
filled : (before : List Bool) (size count left : ℕ) → count ≡ length before → size ≡ count + left
    → take size before ++ replicate (size - count) false ≡ before ++ replicate left false
filled before size count left e k =
    let same : size - count ≡ left = omega arith in
    ap (λ x. x ++ replicate (size - count) false) (take_all size before (omega arith))
    ∙ ap (λ n. before ++ replicate n false) same

-- behind the place in front of the text
pub begun : (text : List ℕ) (before : List Bool) (size count : ℕ) → before ≡ true ∷ [] → count ≡ 1
    → size ≡ length text + 1 → take size before ++ replicate (size - count) false ≡ start_of text
begun text before size count e k h =
    filled before size count (length text) (omega (arith, ap length e)) (omega arith)
    ∙ (ap (λ x. x ++ replicate (length text) false) e ∙ ap (λ x. true ∷ x) (sym (all_false text)))

-- behind the opened braces and their places
pub opened : (before places : List Bool) (size count : ℕ) → count ≡ length before → size ≡ count + length places
    → take size before ++ replicate (size - count) false ≡ before ++ none_of places
opened before places size count e k =
    filled before size count (length places) e k ∙ ap (λ x. before ++ x) (sym (all_false places))

and_true : (b : Bool) → (b && true) ≡ b
and_true true = refl
and_true false = refl

moved_on : (carried : Bool) (text : List ℕ) (places : List Bool) → length places ≡ length text + 1
    → next_places (λ _. true) carried text places ≡ carried ∷ take (length text) places
moved_on carried [] places e = refl
moved_on carried (c ∷ more) [] e = absurd (omega (arith, e))
moved_on carried (c ∷ more) (here ∷ places) e =
    ap (λ x. carried ∷ x) (moved_on (here && true) more places (omega (arith, e))
    ∙ ap (λ x. x ∷ take (length more) places) (and_true here))

moved_whole : (text : List ℕ) (places : List Bool) (n : ℕ) → length places ≡ length text + 1 → n ≡ length text
    → set (take 1 places ++ take n places ++ drop (1 + n) places) 0 false ≡ next_places (λ _. true) false text places
moved_whole text [] n e k = absurd (omega (arith, e))
moved_whole text (here ∷ places) n e k =
    let none_left : drop (1 + n) (here ∷ places) ≡ [] = drop_of_length-le (here ∷ places) {i = 1 + n} (omega (arith, e)) in
    ap (λ x. false ∷ (take n (here ∷ places) ++ x)) none_left
    ∙ (ap (λ x. false ∷ x) (append-nil (take n (here ∷ places)))
    ∙ (ap (λ m. false ∷ take m (here ∷ places)) k ∙ sym (moved_on false text (here ∷ places) e)))

-- all places but the last, one place on
pub all_moved : (text : List ℕ) (places : List Bool) → length places ≡ length text + 1
    → set (copy_within places 0 (length text) 1) 0 false ≡ next_places (λ _. true) false text places
all_moved text places e = moved_whole text places (length text - 0) e (omega arith)

-- a slice of the whole of a list is written back
pub written_back : (count : ℕ) (now before : List Bool) → length before ≡ count → length now ≡ count
    → take count (now ++ drop (length now) before) ≡ now
written_back count now before e k =
    let none_left : drop (length now) before ≡ [] = drop_of_length-le before {i = length now} (omega arith) in
    ap (λ x. take count (now ++ x)) none_left
    ∙ (ap (take count) (append-nil now) ∙ (ap (λ n. take n now) (sym k) ∙ take-length now))
