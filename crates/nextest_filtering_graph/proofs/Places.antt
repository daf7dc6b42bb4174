-- Ids and their places.
use Rattle.std.proofs.Common.{◌≡◌, ℕ, ◌+◌, ◌<◌, List, [], ◌∷◌, ◌++◌, length, get_or, take, drop, map, Bool, true, false, cond, ◌||◌, Option, None, Some, is_some, is_none, String, string_bytes, refl, ap, sym, subst, ◌∙◌, arith, add-zero, add-suc, zero-add}
use Rattle.std.specs.Prelude.{IfSome}
use Rattle.nextest_filtering_graph.specs.Reaching.{LinksBelow}
use Rattle.std.specs.List.{list_any, position_from}
use Rattle.std.specs.Option.{option_or}
use Rattle.std.specs.Str.{bytes_eq}
use Rattle.std.specs.BTreeMap.{BTreeMap, get_by_text, Updates}
use Rattle.std.specs.String.{string_cmp}
use Rattle.std.specs.Cmp.Lexicographic.{nat_list_eq_equiv}
use Rattle.std.proofs.lemmas.List.{take_more, map-append, take-append-drop, length-map, length-take-le, get_or_default}
use Rattle.std.proofs.Math.ListN.{get_or-map}
use Rattle.std.proofs.lemmas.List.Folds.{list_any-append, list_any_at}
use Rattle.std.proofs.lemmas.Map.Text.{btree_map_updates_text}
use Rattle.std.proofs.lemmas.Slice.Eq.{bytes_eq-Decides}
use denote.Ref.{Bor}
use Rattle.nextest_filtering_graph.specs.Graph.{ids, place_of, has_repeat, places_of_link, both, IsIndex}
use Rattle.nextest_filtering_graph.specs.Making.{lent_pairs, has_unknown}

-- one more pair is lent
pub lent_more : (pairs : List (Bor (List ℕ) × Bor (List ℕ))) (i : ℕ) (d : Bor (List ℕ) × Bor (List ℕ)) → i < length pairs
    → lent_pairs (take (i + 1) pairs) ≡ lent_pairs (take i pairs) ++ ((get_or pairs i d).0.now, (get_or pairs i d).1.now) ∷ []
lent_more pairs i d within =
    ap lent_pairs (take_more pairs i d within) ∙ map-append (λ (pair : Bor (List ℕ) × Bor (List ℕ)). (pair.0.now, pair.1.now)) (take i pairs) (get_or pairs i d ∷ [])

pub ids_more : (pairs : List (Bor (List ℕ) × Bor (List ℕ))) (i : ℕ) (d : Bor (List ℕ) × Bor (List ℕ)) → i < length pairs
    → ids (lent_pairs (take (i + 1) pairs)) ≡ ids (lent_pairs (take i pairs)) ++ (get_or pairs i d).0.now ∷ []
ids_more pairs i d within =
    ap ids (lent_more pairs i d within) ∙ map-append (λ (it : List ℕ × List ℕ). it.0) (lent_pairs (take i pairs)) (((get_or pairs i d).0.now, (get_or pairs i d).1.now) ∷ [])

-- the place of an id in a list with one more at its end
pub found_later : (test : List ℕ → Bool) (n : ℕ) (known : List (List ℕ)) (one : List ℕ)
    → position_from test n (known ++ one ∷ []) ≡ option_or (position_from test n known) (cond (test one) (Some (n + length known)) None)
found_later test n [] one = by_test (test one)
  where
    by_test : (b : Bool) → cond b (Some n) None ≡ cond b (Some (n + 0)) None
    by_test true = ap Some (sym (add-zero n))
    by_test false = refl
found_later test n (id ∷ known) one = by_test (test id) (found_later test (n + 1) known one)
  where
    counted : n + 1 + length known ≡ n + length (id ∷ known)
    counted = omega (arith, add-suc n (length known))

    by_test : (b : Bool)
        → position_from test (n + 1) (known ++ one ∷ []) ≡ option_or (position_from test (n + 1) known) (cond (test one) (Some (n + 1 + length known)) None)
        → cond b (Some n) (position_from test (n + 1) (known ++ one ∷ [])) ≡ option_or (cond b (Some n) (position_from test (n + 1) known)) (cond (test one) (Some (n + length (id ∷ known))) None)
    by_test true later = refl
    by_test false later = later
        ∙ ap (λ (m : ℕ). option_or (position_from test (n + 1) known) (cond (test one) (Some m) None)) counted

-- an id has a place where it stands in the list
pub has_place : (test : List ℕ → Bool) (n : ℕ) (known : List (List ℕ)) → is_some (position_from test n known) ≡ list_any test known
has_place test n [] = refl
has_place test n (id ∷ known) = by_test (test id) (has_place test (n + 1) known)
  where
    by_test : (b : Bool) → is_some (position_from test (n + 1) known) ≡ list_any test known
        → is_some (cond b (Some n) (position_from test (n + 1) known)) ≡ (b || list_any test known)
    by_test true later = refl
    by_test false later = later

-- a place lies within the list
pub place_below : (test : List ℕ → Bool) (n : ℕ) (known : List (List ℕ)) → IfSome (position_from test n known) (λ place. place < n + length known)
place_below test n [] = tt
place_below test n (id ∷ known) = by_test (test id) (place_below test (n + 1) known)
  where
    counted : n + 1 + length known ≡ n + length (id ∷ known)
    counted = omega (arith, add-suc n (length known))

    first : n < n + length (id ∷ known)
    first = omega (arith, add-suc n (length known))

    by_test : (b : Bool) → IfSome (position_from test (n + 1) known) (λ place. place < n + 1 + length known)
        → IfSome (cond b (Some n) (position_from test (n + 1) known)) (λ place. place < n + length (id ∷ known))
    by_test true later = first
    by_test false later = subst (λ (m : ℕ). IfSome (position_from test (n + 1) known) (λ place. place < m)) counted later

reorder : (a e m r : Bool) → ((a || (e || false)) || (m || r)) ≡ ((e || m) || (a || r))
reorder true true m r = refl
reorder true false true r = refl
reorder true false false r = refl
reorder false true m r = refl
reorder false false true r = refl
reorder false false false r = refl

-- an id stands twice in a list with one more at its end, if it did before or if the new one is
-- there already
pub has_repeat-push : (known : List (List ℕ)) (id : List ℕ) → has_repeat (known ++ id ∷ []) ≡ (list_any (bytes_eq id) known || has_repeat known)
has_repeat-push [] id = refl
has_repeat-push (first ∷ known) id =
    ap (λ (b : Bool). b || has_repeat (known ++ id ∷ [])) (list_any-append (bytes_eq first) known (id ∷ []))
    ∙ ap (λ (b : Bool). (list_any (bytes_eq first) known || (bytes_eq first id || false)) || b) (has_repeat-push known id)
    ∙ ap (λ (b : Bool). (list_any (bytes_eq first) known || (b || false)) || (list_any (bytes_eq id) known || has_repeat known)) (nat_list_eq_equiv.symm first id)
    ∙ reorder (list_any (bytes_eq first) known) (bytes_eq id first) (list_any (bytes_eq id) known) (has_repeat known)

either : (a b x y : Bool) → (a ≡ true → x ≡ true) → (b ≡ true → y ≡ true) → (a || b) ≡ true → (x || y) ≡ true
either true b x y f g e = ap (λ (c : Bool). c || y) (f refl)
either false b true y f g e = refl
either false b false y f g e = g e

-- an id that stands twice stays so
pub has_repeat_kept : (known more : List (List ℕ)) → has_repeat known ≡ true → has_repeat (known ++ more) ≡ true
has_repeat_kept [] more e = cc
has_repeat_kept (id ∷ known) more e =
    either (list_any (bytes_eq id) known) (has_repeat known) (list_any (bytes_eq id) (known ++ more)) (has_repeat (known ++ more))
    (λ any. list_any-append (bytes_eq id) known more ∙ ap (λ (b : Bool). b || list_any (bytes_eq id) more) any) (has_repeat_kept known more) e

-- the first pairs' ids stand at the front of all ids
pub ids_within : (pairs : List (Bor (List ℕ) × Bor (List ℕ))) (i : ℕ) → has_repeat (ids (lent_pairs (take i pairs))) ≡ true → has_repeat (ids (lent_pairs pairs)) ≡ true
ids_within pairs i e =
    ap (λ (xs : List (Bor (List ℕ) × Bor (List ℕ))). has_repeat (ids (lent_pairs xs))) (sym (take-append-drop i pairs))
    ∙ ap (λ (xs : List (List ℕ × List ℕ)). has_repeat (ids xs)) (map-append (λ (pair : Bor (List ℕ) × Bor (List ℕ)). (pair.0.now, pair.1.now)) (take i pairs) (drop i pairs))
    ∙ ap has_repeat (map-append (λ (it : List ℕ × List ℕ). it.0) (lent_pairs (take i pairs)) (lent_pairs (drop i pairs)))
    ∙ has_repeat_kept (ids (lent_pairs (take i pairs))) (ids (lent_pairs (drop i pairs))) e

-- an id that has a place among the first ones stands twice
pub stands_twice : (pairs : List (Bor (List ℕ) × Bor (List ℕ))) (i : ℕ) (d : Bor (List ℕ) × Bor (List ℕ)) → i < length pairs
    → is_some (place_of (ids (lent_pairs (take i pairs))) (get_or pairs i d).0.now) ≡ true → has_repeat (ids (lent_pairs pairs)) ≡ true
stands_twice pairs i d within found =
    let id : List ℕ = (get_or pairs i d).0.now in
    ids_within pairs (i + 1)
    (ap has_repeat (ids_more pairs i d within) ∙ has_repeat-push (ids (lent_pairs (take i pairs))) id
    ∙ ap (λ (b : Bool). b || has_repeat (ids (lent_pairs (take i pairs)))) (sym (has_place (bytes_eq id) 0 (ids (lent_pairs (take i pairs)))) ∙ found))

-- an id that has no place among the first ones stands once so far
pub stands_once : (pairs : List (Bor (List ℕ) × Bor (List ℕ))) (i : ℕ) (d : Bor (List ℕ) × Bor (List ℕ)) → i < length pairs
    → is_some (place_of (ids (lent_pairs (take i pairs))) (get_or pairs i d).0.now) ≡ false → has_repeat (ids (lent_pairs (take i pairs))) ≡ false
    → has_repeat (ids (lent_pairs (take (i + 1) pairs))) ≡ false
stands_once pairs i d within found before =
    let id : List ℕ = (get_or pairs i d).0.now in
    ap has_repeat (ids_more pairs i d within) ∙ has_repeat-push (ids (lent_pairs (take i pairs))) id
    ∙ ap (λ (b : Bool). b || has_repeat (ids (lent_pairs (take i pairs)))) (sym (has_place (bytes_eq id) 0 (ids (lent_pairs (take i pairs)))) ∙ found) ∙ before

fresh : (place : ℕ) (before : Option ℕ) (b : Bool) → (b ≡ true → is_some before ≡ false) → cond b (Some place) before ≡ option_or before (cond b (Some place) None)
fresh place (Some other) true h = let e : true ≡ false = h refl in cc
fresh place (Some other) false h = refl
fresh place None true h = refl
fresh place None false h = refl

-- an id that isn't in the index yet goes there with its place
pub index_more : {Y : Type 0} (index new : BTreeMap (String Y) ℕ) (known : List (List ℕ)) (key : String Y) (id : List ℕ) (place : ℕ)
    → string_bytes key ≡ id → place ≡ length known → IsIndex index known → is_some (place_of known id) ≡ false
    → Updates string_cmp index new key (Some place) → IsIndex new (known ++ id ∷ [])
index_more {Y} index new known key id place is_key at is_index unknown update = λ other.
    btree_map_updates_text (string_bytes key) index new (Some place) update other
    ∙ ap (λ (words : List ℕ). cond (bytes_eq words other) (Some place) (get_by_text index other)) is_key
    ∙ ap (λ (o : Option ℕ). cond (bytes_eq id other) (Some place) o) (is_index other)
    ∙ fresh place (place_of known other) (bytes_eq id other) (λ e. ap (λ (words : List ℕ). is_some (place_of known words)) (sym ((bytes_eq-Decides id other).0 e)) ∙ unknown)
    ∙ ap (λ (b : Bool). option_or (place_of known other) (cond b (Some place) None)) (nat_list_eq_equiv.symm id other)
    ∙ ap (λ (n : ℕ). option_or (place_of known other) (cond (bytes_eq other id) (Some n) None)) (at ∙ sym (zero-add (length known)))
    ∙ sym (found_later (bytes_eq other) 0 known id)

-- what is looked up in an index is a place of the ids
pub looked_up : {Y : Type 0} (index : BTreeMap (String Y) ℕ) (known : List (List ℕ)) (key : String Y) (id : List ℕ) (old : Option ℕ) (answer b : Bool)
    → IsIndex index known → string_bytes key ≡ id → old ≡ get_by_text index (string_bytes key) → answer ≡ is_some old → answer ≡ b
    → is_some (place_of known id) ≡ b
looked_up {Y} index known key id old answer b is_index is_key at is_answer e =
    ap (λ (o : Option ℕ). is_some o) (sym (is_index id)) ∙ ap (λ (words : List ℕ). is_some (get_by_text index words)) (sym is_key)
    ∙ ap (λ (o : Option ℕ). is_some o) (sym at) ∙ sym is_answer ∙ e

-- a link with an end that is no package
pub unknown_among : (pairs : List (Bor (List ℕ) × Bor (List ℕ))) (i : ℕ) (d : Bor (List ℕ) × Bor (List ℕ)) (known : List (List ℕ)) → i < length pairs
    → places_of_link known ((get_or pairs i d).0.now, (get_or pairs i d).1.now) ≡ None → has_unknown known (lent_pairs pairs) ≡ true
unknown_among pairs i d known within none =
    list_any_at (λ (link : List ℕ × List ℕ). is_none (places_of_link known link)) (lent_pairs pairs) i (d.0.now, d.1.now)
    (subst (λ (n : ℕ). i < n) (sym (length-map pairs (λ (pair : Bor (List ℕ) × Bor (List ℕ)). (pair.0.now, pair.1.now)))) within)
    (ap (λ (link : List ℕ × List ℕ). is_none (places_of_link known link)) (get_or-map (λ (pair : Bor (List ℕ) × Bor (List ℕ)). (pair.0.now, pair.1.now)) pairs i d)
    ∙ ap (λ (o : Option (ℕ × ℕ)). is_none o) none)

-- one more link is placed
pub placed_more : (pairs : List (Bor (List ℕ) × Bor (List ℕ))) (i : ℕ) (d : Bor (List ℕ) × Bor (List ℕ)) (known : List (List ℕ)) (places : List (ℕ × ℕ)) (link : ℕ × ℕ)
    → i < length pairs → map Some places ≡ map (places_of_link known) (lent_pairs (take i pairs))
    → places_of_link known ((get_or pairs i d).0.now, (get_or pairs i d).1.now) ≡ Some link
    → map Some (places ++ link ∷ []) ≡ map (places_of_link known) (lent_pairs (take (i + 1) pairs))
placed_more pairs i d known places link within before here =
    map-append (λ (it : ℕ × ℕ). Some it) places (link ∷ [])
    ∙ ap (λ (xs : List (Option (ℕ × ℕ))). xs ++ Some link ∷ []) before
    ∙ ap (λ (o : Option (ℕ × ℕ)). map (places_of_link known) (lent_pairs (take i pairs)) ++ o ∷ []) (sym here)
    ∙ sym (map-append (places_of_link known) (lent_pairs (take i pairs)) (((get_or pairs i d).0.now, (get_or pairs i d).1.now) ∷ []))
    ∙ ap (map (places_of_link known)) (sym (lent_more pairs i d within))

-- a link is placed by an index as by the ids
pub placed_by : {Y : Type 0} (index : BTreeMap (String Y) ℕ) (known : List (List ℕ)) (from to : List ℕ) → IsIndex index known
    → both (get_by_text index from) (get_by_text index to) ≡ places_of_link known (from, to)
placed_by {Y} index known from to is_index =
    ap (λ (o : Option ℕ). both o (get_by_text index to)) (is_index from) ∙ ap (both (place_of known from)) (is_index to)

-- there are as many ids among the first pairs as pairs
pub ids_length : (pairs : List (Bor (List ℕ) × Bor (List ℕ))) (i : ℕ) → i < length pairs → length (ids (lent_pairs (take i pairs))) ≡ i
ids_length pairs i within =
    length-map (lent_pairs (take i pairs)) (λ (it : List ℕ × List ℕ). it.0)
    ∙ length-map (take i pairs) (λ (pair : Bor (List ℕ) × Bor (List ℕ)). (pair.0.now, pair.1.now)) ∙ length-take-le i pairs (omega arith)

both_below : (a b : Option ℕ) (n : ℕ) (link : ℕ × ℕ) → IfSome a (λ place. place < n) → IfSome b (λ place. place < n) → both a b ≡ Some link → (link.0 < n) × (link.1 < n)
both_below (Some from) (Some to) n link first second e =
    let same : (from, to) ≡ link = cc in
    subst (λ (it : ℕ × ℕ). (it.0 < n) × (it.1 < n)) same (first, second)
both_below (Some from) None n link first second e = cc
both_below None b n link first second e = cc

-- links that are placed lie below the number of packages
pub links_below : (known : List (List ℕ)) (links : List (List ℕ × List ℕ)) (places : List (ℕ × ℕ)) → map Some places ≡ map (places_of_link known) links → LinksBelow (length known) places
links_below known links places same = λ k d within.
    let none : List ℕ × List ℕ = ([], []) in
    let link : List ℕ × List ℕ = get_or links k none in
    let here : places_of_link known link ≡ Some (get_or places k d)
    = sym (get_or-map (places_of_link known) links k none)
    ∙ ap (λ (xs : List (Option (ℕ × ℕ))). get_or xs k (places_of_link known none)) (sym same)
    ∙ get_or_default (map Some places) k (places_of_link known none) (Some d) (subst (λ (n : ℕ). k < n) (sym (length-map places (λ (it : ℕ × ℕ). Some it))) within)
    ∙ get_or-map (λ (it : ℕ × ℕ). Some it) places k d in
    both_below (place_of known link.0) (place_of known link.1) (length known) (get_or places k d) (below known link.0) (below known link.1) here
  where
    below : (known : List (List ℕ)) (id : List ℕ) → IfSome (place_of known id) (λ place. place < length known)
    below known id = subst (λ (m : ℕ). IfSome (place_of known id) (λ place. place < m)) (zero-add (length known)) (place_below (bytes_eq id) 0 known)

-- the index, the packages and the links of a graph that is made
pub graph_holds : {Y : Type 0} (index : BTreeMap (String Y) ℕ) (packages links owned : List (List ℕ × List ℕ)) (places : List (ℕ × ℕ))
    → IsIndex index (ids packages) → has_repeat (ids packages) ≡ false → owned ≡ packages → map Some places ≡ map (places_of_link (ids packages)) links
    → IsIndex index (ids owned) × LinksBelow (length owned) places × (has_repeat (ids owned) ≡ false)
graph_holds {Y} index packages links owned places is_index once same placed_all = (
  subst (λ (all : List (List ℕ × List ℕ)). IsIndex index (ids all)) (sym same) is_index,
  subst (λ (n : ℕ). LinksBelow n places) (length-map packages (λ (it : List ℕ × List ℕ). it.0) ∙ ap length (sym same)) (links_below (ids packages) links places placed_all),
  ap (λ (all : List (List ℕ × List ℕ)). has_repeat (ids all)) same ∙ once,
)

-- what is looked up in a graph's index is a package's place
pub place_within : (packages : List (List ℕ × List ℕ)) (id : List ℕ) (found : Option ℕ) → found ≡ place_of (ids packages) id → IfSome found (λ place. place < length packages)
place_within packages id found e =
    subst (λ (n : ℕ). IfSome found (λ place. place < n)) (length-map packages (λ (it : List ℕ × List ℕ). it.0))
    (subst (λ (o : Option ℕ). IfSome o (λ place. place < length (ids packages))) (sym e)
    (subst (λ (m : ℕ). IfSome (place_of (ids packages) id) (λ place. place < m)) (zero-add (length (ids packages))) (place_below (bytes_eq id) 0 (ids packages))))
