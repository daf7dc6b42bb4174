-- What is found in a value is what stands there and isn't known, a level at a time.
use Rattle.std.proofs.Common.{◌≡◌, ℕ, zero, suc, ◌+◌, true, ◌&&◌, List, [], ◌∷◌, ◌++◌, Option, None, Some, Ordering, Less, Equal, Greater, decimal, ◌⊎◌, inl, inr, arith, refl, sym, ap, ◌∙◌, subst}
use Rattle.std.proofs.lemmas.Bool.{and_parts}
use Rattle.std.proofs.lemmas.Cmp.{nat_list_cmp_total, tied_itself}
use Rattle.std.proofs.lemmas.Map.Lookups.{exact_bytes}
use Rattle.std.specs.Cmp.Lexicographic.{slice_cmp}
use Rattle.std.specs.Ordering.{is_lt, match_ordering, nat_cmp}
use Rattle.std.specs.Option.{option_map_or}
use Rattle.std.specs.Prelude.{⊤}
use Rattle.toml.specs.Data.{Data, string, integer, float, boolean, datetime, array, table, Items, no_items, item, Members, no_members, member, get_item, get_member, is_before, is_sorted, items_are_sorted, members_are_sorted}
use Rattle.nextest_config_elements_toml.specs.Reading.{Path}
use Rattle.nextest_config_resolution_warnings.specs.Places.{Place, Keys, place_of, keys_in, items_at}
use Rattle.nextest_config_resolution_warnings.specs.Standing.{StandsAt, place_at}
use Rattle.nextest_config_resolution_warnings.specs.Unknown.{behind, unknown_in, unknown_items, unknown_members}

-- ---- elements of lists

abbrev pub Among : {A : Type 0} → A → List A → Type 0
Among x [] = ⊥
Among x (y ∷ ys) = (y ≡ x) ⊎ Among x ys

pub among_either : {A : Type 0} (front back : List A) (x : A) → Among x (front ++ back) → Among x front ⊎ Among x back
among_either [] back x among = inr among
among_either (y ∷ front) back x (inl is) = inl (inl is)
among_either (y ∷ front) back x (inr more) = elim (among_either front back x more) [
  | inl there ↦ inl (inr there)
  | inr there ↦ inr there
]

pub among_front : {A : Type 0} (front back : List A) (x : A) → Among x front → Among x (front ++ back)
among_front [] back x among = absurd among
among_front (y ∷ front) back x (inl is) = inl is
among_front (y ∷ front) back x (inr more) = inr (among_front front back x more)

pub among_back : {A : Type 0} (front back : List A) (x : A) → Among x back → Among x (front ++ back)
among_back [] back x among = among
among_back (y ∷ front) back x among = inr (among_back front back x among)

-- paths behind a key
pub among_behind : (key : List ℕ) (paths : List Path) (path : Path) → Among path (behind key paths) → (rest : Path) × (path ≡ key ∷ rest) × Among rest paths
among_behind key [] path among = absurd among
among_behind key (first ∷ paths) path (inl is) = (first, sym is, inl refl)
among_behind key (first ∷ paths) path (inr more) =
    let it = among_behind key paths path more in (it.0, it.1, inr it.2)

pub behind_among : (key : List ℕ) (paths : List Path) (rest : Path) → Among rest paths → Among (key ∷ rest) (behind key paths)
behind_among key [] rest among = absurd among
behind_among key (first ∷ paths) rest (inl is) = inl (ap (λ (path : Path). key ∷ path) is)
behind_among key (first ∷ paths) rest (inr more) = inr (behind_among key paths rest more)

-- ---- tables by their keys

abbrev pub key_cmp : List ℕ → List ℕ → Ordering
key_cmp = slice_cmp nat_cmp

-- a key comes before each key of a table
abbrev pub IsBefore : List ℕ → Members → Type 0
IsBefore key no_members = ⊤
IsBefore key (member other value more) = (key_cmp key other ≡ Less) × IsBefore key more

before_less : (key other : List ℕ) (members : Members) → key_cmp key other ≡ Less → IsBefore other members → IsBefore key members
before_less key other no_members less before = tt
before_less key other (member first value more) less before =
    (nat_list_cmp_total.trans key other first less before.0, before_less key other more less before.1)

get_before : (key : List ℕ) (members : Members) → IsBefore key members → get_member key members ≡ None
get_before key no_members before = refl
get_before key (member first value more) before = rw before.0 (get_before key more before.1)

is_less : (order : Ordering) → is_lt order ≡ true → order ≡ Less
is_less Less e = refl
is_less Equal e = cc
is_less Greater e = cc

-- where keys rise, the first comes before all others
pub first_before : (key : List ℕ) (members : Members) → is_before key members ≡ true → members_are_sorted members ≡ true → IsBefore key members
first_before key no_members before sorted = tt
first_before key (member other value more) before sorted =
    let (front, behind) = and_parts (is_before other more && is_sorted value) (members_are_sorted more) sorted in
    let (next, here) = and_parts (is_before other more) (is_sorted value) front in
    let less = is_less (key_cmp key other) before in
    (less, before_less key other more less (first_before other more next behind))

pub first_stands : (key : List ℕ) (value : Data) (more : Members) → get_member key (member key value more) ≡ Some value
first_stands key value more = rw (tied_itself nat_list_cmp_total key) refl

-- what stands behind the first has a greater key
pub greater_behind : (first key : List ℕ) (value : Data) (more : Members) → IsBefore first more → get_member key more ≡ Some value → key_cmp key first ≡ Greater
greater_behind first key value more before stands = by_order (key_cmp key first) refl where
  by_order : (order : Ordering) → key_cmp key first ≡ order → order ≡ Greater
  by_order Less e =
      let none : get_member key more ≡ None = get_before key more (before_less key first more e before) in cc
  by_order Equal e =
      let none : get_member key more ≡ None = subst (λ (it : List ℕ). get_member it more ≡ None) (sym (exact_bytes key first e)) (get_before first more before) in cc
  by_order Greater e = refl

pub stands_behind : (first key : List ℕ) (old value : Data) (more : Members) → IsBefore first more → get_member key more ≡ Some value
    → get_member key (member first old more) ≡ Some value
stands_behind first key old value more before stands = rw (greater_behind first key value more before stands) stands

-- what stands in data whose tables' keys rise has such tables too
pub member_sorted : (key : List ℕ) (members : Members) (value : Data) → members_are_sorted members ≡ true → get_member key members ≡ Some value → is_sorted value ≡ true
member_sorted key no_members value sorted stands = cc
member_sorted key (member first old more) value sorted stands =
    let (front, behind) = and_parts (is_before first more && is_sorted old) (members_are_sorted more) sorted in
    let (next, here) = and_parts (is_before first more) (is_sorted old) front in
    by_order (key_cmp key first) here stands (member_sorted key more value behind) where
      by_order : (order : Ordering) → is_sorted old ≡ true → match_ordering order (get_member key more) (Some old) (get_member key more) ≡ Some value
          → (get_member key more ≡ Some value → is_sorted value ≡ true) → is_sorted value ≡ true
      by_order Less here stands deeper = deeper stands
      by_order Equal here stands deeper =
          let is : old ≡ value = cc in subst (λ (it : Data). is_sorted it ≡ true) is here
      by_order Greater here stands deeper = deeper stands

pub item_sorted : (position : ℕ) (items : Items) (value : Data) → items_are_sorted items ≡ true → get_item position items ≡ Some value → is_sorted value ≡ true
item_sorted position no_items value sorted stands = cc
item_sorted zero (item first more) value sorted stands =
    let (here, behind) = and_parts (is_sorted first) (items_are_sorted more) sorted in
    let is : first ≡ value = cc in subst (λ (it : Data). is_sorted it ≡ true) is here
item_sorted (suc position) (item first more) value sorted stands =
    let (here, behind) = and_parts (is_sorted first) (items_are_sorted more) sorted in
    item_sorted position more value behind stands

-- ---- one level

-- what is found in a value at its place, if it is known
abbrev pub found_there : Option Place → Data → List Path
found_there place value = option_map_or (λ it. unknown_in it value) place ([] ∷ [])

-- a path that is found in a table begins with a key that stands there
pub record InTable (keys : Keys) (members : Members) (path : Path) : Type 0 where
  pub key : List ℕ
  pub rest : Path
  pub value : Data
  pub is : path ≡ key ∷ rest
  pub stands : get_member key members ≡ Some value
  pub further : Among rest (found_there (place_of keys key) value)

first_or_behind : (keys : Keys) (first : List ℕ) (old : Data) (more : Members) (path : Path) → IsBefore first more → (Among path (unknown_members keys more) → InTable keys more path)
    → Among path (behind first (found_there (place_of keys first) old)) ⊎ Among path (unknown_members keys more) → InTable keys (member first old more) path
first_or_behind keys first old more path before deeper (inl here) =
    let it = among_behind first (found_there (place_of keys first) old) path here in
    record { key = first; rest = it.0; value = old; is = it.1; stands = first_stands first old more; further = it.2 }
first_or_behind keys first old more path before deeper (inr there) =
    let it = deeper there in
    record { key = it.key; rest = it.rest; value = it.value; is = it.is; stands = stands_behind first it.key old it.value more before it.stands; further = it.further }

pub in_table : (keys : Keys) (members : Members) (path : Path) → members_are_sorted members ≡ true → Among path (unknown_members keys members) → InTable keys members path
in_table keys no_members path sorted among = absurd among
in_table keys (member first old more) path sorted among =
    let (front, left) = and_parts (is_before first more && is_sorted old) (members_are_sorted more) sorted in
    let (next, here) = and_parts (is_before first more) (is_sorted old) front in
    first_or_behind keys first old more path (first_before first more next left) (in_table keys more path left)
    (among_either (behind first (found_there (place_of keys first) old)) (unknown_members keys more) path among)

pub table_finds : (keys : Keys) (members : Members) (key : List ℕ) (rest : Path) (value : Data) → get_member key members ≡ Some value
    → Among rest (found_there (place_of keys key) value) → Among (key ∷ rest) (unknown_members keys members)
table_finds keys no_members key rest value stands among = cc
table_finds keys (member first old more) key rest value stands among = by_order (key_cmp key first) refl stands (λ deeper. table_finds keys more key rest value deeper among) where
  further : (get_member key more ≡ Some value → Among (key ∷ rest) (unknown_members keys more)) → get_member key more ≡ Some value → Among (key ∷ rest) (unknown_members keys (member first old more))
  further deeper stands = among_back (behind first (found_there (place_of keys first) old)) (unknown_members keys more) (key ∷ rest) (deeper stands)

  by_order : (order : Ordering) → key_cmp key first ≡ order → match_ordering order (get_member key more) (Some old) (get_member key more) ≡ Some value
      → (get_member key more ≡ Some value → Among (key ∷ rest) (unknown_members keys more)) → Among (key ∷ rest) (unknown_members keys (member first old more))
  by_order Less e stands deeper = further deeper stands
  by_order Equal e stands deeper =
      let one : key ≡ first = exact_bytes key first e in
      let is : value ≡ old = cc in
      among_front (behind first (found_there (place_of keys first) old)) (unknown_members keys more) (key ∷ rest)
      (subst (λ (it : List ℕ). Among (it ∷ rest) (behind first (found_there (place_of keys first) old))) (sym one)
      (behind_among first (found_there (place_of keys first) old) rest
      (subst (λ (it : List ℕ). Among rest (found_there (place_of keys it) old)) one (subst (λ (it : Data). Among rest (found_there (place_of keys key) it)) is among))))
  by_order Greater e stands deeper = further deeper stands

-- and one that is found in a list with one of its positions
pub record InList (place : Place) (from : ℕ) (items : Items) (path : Path) : Type 0 where
  pub position : ℕ
  pub rest : Path
  pub value : Data
  pub is : path ≡ decimal (from + position) ∷ rest
  pub stands : get_item position items ≡ Some value
  pub further : Among rest (unknown_in place value)

moved_on : (from position : ℕ) → (from + 1) + position ≡ from + suc position
moved_on from position = omega arith

at_first : (from : ℕ) → from + 0 ≡ from
at_first from = omega arith

pub in_list : (place : Place) (from : ℕ) (items : Items) (path : Path) → Among path (unknown_items place from items) → InList place from items path
in_list place from no_items path among = absurd among
in_list place from (item first more) path among =
    by_either (in_list place (from + 1) more path) (among_either (behind (decimal from) (unknown_in place first)) (unknown_items place (from + 1) more) path among) where
      by_either : (Among path (unknown_items place (from + 1) more) → InList place (from + 1) more path)
          → Among path (behind (decimal from) (unknown_in place first)) ⊎ Among path (unknown_items place (from + 1) more) → InList place from (item first more) path
      by_either deeper (inl here) =
          let it = among_behind (decimal from) (unknown_in place first) path here in
          record { position = 0; rest = it.0; value = first; is = it.1 ∙ ap (λ (at : ℕ). decimal at ∷ it.0) (sym (at_first from)); stands = refl; further = it.2 }
      by_either deeper (inr there) =
          let it = deeper there in
          record { position = suc it.position; rest = it.rest; value = it.value; is = it.is ∙ ap (λ (at : ℕ). decimal at ∷ it.rest) (moved_on from it.position); stands = it.stands; further = it.further }

pub list_finds : (place : Place) (from : ℕ) (items : Items) (position : ℕ) (rest : Path) (value : Data) → get_item position items ≡ Some value → Among rest (unknown_in place value)
    → Among (decimal (from + position) ∷ rest) (unknown_items place from items)
list_finds place from no_items position rest value stands among = cc
list_finds place from (item first more) zero rest value stands among =
    let is : value ≡ first = cc in
    among_front (behind (decimal from) (unknown_in place first)) (unknown_items place (from + 1) more) (decimal (from + 0) ∷ rest)
    (subst (λ (at : ℕ). Among (decimal at ∷ rest) (behind (decimal from) (unknown_in place first))) (sym (at_first from))
    (behind_among (decimal from) (unknown_in place first) rest (subst (λ (it : Data). Among rest (unknown_in place it)) is among)))
list_finds place from (item first more) (suc position) rest value stands among =
    among_back (behind (decimal from) (unknown_in place first)) (unknown_items place (from + 1) more) (decimal (from + suc position) ∷ rest)
    (subst (λ (at : ℕ). Among (decimal at ∷ rest) (unknown_items place (from + 1) more)) (moved_on from position) (list_finds place (from + 1) more position rest value stands among))

-- a path that is found in a value begins with a key at which something stands
pub record Begins (place : Place) (given : Data) (path : Path) : Type 0 where
  pub key : List ℕ
  pub rest : Path
  pub value : Data
  pub is : path ≡ key ∷ rest
  pub stands : StandsAt key given value
  pub sorted : is_sorted value ≡ true
  pub further : Among rest (found_there (place_at place given key) value)

pub begins : (place : Place) (given : Data) (path : Path) → is_sorted given ≡ true → Among path (unknown_in place given) → Begins place given path
begins place (table members) path sorted among =
    let it = in_table (keys_in place members) members path sorted among in
    record { key = it.key; rest = it.rest; value = it.value; is = it.is; stands = inl it.stands; sorted = member_sorted it.key members it.value sorted it.stands; further = it.further }
begins place (array items) path sorted among =
    let it = in_list (items_at place) 0 items path among in
    record {
      key = decimal (0 + it.position);
      rest = it.rest;
      value = it.value;
      is = it.is;
      stands = inr (it.position, ap decimal (omega arith), it.stands);
      sorted = item_sorted it.position items it.value sorted it.stands;
      further = it.further;
    }
begins place (string text) path sorted among = absurd among
begins place (integer number) path sorted among = absurd among
begins place (float number) path sorted among = absurd among
begins place (boolean truth) path sorted among = absurd among
begins place (datetime time) path sorted among = absurd among

none_stands : {P : Type 0} (value : Data) → None ≡ Some value → P
none_stands value e = absurd (cc)

-- and one that begins so is found
pub finds : (place : Place) (given : Data) (key : List ℕ) (rest : Path) (value : Data) → StandsAt key given value → Among rest (found_there (place_at place given key) value)
    → Among (key ∷ rest) (unknown_in place given)
finds place (table members) key rest value (inl stands) among = table_finds (keys_in place members) members key rest value stands among
finds place (table _) key rest value (inr (position, is, stands)) among = none_stands value stands
finds place (array items) key rest value (inl stands) among = none_stands value stands
finds place (array items) key rest value (inr (position, is, stands)) among =
    let at : decimal (0 + position) ≡ key = ap decimal (omega arith) ∙ sym is in
    subst (λ (it : List ℕ). Among (it ∷ rest) (unknown_items (items_at place) 0 items)) at (list_finds (items_at place) 0 items position rest value stands among)
finds place (string text) key rest value (inl stands) among = none_stands value stands
finds place (string text) key rest value (inr (position, is, stands)) among = none_stands value stands
finds place (integer number) key rest value (inl stands) among = none_stands value stands
finds place (integer number) key rest value (inr (position, is, stands)) among = none_stands value stands
finds place (float number) key rest value (inl stands) among = none_stands value stands
finds place (float number) key rest value (inr (position, is, stands)) among = none_stands value stands
finds place (boolean truth) key rest value (inl stands) among = none_stands value stands
finds place (boolean truth) key rest value (inr (position, is, stands)) among = none_stands value stands
finds place (datetime time) key rest value (inl stands) among = none_stands value stands
finds place (datetime time) key rest value (inr (position, is, stands)) among = none_stands value stands
