-- What is found in a value is in the order in which it stands there, and there once.
use Rattle.std.proofs.Common.{◌≡◌, ◌≢◌, ℕ, zero, suc, ◌+◌, ◌<◌, ◌^◌, true, ◌&&◌, get_or, List, [], ◌∷◌, ◌++◌, Option, None, Some, Ordering, Less, Equal, Greater, decimal, inl, inr, arith, refl, sym, ap, ◌∙◌, subst}
use Rattle.std.proofs.lemmas.Bool.{and_parts}
use Rattle.std.proofs.lemmas.Cmp.{nat_list_cmp_total, tied_itself}
use Rattle.std.proofs.lemmas.Fmt.{decimal_injective}
use Rattle.std.proofs.lemmas.List.Elements.{Contains-get_or}
use Rattle.std.proofs.lemmas.List.Kept.{AllPairs-cons}
use Rattle.std.specs.List.{All, AllPairs}
use Rattle.std.specs.Ordering.{match_ordering, ordering_reverse}
use Rattle.std.specs.Prelude.{⊤}
use Rattle.toml.specs.Data.{Data, string, integer, float, boolean, datetime, array, table, Items, no_items, item, Members, no_members, member, get_item, get_member, is_before, is_sorted, items_are_sorted, members_are_sorted}
use Rattle.nextest_config_elements_toml.specs.Reading.{Path}
use Rattle.nextest_config_resolution_warnings.specs.Laws.{FindsInOrder, FindsOnce}
use Rattle.nextest_config_resolution_warnings.specs.Places.{Place, Keys, place_of, keys_in, items_at}
use Rattle.nextest_config_resolution_warnings.specs.ShortLists.{HasShortLists, ItemsHaveShortLists, MembersHaveShortLists}
use Rattle.nextest_config_resolution_warnings.specs.Standing.{ComesBefore, StandsAt}
use Rattle.nextest_config_resolution_warnings.specs.Unknown.{behind, unknown_in, unknown_items, unknown_members}
use Rattle.nextest_config_resolution_warnings.proofs.Standing.{Among, among_behind, among_either, first_before, first_stands, found_there, greater_behind, in_list, in_table, key_cmp, stands_behind}
use Rattle.nextest_config_resolution_warnings.proofs.Exact.{among_contains}

-- ---- each element of a list before those behind it

abbrev pub InOrder : (Path → Path → Type 0) → List Path → Type 0
InOrder R [] = ⊤
InOrder R (path ∷ paths) = ((other : Path) → Among other paths → R path other) × InOrder R paths

in_order_both : (R : Path → Path → Type 0) (front back : List Path) → InOrder R front → InOrder R back
    → ((one other : Path) → Among one front → Among other back → R one other) → InOrder R (front ++ back)
in_order_both R [] back first second across = second
in_order_both R (path ∷ front) back first second across = (
  λ other among. elim (among_either front back other among) [
    | inl there ↦ first.0 other there
    | inr there ↦ across path other (inl refl) there
  ],
  in_order_both R front back first.1 second (λ one other there behind. across one other (inr there) behind),
)

in_order_behind : (R Q : Path → Path → Type 0) (key : List ℕ) (paths : List Path) → ((one other : Path) → R one other → Q (key ∷ one) (key ∷ other)) → InOrder R paths
    → InOrder Q (behind key paths)
in_order_behind R Q key [] into ordered = tt
in_order_behind R Q key (path ∷ paths) into ordered = (
  λ other among.
      let it = among_behind key paths other among in
      subst (λ (whole : Path). Q (key ∷ path) whole) (sym it.1) (into path it.0 (ordered.0 it.0 it.2)),
  in_order_behind R Q key paths into ordered.1,
)

all_among : (P : Path → Type 0) (paths : List Path) → ((path : Path) → Among path paths → P path) → All P paths
all_among P paths holds = λ k d within. holds (get_or paths k d) (among_contains paths (get_or paths k d) (Contains-get_or paths k d within))

all_pairs : (R : Path → Path → Type 0) (paths : List Path) → InOrder R paths → AllPairs R paths
all_pairs R [] ordered = λ i j d before within. absurd (omega arith)
all_pairs R (path ∷ paths) ordered = AllPairs-cons R path paths (all_among (R path) paths ordered.0) (all_pairs R paths ordered.1)

-- ---- whatever holds of two keys of a table, the lower one first, of two positions of a list, the
-- lower one first, and below what stands at one key

module _ (R : Data → Path → Path → Type 0)
    (into : (given value : Data) (key : List ℕ) (one other : Path) → StandsAt key given value → R value one other → R given (key ∷ one) (key ∷ other))
    (by_key : (members : Members) (first next : List ℕ) (one other : Path) → key_cmp first next ≡ Less → R (table members) (first ∷ one) (next ∷ other))
    (by_position : (items : Items) (first next : ℕ) (here there : Data) (one other : Path) → get_item first items ≡ Some here → get_item next items ≡ Some there → first < next
    → R (array items) (decimal first ∷ one) (decimal next ∷ other))
  where
    there_in_order : (place : Option Place) (value : Data) → ((at : Place) → InOrder (R value) (unknown_in at value)) → InOrder (R value) (found_there place value)
    there_in_order None value deeper = (λ other among. absurd among, tt)
    there_in_order (Some at) value deeper = deeper at

    one_before : (whole : Members) (keys : Keys) (first : List ℕ) (old : Data) (more : Members) → is_before first more ≡ true → members_are_sorted more ≡ true
        → (one other : Path) → Among one (behind first (found_there (place_of keys first) old)) → Among other (unknown_members keys more) → R (table whole) one other
    one_before whole keys first old more next sorted one other here there =
        let it = among_behind first (found_there (place_of keys first) old) one here in
        let that = in_table keys more other sorted there in
        let less : key_cmp first that.key ≡ Less =
        nat_list_cmp_total.antisymm first that.key
        ∙ ap ordering_reverse (greater_behind first that.key that.value more (first_before first more next sorted) that.stands) in
        subst (λ (path : Path). R (table whole) path other) (sym it.1) (subst (λ (path : Path). R (table whole) (first ∷ it.0) path) (sym that.is) (by_key whole first that.key it.0 that.rest less))

    item_before : (whole : Items) (place : Place) (from : ℕ) (old : Data) (more : Items)
        → ((position : ℕ) (value : Data) → get_item position (item old more) ≡ Some value → get_item (from + position) whole ≡ Some value)
        → (one other : Path) → Among one (behind (decimal from) (unknown_in place old)) → Among other (unknown_items place (from + 1) more) → R (array whole) one other
    item_before whole place from old more holds one other here there =
        let it = among_behind (decimal from) (unknown_in place old) one here in
        let that = in_list place (from + 1) more other there in
        let first : get_item from whole ≡ Some old = subst (λ (at : ℕ). get_item at whole ≡ Some old) (omega arith) (holds 0 old refl) in
        let next : get_item ((from + 1) + that.position) whole ≡ Some that.value =
        subst (λ (at : ℕ). get_item at whole ≡ Some that.value) (omega arith) (holds (suc that.position) that.value that.stands) in
        subst (λ (path : Path). R (array whole) path other) (sym it.1)
        (subst (λ (path : Path). R (array whole) (decimal from ∷ it.0) path) (sym that.is)
        (by_position whole from ((from + 1) + that.position) old that.value it.0 that.rest first next (omega arith)))

    mutual
      pub in_order : (place : Place) (given : Data) → is_sorted given ≡ true → InOrder (R given) (unknown_in place given)
      in_order place (table members) sorted = members_in_order members (keys_in place members) members sorted (λ key value stands. stands)
      in_order place (array items) sorted = items_in_order items (items_at place) 0 items sorted (λ position value stands. subst (λ (at : ℕ). get_item at items ≡ Some value) (omega arith) stands)
      in_order place (string text) sorted = tt
      in_order place (integer number) sorted = tt
      in_order place (float number) sorted = tt
      in_order place (boolean truth) sorted = tt
      in_order place (datetime time) sorted = tt

      members_in_order : (whole : Members) (keys : Keys) (members : Members) → members_are_sorted members ≡ true
          → ((key : List ℕ) (value : Data) → get_member key members ≡ Some value → get_member key whole ≡ Some value) → InOrder (R (table whole)) (unknown_members keys members)
      members_in_order whole keys no_members sorted holds = tt
      members_in_order whole keys (member first old more) sorted holds =
          let (front, rest) = and_parts (is_before first more && is_sorted old) (members_are_sorted more) sorted in
          let (next, here) = and_parts (is_before first more) (is_sorted old) front in
          in_order_both (R (table whole)) (behind first (found_there (place_of keys first) old)) (unknown_members keys more)
          (in_order_behind (R old) (R (table whole)) first (found_there (place_of keys first) old)
          (λ one other. into (table whole) old first one other (inl (holds first old (first_stands first old more))))
          (there_in_order (place_of keys first) old (λ at. in_order at old here)))
          (members_in_order whole keys more rest
          (λ key value stands. holds key value (stands_behind first key old value more (first_before first more next rest) stands)))
          (one_before whole keys first old more next rest)

      items_in_order : (whole : Items) (place : Place) (from : ℕ) (items : Items) → items_are_sorted items ≡ true
          → ((position : ℕ) (value : Data) → get_item position items ≡ Some value → get_item (from + position) whole ≡ Some value)
          → InOrder (R (array whole)) (unknown_items place from items)
      items_in_order whole place from no_items sorted holds = tt
      items_in_order whole place from (item old more) sorted holds =
          let (here, rest) = and_parts (is_sorted old) (items_are_sorted more) sorted in
          let first : get_item from whole ≡ Some old = subst (λ (at : ℕ). get_item at whole ≡ Some old) (omega arith) (holds 0 old refl) in
          in_order_both (R (array whole)) (behind (decimal from) (unknown_in place old)) (unknown_items place (from + 1) more)
          (in_order_behind (R old) (R (array whole)) (decimal from) (unknown_in place old)
          (λ one other. into (array whole) old (decimal from) one other (inr (from, refl, first))) (in_order place old here))
          (items_in_order whole place (from + 1) more rest
          (λ position value stands. subst (λ (at : ℕ). get_item at whole ≡ Some value) (omega arith) (holds (suc position) value stands)))
          (item_before whole place from old more holds)

-- ---- the two laws

pub finds_in_order : FindsInOrder
finds_in_order place given sorted =
    all_pairs (ComesBefore given) (unknown_in place given)
    (in_order ComesBefore (λ given value key one other stands deeper. inr (refl, (value, stands, deeper))) (λ members first next one other less. inl less)
    (λ items first next here there one other _ _ less. inl (first, next, refl, refl, less)) place given sorted)

-- what stands in data with short lists has short lists
member_short : (key : List ℕ) (members : Members) (value : Data) → MembersHaveShortLists members → get_member key members ≡ Some value → HasShortLists value
member_short key no_members value short stands = absurd (cc)
member_short key (member first old more) value short stands = by_order (key_cmp key first) stands (member_short key more value short.1) where
  by_order : (order : Ordering) → match_ordering order (get_member key more) (Some old) (get_member key more) ≡ Some value → (get_member key more ≡ Some value → HasShortLists value)
      → HasShortLists value
  by_order Less stands deeper = deeper stands
  by_order Equal stands deeper = let is : old ≡ value = cc in subst HasShortLists is short.0
  by_order Greater stands deeper = deeper stands

item_short : (position : ℕ) (items : Items) (value : Data) → ItemsHaveShortLists items → get_item position items ≡ Some value → HasShortLists value
item_short position no_items value short stands = absurd (cc)
item_short zero (item first more) value short stands = let is : first ≡ value = cc in subst HasShortLists is short.0
item_short (suc position) (item first more) value short stands = item_short position more value short.1 stands

none_short : {P : Type 0} (value : Data) → None ≡ Some value → P
none_short value e = absurd (cc)

short_below : (given value : Data) (key : List ℕ) → StandsAt key given value → HasShortLists given → HasShortLists value
short_below (table members) value key (inl stands) short = member_short key members value short stands
short_below (table _) value key (inr (position, is, stands)) short = none_short value stands
short_below (array items) value key (inl stands) short = none_short value stands
short_below (array items) value key (inr (position, is, stands)) short = item_short position items value short.1 stands
short_below (string text) value key (inl stands) short = none_short value stands
short_below (string text) value key (inr (position, is, stands)) short = none_short value stands
short_below (integer number) value key (inl stands) short = none_short value stands
short_below (integer number) value key (inr (position, is, stands)) short = none_short value stands
short_below (float number) value key (inl stands) short = none_short value stands
short_below (float number) value key (inr (position, is, stands)) short = none_short value stands
short_below (boolean truth) value key (inl stands) short = none_short value stands
short_below (boolean truth) value key (inr (position, is, stands)) short = none_short value stands
short_below (datetime time) value key (inl stands) short = none_short value stands
short_below (datetime time) value key (inr (position, is, stands)) short = none_short value stands

-- two paths are apart, in such data
abbrev Differ : Data → Path → Path → Type 0
Differ given one other = HasShortLists given → one ≢ other

first_key : (first next : List ℕ) (one other : Path) → first ∷ one ≡ next ∷ other → first ≡ next
first_key first next one other e = cc

keys_behind : (key : List ℕ) (one other : Path) → key ∷ one ≡ key ∷ other → one ≡ other
keys_behind key one other e = cc

less_apart : (one other : List ℕ) → key_cmp one other ≡ Less → one ≢ other
less_apart one other less same =
    let tied : key_cmp one one ≡ Equal = tied_itself nat_list_cmp_total one in
    let again : key_cmp one one ≡ Less = subst (λ (it : List ℕ). key_cmp one it ≡ Less) (sym same) less in cc

positions_apart : (first next : ℕ) → first < 2 ^ 64 → next < 2 ^ 64 → first < next → decimal first ≢ decimal next
positions_apart first next fits also less same = let one : first ≡ next = decimal_injective first next fits also same in omega arith

pub finds_once : FindsOnce
finds_once place given sorted short =
    all_pairs (λ one other. one ≢ other) (unknown_in place given) (apart (unknown_in place given) (in_order Differ
    (λ given value key one other stands deeper short same. deeper (short_below given value key stands short) (keys_behind key one other same))
    (λ members first next one other less short same. less_apart first next less (first_key first next one other same))
    (λ items first next here there one other stands also less short same.
    positions_apart first next (short.0 first here stands) (short.0 next there also) less (first_key (decimal first) (decimal next) one other same)) place given sorted))
  where
    apart : (paths : List Path) → InOrder (Differ given) paths → InOrder (λ one other. one ≢ other) paths
    apart [] ordered = tt
    apart (path ∷ paths) ordered = (λ other among. ordered.0 other among short, apart paths ordered.1)
