-- Tables as maps of their keys: a value that is set, and a value over none.
use Rattle.std.proofs.Common.{◌≡◌, List, [], ◌∷◌, None, refl, sym, ap, ◌∙◌, Ordering, Less, Equal, Greater, String, Global, string_bytes}
use Rattle.std.specs.BTreeMap.{insert_entry}
use Rattle.std.specs.List.{AllByRecursion}
use Rattle.std.specs.Map.{keys_of}
use Rattle.std.specs.Ordering.{match_ordering}
use Rattle.std.specs.String.{string_cmp}
use Rattle.toml.specs.Data.{Data, string, integer, float, boolean, datetime, array, table, member}
use Rattle.toml.specs.View.{view, members_view}
use Rattle.toml.specs.declared.value.Value.{Value}
use Rattle.nextest_config_resolution_tree.specs.Ends.{IsBefore}
use Rattle.nextest_config_resolution_tree.specs.Tree.{over, with_member}
use Rattle.nextest_config_resolution_tree.proofs.Keys.{key_cmp, equal_keys}

abbrev pub Pair : Type 0
Pair = String Global × Value

pub over_none : (tree : Data) → over tree None ≡ tree
over_none (string text) = refl
over_none (integer number) = refl
over_none (float number) = refl
over_none (boolean truth) = refl
over_none (datetime time) = refl
over_none (array items) = refl
over_none (table _) = refl

-- a map with a value set
split_order : (order : Ordering) (one other third : List Pair)
    → members_view (match_ordering order one other third) ≡ match_ordering order (members_view one) (members_view other) (members_view third)
split_order Less one other third = refl
split_order Equal one other third = refl
split_order Greater one other third = refl

pub set_entry : (pairs : List Pair) (key : String Global) (value : Value)
    → members_view (insert_entry string_cmp pairs key value) ≡ with_member (string_bytes key) (view value) (members_view pairs)
set_entry [] key value = refl
set_entry (pair ∷ pairs) key value =
    split_order (string_cmp key pair.0) ((key, value) ∷ pair ∷ pairs) ((pair.0, value) ∷ pairs) (pair ∷ insert_entry string_cmp pairs key value)
    ∙ by_key (key_cmp (string_bytes key) (string_bytes pair.0)) refl (set_entry pairs key value) where
      by_key : (order : Ordering) → key_cmp (string_bytes key) (string_bytes pair.0) ≡ order
          → members_view (insert_entry string_cmp pairs key value) ≡ with_member (string_bytes key) (view value) (members_view pairs)
          → match_ordering order (members_view ((key, value) ∷ pair ∷ pairs)) (members_view ((pair.0, value) ∷ pairs)) (members_view (pair ∷ insert_entry string_cmp pairs key value))
          ≡ match_ordering order (member (string_bytes key) (view value) (members_view (pair ∷ pairs))) (member (string_bytes key) (view value) (members_view pairs))
          (member (string_bytes pair.0) (view pair.1) (with_member (string_bytes key) (view value) (members_view pairs)))
      by_key Less e more = refl
      by_key Equal e more = ap (λ k. member k (view value) (members_view pairs)) (sym (equal_keys (string_bytes key) (string_bytes pair.0) e))
      by_key Greater e more = ap (member (string_bytes pair.0) (view pair.1)) more

-- a key comes before those of a table that it comes before
pub before_keys : (key : String Global) (pairs : List Pair) → AllByRecursion (λ other. string_cmp key other ≡ Less) (keys_of pairs) → IsBefore (string_bytes key) (members_view pairs)
before_keys key [] before = tt
before_keys key (pair ∷ pairs) before = (before.0, before_keys key pairs before.1)
