-- What is gathered at each key, where one more value is, and what it comes to.
use Rattle.std.proofs.Common.{◌≡◌, ℕ, List, [], ◌∷◌, ◌++◌, Option, None, Some, cond, refl, sym, ap, ◌∙◌, subst, append-nil, Ordering, Less, Equal, Greater, is_eq, String, Global, string_bytes}
use Rattle.std.specs.Prelude.{option_to_list}
use Rattle.std.specs.BTreeMap.{insert_entry, is_at}
use Rattle.std.specs.Map.{lookup, set_value}
use Rattle.std.specs.Ordering.{match_ordering}
use Rattle.std.specs.String.{string_cmp}
use Rattle.toml.specs.Data.{Data, string, integer, float, boolean, datetime, array, table, Members, no_members, get_member}
use Rattle.toml.specs.View.{members_view, view}
use Rattle.nextest_config_resolution_tree.specs.Merged.{merge_of_files}
use Rattle.nextest_config_resolution_tree.specs.Tree.{over, merge}
use Rattle.nextest_config_resolution_tree.proofs.Keys.{key_cmp, equal_keys, get_before, turned, turned_back}
use Rattle.nextest_config_resolution_tree.proofs.Standings.{get_merge, joint}
use Rattle.nextest_config_resolution_tree.proofs.Tables.{Pair, over_none}
use Rattle.nextest_config_resolution_tree.specs.Ends.{IsBefore}
use Rattle.nextest_config_resolution_tree.specs.Gathered.{given_at, layers_of, leading, member_at, members_of, merged_layers, merged_tables, values_at}
use Rattle.nextest_config_resolution_tree.specs.declared.gathering.Layers.{Layers}

-- a key with what is gathered there
abbrev pub Entry : Type 0
Entry = String Global × Layers

-- a value at a key, where another key is looked up
abbrev pub one : Ordering → Data → List Data
one order value = option_to_list (match_ordering order None (Some value) None)

-- where a key isn't that of an entry, a value at it isn't at the entry's key
apart : (key first other : List ℕ) (order : Ordering) (value : Data) → key_cmp key first ≡ order → (order ≡ Equal → ⊥) → key_cmp other first ≡ Equal → one (key_cmp other key) value ≡ []
apart key first other Less value e never same = ap (λ (order : Ordering). one order value) (ap (λ (k : List ℕ). key_cmp k key) (equal_keys other first same) ∙ turned key first e)
apart key first other Equal value e never same = absurd (never refl)
apart key first other Greater value e never same = ap (λ (order : Ordering). one order value) (ap (λ (k : List ℕ). key_cmp k key) (equal_keys other first same) ∙ turned_back key first e)

-- at an entry of the key, and at one of another
set_here : (order : Ordering) (more was is : List Data) (value : Data) → is ≡ was ++ value ∷ [] → match_ordering order more is more ≡ match_ordering order more was more ++ one order value
set_here Less more was is value e = sym (append-nil more)
set_here Equal more was is value e = e
set_here Greater more was is value e = sym (append-nil more)

set_behind : (order behind : Ordering) (now more here : List Data) (value : Data) → (order ≡ Equal → one behind value ≡ []) → now ≡ more ++ one behind value
    → match_ordering order now here now ≡ match_ordering order more here more ++ one behind value
set_behind Less behind now more here value never e = e
set_behind Equal behind now more here value never e = sym (append-nil here) ∙ ap (λ (t : List Data). here ++ t) (sym (never refl))
set_behind Greater behind now more here value never e = e

-- where something is gathered at a key already
module _ (key : String Global) (old new : Layers) (value : Data) (other : List ℕ) (longer : layers_of new ≡ layers_of old ++ value ∷ []) where
  pub given_set : (entries : List Entry) → lookup (is_at (string_cmp key)) entries ≡ Some old
      → given_at other (set_value (is_at (string_cmp key)) entries new) ≡ given_at other entries ++ one (key_cmp other (string_bytes key)) value
  given_set [] there = absurd (cc)
  given_set (entry ∷ entries) there = by_key (key_cmp (string_bytes key) (string_bytes entry.0)) refl there (given_set entries) where
    elsewhere : (order : Ordering) → key_cmp (string_bytes key) (string_bytes entry.0) ≡ order → (order ≡ Equal → ⊥)
        → given_at other (set_value (is_at (string_cmp key)) entries new) ≡ given_at other entries ++ one (key_cmp other (string_bytes key)) value
        → given_at other (entry ∷ set_value (is_at (string_cmp key)) entries new) ≡ given_at other (entry ∷ entries) ++ one (key_cmp other (string_bytes key)) value
    elsewhere order e never deeper =
        set_behind (key_cmp other (string_bytes entry.0)) (key_cmp other (string_bytes key)) (given_at other (set_value (is_at (string_cmp key)) entries new)) (given_at other entries) (layers_of entry.1) value
        (apart (string_bytes key) (string_bytes entry.0) other order value e never) deeper

    by_key : (order : Ordering) → key_cmp (string_bytes key) (string_bytes entry.0) ≡ order → cond (is_eq order) (Some entry.1) (lookup (is_at (string_cmp key)) entries) ≡ Some old
        → (lookup (is_at (string_cmp key)) entries ≡ Some old → given_at other (set_value (is_at (string_cmp key)) entries new) ≡ given_at other entries ++ one (key_cmp other (string_bytes key)) value)
        → given_at other (cond (is_eq order) ((entry.0, new) ∷ entries) (entry ∷ set_value (is_at (string_cmp key)) entries new)) ≡ given_at other (entry ∷ entries) ++ one (key_cmp other (string_bytes key)) value
    by_key Less e there deeper = elsewhere Less e (λ same. cc) (deeper there)
    by_key Greater e there deeper = elsewhere Greater e (λ same. cc) (deeper there)
    by_key Equal e there deeper =
        let same : string_bytes key ≡ string_bytes entry.0 = equal_keys (string_bytes key) (string_bytes entry.0) e in
        let is : entry.1 ≡ old = (let both = there in cc) in
        subst (λ (k : List ℕ). match_ordering (key_cmp other (string_bytes entry.0)) (given_at other entries) (layers_of new) (given_at other entries) ≡ given_at other (entry ∷ entries) ++ one (key_cmp other k) value) (sym same)
        (set_here (key_cmp other (string_bytes entry.0)) (given_at other entries) (layers_of entry.1) (layers_of new) value
        (longer ∙ ap (λ (layers : Layers). layers_of layers ++ value ∷ []) (sym is)))

-- where nothing is
none_given : (key : String Global) (entries : List Entry) → lookup (is_at (string_cmp key)) entries ≡ None → given_at (string_bytes key) entries ≡ []
none_given key [] none = refl
none_given key (entry ∷ entries) none = by_key (key_cmp (string_bytes key) (string_bytes entry.0)) none (none_given key entries) where
  by_key : (order : Ordering) → cond (is_eq order) (Some entry.1) (lookup (is_at (string_cmp key)) entries) ≡ None
      → (lookup (is_at (string_cmp key)) entries ≡ None → given_at (string_bytes key) entries ≡ [])
      → match_ordering order (given_at (string_bytes key) entries) (layers_of entry.1) (given_at (string_bytes key) entries) ≡ []
  by_key Less none deeper = deeper none
  by_key Equal none deeper = absurd (cc)
  by_key Greater none deeper = deeper none

-- a first value is all that is gathered there
set_first : (order : Ordering) (more : List Data) (value : Data) → (order ≡ Equal → more ≡ []) → match_ordering order more (value ∷ []) more ≡ more ++ one order value
set_first Less more value none = sym (append-nil more)
set_first Equal more value none = ap (λ (t : List Data). t ++ value ∷ []) (sym (none refl))
set_first Greater more value none = sym (append-nil more)

split_order : (other : List ℕ) (order : Ordering) (one other_one third : List Entry)
    → given_at other (match_ordering order one other_one third) ≡ match_ordering order (given_at other one) (given_at other other_one) (given_at other third)
split_order other Less one other_one third = refl
split_order other Equal one other_one third = refl
split_order other Greater one other_one third = refl

module _ (key : String Global) (new : Layers) (value : Data) (other : List ℕ) (alone : layers_of new ≡ value ∷ []) where
  pub given_insert : (entries : List Entry) → lookup (is_at (string_cmp key)) entries ≡ None
      → given_at other (insert_entry string_cmp entries key new) ≡ given_at other entries ++ one (key_cmp other (string_bytes key)) value
  given_insert [] none =
      ap (λ (here : List Data). match_ordering (key_cmp other (string_bytes key)) [] here []) alone ∙ set_first (key_cmp other (string_bytes key)) [] value (λ same. refl)
  given_insert (entry ∷ entries) none =
      split_order other (string_cmp key entry.0) ((key, new) ∷ entry ∷ entries) ((entry.0, new) ∷ entries) (entry ∷ insert_entry string_cmp entries key new)
      ∙ by_key (key_cmp (string_bytes key) (string_bytes entry.0)) refl none (given_insert entries) where
        by_key : (order : Ordering) → key_cmp (string_bytes key) (string_bytes entry.0) ≡ order → cond (is_eq order) (Some entry.1) (lookup (is_at (string_cmp key)) entries) ≡ None
            → (lookup (is_at (string_cmp key)) entries ≡ None → given_at other (insert_entry string_cmp entries key new) ≡ given_at other entries ++ one (key_cmp other (string_bytes key)) value)
            → match_ordering order (given_at other ((key, new) ∷ entry ∷ entries)) (given_at other ((entry.0, new) ∷ entries)) (given_at other (entry ∷ insert_entry string_cmp entries key new))
            ≡ given_at other (entry ∷ entries) ++ one (key_cmp other (string_bytes key)) value
        by_key Less e absent deeper =
            ap (λ (here : List Data). match_ordering (key_cmp other (string_bytes key)) (given_at other (entry ∷ entries)) here (given_at other (entry ∷ entries))) alone
            ∙ set_first (key_cmp other (string_bytes key)) (given_at other (entry ∷ entries)) value
            (λ same. ap (λ (k : List ℕ). given_at k (entry ∷ entries)) (equal_keys other (string_bytes key) same) ∙ none_given key (entry ∷ entries) none)
        by_key Equal e absent deeper = absurd (cc)
        by_key Greater e absent deeper =
            set_behind (key_cmp other (string_bytes entry.0)) (key_cmp other (string_bytes key)) (given_at other (insert_entry string_cmp entries key new)) (given_at other entries) (layers_of entry.1) value
            (apart (string_bytes key) (string_bytes entry.0) other Greater value e (λ same. cc)) (deeper absent)

-- a table's first member, and those behind it
pub member_first : (key : List ℕ) (pair : Pair) (pairs : List Pair) → IsBefore (string_bytes pair.0) (members_view pairs)
    → member_at key (members_view (pair ∷ pairs)) ≡ one (key_cmp key (string_bytes pair.0)) (view pair.1) ++ member_at key (members_view pairs)
member_first key pair pairs before = by_key (key_cmp key (string_bytes pair.0)) refl where
  by_key : (order : Ordering) → key_cmp key (string_bytes pair.0) ≡ order
      → option_to_list (match_ordering order (get_member key (members_view pairs)) (Some (view pair.1)) (get_member key (members_view pairs))) ≡ one order (view pair.1) ++ member_at key (members_view pairs)
  by_key Less e = refl
  by_key Equal e =
      let none : get_member key (members_view pairs) ≡ None = ap (λ (k : List ℕ). get_member k (members_view pairs)) (equal_keys key (string_bytes pair.0) e) ∙ get_before (string_bytes pair.0) (members_view pairs) before in
      ap (λ (found : Option Data). view pair.1 ∷ option_to_list found) (sym none)
  by_key Greater e = refl

-- what values at one place come to
abbrev pub top : List Data → Option Data
top [] = None
top (value ∷ lower) = Some (merge_of_files value lower)

pub get_given : (key : List ℕ) (entries : List Entry) → get_member key (members_of entries) ≡ top (given_at key entries)
get_given key [] = refl
get_given key (entry ∷ entries) = by_key (key_cmp key (string_bytes entry.0)) (get_given key entries) where
  by_key : (order : Ordering) → get_member key (members_of entries) ≡ top (given_at key entries)
      → match_ordering order (get_member key (members_of entries)) (Some (merged_layers entry.1)) (get_member key (members_of entries))
      ≡ top (match_ordering order (given_at key entries) (layers_of entry.1) (given_at key entries))
  by_key Less deeper = deeper
  by_key Equal deeper = refl
  by_key Greater deeper = deeper

-- tables, each over the next ones, as one
abbrev pub joined : List Members → Members
joined [] = no_members
joined (highest ∷ []) = highest
joined (highest ∷ next ∷ lower) = merge highest (joined (next ∷ lower))

pub tables_joined : (tables : List Members) → merged_tables tables ≡ table (joined tables)
tables_joined [] = refl
tables_joined (highest ∷ []) = refl
tables_joined (highest ∷ next ∷ lower) = ap (λ (tree : Data). over (table highest) (Some tree)) (tables_joined (next ∷ lower))

top_alone : (found : Option Data) → found ≡ top (option_to_list found ++ [])
top_alone None = refl
top_alone (Some value) = refl

top_more : (found : Option Data) (values : List Data) → joint found (top values) ≡ top (option_to_list found ++ values)
top_more None values = refl
top_more (Some value) [] = ap Some (over_none value)
top_more (Some value) (next ∷ values) = refl

pub get_joined : (key : List ℕ) (tables : List Members) → get_member key (joined tables) ≡ top (values_at key tables)
get_joined key [] = refl
get_joined key (highest ∷ []) = top_alone (get_member key highest)
get_joined key (highest ∷ next ∷ lower) =
    get_merge key highest (joined (next ∷ lower)) ∙ ap (joint (get_member key highest)) (get_joined key (next ∷ lower)) ∙ top_more (get_member key highest) (values_at key (next ∷ lower))

-- a leaf hides what is below it
pub shown : (highest : Members) (lower : List Data) → merge_of_files (table highest) lower ≡ merged_tables (highest ∷ leading lower)
shown highest [] = refl
shown highest (table next ∷ lower) = ap (λ (tree : Data). over (table highest) (Some tree)) (shown next lower)
shown highest (string text ∷ []) = refl
shown highest (integer number ∷ []) = refl
shown highest (float number ∷ []) = refl
shown highest (boolean truth ∷ []) = refl
shown highest (datetime time ∷ []) = refl
shown highest (array items ∷ []) = refl
shown highest (string text ∷ next ∷ lower) = refl
shown highest (integer number ∷ next ∷ lower) = refl
shown highest (float number ∷ next ∷ lower) = refl
shown highest (boolean truth ∷ next ∷ lower) = refl
shown highest (datetime time ∷ next ∷ lower) = refl
shown highest (array items ∷ next ∷ lower) = refl
