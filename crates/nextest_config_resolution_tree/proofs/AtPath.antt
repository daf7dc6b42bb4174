-- What stands at a path, in the list of what a tree ends in.
use Rattle.std.proofs.Common.{◌≡◌, ℕ, List, [], ◌∷◌, ◌++◌, map, Option, None, Some, refl, sym, ap, ◌∙◌, append-nil, Ordering, Less, Equal, Greater}
use Rattle.std.specs.Prelude.{option_and_then}
use Rattle.std.specs.Ordering.{match_ordering}
use Rattle.toml.specs.Data.{Data, string, integer, float, boolean, datetime, array, table, Members, no_members, member, get, get_member}
use Rattle.nextest_config_elements_toml.specs.Reading.{Path}
use Rattle.nextest_config_resolution_tree.proofs.Keys.{equal_keys, key_cmp, same_key, turned, turned_back}
use Rattle.nextest_config_resolution_tree.specs.Tree.{get_path}
use Rattle.nextest_config_resolution_tree.specs.Ends.{AreSorted, End, IsSorted, SortedAt, behind, ends, ends_at, members_ends}
use Rattle.nextest_config_resolution_tree.specs.Laws.{ReadAtPath}
use Rattle.nextest_config_resolution_tree.specs.Runs.{below, below_path}
use Rattle.nextest_config_resolution_tree.proofs.Keyed.{below_after}
use Rattle.nextest_config_resolution_tree.proofs.Rebuilt.{later_members}

-- among the ends of one key and others
below_here : (key : List ℕ) (all rest : List End) → below key (map (behind key) all ++ rest) ≡ all ++ below key rest
below_here key [] rest = refl
below_here key (end ∷ all) rest = rw (same_key key) (ap (λ (more : List End). end ∷ more) (below_here key all rest))

below_other : (key other : List ℕ) (order : Ordering) (all rest : List End) → key_cmp other key ≡ order → (order ≡ Equal → ⊥) → below key (map (behind other) all ++ rest) ≡ below key rest
below_other key other order [] rest e never = refl
below_other key other Less (end ∷ all) rest e never = rw e (below_other key other Less all rest e never)
below_other key other Equal (end ∷ all) rest e never = absurd (never refl)
below_other key other Greater (end ∷ all) rest e never = rw e (below_other key other Greater all rest e never)

below_members : (key : List ℕ) (members : Members) → AreSorted members → below key (members_ends members) ≡ ends_at (get_member key members)
below_members key no_members sorted = refl
below_members key (member other value more) sorted = by_key (key_cmp key other) refl (below_members key more sorted.2) where
  by_key : (order : Ordering) → key_cmp key other ≡ order → below key (members_ends more) ≡ ends_at (get_member key more)
      → below key (map (behind other) (ends value) ++ members_ends more) ≡ ends_at (match_ordering order (get_member key more) (Some value) (get_member key more))
  by_key Less e deeper = below_other key other Greater (ends value) (members_ends more) (turned key other e) (λ same. cc) ∙ deeper
  by_key Greater e deeper = below_other key other Less (ends value) (members_ends more) (turned_back key other e) (λ same. cc) ∙ deeper
  by_key Equal e deeper =
      let one : key ≡ other = equal_keys key other e in
      let none : below key (members_ends more) ≡ [] = ap (λ (it : List ℕ). below it (members_ends more)) one ∙ below_after other (members_ends more) (later_members other more sorted.0) in
      ap (λ (it : List ℕ). below key (map (behind it) (ends value) ++ members_ends more)) (sym one) ∙ below_here key (ends value) (members_ends more)
      ∙ ap (λ (rest : List End). ends value ++ rest) none ∙ append-nil (ends value)

below_tree : (key : List ℕ) (tree : Data) → IsSorted tree → below key (ends tree) ≡ ends_at (get key tree)
below_tree key (table (member other value more)) sorted = below_members key (member other value more) sorted
below_tree key (table no_members) sorted = refl
below_tree key (string text) sorted = refl
below_tree key (integer number) sorted = refl
below_tree key (float number) sorted = refl
below_tree key (boolean truth) sorted = refl
below_tree key (datetime time) sorted = refl
below_tree key (array items) sorted = refl

-- what stands at a key of a sorted tree is sorted
sorted_member : (key : List ℕ) (members : Members) → AreSorted members → SortedAt (get_member key members)
sorted_member key no_members sorted = tt
sorted_member key (member other value more) sorted = by_key (key_cmp key other) (sorted_member key more sorted.2) where
  by_key : (order : Ordering) → SortedAt (get_member key more) → SortedAt (match_ordering order (get_member key more) (Some value) (get_member key more))
  by_key Less deeper = deeper
  by_key Equal deeper = sorted.1
  by_key Greater deeper = deeper

sorted_at : (key : List ℕ) (tree : Data) → IsSorted tree → SortedAt (get key tree)
sorted_at key (table members) sorted = sorted_member key members sorted
sorted_at key (string text) sorted = tt
sorted_at key (integer number) sorted = tt
sorted_at key (float number) sorted = tt
sorted_at key (boolean truth) sorted = tt
sorted_at key (datetime time) sorted = tt
sorted_at key (array items) sorted = tt

pub sorted_path : (path : Path) (tree : Data) → IsSorted tree → SortedAt (get_path path tree)
sorted_path [] tree sorted = sorted
sorted_path (key ∷ path) tree sorted = by_found (get key tree) (sorted_at key tree sorted) (λ value. sorted_path path value) where
  by_found : (found : Option Data) → SortedAt found → ((value : Data) → IsSorted value → SortedAt (get_path path value)) → SortedAt (option_and_then (get_path path) found)
  by_found None sorted deeper = tt
  by_found (Some value) sorted deeper = deeper value sorted

none_below : (path : Path) → below_path path [] ≡ []
none_below [] = refl
none_below (key ∷ path) = none_below path

pub read_at_path : ReadAtPath
read_at_path tree [] sorted = refl
read_at_path tree (key ∷ path) sorted = ap (below_path path) (below_tree key tree sorted) ∙ by_found (get key tree) (sorted_at key tree sorted) (λ value. read_at_path value path) where
  by_found : (found : Option Data) → SortedAt found → ((value : Data) → IsSorted value → below_path path (ends value) ≡ ends_at (get_path path value))
      → below_path path (ends_at found) ≡ ends_at (option_and_then (get_path path) found)
  by_found None sorted deeper = none_below path
  by_found (Some value) sorted deeper = deeper value sorted
