-- What stands at the paths of a tree over another, and of the merged tree.
use Rattle.std.proofs.Common.{◌≡◌, ◌⊎◌, ℕ, Bool, true, false, List, [], ◌∷◌, ◌++◌, Option, None, Some, is_some, option_map, refl, sym, ap, ◌∙◌, inl, inr, Ordering, Less, Equal, Greater}
use Rattle.std.specs.List.{AllByRecursion}
use Rattle.std.specs.Option.{option_and_then, option_map_or}
use Rattle.std.proofs.lemmas.Bool.{cases_Bool, false≢true, true≢false}
use Rattle.toml.specs.Data.{Data, string, integer, float, boolean, datetime, array, table, Members, no_members, member, get_member}
use Rattle.nextest_config_elements_toml.specs.Reading.{Path}
use Rattle.nextest_config_resolution_tree.specs.Laws.{MergedByOver, OneStanding}
use Rattle.nextest_config_resolution_tree.specs.Merged.{Standing, a_table, a_leaf, standing_of, stands, HasLeafAbove, StandsIn, merge_of_files}
use Rattle.nextest_config_resolution_tree.specs.Tree.{get_path, over, merge}
use Rattle.nextest_config_resolution_tree.proofs.Keys.{key_cmp, after_set, equal_keys, get_set}
use Rattle.nextest_config_resolution_tree.proofs.Tables.{over_none}

-- what two tables have at a key
abbrev pub joint : Option Data → Option Data → Option Data
joint (Some value) lower = Some (over value lower)
joint None lower = lower

joint_set : (key other : List ℕ) (order : Ordering) → key_cmp key other ≡ order → (value : Data) (higher found : Option Data) (lower : Members)
    → found ≡ joint higher (get_member key lower)
    → after_set order found (over value (get_member other lower)) ≡ joint (after_set order higher value) (get_member key lower)
joint_set key other Less e value higher found lower behind = behind
joint_set key other Greater e value higher found lower behind = behind
joint_set key other Equal e value higher found lower behind = ap (λ k. Some (over value (get_member k lower))) (sym (equal_keys key other e))

pub get_merge : (key : List ℕ) (higher lower : Members) → get_member key (merge higher lower) ≡ joint (get_member key higher) (get_member key lower)
get_merge key no_members lower = refl
get_merge key (member other value more) lower =
    get_set key other (over value (get_member other lower)) (merge more lower)
    ∙ joint_set key other (key_cmp key other) refl value (get_member key more) (get_member key (merge more lower)) lower (get_merge key more lower)

-- whether a leaf stands above a path
abbrev leaf_above : Path → Data → Bool
leaf_above [] file = false
leaf_above (key ∷ path) (table members) = option_map_or (leaf_above path) (get_member key members) false
leaf_above (key ∷ path) leaf = true

-- what stands at a path of a tree over another
abbrev picked : Option Standing → Bool → Option Standing → Option Standing
picked (Some it) hides lower = Some it
picked None true lower = None
picked None false lower = lower

picked_none : (it : Option Standing) (hides : Bool) → it ≡ picked it hides None
picked_none (Some it) hides = refl
picked_none None true = refl
picked_none None false = refl

at_key : (path : Path) (higher lower : Option Data)
    → ((value given : Data) → stands path (over value (Some given)) ≡ picked (stands path value) (leaf_above path value) (stands path given))
    → option_map standing_of (option_and_then (get_path path) (joint higher lower))
    ≡ picked (option_map standing_of (option_and_then (get_path path) higher)) (option_map_or (leaf_above path) higher false) (option_map standing_of (option_and_then (get_path path) lower))
at_key path None lower deeper = refl
at_key path (Some value) None deeper = rw (over_none value) (picked_none (stands path value) (leaf_above path value))
at_key path (Some value) (Some given) deeper = deeper value given

over_stands : (path : Path) (higher lower : Data) → stands path (over higher (Some lower)) ≡ picked (stands path higher) (leaf_above path higher) (stands path lower)
over_stands [] (string text) lower = refl
over_stands [] (integer number) lower = refl
over_stands [] (float number) lower = refl
over_stands [] (boolean truth) lower = refl
over_stands [] (datetime time) lower = refl
over_stands [] (array items) lower = refl
over_stands [] (table higher) (table lower) = refl
over_stands [] (table higher) (string text) = refl
over_stands [] (table higher) (integer number) = refl
over_stands [] (table higher) (float number) = refl
over_stands [] (table higher) (boolean truth) = refl
over_stands [] (table higher) (datetime time) = refl
over_stands [] (table higher) (array items) = refl
over_stands (key ∷ path) (string text) lower = refl
over_stands (key ∷ path) (integer number) lower = refl
over_stands (key ∷ path) (float number) lower = refl
over_stands (key ∷ path) (boolean truth) lower = refl
over_stands (key ∷ path) (datetime time) lower = refl
over_stands (key ∷ path) (array items) lower = refl
over_stands (key ∷ path) (table higher) (table lower) =
    ap (λ found. option_map standing_of (option_and_then (get_path path) found)) (get_merge key higher lower)
    ∙ at_key path (get_member key higher) (get_member key lower) (over_stands path)
over_stands (key ∷ path) (table higher) (string text) = picked_none (stands (key ∷ path) (table higher)) (leaf_above (key ∷ path) (table higher))
over_stands (key ∷ path) (table higher) (integer number) = picked_none (stands (key ∷ path) (table higher)) (leaf_above (key ∷ path) (table higher))
over_stands (key ∷ path) (table higher) (float number) = picked_none (stands (key ∷ path) (table higher)) (leaf_above (key ∷ path) (table higher))
over_stands (key ∷ path) (table higher) (boolean truth) = picked_none (stands (key ∷ path) (table higher)) (leaf_above (key ∷ path) (table higher))
over_stands (key ∷ path) (table higher) (datetime time) = picked_none (stands (key ∷ path) (table higher)) (leaf_above (key ∷ path) (table higher))
over_stands (key ∷ path) (table higher) (array items) = picked_none (stands (key ∷ path) (table higher)) (leaf_above (key ∷ path) (table higher))

-- a leaf stands above a path exactly if the test says so
one_above : (key : List ℕ) (path : Path) (file leaf : Data) → stands [] file ≡ Some (a_leaf leaf) → HasLeafAbove (key ∷ path) file
one_above key path file leaf e = record { front = []; key = key; rest = path; parted = refl; leaf = leaf; stands_there = e }

is_above : (path : Path) (file : Data) → leaf_above path file ≡ true → HasLeafAbove path file
is_above [] file e = absurd (false≢true e)
is_above (key ∷ path) (string text) e = one_above key path (string text) (string text) refl
is_above (key ∷ path) (integer number) e = one_above key path (integer number) (integer number) refl
is_above (key ∷ path) (float number) e = one_above key path (float number) (float number) refl
is_above (key ∷ path) (boolean truth) e = one_above key path (boolean truth) (boolean truth) refl
is_above (key ∷ path) (datetime time) e = one_above key path (datetime time) (datetime time) refl
is_above (key ∷ path) (array items) e = one_above key path (array items) (array items) refl
is_above (key ∷ path) (table members) e = by_member (get_member key members) refl e (is_above path) where
  by_member : (found : Option Data) → get_member key members ≡ found → option_map_or (leaf_above path) found false ≡ true
      → ((file : Data) → leaf_above path file ≡ true → HasLeafAbove path file) → HasLeafAbove (key ∷ path) (table members)
  by_member None there e deeper = absurd (false≢true e)
  by_member (Some value) there e deeper =
      let it = deeper value e in
      record {
        front = key ∷ it.front;
        key = it.key;
        rest = it.rest;
        parted = ap (λ way. key ∷ way) it.parted;
        leaf = it.leaf;
        stands_there = ap (λ found. option_map standing_of (option_and_then (get_path it.front) found)) there ∙ it.stands_there;
      }

-- a leaf, and nothing else, is told as one
abbrev is_a_leaf : Option Standing → Bool
is_a_leaf None = false
is_a_leaf (Some a_table) = false
is_a_leaf (Some (a_leaf leaf)) = true

above_is : (front : Path) (key : List ℕ) (rest : Path) (file leaf : Data) → stands front file ≡ Some (a_leaf leaf) → leaf_above (front ++ key ∷ rest) file ≡ true
above_is [] key rest (table _) leaf e = absurd (false≢true (ap is_a_leaf e))
above_is [] key rest (string text) leaf e = refl
above_is [] key rest (integer number) leaf e = refl
above_is [] key rest (float number) leaf e = refl
above_is [] key rest (boolean truth) leaf e = refl
above_is [] key rest (datetime time) leaf e = refl
above_is [] key rest (array items) leaf e = refl
above_is (first ∷ front) key rest (string text) leaf e = refl
above_is (first ∷ front) key rest (integer number) leaf e = refl
above_is (first ∷ front) key rest (float number) leaf e = refl
above_is (first ∷ front) key rest (boolean truth) leaf e = refl
above_is (first ∷ front) key rest (datetime time) leaf e = refl
above_is (first ∷ front) key rest (array items) leaf e = refl
above_is (first ∷ front) key rest (table members) leaf e = by_member (get_member first members) e (λ value. above_is front key rest value leaf) where
  by_member : (found : Option Data) → option_map standing_of (option_and_then (get_path front) found) ≡ Some (a_leaf leaf)
      → ((value : Data) → stands front value ≡ Some (a_leaf leaf) → leaf_above (front ++ key ∷ rest) value ≡ true)
      → option_map_or (leaf_above (front ++ key ∷ rest)) found false ≡ true
  by_member None e deeper = absurd (false≢true (ap is_some e))
  by_member (Some value) e deeper = deeper value e

none_above : (path : Path) (file : Data) → (HasLeafAbove path file → ⊥) → leaf_above path file ≡ false
none_above path file none = elim (cases_Bool (leaf_above path file)) [
  | inl above ↦ absurd (none (is_above path file above))
  | inr below ↦ below
]

not_above : (path : Path) (file : Data) → leaf_above path file ≡ false → HasLeafAbove path file → ⊥
not_above path file e it =
    true≢false (sym (above_is it.front it.key it.rest file it.leaf it.stands_there) ∙ ap (λ way. leaf_above way file) (sym it.parted) ∙ e)

-- one more file on top
on_top : (path : Path) (it : Standing) (file : Data) (files : List Data) → stands path file ≡ None → leaf_above path file ≡ false → StandsIn files path it → StandsIn (file ∷ files) path it
on_top path it file files none clear found = record {
  above = file ∷ found.above;
  file = found.file;
  below = found.below;
  parted = ap (λ more. file ∷ more) found.parted;
  has_none = (none, found.has_none);
  has_no_leaf = (not_above path file clear, found.has_no_leaf);
  has_it = found.has_it;
}

at_top : (path : Path) (it : Standing) (file : Data) (files : List Data) → stands path file ≡ Some it → StandsIn (file ∷ files) path it
at_top path it file files e = record { above = []; file = file; below = files; parted = refl; has_none = tt; has_no_leaf = tt; has_it = e }

-- the first of some files, and the others
abbrev first_or : Data → List Data → Data
first_or otherwise [] = otherwise
first_or otherwise (file ∷ files) = file

abbrev rest_of : List Data → List Data
rest_of [] = []
rest_of (file ∷ files) = files

abbrev is_none : List Data → Bool
is_none [] = true
is_none (file ∷ files) = false

no_files : (above : List Data) (file : Data) (below : List Data) → [] ≡ above ++ file ∷ below → ⊥
no_files [] file below e = true≢false (ap is_none e)
no_files (other ∷ above) file below e = true≢false (ap is_none e)

-- what stands somewhere
abbrev standing_or : Standing → Option Standing → Standing
standing_or otherwise None = otherwise
standing_or otherwise (Some it) = it

-- where something stands in files: in the first one, or it hides nothing and the others have it
abbrev FirstOrBelow : Path → Standing → Data → List Data → Type 0
FirstOrBelow path it file files = (stands path file ≡ Some it) ⊎ ((stands path file ≡ None) × (leaf_above path file ≡ false) × StandsIn files path it)

divided : (path : Path) (it : Standing) (file : Data) (files : List Data) → StandsIn (file ∷ files) path it → FirstOrBelow path it file files
divided path it file files found = by_front found.above found.parted found.has_none found.has_no_leaf where
  by_front : (above : List Data) → file ∷ files ≡ above ++ found.file ∷ found.below → AllByRecursion (λ other. stands path other ≡ None) above
      → AllByRecursion (λ other. ¬ HasLeafAbove path other) above → FirstOrBelow path it file files
  by_front [] e none clear = inl (ap (stands path) (ap (first_or file) e) ∙ found.has_it)
  by_front (other ∷ above) e none clear =
      let same : file ≡ other = ap (first_or file) e in
      inr (
        ap (stands path) same ∙ none.0,
        ap (leaf_above path) same ∙ none_above path other clear.0,
        record { above = above; file = found.file; below = found.below; parted = ap rest_of e; has_none = none.1; has_no_leaf = clear.1; has_it = found.has_it },
      )

pub one_standing : OneStanding
one_standing [] path one other a b = absurd (no_files a.above a.file a.below a.parted)
one_standing (file ∷ files) path one other a b =
    by_both (divided path one file files a) (divided path other file files b) (one_standing files path one other) where
      by_both : FirstOrBelow path one file files → FirstOrBelow path other file files
          → (StandsIn files path one → StandsIn files path other → one ≡ other) → one ≡ other
      by_both (inl e) (inl f) deeper = ap (standing_or one) (sym e ∙ f)
      by_both (inl e) (inr f) deeper = absurd (true≢false (ap is_some (sym e ∙ f.0)))
      by_both (inr e) (inl f) deeper = absurd (false≢true (ap is_some (sym e.0 ∙ f)))
      by_both (inr e) (inr f) deeper = deeper e.2 f.2

-- from a tree to the files and back
found_in : (path : Path) (it : Standing) (file tree : Data) (files : List Data) → (stands path tree ≡ Some it → StandsIn files path it)
    → stands path (over file (Some tree)) ≡ Some it → StandsIn (file ∷ files) path it
found_in path it file tree files deeper e = by_first (stands path file) refl (leaf_above path file) refl (sym (over_stands path file tree) ∙ e) where
  by_first : (first : Option Standing) → stands path file ≡ first → (hides : Bool) → leaf_above path file ≡ hides → picked first hides (stands path tree) ≡ Some it → StandsIn (file ∷ files) path it
  by_first (Some found) there hides above e = at_top path it file files (there ∙ e)
  by_first None there true above e = absurd (false≢true (ap is_some e))
  by_first None there false above e = on_top path it file files there above (deeper e)

back_from : (path : Path) (it : Standing) (file tree : Data) (files : List Data) → (StandsIn files path it → stands path tree ≡ Some it)
    → StandsIn (file ∷ files) path it → stands path (over file (Some tree)) ≡ Some it
back_from path it file tree files deeper found = over_stands path file tree ∙ by_place (divided path it file files found) where
  by_place : FirstOrBelow path it file files → picked (stands path file) (leaf_above path file) (stands path tree) ≡ Some it
  by_place (inl e) = rw e refl
  by_place (inr e) = rw (e.0, e.1) (deeper e.2)

pub merged_by_over : MergedByOver
merged_by_over file [] = λ path it. (at_top path it file [], λ found. by_place path it (divided path it file [] found)) where
  by_place : (path : Path) (it : Standing) → FirstOrBelow path it file [] → stands path file ≡ Some it
  by_place path it (inl e) = e
  by_place path it (inr e) = absurd (no_files e.2.above e.2.file e.2.below e.2.parted)
merged_by_over file (next ∷ below) = λ path it.
    let deeper = merged_by_over next below path it in
    (found_in path it file (merge_of_files next below) (next ∷ below) deeper.0, back_from path it file (merge_of_files next below) (next ∷ below) deeper.1)
