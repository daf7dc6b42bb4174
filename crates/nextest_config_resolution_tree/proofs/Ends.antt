-- The ends of tables, member by member.
use Rattle.std.proofs.Common.{◌≡◌, ℕ, true, List, [], ◌∷◌, ◌++◌, length, map, refl, sym, ap, ◌∙◌, append_assoc, append-nil, string_bytes, Less}
use Rattle.std.proofs.lemmas.Bool.{and_parts}
use Rattle.std.proofs.lemmas.List.{map-append}
use Rattle.std.specs.Bool.{⊤}
use Rattle.std.specs.List.{list_all}
use Rattle.toml.specs.Data.{Data, string, integer, float, boolean, datetime, array, table, table, Members, no_members, member}
use Rattle.nextest_config_elements_toml.specs.Reading.{Path}
use Rattle.nextest_config_resolution_tree.proofs.Keys.{key_cmp, same_key}
use Rattle.nextest_config_resolution_tree.specs.Ends.{AreSorted, End, IsBefore, IsSorted, along, behind, ends, is_before, members_ends, rises}
use Rattle.nextest_config_resolution_tree.specs.Gathered.{members_of, merged_layers}
use Rattle.nextest_config_resolution_tree.proofs.Gathered.{Entry}
use Rattle.nextest_config_resolution_tree.proofs.Rising.{Rises}

-- an end below a path and a further key
along_behind : (path : Path) (key : List ℕ) (all : List End) → map (along path) (map (behind key) all) ≡ map (along (path ++ key ∷ [])) all
along_behind path key [] = refl
along_behind path key (end ∷ all) =
    ap (λ (way : Path). (way, end.1) ∷ map (along path) (map (behind key) all)) (sym (append_assoc path (key ∷ []) end.0))
    ∙ ap (λ (more : List End). ((path ++ key ∷ []) ++ end.0, end.1) ∷ more) (along_behind path key all)

pub along_none : (all : List End) → map (along []) all ≡ all
along_none [] = refl
along_none (end ∷ all) = ap (λ (more : List End). end ∷ more) (along_none all)

-- the ends of a table with members, and of one without
pub table_ends : (entries : List Entry) → (length entries ≡ 0 → ⊥) → ends (table (members_of entries)) ≡ members_ends (members_of entries)
table_ends [] some = absurd (some refl)
table_ends (entry ∷ entries) some = refl

-- one more member
ends_push : (done : List Entry) (entry : Entry)
    → members_ends (members_of (done ++ entry ∷ [])) ≡ members_ends (members_of done) ++ map (behind (string_bytes entry.0)) (ends (merged_layers entry.1))
ends_push [] entry = append-nil (map (behind (string_bytes entry.0)) (ends (merged_layers entry.1)))
ends_push (first ∷ done) entry =
    ap (λ (more : List End). map (behind (string_bytes first.0)) (ends (merged_layers first.1)) ++ more) (ends_push done entry)
    ∙ sym (append_assoc (map (behind (string_bytes first.0)) (ends (merged_layers first.1))) (members_ends (members_of done)) (map (behind (string_bytes entry.0)) (ends (merged_layers entry.1))))

pub added : (path : Path) (before : List End) (done : List Entry) (entry : Entry)
    → (before ++ map (along path) (members_ends (members_of done))) ++ map (along (path ++ string_bytes entry.0 ∷ [])) (ends (merged_layers entry.1))
    ≡ before ++ map (along path) (members_ends (members_of (done ++ entry ∷ [])))
added path before done entry =
    append_assoc before (map (along path) (members_ends (members_of done))) (map (along (path ++ string_bytes entry.0 ∷ [])) (ends (merged_layers entry.1)))
    ∙ ap (λ (more : List End). before ++ (map (along path) (members_ends (members_of done)) ++ more)) (sym (along_behind path (string_bytes entry.0) (ends (merged_layers entry.1))))
    ∙ ap (λ (more : List End). before ++ more) (sym (map-append (along path) (members_ends (members_of done)) (map (behind (string_bytes entry.0)) (ends (merged_layers entry.1)))))
    ∙ ap (λ (more : List End). before ++ map (along path) more) (sym (ends_push done entry))

-- ends whose paths begin behind a key
abbrev AllAfter : List ℕ → List End → Type 0
AllAfter key [] = ⊤
AllAfter key (([], value) ∷ more) = ⊥
AllAfter key ((other ∷ path, value) ∷ more) = (key_cmp key other ≡ Less) × AllAfter key more

after_behind : (key other : List ℕ) (front more : List End) → key_cmp key other ≡ Less → AllAfter key more → AllAfter key (map (behind other) front ++ more)
after_behind key other [] more less after = after
after_behind key other (end ∷ front) more less after = (less, after_behind key other front more less after)

after_key : (key : List ℕ) (members : Members) → IsBefore key members → AllAfter key (members_ends members)
after_key key no_members before = tt
after_key key (member other value more) before = after_behind key other (ends value) (members_ends more) before.0 (after_key key more before.1)

-- an end below a key comes before those behind the key, and before those below it that it comes before
before_after : (key : List ℕ) (path : Path) (more : List End) → AllAfter key more → list_all (λ (next : End). is_before (key ∷ path) next.0) more ≡ true
before_after key path [] after = refl
before_after key path (([], value) ∷ more) after = absurd after
before_after key path ((other ∷ way, value) ∷ more) after = rw after.0 (before_after key path more after.1)

before_below : (key : List ℕ) (path : Path) (front more : List End) → list_all (λ (next : End). is_before path next.0) front ≡ true → AllAfter key more
    → list_all (λ (next : End). is_before (key ∷ path) next.0) (map (behind key) front ++ more) ≡ true
before_below key path [] more before after = before_after key path more after
before_below key path (next ∷ front) more before after =
    let (here, rest) = and_parts (is_before path next.0) (list_all (λ (next : End). is_before path next.0) front) before in
    rw (same_key key, here) (before_below key path front more rest after)

rises_key : (key : List ℕ) (front more : List End) → rises front ≡ true → rises more ≡ true → AllAfter key more → rises (map (behind key) front ++ more) ≡ true
rises_key key [] more rise others after = others
rises_key key (end ∷ front) more rise others after =
    let (here, rest) = and_parts (list_all (λ (next : End). is_before end.0 next.0) front) (rises front) rise in
    rw (before_below key end.0 front more here after) (rises_key key front more rest others after)

-- the ends of a tree whose keys rise rise
mutual
  pub rises_tree : (tree : Data) → IsSorted tree → rises (ends tree) ≡ true
  rises_tree (table (member key value more)) sorted = rises_members (member key value more) sorted
  rises_tree (table no_members) sorted = refl
  rises_tree (string text) sorted = refl
  rises_tree (integer number) sorted = refl
  rises_tree (float number) sorted = refl
  rises_tree (boolean truth) sorted = refl
  rises_tree (datetime time) sorted = refl
  rises_tree (array items) sorted = refl

  rises_members : (members : Members) → AreSorted members → rises (members_ends members) ≡ true
  rises_members no_members sorted = refl
  rises_members (member key value more) sorted =
      rises_key key (ends value) (members_ends more) (rises_tree value sorted.1) (rises_members more sorted.2) (after_key key more sorted.0)

-- members are sorted where their keys rise and each is
abbrev pub EachSorted : List Entry → Type 0
EachSorted [] = ⊤
EachSorted (entry ∷ more) = IsSorted (merged_layers entry.1) × EachSorted more

pub each_more : (done : List Entry) (entry : Entry) → EachSorted done → IsSorted (merged_layers entry.1) → EachSorted (done ++ entry ∷ [])
each_more [] entry each here = (here, tt)
each_more (first ∷ done) entry each here = (each.0, each_more done entry each.1 here)

pub members_sorted : (entries : List Entry) → Rises (members_of entries) → EachSorted entries → AreSorted (members_of entries)
members_sorted [] rise each = tt
members_sorted (entry ∷ entries) rise each = (rise.0, each.0, members_sorted entries rise.1 each.1)
