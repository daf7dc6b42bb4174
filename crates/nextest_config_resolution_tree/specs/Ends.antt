-- A tree as the list of what it ends in.
use Rattle.std.specs.Prelude.{◌≡◌, ℕ, ⊤, Bool, true, false, ◌&&◌, List, [], ◌∷◌, ◌++◌, drop, map, Option, None, Some}
use Rattle.std.specs.List.{list_all}
use Rattle.std.specs.declared.cmp.Ordering.TheVariants.{Less}
use Rattle.std.specs.Ordering.{nat_cmp, match_ordering}
use Rattle.std.specs.Cmp.Lexicographic.{slice_cmp}
use Rattle.toml.specs.Data.{Data, table, Members, no_members, member}
use Rattle.toml.specs.View.{view}
use Rattle.nextest_config_elements_toml.specs.Reading.{Path}
use Rattle.nextest_config_resolution_tree.specs.declared.entry.Entry.{Entry}

-- a leaf or an empty table, and the path that leads to it
abbrev pub End : Type 0
End = Path × Data

-- entries as ends, behind so many keys of their paths
abbrev pub cut : ℕ → Entry → End
cut depth entry = (drop depth entry.path, view entry.value)

abbrev pub ends_of : ℕ → List Entry → List End
ends_of depth entries = map (cut depth) entries

-- an end below a key, and below a path
abbrev pub behind : List ℕ → End → End
behind key end = (key ∷ end.0, end.1)

abbrev pub along : Path → End → End
along path end = (path ++ end.0, end.1)

-- what a tree ends in, an array being a leaf: the ends of its members, in their order
abbrev mutual
  pub ends : Data → List End
  ends (table (member key value more)) = members_ends (member key value more)
  ends leaf = ([], leaf) ∷ []

  pub members_ends : Members → List End
  members_ends no_members = []
  members_ends (member key value more) = map (behind key) (ends value) ++ members_ends more

-- those of what stands somewhere, if anything does
abbrev pub ends_at : Option Data → List End
ends_at None = []
ends_at (Some tree) = ends tree

-- the keys of each table rise by their bytes
abbrev pub IsBefore : List ℕ → Members → Type 0
IsBefore key no_members = ⊤
IsBefore key (member other value more) = (slice_cmp nat_cmp key other ≡ Less) × IsBefore key more

abbrev mutual
  pub IsSorted : Data → Type 0
  IsSorted (table members) = AreSorted members
  IsSorted leaf = ⊤

  pub AreSorted : Members → Type 0
  AreSorted no_members = ⊤
  AreSorted (member key value more) = IsBefore key more × IsSorted value × AreSorted more

abbrev pub SortedAt : Option Data → Type 0
SortedAt None = ⊤
SortedAt (Some tree) = IsSorted tree

-- a path comes before another, key by key by their bytes, and doesn't lead to it
abbrev pub is_before : Path → Path → Bool
is_before [] other = false
is_before (key ∷ path) [] = false
is_before (key ∷ path) (other ∷ way) = match_ordering (slice_cmp nat_cmp key other) true (is_before path way) false

-- each path comes before all behind it, and leads to none of them
abbrev pub rises : List End → Bool
rises [] = true
rises (end ∷ more) = list_all (λ next. is_before end.0 next.0) more && rises more

-- a list is what a tree ends in, of which the keys of each table rise
pub record IsListOf (list : List End) (tree : Data) : Type 0 where
  pub ends : list ≡ ends tree
  pub sorted : IsSorted tree
