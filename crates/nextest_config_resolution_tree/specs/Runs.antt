-- What stands at a path, as a run of a list of ends.
use Rattle.std.specs.Prelude.{◌≡◌, ℕ, ◌<◌, Bool, true, false, not, ◌&&◌, List, [], ◌∷◌, ◌++◌, length, map, Option, None, Some, ⊤}
use Rattle.std.specs.List.{list_all}
use Rattle.std.specs.Ordering.{nat_cmp, match_ordering}
use Rattle.std.specs.Cmp.Lexicographic.{slice_cmp}
use Rattle.toml.specs.Data.{Data}
use Rattle.nextest_config_elements_toml.specs.Reading.{Path}
use Rattle.nextest_config_resolution_tree.specs.Ends.{End, behind}

-- the first key of an end's path
abbrev pub first_key : End → Option (List ℕ)
first_key ([], given) = None
first_key (key ∷ path, given) = Some key

-- the run of a key
abbrev pub below : List ℕ → List End → List End
below key [] = []
below key (([], given) ∷ more) = below key more
below key ((first ∷ path, given) ∷ more) =
    match_ordering (slice_cmp nat_cmp first key) (below key more) ((path, given) ∷ below key more) (below key more)

-- and of a path
abbrev pub below_path : Path → List End → List End
below_path [] run = run
below_path (key ∷ path) run = below_path path (below key run)

-- what stands there alone
abbrev pub alone_by : Option (List ℕ) → Data → Option Data
alone_by None given = Some given
alone_by (Some key) given = None

abbrev pub alone : End → Option Data
alone end = alone_by (first_key end) end.1

abbrev pub leaf_of : List End → Option Data
leaf_of [] = None
leaf_of (end ∷ []) = alone end
leaf_of (end ∷ next ∷ more) = None

-- an end comes before all that stands at a key, stands at the key or below it, or comes after that,
-- by the first key of its path
abbrev pub ahead_by : List ℕ → Option (List ℕ) → Bool
ahead_by key None = true
ahead_by key (Some first) = match_ordering (slice_cmp nat_cmp first key) true false false

abbrev pub ahead : List ℕ → End → Bool
ahead key end = ahead_by key (first_key end)

abbrev pub within_by : List ℕ → Option (List ℕ) → Bool
within_by key None = false
within_by key (Some first) = match_ordering (slice_cmp nat_cmp first key) false true false

abbrev pub within : List ℕ → End → Bool
within key end = within_by key (first_key end)

abbrev pub after : List ℕ → End → Bool
after key end = not (ahead key end) && not (within key end)

-- a run is that of its first key, at which something stands, and what stands behind the key
pub record PartsKey (key : List ℕ) (run below rest : List End) : Type 0 where
  pub whole : run ≡ map (behind key) below ++ rest
  pub some : 0 < length below
  pub later : list_all (after key) rest ≡ true

-- nothing stands at a key
abbrev pub HasNoKey : List End → Type 0
HasNoKey [] = ⊤
HasNoKey (([], given) ∷ more) = ⊤
HasNoKey ((key ∷ path, given) ∷ more) = ⊥
