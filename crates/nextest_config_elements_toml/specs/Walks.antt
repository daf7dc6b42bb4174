-- Walks over the members of a table, in the order of their keys.
use Rattle.std.specs.Prelude.{◌≡◌, ℕ, Bool, true, false, List, [], ◌∷◌, ◌++◌, Option, None, Some, String, option_copied, string_bytes}
use Rattle.std.specs.Cmp.Lexicographic.{slice_cmp}
use Rattle.std.specs.List.Sorted.{IsStrictlySortedBy}
use Rattle.std.specs.Map.{keys_of}
use Rattle.std.specs.Option.{option_to_list}
use Rattle.std.specs.Ordering.{match_ordering, nat_cmp}
use Rattle.std.specs.Global.{Global}
use Rattle.std.specs.String.{string_cmp}
use denote.Ref.{Bor}
use Rattle.toml.specs.Data.{Data, get_member}
use Rattle.toml.specs.View.{members_view}
use Rattle.toml.specs.declared.value.Value.{Value}
use Rattle.nextest_config_elements_toml.specs.declared.members.Walk.{Walk}

-- a key, and what stands there
abbrev pub Entry : Type 0
Entry = String Global × Value

-- a walk that is past some key is past another
abbrev pub is_passed : Option (Bor (String Global)) → List ℕ → Bool
is_passed None key = false
is_passed (Some passed) key = match_ordering (slice_cmp nat_cmp key (string_bytes passed.now)) true true false

-- where a walk stands, and what comes then
abbrev pub ahead : Option (Bor (String Global) × Bor Value) → List Entry → List Entry
ahead None rest = []
ahead (Some next) rest = (next.0.now, next.1.now) ∷ rest

-- a walk over some members: what it has ahead tells of each key that it isn't past, and keys ascend
-- from the last one that it is past
pub record IsWalk (all : List Entry) (walk : Walk) : Type 0 where
  pub tells : (key : List ℕ) → is_passed walk.passed key ≡ false
      → get_member key (members_view (ahead walk.next walk.rest)) ≡ get_member key (members_view all)
  pub ascends : IsStrictlySortedBy string_cmp (option_to_list (option_copied walk.passed) ++ keys_of (ahead walk.next walk.rest))

-- what a walk that is past some key found under another: what stands there among all members, or
-- nothing, and nothing stands there unless the walk is past it
abbrev pub IsAhead : List Entry → Option (Bor (String Global)) → List ℕ → Option Data → Type 0
IsAhead all passed key (Some it) = Some it ≡ get_member key (members_view all)
IsAhead all passed key None = is_passed passed key ≡ false → None ≡ get_member key (members_view all)
