-- The hash of a name, by which it is found that none stands twice.
use Rattle.std.specs.Prelude.{ℕ, List}
use Rattle.std.specs.Hash.FoldHasher.{finish, initial, write}

-- what the kit's hasher makes of its bytes
abbrev pub hash : List ℕ → ℕ
hash name = finish (write initial name)
