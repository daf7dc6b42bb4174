use Rattle.std.proofs.Common.{◌≡◌, ℕ, List, ◌++◌}
use Rattle.std.specs.List.Sorted.{IsStrictlySortedBy}
use Rattle.std.specs.Map.{keys_of}
use Rattle.std.specs.String.{string_cmp}
use Rattle.toml.specs.View.{members_view}
use Rattle.nextest_config_resolution_tree.specs.Gathered.{given_at, member_at}
use Rattle.nextest_config_resolution_tree.proofs.gathering.add_table.Given as goal

-- what was gathered, with what is left of the table; its keys rise
abbrev pub invariant-loop-key : goal.invariant-loop-key
invariant-loop-key l = record {
  gives : (key : List ℕ) → given_at key l.members.entries ++ member_at key (members_view l.key-iterator) ≡ given_at key l.initial.members.entries ++ member_at key (members_view l.fn.table.entries);
  rises : IsStrictlySortedBy string_cmp (keys_of l.key-iterator);
}
