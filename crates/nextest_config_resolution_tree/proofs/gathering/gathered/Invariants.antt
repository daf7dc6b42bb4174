use Rattle.std.proofs.Common.{◌≡◌, ℕ, List, ◌++◌, map, BTreeMap, String, Global}
use Rattle.std.specs.List.{AllByRecursion}
use Rattle.toml.specs.View.{table_view}
use Rattle.toml.specs.declared.value.Value.{Value}
use Rattle.nextest_config_resolution_tree.specs.Gathered.{KeysRise, given_at, values_at}
use Rattle.nextest_config_resolution_tree.proofs.gathering.gathered.Given as goal

-- what was gathered, with what is left of the tables; the keys of those that are gathered rise
abbrev pub invariant-loop-table : goal.invariant-loop-table
invariant-loop-table l =
    ((key : List ℕ) → given_at key l.members.entries ++ values_at key (map table_view l.table-iterator.rest.items) ≡ values_at key (map table_view l.fn.tables.items))
    × ((done : List (BTreeMap (String Global) Value)) × (l.fn.tables.items ≡ done ++ l.table-iterator.rest.items) × AllByRecursion KeysRise done)
