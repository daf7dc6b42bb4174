use Rattle.std.proofs.Common.{◌≡◌, ◌∷◌, ◌++◌, map}
use Rattle.toml.specs.View.{table_view, view}
use Rattle.nextest_config_resolution_tree.specs.Gathered.{leading}
use Rattle.nextest_config_resolution_tree.proofs.merging.with_shown.Given as goal

-- the tables so far, with what shows of what is left
abbrev pub invariant-loop-value : goal.invariant-loop-value
invariant-loop-value l =
    map table_view l.tables.items ++ leading (map view l.value-iterator.rest.items) ≡ table_view l.fn.highest ∷ leading (map view l.fn.lower.items)
