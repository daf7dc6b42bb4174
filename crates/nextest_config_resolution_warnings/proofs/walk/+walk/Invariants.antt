use Rattle.std.proofs.Common.{◌≡◌, ◌++◌, drop}
use Rattle.toml.specs.View.{items_view, members_view}
use Rattle.nextest_config_resolution_warnings.specs.Keys.{keys_of, place_seen}
use Rattle.nextest_config_resolution_warnings.specs.Steps.{paths_below}
use Rattle.nextest_config_resolution_warnings.specs.Unknown.{unknown_items, unknown_members}
use Rattle.nextest_config_resolution_warnings.proofs.walk.+walk.Given as goal

-- what was found, and what is ahead, are all
abbrev pub invariant-walk_table-members : goal.invariant-walk_table-members
invariant-walk_table-members l = record {
  steps : l.steps.items ≡ l.initial.steps.items;
  found : l.found ++ paths_below l.initial.steps.items (unknown_members (keys_of l.keys) (members_view l.key-iterator))
      ≡ l.initial.found ++ paths_below l.initial.steps.items (unknown_members (keys_of l.keys) (members_view l.table.entries));
}

abbrev pub invariant-walk_items-items : goal.invariant-walk_items-items
invariant-walk_items-items l = record {
  steps : l.steps.items ≡ l.initial.steps.items;
  found : l.found ++ paths_below l.initial.steps.items (unknown_items (place_seen l.place) l.position (items_view (drop l.position l.items.items)))
      ≡ l.initial.found ++ paths_below l.initial.steps.items (unknown_items (place_seen l.place) 0 (items_view l.items.items));
}
