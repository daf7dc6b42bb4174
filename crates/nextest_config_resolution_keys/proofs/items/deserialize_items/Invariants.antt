use Rattle.std.proofs.Common.{◌≡◌, drop}
use Rattle.toml.specs.View.{items_view}
use Rattle.nextest_config_resolution_keys.proofs.OneByOne.{with_more}
use Rattle.nextest_config_resolution_keys.specs.Items.{items_in}
use Rattle.nextest_config_resolution_keys.proofs.items.deserialize_items.Given as goal

-- the items so far, and then those that are ahead
abbrev pub invariant-loop-place : goal.invariant-loop-place
invariant-loop-place g l =
    items_in g.T.DeserializeValue.reading 0 (items_view l.items) ≡ with_more l.found (items_in g.T.DeserializeValue.reading l.place (items_view (drop l.place l.items)))
