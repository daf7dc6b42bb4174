use Rattle.std.proofs.Common.{◌≡◌}
use Rattle.toml.specs.View.{members_view}
use Rattle.nextest_config_elements_versions.specs.Demand.{keys_in}
use Rattle.nextest_config_elements_versions.proofs.Names.{joined}
use Rattle.nextest_config_elements_versions.proofs.features.keys_in.Given as goal

-- the names so far, and then those that are ahead
abbrev pub invariant-loop-name : goal.invariant-loop-name
invariant-loop-name l = keys_in (members_view l.table.entries) ≡ joined l.names (keys_in (members_view l.name-iterator))
