use Rattle.std.proofs.Common.{◌≡◌}
use Rattle.toml.specs.View.{members_view}
use Rattle.nextest_config_resolution_overrides.specs.Groups.{groups_in}
use Rattle.nextest_config_resolution_keys.proofs.OneByOne.{with_more}
use Rattle.nextest_config_resolution_overrides.proofs.groups.groups_in.Given as goal

-- the groups so far, and then those that are ahead
abbrev pub invariant-loop-key : goal.invariant-loop-key
invariant-loop-key l = groups_in (members_view l.table.entries) ≡ with_more l.groups (groups_in (members_view l.key-iterator))
