use Rattle.std.proofs.Common.{◌≡◌, map}
use Rattle.toml.specs.View.{members_view}
use Rattle.nextest_config_resolution_keys.specs.File.{profiles_in}
use Rattle.nextest_config_resolution_load.specs.Load.{named_of}
use Rattle.nextest_config_resolution_load.proofs.Profiles.{after}
use Rattle.nextest_config_resolution_load.proofs.reading.read_each.Given as goal

-- the profiles so far, and then those that are ahead
abbrev pub invariant-loop-name : goal.invariant-loop-name
invariant-loop-name l = profiles_in (members_view l.profiles.entries) ≡ after (map named_of l.found.items) (profiles_in (members_view l.name-iterator))
