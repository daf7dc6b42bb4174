use Rattle.std.proofs.Common.{◌≡◌}
use Rattle.toml.specs.View.{members_view}
use Rattle.nextest_config_resolution_load.specs.File.{profiles_in_file}
use Rattle.nextest_config_resolution_load.proofs.file_reading.read_each.Given as goal
use Rattle.nextest_config_resolution_keys.proofs.OneByOne.{with_more}

-- the profiles so far, and then those that are ahead
abbrev pub invariant-loop-name : goal.invariant-loop-name
invariant-loop-name l = profiles_in_file (members_view l.profiles.entries) ≡ with_more l.found (profiles_in_file (members_view l.name-iterator))
