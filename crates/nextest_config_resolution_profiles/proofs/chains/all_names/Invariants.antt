use Rattle.std.proofs.Common.{◌≡◌, map, take}
use Rattle.nextest_config_resolution_profiles.proofs.chains.all_names.Given as goal

abbrev pub invariant-loop-profile : goal.invariant-loop-profile
invariant-loop-profile l = l.all ≡ map (λ it. it.name) (take l.profile-index l.profiles)
