use Rattle.nextest_config_resolution_keys.specs.Profile.{profile_in}
use Rattle.std.proofs.Common.{refl}
use Rattle.nextest_config_elements_values.specs.Duration.{units}
use Rattle.nextest_config_resolution_load.specs.File.{file_in, rules_in_profile}
use Rattle.nextest_config_resolution_profiles.proofs.laws.read_as.Goals as goal

pub returns : goal.returns
unfolding units profile_in rules_in_profile file_in
returns c = record { values = refl; file = refl }
