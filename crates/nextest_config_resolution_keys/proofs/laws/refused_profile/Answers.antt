use Rattle.std.proofs.Common.{◌∙◌}
use Rattle.nextest_config_resolution_keys.proofs.Made.{refused_made}
use Rattle.nextest_config_resolution_keys.specs.Profile.{profile_in, profile_tuple_in, profile_values}
use Rattle.nextest_config_resolution_keys.proofs.laws.refused_profile.Goals as goal

pub returns : goal.returns
unfolding profile_in
returns c = λ given. refused_made profile_values (profile_tuple_in given) ∙ c.refused_for.ensures given
