use Rattle.std.proofs.Common.{◌∙◌}
use Rattle.nextest_config_resolution_keys.proofs.Made.{refused_made}
use Rattle.nextest_config_resolution_overrides.specs.Overrides.{override_in, override_tuple_in, override_values}
use Rattle.nextest_config_resolution_overrides.proofs.laws.refused_override.Goals as goal

pub returns : goal.returns
unfolding override_in
returns c = λ given. refused_made override_values (override_tuple_in given) ∙ c.refused_for.ensures given
