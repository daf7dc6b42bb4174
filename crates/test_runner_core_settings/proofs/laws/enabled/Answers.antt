use Rattle.test_runner_core_settings.proofs.Enabled.{enabled_is_defined, more_enable_no_fewer}
use Rattle.test_runner_core_settings.proofs.laws.enabled.Goals as goal

pub returns : goal.returns
returns c = record { more = more_enable_no_fewer; defined = enabled_is_defined }
