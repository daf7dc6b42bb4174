use Rattle.nextest_config_resolution_settings.proofs.Unique.{one_setting}
use Rattle.nextest_config_resolution_settings.proofs.laws.one_setting.Goals as goal

pub returns : goal.returns
returns g c = one_setting g.R.Rule.id g.R.Sets.value g.P.Sets.value
