use Rattle.nextest_config_resolution_profiles.proofs.Holding.{early_default}
use Rattle.nextest_config_resolution_profiles.proofs.laws.early_default.Goals as goal

pub returns : goal.returns
returns g c = early_default g.row.F.Denot g.row.S.Denot
