use Rattle.nextest_config_resolution_profiles.proofs.Enabling.{more_enable_no_fewer}
use Rattle.nextest_config_resolution_profiles.proofs.laws.more_enable_no_fewer.Goals as goal

pub returns : goal.returns
returns g c = more_enable_no_fewer g.F.Filters.on_test g.row.S.Denot
