use Rattle.nextest_config_resolution_profiles.proofs.Holding.{group_of_settings}
use Rattle.nextest_config_resolution_profiles.proofs.laws.group_of_settings.Goals as goal

pub returns : goal.returns
returns g c = group_of_settings g.F.Filters.on_test g.row.S.Denot g.T.TrackSource.tells
