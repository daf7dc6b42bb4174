use Rattle.nextest_config_resolution_profiles.proofs.Holding.{no_rules}
use Rattle.nextest_config_resolution_profiles.proofs.laws.no_rules.Goals as goal

pub returns : goal.returns
returns g c = no_rules g.F.Filters.on_test g.row.S.Denot g.T.TrackSource.tells
