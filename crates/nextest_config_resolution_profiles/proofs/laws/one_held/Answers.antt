use Rattle.nextest_config_resolution_profiles.proofs.Holding.{one_held, one_scripts_held, same_settings_for, same_sources_for}
use Rattle.nextest_config_resolution_profiles.proofs.laws.one_held.Goals as goal

pub returns : goal.returns
returns g c = record {
  held = one_held g.F.Filters.on_test g.row.S.Denot;
  scripts = one_scripts_held g.F.Filters.on_test g.row.S.Denot;
  settings = same_settings_for g.F.Filters.on_test g.row.S.Denot g.T.TrackSource.tells g.U.TrackSource.tells;
  sources = same_sources_for g.F.Filters.on_test g.row.S.Denot g.T.TrackSource.tells;
}
