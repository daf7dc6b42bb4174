use Rattle.nextest_config_resolution_settings.proofs.EachSetting.{same_settings, same_sources, some_settings}
use Rattle.nextest_config_resolution_settings.proofs.laws.same_settings.Goals as goal

pub returns : goal.returns
returns g c = record {
  some = some_settings g.S.TrackSource.tells g.S.TrackSource.keeps;
  settings = same_settings g.S.TrackSource.tells g.T.TrackSource.tells;
  sources = same_sources g.S.TrackSource.tells;
}
