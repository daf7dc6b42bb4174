use Rattle.nextest_config_resolution_profiles.proofs.SomeSettings.{some_group_for, some_settings_for}
use Rattle.nextest_config_resolution_profiles.proofs.laws.some_settings.Goals as goal

pub returns-clause-settings : goal.returns-clause-settings
returns-clause-settings g c = λ cx.
    some_settings_for g.met.F.Filters.laws cx g.S.Specs.is_parsed g.F.Filters.is_too_deep g.S.Specs.value_on g.T.TrackSource.tells g.T.TrackSource.keeps

pub returns-clause-group : goal.returns-clause-group
returns-clause-group g c = λ cx. some_group_for g.met.F.Filters.laws cx g.S.Specs.is_parsed g.F.Filters.is_too_deep g.S.Specs.value_on
