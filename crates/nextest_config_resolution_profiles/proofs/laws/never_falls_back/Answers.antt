use Rattle.nextest_config_resolution_profiles.specs.Languages.{IsFilterIn}
use Rattle.nextest_config_resolution_profiles.proofs.SetsAll.{never_falls_back}
use Rattle.nextest_config_resolution_profiles.proofs.laws.never_falls_back.Goals as goal

pub returns : goal.returns
returns g c = λ cx.
    never_falls_back g.K.ConfigKey.key _ c.reads_each.ensures (IsFilterIn g.F.Filters.is_parsed g.F.Filters.has_runtime_leaves cx) g.S.Specs.is_parsed g.F.Filters.is_too_deep
