use Rattle.nextest_config_resolution_profiles.specs.Languages.{IsFilterIn}
use Rattle.nextest_config_resolution_profiles.proofs.Kept.{kept_profile}
use Rattle.nextest_config_resolution_profiles.proofs.laws.kept_profile.Goals as goal

pub returns : goal.returns
returns g c = λ cx. kept_profile (IsFilterIn g.F.Filters.is_parsed g.F.Filters.has_runtime_leaves cx) g.S.Specs.is_parsed g.F.Filters.is_too_deep
