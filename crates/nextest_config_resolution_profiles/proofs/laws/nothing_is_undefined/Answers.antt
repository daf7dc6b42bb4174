use Rattle.nextest_config_resolution_profiles.specs.Languages.{IsFilterIn}
use Rattle.nextest_config_resolution_profiles.proofs.Undefined.{nothing_is_undefined}
use Rattle.nextest_config_resolution_profiles.proofs.laws.nothing_is_undefined.Goals as goal

pub returns : goal.returns
returns g c = λ cx. nothing_is_undefined (IsFilterIn g.F.Filters.is_parsed g.F.Filters.has_runtime_leaves cx) g.S.Specs.is_parsed g.F.Filters.is_too_deep
