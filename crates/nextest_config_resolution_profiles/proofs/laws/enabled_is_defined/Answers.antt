use Rattle.nextest_config_resolution_profiles.specs.Languages.{IsFilterIn}
use Rattle.nextest_config_resolution_profiles.proofs.Undefined.{enabled_is_defined}
use Rattle.nextest_config_resolution_profiles.proofs.laws.enabled_is_defined.Goals as goal

pub returns : goal.returns
returns g c = λ cx.
    enabled_is_defined (IsFilterIn g.F.Filters.is_parsed g.F.Filters.has_runtime_leaves cx) g.S.Specs.is_parsed g.F.Filters.is_too_deep g.S.Specs.value_on g.F.Filters.on_test
