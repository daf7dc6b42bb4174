use Rattle.nextest_config_resolution_profiles.specs.Languages.{IsFilterIn}
use Rattle.nextest_config_resolution_profiles.proofs.SetsAll.{sets_store_dir}
use Rattle.nextest_config_resolution_profiles.proofs.laws.sets_store_dir.Goals as goal

pub returns : goal.returns
returns g c = λ cx. sets_store_dir (IsFilterIn g.F.Filters.is_parsed g.F.Filters.has_runtime_leaves cx) g.S.Specs.is_parsed g.F.Filters.is_too_deep
