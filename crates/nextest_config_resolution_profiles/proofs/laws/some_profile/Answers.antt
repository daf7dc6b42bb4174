use Rattle.nextest_config_resolution_profiles.specs.Languages.{IsFilterIn}
use Rattle.nextest_config_resolution_profiles.proofs.SomeChain.{some_chain}
use Rattle.nextest_config_resolution_profiles.proofs.SomeConfig.{some_config}
use Rattle.nextest_config_resolution_profiles.proofs.laws.some_profile.Goals as goal

pub returns-clause-config : goal.returns-clause-config
returns-clause-config g c = λ cx. some_config (IsFilterIn g.F.Filters.is_parsed g.F.Filters.has_runtime_leaves cx) g.S.Specs.is_parsed g.F.Filters.is_too_deep

pub returns-clause-chain : goal.returns-clause-chain
returns-clause-chain g c = λ cx. some_chain (IsFilterIn g.F.Filters.is_parsed g.F.Filters.has_runtime_leaves cx) g.S.Specs.is_parsed g.F.Filters.is_too_deep
