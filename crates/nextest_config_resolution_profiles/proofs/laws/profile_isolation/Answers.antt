use Rattle.nextest_config_resolution_profiles.specs.Languages.{IsFilterIn}
use Rattle.nextest_config_resolution_profiles.proofs.AnswerAlike.{isolates_profiles}
use Rattle.nextest_config_resolution_profiles.proofs.ProfileIsolation as lemma
use Rattle.nextest_config_resolution_profiles.proofs.laws.profile_isolation.Goals as goal

pub returns-clause-values : goal.returns-clause-values
returns-clause-values g c = λ cx. lemma.profile_isolation (IsFilterIn g.F.Filters.is_parsed g.F.Filters.has_runtime_leaves cx) g.S.Specs.is_parsed g.F.Filters.is_too_deep

pub returns-clause-answers : goal.returns-clause-answers
returns-clause-answers g c = λ cx. isolates_profiles g.met.F.Filters.laws cx g.S.Specs.is_parsed g.F.Filters.is_too_deep g.S.Specs.value_on g.met.S.Specs.laws g.T.TrackSource.tells
