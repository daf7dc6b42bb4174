use Rattle.nextest_config_resolution_load.proofs.Loads.{none_refused, one_load, one_reason}
use Rattle.nextest_config_resolution_load.proofs.laws.one_load.Goals as goal

pub returns-clause-one : goal.returns-clause-one
returns-clause-one g c = λ cx. one_load (g.R.Languages.is_filter cx) g.R.Languages.is_spec g.R.Languages.is_too_deep

pub returns-clause-no_fault : goal.returns-clause-no_fault
returns-clause-no_fault g c = λ cx. none_refused (g.R.Languages.is_filter cx) g.R.Languages.is_spec g.R.Languages.is_too_deep

pub returns-clause-one_reason : goal.returns-clause-one_reason
returns-clause-one_reason g c = λ cx. one_reason (g.R.Languages.is_filter cx) g.R.Languages.is_spec g.R.Languages.is_too_deep
