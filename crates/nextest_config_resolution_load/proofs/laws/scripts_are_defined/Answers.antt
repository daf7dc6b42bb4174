use Rattle.nextest_config_resolution_load.proofs.Defining.{groups_are_defined, scripts_are_defined}
use Rattle.nextest_config_resolution_load.proofs.laws.scripts_are_defined.Goals as goal

pub returns-clause-scripts : goal.returns-clause-scripts
returns-clause-scripts g c = λ cx. scripts_are_defined (g.R.Languages.is_filter cx) g.R.Languages.is_spec

pub returns-clause-groups : goal.returns-clause-groups
returns-clause-groups g c = λ cx. groups_are_defined (g.R.Languages.is_filter cx) g.R.Languages.is_spec
