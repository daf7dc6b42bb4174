use Rattle.test_runner_core_run_model.proofs.NoMilder.{agrees_where_cut, ends_no_milder, has_four_exactly_where_due}
use Rattle.test_runner_core_run_model.proofs.laws.no_milder.Goals as goal

pub returns-clause-cut : goal.returns-clause-cut
returns-clause-cut c = agrees_where_cut

pub returns-clause-no_milder : goal.returns-clause-no_milder
returns-clause-no_milder c = ends_no_milder

pub returns-clause-selected_nothing : goal.returns-clause-selected_nothing
returns-clause-selected_nothing c = has_four_exactly_where_due
