use Rattle.test_runner_core.proofs.OneEnd.{has_one_report, stops_where_due}
use Rattle.test_runner_core.proofs.laws.one_report.Goals as goal

pub returns-clause-final_text : goal.returns-clause-final_text
returns-clause-final_text c = has_one_report

pub returns-clause-reason : goal.returns-clause-reason
returns-clause-reason c = stops_where_due
