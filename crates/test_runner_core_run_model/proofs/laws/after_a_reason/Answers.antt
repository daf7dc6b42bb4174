use Rattle.test_runner_core_run_model.proofs.Reasons.{refuses_scripts, refuses_starts, keeps_a_reason}
use Rattle.test_runner_core_run_model.proofs.laws.after_a_reason.Goals as goal

pub returns-clause-no_script : goal.returns-clause-no_script
returns-clause-no_script c = refuses_scripts

pub returns-clause-no_start : goal.returns-clause-no_start
returns-clause-no_start c = refuses_starts

pub returns-clause-kept : goal.returns-clause-kept
returns-clause-kept c = keeps_a_reason
