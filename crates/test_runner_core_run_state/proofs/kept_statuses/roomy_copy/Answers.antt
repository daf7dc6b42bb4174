use Rattle.std.proofs.Common.{◌∙◌}
use Rattle.test_runner_core_run_state.proofs.Clones.{same_attempts}
use Rattle.test_runner_core_run_state.proofs.kept_statuses.roomy_copy.Goals as goal

pub returns-clause-statuses : goal.returns-clause-statuses
returns-clause-statuses c =
    c.in_ok-reserve_one.ensures.statuses
    ∙ c.new-copy.ensures.statuses
    ∙ c.from.ensures
    ∙ same_attempts c.as_slice-attempts.result.now c.in_ok-statuses.statuses.items c.in_ok-statuses.ensures.each
    ∙ c.as_slice-attempts.ensures.statuses
