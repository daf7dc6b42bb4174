use Rattle.std.proofs.lemmas.Result.{on_ok_weaker}
use Rattle.test_runner_core_report_lines.proofs.Tries.{test_grown}
use Rattle.test_runner_core_report_lines.proofs.lines.push_test_line.Goals as goal

pub returns-clause-ok : goal.returns-clause-ok
returns-clause-ok c =
    on_ok_weaker c.push_feed.result
    (test_grown _ _ _ _ _ _ _ _ _ _ c.in_ok-push_test.ensures.ok c.in_ok-push_fate.ensures.ok c.in_ok-push_tries.ensures.ok)
    c.push_feed.ensures.ok
