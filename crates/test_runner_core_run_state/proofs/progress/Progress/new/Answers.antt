use Rattle.std.proofs.Common.{◌≡◌, length, rules}
use Rattle.test_runner_core_run_state.proofs.Totals.{fresh, is_nothing}
use Rattle.test_runner_core_run_state.proofs.progress.Progress.new.Goals as goal

pub invariant_of-result : goal.invariant_of-result
invariant_of-result g c =
    let count : c.len-initial_run_count.result ≡ length c.args.tests.items = search rules in
    fresh c.args.scripts c.len-initial_run_count.result c.args.skipped c.in_ok-new.field-0 c.new-2.result c.args.tests.items c.args.limit c.default.result
    c.in_ok-new.ensures c.new-2.ensures count (is_nothing c.default.result c.default.ensures)
