use Rattle.std.proofs.Common.{◌≡◌, ◌++◌}
use Rattle.test_runner_core_planning.proofs.wanted.joined.Given as goal

abbrev pub invariant-loop-text : goal.invariant-loop-text
invariant-loop-text l = l.all ≡ l.fn.first ++ l.yielded
