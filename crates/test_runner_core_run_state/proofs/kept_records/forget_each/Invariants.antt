use Rattle.std.proofs.Common.{◌≡◌, ◌++◌, map, take, drop}
use Rattle.test_runner_core_run_state.specs.Records.{unwritten}
use Rattle.test_runner_core_run_state.proofs.kept_records.forget_each.Given as goal

abbrev pub invariant-loop-ended : goal.invariant-loop-ended
invariant-loop-ended l = l.records ≡ map unwritten (take l.ended-index l.initial.records) ++ drop l.ended-index l.initial.records
