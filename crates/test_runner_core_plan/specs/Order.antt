-- In which order the tests of a plan stand.
use Rattle.std.specs.Ordering.{int_cmp, nat_cmp, ordering_then}
use Rattle.std.specs.declared.cmp.Ordering.{Ordering}
use Rattle.std.specs.Cmp.Lexicographic.{slice_cmp}
use Rattle.nextest_run_events_results.specs.declared.instance.OwnedTestInstanceId.{OwnedTestInstanceId}
use Rattle.test_runner_core_plan.specs.declared.plan.PlanTest.{PlanTest}

-- tests rise by binary id, and then by name, by bytes
abbrev pub instance_cmp : OwnedTestInstanceId → OwnedTestInstanceId → Ordering
instance_cmp a b = ordering_then (slice_cmp nat_cmp a.binary_id b.binary_id) (slice_cmp nat_cmp a.test_name b.test_name)

-- tests of a plan: by greater priority first, then by binary id and by name, by bytes
abbrev pub plan_cmp : PlanTest → PlanTest → Ordering
plan_cmp a b =
    ordering_then (int_cmp b.settings.priority a.settings.priority)
    (instance_cmp a.instance b.instance)
