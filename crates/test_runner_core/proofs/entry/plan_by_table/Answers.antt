use Rattle.std.proofs.Common.{subst}
use Rattle.test_runner_core_workspace.specs.Lister.{table_answer}
use Rattle.test_runner_core_workspace.specs.declared.record.Binary.{Binary}
use Rattle.test_runner_core_workspace.specs.declared.record.WorkspaceRecord.{WorkspaceRecord}
use Rattle.test_runner_core_planning.specs.Plan.{Builds}
use Rattle.test_runner_core.proofs.entry.plan_by_table.Goals as goal

pub returns : goal.returns
returns g =
    subst (λ (w : WorkspaceRecord). Builds (λ (binary : Binary). table_answer w binary.id) g.args.inputs g.build.result)
    g.in_ok-lister.ensures.answers g.build.ensures.builds
