-- Which exit statuses there are.
use Rattle.std.proofs.Common.{Option, None, Some, refl, arith}
use Rattle.nextest_run_events_counters.specs.declared.summary.FinalRunStats.{FinalRunStats}
use Rattle.nextest_run_events_counters.specs.declared.summary.FinalRunStats.TheVariants as summed
use Rattle.nextest_run_events_counters.specs.declared.summary.RunStatsFailureKind.TheVariants as at
use Rattle.test_runner_core_planning.specs.Texts as refusals
use Rattle.test_runner_core_planning.specs.declared.plan_fault.PlanFault.{PlanFault}
use Rattle.test_runner_core_planning.specs.declared.plan_fault.PlanFault.TheVariants as fault
use Rattle.test_runner_core_run_model.specs.Counters.{status_of, summary}
use Rattle.test_runner_core_run_model.specs.State.{State}
use Rattle.test_runner_core.specs.Report.{IsStatus, exit_status}
use Rattle.test_runner_core.specs.declared.refused_line.RefusedLine.{RefusedLine}

-- of a run
by_summary : (it : FinalRunStats) → IsStatus (status_of it)
by_summary summed.Success = (0, omega arith, refl)
by_summary summed.NoTestsRun = (1, omega arith, refl)
by_summary (summed.Cancelled reason at.SetupScript) = (5, omega arith, refl)
by_summary (summed.Cancelled reason (at.Test count not_run)) = (4, omega arith, refl)
by_summary (summed.Failed at.SetupScript) = (5, omega arith, refl)
by_summary (summed.Failed (at.Test count not_run)) = (4, omega arith, refl)

-- of a report
pub of_report : (last : State) (found : Option RefusedLine) → IsStatus (exit_status last found)
of_report last None = by_summary (summary last)
of_report last (Some found) = (3, omega arith, refl)

-- of a first line that is no inputs
pub of_inputs : IsStatus 96
of_inputs = (3, omega arith, refl)

-- of inputs without a plan
pub of_refusal : (refusal : PlanFault) → IsStatus (refusals.status_of refusal)
of_refusal fault.RepeatedPackage = (3, omega arith, refl)
of_refusal fault.UnknownLink = (3, omega arith, refl)
of_refusal fault.RepeatedBinary = (3, omega arith, refl)
of_refusal fault.UnknownPackage = (3, omega arith, refl)
of_refusal fault.BadId = (3, omega arith, refl)
of_refusal fault.VersionSource = (3, omega arith, refl)
of_refusal fault.VersionError = (2, omega arith, refl)
of_refusal fault.UnknownFeature = (3, omega arith, refl)
of_refusal (fault.Load refusal) = (3, omega arith, refl)
of_refusal (fault.ProfileNotFound missing) = (3, omega arith, refl)
of_refusal fault.RepeatedFact = (3, omega arith, refl)
of_refusal fault.Filterset = (3, omega arith, refl)
of_refusal (fault.ListFault cause) = (3, omega arith, refl)
of_refusal fault.EmptyTestName = (3, omega arith, refl)
of_refusal fault.BadTestName = (3, omega arith, refl)
of_refusal fault.RepeatedTest = (3, omega arith, refl)
of_refusal fault.RetriesTooMany = (3, omega arith, refl)
