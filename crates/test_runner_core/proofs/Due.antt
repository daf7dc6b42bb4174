-- The exit status of a report is due, and no milder than what is due.
use Rattle.std.proofs.Common.{◌≡◌, ◌↔◌, ℕ, List, [], ◌++◌, map, None, Ok, refl, sym, ◌∙◌, subst, inr, append-nil}
use Rattle.test_runner_core_inputs.specs.declared.inputs.Inputs.{Inputs}
use Rattle.test_runner_core_log_reader.specs.Items.{Item, Line}
use Rattle.test_runner_core_run_model.proofs.DueStatus as runs
use Rattle.test_runner_core_run_model.proofs.NoMilder as cut_runs
use Rattle.test_runner_core_run_model.specs.Assignment.{due_status}
use Rattle.test_runner_core_run_model.specs.Counters.{status}
use Rattle.test_runner_core_run_model.specs.RunPlan.{IsPlan}
use Rattle.test_runner_core_run_model.specs.Runs.{IsNoMilder}
use Rattle.test_runner_core_run_model.specs.State.{initial}
use Rattle.test_runner_core_session.specs.Session.{run_plan}
use Rattle.test_runner_core_reporter.specs.Final.{final_parts}
use Rattle.test_runner_core_reporter.specs.Opening.{opening}
use Rattle.test_runner_core_reporter.specs.Parts.{Part}
use Rattle.test_runner_core_reporter.specs.Steps.{progress}
use Rattle.test_runner_core_workspace.specs.Lister.{Answer}
use Rattle.test_runner_core_workspace.specs.declared.record.Binary.{Binary}
use Rattle.test_runner_core.specs.Laws.{EndsNoMilder, EndsWithDueStatus}
use Rattle.test_runner_core.specs.Outcome.{IsRun}
use Rattle.test_runner_core.specs.Report.{Composed, Judged}
use Rattle.test_runner_core.proofs.Built.{built_is_plan}
use Rattle.test_runner_core.proofs.OneReport.{composed_once}

-- what a run reports before its end
abbrev pub record_output_of : {answer : Binary → Answer} {inputs : Inputs} {log : List Item} → IsRun answer inputs log → List Part
record_output_of run = opening run.plan ++ progress run.plan (Ok (initial (run_plan run.plan))) run.events

-- a log without a refused line has its run's report
run_composes : (answer : Binary → Answer) (inputs : Inputs) (log : List Item) (run : IsRun answer inputs log)
    → Composed answer inputs log (record_output_of run ++ final_parts run.plan run.last) (status run.last)
run_composes answer inputs log run =
    let judged : Judged run.plan log (record_output_of run ++ final_parts run.plan run.last) (status run.last) =
    record {
      front = run.lines;
      rest = [];
      whole = run.whole ∙ sym (append-nil (map Line run.lines));
      last = run.last;
      told = record_output_of run;
      so_far = record { events = run.events; leads = run.leads; told = refl };
      found = None;
      finds = refl;
      composed = refl;
      status = refl;
    } in
    inr (run.plan, run.built, judged)

-- a report of such a log is its run's
pub ends_as_its_run : (answer : Binary → Answer) (inputs : Inputs) (log : List Item) (parts : List Part) (code : ℕ) (run : IsRun answer inputs log)
    → Composed answer inputs log parts code → (parts ≡ record_output_of run ++ final_parts run.plan run.last) × (code ≡ status run.last)
ends_as_its_run answer inputs log parts code run composed =
    composed_once answer inputs log parts (record_output_of run ++ final_parts run.plan run.last) code (status run.last) composed (run_composes answer inputs log run)

-- its plan is one of the laws over runs
pub plan_of_run : (answer : Binary → Answer) (inputs : Inputs) (log : List Item) (run : IsRun answer inputs log) → IsPlan (run_plan run.plan)
plan_of_run answer inputs log run = built_is_plan answer inputs run.built.0 run.plan run.built.1 run.built.2

pub ends_with_due_status : EndsWithDueStatus
ends_with_due_status answer inputs log parts code composed assigned whole =
    let run = whole.run in
    (ends_as_its_run answer inputs log parts code run composed).1
    ∙ runs.ends_with_due_status (run_plan run.plan) assigned run.events run.last (plan_of_run answer inputs log run) run.leads.run whole.agrees whole.no_stop whole.complete

pub ends_no_milder : EndsNoMilder
ends_no_milder answer inputs log parts code composed assigned run agrees =
    let is_plan = plan_of_run answer inputs log run in
    let due = due_status (run_plan run.plan) assigned in
    subst (λ (n : ℕ). IsNoMilder n due × ((n ≡ 4) ↔ (due ≡ 4))) (sym (ends_as_its_run answer inputs log parts code run composed).1) (
      cut_runs.ends_no_milder (run_plan run.plan) assigned run.events run.last is_plan run.leads.run agrees,
      cut_runs.has_four_exactly_where_due (run_plan run.plan) assigned run.events run.last is_plan run.leads.run agrees,
    )
