-- Profiles outside of the chosen one's chain change nothing of a report, warnings aside.
use Rattle.std.proofs.Common.{◌≡◌, ℕ, List, ◌++◌, Ok, ap, ◌∙◌, subst, inl, inr}
use Rattle.test_runner_core_inputs.specs.declared.inputs.Inputs.{Inputs}
use Rattle.test_runner_core_log_reader.specs.Items.{Item}
use Rattle.test_runner_core_planning.specs.Plan.{Builds}
use Rattle.test_runner_core_plan.specs.declared.plan.Plan.{Plan}
use Rattle.test_runner_core_reporter.specs.Opening.{opening}
use Rattle.test_runner_core_reporter.specs.Parts.{IsTextOf, Part}
use Rattle.test_runner_core_workspace.specs.Lister.{Answer}
use Rattle.test_runner_core_workspace.specs.declared.record.Binary.{Binary}
use Rattle.test_runner_core.specs.Laws.{IsolatesReports}
use Rattle.test_runner_core.specs.Report.{Composed, Judged}
use Rattle.test_runner_core.proofs.Aside.{judged_aside}
use Rattle.test_runner_core.proofs.OneReport.{judged_once, never_planned, parted}
use Rattle.test_runner_core_reporter.proofs.Texts.{one_text}
use Rattle.test_runner_core_planning.proofs.Isolated.{isolates_plans}
use Rattle.test_runner_core_planning.proofs.OnePlan.{one_plan, with_warnings}

-- ---- reports

-- inputs that have a plan are judged by it
judged_by : (answer : Binary → Answer) (inputs : Inputs) (log : List Item) (plan : Plan) (parts : List Part) (code : ℕ) → Builds answer inputs (Ok plan) → Composed answer inputs log parts code
    → Judged plan log parts code
judged_by answer inputs log plan parts code built (inl (refusal, refuses, is, code_is)) = absurd (never_planned answer inputs plan refusal refuses built)
judged_by answer inputs log plan parts code built (inr (same, built_same, judged)) =
    subst (λ (p : Plan). Judged p log parts code) (one_plan answer inputs same plan built_same built) judged

pub isolates_reports : IsolatesReports
isolates_reports answer inputs other log one second differ built built_other parts other_parts code other_code text other_text composed is composed_other is_other =
    let alike : second ≡ with_warnings second.warnings one = isolates_plans answer inputs other one second differ built built_other in
    let judged = judged_by answer other log second other_parts other_code built_other composed_other in
    let aside = judged_aside second.warnings one log other_parts other_code (subst (λ (p : Plan). Judged p log other_parts other_code) alike judged) in
    let once = judged_once one log parts (opening one ++ aside.behind) code other_code (judged_by answer inputs log one parts code built composed) aside.judged in
    let first = parted (opening one) aside.behind text (subst (λ (p : List Part). IsTextOf p text) once.0 is) in
    let next = parted (opening second) aside.behind other_text (subst (λ (p : List Part). IsTextOf p other_text) aside.whole is_other) in (
      once.1,
      record {
        warned = first.told;
        other_warned = next.told;
        behind = first.more;
        opened = first.is;
        other_opened = next.is;
        whole = first.whole;
        other_whole = next.whole ∙ ap (λ (t : List ℕ). next.told ++ t) (one_text aside.behind next.more first.more next.also first.also);
      },
    )
