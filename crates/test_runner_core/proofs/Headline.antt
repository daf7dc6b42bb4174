-- What a call reports keeps the headline.
use Rattle.std.proofs.Common.{◌≡◌, ℕ, List, ◌∷◌, ◌++◌, codes, [], Option, Some, None, IfOk, Result, Ok, Err, ap, ◌∙◌, subst, inl, inr}
use Rattle.test_runner_core_inputs.specs.Reading.{read_inputs}
use Rattle.test_runner_core_inputs.specs.declared.inputs.Inputs.{Inputs}
use Rattle.test_runner_core_inputs.specs.declared.inputs_error.InputsRefusal.{InputsRefusal}
use Rattle.test_runner_core_log_reader.specs.Feeds.{before_feed, behind_feed}
use Rattle.test_runner_core_log_reader.specs.Items.{Item, items}
use Rattle.test_runner_core_plan.specs.declared.plan.Plan.{Plan}
use Rattle.test_runner_core_planning.specs.Plan.{Builds, Plans}
use Rattle.test_runner_core_planning.specs.Texts.{status_of}
use Rattle.test_runner_core_planning.specs.declared.plan_fault.PlanFault.{PlanFault}
use Rattle.test_runner_core_planning.proofs.Listed.{lists_exactly}
use Rattle.test_runner_core_planning.proofs.Once.{plans_once}
use Rattle.test_runner_core_planning.proofs.Selected.{exactly_the_wanted}
use Rattle.test_runner_core_reporter.specs.Parts.{Part, Said}
use Rattle.test_runner_core_reporter.specs.RunEnd.{LF, TAB}
use Rattle.test_runner_core_workspace.specs.Lister.{Answer}
use Rattle.test_runner_core_workspace.specs.declared.record.Binary.{Binary}
use Rattle.test_runner_core.specs.Headline.{Filters, Headline, LineHeadline, ListsExactly, RefusesUnplanned, SelectsExactly, StreamHeadline}
use Rattle.test_runner_core.specs.Outcome.{LineComposed, StreamComposed, table_of}
use Rattle.test_runner_core.specs.Report.{Composed, IsWritten, OfLeft, Reports, refused_plan}
use Rattle.test_runner_core.specs.declared.judge_fault.JudgeFault.{JudgeFault}
use Rattle.test_runner_core.proofs.Due.{ends_no_milder, ends_with_due_status}
use Rattle.test_runner_core.proofs.OneEnd.{ends_as_due}
use Rattle.test_runner_core.proofs.OneReport.{never_planned}

-- the filters in force by which a plan was built
filters_of : (answer : Binary → Answer) (inputs : Inputs) (plan : Plan) → Builds answer inputs (Ok plan) → Filters inputs
filters_of answer inputs plan (it, planned, is) =
    let chosen = planned.found.answers.chosen in
    record { choice = it.choice; sets = planned.found.answers.sets; force = chosen.0; in_force = chosen.1 }

selects_exactly : (answer : Binary → Answer) (inputs : Inputs) (plan : Plan) → Builds answer inputs (Ok plan) → SelectsExactly answer inputs plan
selects_exactly answer inputs plan built =
    record { some = filters_of answer inputs plan built; exactly = λ by. exactly_the_wanted answer inputs plan by.choice by.force built by.sets by.in_force }

lists_exactly_by : (answer : Binary → Answer) (inputs : Inputs) (plan : Plan) → Builds answer inputs (Ok plan) → ListsExactly inputs plan
lists_exactly_by answer inputs plan built =
    record { some = filters_of answer inputs plan built; exactly = λ by. lists_exactly answer inputs plan by.choice by.force built by.sets by.in_force }

-- inputs that were refused once are refused for nothing else
refuses_unplanned : (answer : Binary → Answer) (inputs : Inputs) (found : PlanFault) (code : ℕ) (before after : Option (List ℕ)) → Plans answer inputs (Err found)
    → IsWritten (refused_plan found) before after → code ≡ status_of found → RefusesUnplanned answer inputs code before after
refuses_unplanned answer inputs found code before after refuses written status = λ refusal also.
    let same = plans_once answer inputs (Err found) (Err refusal) refuses also in (
      subst (λ (p : List Part). IsWritten p before after) (ap (λ (name : List ℕ). Said (codes "refused" ++ TAB ∷ name ++ LF ∷ []) ∷ []) same.0) written,
      status ∙ same.1,
    )

refuses_so : (answer : Binary → Answer) (inputs : Inputs) (log : List Item) (parts : List Part) (code : ℕ) (before after : Option (List ℕ)) (refusal : PlanFault)
    → Composed answer inputs log parts code → IsWritten parts before after → Plans answer inputs (Err refusal) → IsWritten (refused_plan refusal) before after × (code ≡ status_of refusal)
refuses_so answer inputs log parts code before after refusal (inl (other, refuses, is, status)) written also =
    refuses_unplanned answer inputs other code before after refuses (subst (λ (p : List Part). IsWritten p before after) is written) status refusal also
refuses_so answer inputs log parts code before after refusal (inr (plan, built, judged)) written also = absurd (never_planned answer inputs plan refusal also built)

plans_else : (answer : Binary → Answer) (inputs : Inputs) (log : List Item) (parts : List Part) (code : ℕ) → Composed answer inputs log parts code
    → ((refusal : PlanFault) → ¬ Plans answer inputs (Err refusal)) → (plan : Plan) × Builds answer inputs (Ok plan)
plans_else answer inputs log parts code (inl (refusal, refuses, is, status)) none = absurd (none refusal refuses)
plans_else answer inputs log parts code (inr (plan, built, judged)) none = (plan, built)

-- a report that is written keeps it
keeps_headline : (answer : Binary → Answer) (inputs : Inputs) (log : List Item) (parts : List Part) (code : ℕ) (before after : Option (List ℕ))
    → Composed answer inputs log parts code → IsWritten parts before after → Headline answer inputs log code before after
keeps_headline answer inputs log parts code before after composed written = record {
  refuses = λ refusal refuses. refuses_so answer inputs log parts code before after refusal composed written refuses;
  plans = plans_else answer inputs log parts code composed;
  selects = selects_exactly answer inputs;
  lists = lists_exactly_by answer inputs;
  report = (parts, composed, written);
  due = ends_with_due_status answer inputs log parts code composed;
  one_report = ends_as_due answer inputs log parts code before after composed written;
  no_milder = ends_no_milder answer inputs log parts code composed;
}

line_keeps_headline : (line : Result Inputs InputsRefusal) (log : List Item) (parts : List Part) (code : ℕ) (before after : Option (List ℕ)) → LineComposed line log parts code → IsWritten parts before after
    → LineHeadline line log code before after
line_keeps_headline (Ok inputs) log parts code before after composed written = keeps_headline (table_of inputs) inputs log parts code before after composed written
line_keeps_headline (Err refusal) log parts code before after (is, status) written = (subst (λ (p : List Part). IsWritten p before after) is written, status)

-- ---- what a call answers

-- what holds where a report is written holds where one is answered
answered : (IsReport : List Part → ℕ → Type 0) (IsGot IsBegun : List Part → Type 0) (P : ℕ → Type 0) (result : Result ℕ JudgeFault) (before after : Option (List ℕ))
    → Reports result IsReport IsGot IsBegun before after → ((parts : List Part) (code : ℕ) → IsReport parts code → IsWritten parts before after → P code) → IfOk result P
answered IsReport IsGot IsBegun P (Ok code) before after (parts, is, written) holds = holds parts code is written
answered IsReport IsGot IsBegun P (Err e) before after reports holds = tt

log_keeps : (answer : Binary → Answer) (inputs : Inputs) (left : Option (List ℕ)) (parts : List Part) (code : ℕ) (before after : Option (List ℕ))
    → OfLeft left (λ bytes. Composed answer inputs (items 0 bytes) parts code) → IsWritten parts before after → OfLeft left (λ bytes. Headline answer inputs (items 0 bytes) code before after)
log_keeps answer inputs None parts code before after (bytes, composed) written = (bytes, keeps_headline answer inputs (items 0 bytes) parts code before after composed written)
log_keeps answer inputs (Some bytes) parts code before after composed written = keeps_headline answer inputs (items 0 bytes) parts code before after composed written

pub headline : (answer : Binary → Answer) (inputs : Inputs) (left : Option (List ℕ)) (IsGot IsBegun : List Part → Type 0) (result : Result ℕ JudgeFault) (before after : Option (List ℕ))
    → Reports result (λ parts code. OfLeft left (λ bytes. Composed answer inputs (items 0 bytes) parts code)) IsGot IsBegun before after
    → IfOk result (λ code. OfLeft left (λ bytes. Headline answer inputs (items 0 bytes) code before after))
headline answer inputs left IsGot IsBegun result before after reports =
    answered _ IsGot IsBegun _ result before after reports (λ parts code composed written. log_keeps answer inputs left parts code before after composed written)

stream_keeps : (left : Option (List ℕ)) (parts : List Part) (code : ℕ) (before after : Option (List ℕ))
    → OfLeft left (λ bytes. StreamComposed bytes parts code) → IsWritten parts before after → OfLeft left (λ bytes. StreamHeadline bytes code before after)
stream_keeps None parts code before after (bytes, composed) written =
    (bytes, line_keeps_headline (read_inputs (before_feed bytes)) (items 0 (behind_feed bytes)) parts code before after composed written)
stream_keeps (Some bytes) parts code before after composed written =
    line_keeps_headline (read_inputs (before_feed bytes)) (items 0 (behind_feed bytes)) parts code before after composed written

pub stream_headline : (left : Option (List ℕ)) (IsGot IsBegun : List Part → Type 0) (result : Result ℕ JudgeFault) (before after : Option (List ℕ))
    → Reports result (λ parts code. OfLeft left (λ bytes. StreamComposed bytes parts code)) IsGot IsBegun before after
    → IfOk result (λ code. OfLeft left (λ bytes. StreamHeadline bytes code before after))
stream_headline left IsGot IsBegun result before after reports =
    answered _ IsGot IsBegun _ result before after reports (λ parts code composed written. stream_keeps left parts code before after composed written)
