-- That the reports of one unstopped assignment end with one text, and what status 0 says.
use Rattle.std.proofs.Common.{◌≡◌, ℕ, ◌+◌, List, [], ◌∷◌, ◌++◌, map, length, Option, Some, None, refl, sym, ap, ◌∙◌, subst, inl, inr, append-nil}
use Rattle.std.specs.Io.KnownBytes.{Appends}
use Rattle.test_runner_core_inputs.specs.declared.inputs.Inputs.{Inputs}
use Rattle.test_runner_core_log_reader.specs.Items.{Item, Line, Refused}
use Rattle.test_runner_core_planning.specs.Texts.{status_of}
use Rattle.test_runner_core_plan.specs.declared.plan.Plan.{Plan}
use Rattle.test_runner_core_planning.specs.declared.plan_fault.PlanFault.{PlanFault}
use Rattle.test_runner_core_planning.specs.declared.plan_fault.PlanFault.TheVariants as plan_refused
use Rattle.test_runner_core_run_model.proofs.OneEnd as runs
use Rattle.test_runner_core_run_model.proofs.WholeRuns as whole_runs
use Rattle.test_runner_core_run_model.specs.Assignment.{Assignment, IsUnstopped}
use Rattle.test_runner_core_run_model.specs.Counters.{status}
use Rattle.test_runner_core_run_model.specs.Ends.{final_state}
use Rattle.test_runner_core_run_model.specs.State.{State}
use Rattle.test_runner_core_session.specs.Session.{run_plan}
use Rattle.test_runner_core_reporter.specs.Final.{final_parts}
use Rattle.test_runner_core_reporter.specs.Parts.{IsTextOf, Part}
use Rattle.test_runner_core_workspace.specs.Lister.{Answer}
use Rattle.test_runner_core_workspace.specs.declared.record.Binary.{Binary}
use Rattle.test_runner_core.specs.Judging.{Finds}
use Rattle.test_runner_core.specs.Laws.{HasOneReport, StopsWhereDue, SucceedsWhole}
use Rattle.test_runner_core.specs.Outcome.{EndsAsDue, IsRun, IsWholeRun, due_parts}
use Rattle.test_runner_core.specs.Report.{Composed, IsWritten, Judged, exit_status}
use Rattle.test_runner_core.specs.declared.refused_line.RefusedLine.{RefusedLine}
use Rattle.test_runner_core.proofs.Due.{ends_as_its_run, plan_of_run, record_output_of}
use Rattle.test_runner_core.proofs.OneReport.{parted}
use Rattle.test_runner_core_reporter.proofs.Texts.{one_text}
use Rattle.test_runner_core_planning.proofs.OnePlan.{one_plan}

-- ---- the final text that is due

-- its parts come last of a report
due_parts_last : (answer : Binary → Answer) (inputs : Inputs) (log : List Item) (parts : List Part) (code : ℕ) (assigned : Assignment) (whole : IsWholeRun answer inputs log assigned)
    → IsUnstopped (run_plan whole.run.plan) assigned → Composed answer inputs log parts code → parts ≡ record_output_of whole.run ++ due_parts whole.run.plan assigned
due_parts_last answer inputs log parts code assigned whole free composed =
    let run = whole.run in
    let end : run.last ≡ final_state (run_plan run.plan) assigned =
    runs.ends_in_one_state (run_plan run.plan) assigned run.events run.last (plan_of_run answer inputs log run) free run.leads.run whole.agrees whole.no_stop whole.complete in
    (ends_as_its_run answer inputs log parts code run composed).0 ∙ ap (λ (s : State). record_output_of run ++ final_parts run.plan s) end

-- and so does its text
pub record EndsText (plan : Plan) (assigned : Assignment) (text : List ℕ) : Type 0 where
  pub told : List ℕ
  pub final : List ℕ
  pub is : IsTextOf (due_parts plan assigned) final
  pub whole : text ≡ told ++ final

due_text_last : (answer : Binary → Answer) (inputs : Inputs) (log : List Item) (parts : List Part) (code : ℕ) (text : List ℕ) (assigned : Assignment) (whole : IsWholeRun answer inputs log assigned)
    → IsUnstopped (run_plan whole.run.plan) assigned → Composed answer inputs log parts code → IsTextOf parts text → EndsText whole.run.plan assigned text
due_text_last answer inputs log parts code text assigned whole free composed is =
    let last = due_parts_last answer inputs log parts code assigned whole free composed in
    let there = parted (record_output_of whole.run) (due_parts whole.run.plan assigned) text (subst (λ (p : List Part). IsTextOf p text) last is) in
    record { told = there.told; final = there.more; is = there.also; whole = there.whole }

-- whichever whole run of the assignment it is
pub has_one_report : HasOneReport
has_one_report answer inputs assigned log other whole also free parts others code other_code text other_text composed is composed_also is_also =
    let plans : also.run.plan ≡ whole.run.plan = one_plan answer inputs also.run.plan whole.run.plan also.run.built whole.run.built in
    let here = due_text_last answer inputs log parts code text assigned whole free composed is in
    let there = subst (λ (p : Plan). EndsText p assigned other_text) plans
    (due_text_last answer inputs other others other_code other_text assigned also (subst (λ (p : Plan). IsUnstopped (run_plan p) assigned) (sym plans) free) composed_also is_also) in
    let same : there.final ≡ here.final = one_text (due_parts whole.run.plan assigned) there.final here.final there.is here.is in
    (here.final, here.told, there.told, here.is, here.whole, there.whole ∙ ap (λ (t : List ℕ). there.told ++ t) same)

pub stops_where_due : StopsWhereDue
stops_where_due answer inputs assigned log whole =
    let run = whole.run in
    runs.stops_where_due (run_plan run.plan) assigned run.events run.last (plan_of_run answer inputs log run) run.leads.run whole.agrees whole.no_stop whole.complete

-- ---- what a call wrote

-- a report of a log that runs the inputs to their end is written with the final text that is due at
-- its end
pub ends_as_due : (answer : Binary → Answer) (inputs : Inputs) (log : List Item) (parts : List Part) (code : ℕ) (before after : Option (List ℕ))
    → Composed answer inputs log parts code → IsWritten parts before after → EndsAsDue answer inputs log before after
ends_as_due answer inputs log parts code before after composed (text, is, appends) assigned whole free =
    let last = due_text_last answer inputs log parts code text assigned whole free composed is in
    (last.told, (last.final, last.is, subst (Appends before after) last.whole appends))

-- ---- status 0

-- where nothing is found nothing is left
nothing_left : (plan : Plan) (state : State) (number : ℕ) (rest : List Item) → Finds plan state number rest None → rest ≡ []
nothing_left plan state number [] finds = refl
nothing_left plan state number (Line bytes ∷ more) (refusal, refuses, is) = cc
nothing_left plan state number (Refused fault ∷ more) finds = cc

-- a judgement with status 0 found no refused line
judged_well : (answer : Binary → Answer) (inputs : Inputs) (log : List Item) (parts : List Part) (plan : Plan) → (judged : Judged plan log parts 0)
    → (found : Option RefusedLine) → judged.found ≡ found → (log ≡ map Line judged.front) × (status judged.last ≡ 0)
judged_well answer inputs log parts plan judged (Some found) is = absurd (let code = judged.status ∙ ap (exit_status judged.last) is in cc)
judged_well answer inputs log parts plan judged None is =
    let none = nothing_left plan judged.last (length judged.front + 1) judged.rest (subst (Finds plan judged.last (length judged.front + 1) judged.rest) is judged.finds) in (
      judged.whole ∙ ap (λ (rest : List Item). map Line judged.front ++ rest) none ∙ append-nil (map Line judged.front),
      sym (judged.status ∙ ap (exit_status judged.last) is),
    )

-- no refusal has status 0
never_zero : (refusal : PlanFault) → 0 ≡ status_of refusal → ⊥
never_zero plan_refused.RepeatedPackage zero = absurd (let none : 0 ≡ 96 = zero in cc)
never_zero plan_refused.UnknownLink zero = absurd (let none : 0 ≡ 96 = zero in cc)
never_zero plan_refused.RepeatedBinary zero = absurd (let none : 0 ≡ 96 = zero in cc)
never_zero plan_refused.UnknownPackage zero = absurd (let none : 0 ≡ 96 = zero in cc)
never_zero plan_refused.BadId zero = absurd (let none : 0 ≡ 96 = zero in cc)
never_zero plan_refused.VersionSource zero = absurd (let none : 0 ≡ 96 = zero in cc)
never_zero plan_refused.VersionError zero = absurd (let none : 0 ≡ 92 = zero in cc)
never_zero plan_refused.UnknownFeature zero = absurd (let none : 0 ≡ 96 = zero in cc)
never_zero (plan_refused.Load why) zero = absurd (let none : 0 ≡ 96 = zero in cc)
never_zero (plan_refused.ProfileNotFound told) zero = absurd (let none : 0 ≡ 96 = zero in cc)
never_zero plan_refused.RepeatedFact zero = absurd (let none : 0 ≡ 96 = zero in cc)
never_zero plan_refused.Filterset zero = absurd (let none : 0 ≡ 96 = zero in cc)
never_zero (plan_refused.ListFault cause) zero = absurd (let none : 0 ≡ 96 = zero in cc)
never_zero plan_refused.EmptyTestName zero = absurd (let none : 0 ≡ 96 = zero in cc)
never_zero plan_refused.BadTestName zero = absurd (let none : 0 ≡ 96 = zero in cc)
never_zero plan_refused.RepeatedTest zero = absurd (let none : 0 ≡ 96 = zero in cc)
never_zero plan_refused.RetriesTooMany zero = absurd (let none : 0 ≡ 96 = zero in cc)

pub succeeds_whole : SucceedsWhole
succeeds_whole answer inputs log parts (inl (refusal, refuses, is, code)) = absurd (never_zero refusal code)
succeeds_whole answer inputs log parts (inr (plan, built, judged)) =
    let well = judged_well answer inputs log parts plan judged judged.found refl in
    let run : IsRun answer inputs log = record {
      plan = plan;
      built = built;
      lines = judged.front;
      whole = well.0;
      events = judged.so_far.events;
      last = judged.last;
      leads = judged.so_far.leads;
    } in
    (run, whole_runs.succeeds_whole (run_plan plan) run.events run.last run.leads.run well.1)
