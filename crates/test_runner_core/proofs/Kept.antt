-- What is kept of a run, and what is reported of it.
use Rattle.std.proofs.Common.{◌≡◌, ℕ, Bool, true, false, List, Option, Some, None, Ok, Err, refl, sym, ap, ◌∙◌, subst, inl, inr, ◌&&◌}
use Rattle.std.specs.Prelude.{if◌then◌else◌}
use Rattle.nextest_run_events_results.specs.Result.{is_success}
use Rattle.nextest_run_events_results.specs.declared.record.Record.{Record}
use Rattle.nextest_run_events_results.specs.declared.record.RecordOutput.{RecordOutput}
use Rattle.nextest_run_events_results.specs.declared.record.RecordOutput.TheVariants as wrote
use Rattle.test_runner_core_line_syntax.specs.declared.log_line.LogLine.{LogLine}
use Rattle.test_runner_core_plan.specs.declared.plan.Plan.{Plan}
use Rattle.test_runner_core_plan.specs.declared.plan.PlanTest.{PlanTest}
use Rattle.test_runner_core_run_model.specs.State.{State}
use Rattle.test_runner_core_run_model.specs.Step.{step}
use Rattle.test_runner_core_run_state.specs.Records.{unwritten}
use Rattle.test_runner_core_reporter.specs.Keeping.{IsKeptOf, hides_success, is_settled, record_to_keep}
use Rattle.test_runner_core_reporter.specs.Steps.{step_parts}
use Rattle.test_runner_core_reporter.specs.Writes.{WritesAll, WritesPrefix}
use Rattle.test_runner_core_reporter.proofs.KeptReports.{SayAs, all_as, front_as, kept_final, kept_forgets, kept_refuses, kept_status, kept_step, self_as}
use Rattle.test_runner_core.specs.Inside.{Forgets, kept_event}
use Rattle.test_runner_core.specs.Judging.{Refuses, RefusesBy, event_of}
use Rattle.test_runner_core.specs.Report.{ending, exit_status, refused_line}
use Rattle.test_runner_core.specs.declared.refused_line.LineRefusal.{LineRefusal}
use Rattle.test_runner_core.specs.declared.refused_line.LineRefusal.TheVariants as refused
use Rattle.test_runner_core.specs.declared.refused_line.RefusedLine.{RefusedLine}

-- a line's step, as the run takes it of which this is kept
pub record StepsAs (plan other : Plan) (line : LogLine) (real old now : State) : Type 0 where
  pub next : State
  pub taken : step real (event_of plan line) ≡ Ok next
  pub kept : IsKeptOf plan next now
  pub says : SayAs (step_parts other (kept_event other line) old now) (step_parts plan (event_of plan line) real next)

pub steps_as : (plan other : Plan) (real old now : State) (line : LogLine) → other ≡ plan → IsKeptOf plan real old → step old (kept_event other line) ≡ Ok now
    → StepsAs plan other line real old now
steps_as plan other real old now line same kept taken =
    let here = kept_step plan (event_of plan line) real old now kept (subst (λ (p : Plan). step old (kept_event p line) ≡ Ok now) same taken) in
    record {
      next = here.next;
      taken = here.taken;
      kept = here.kept;
      says = subst (λ (p : Plan). SayAs (step_parts p (kept_event p line) old now) (step_parts plan (event_of plan line) real here.next)) (sym same) here.says;
    }

-- what a settled test wrote may go
pub forgets_as : (plan other : Plan) (real old new : State) → other ≡ plan → IsKeptOf plan real old → Forgets other old new → IsKeptOf plan real new
forgets_as plan other real old new same kept (inl none) = subst (IsKeptOf plan real) (sym none) kept
forgets_as plan other real old new same kept (inr (place, over, is)) =
    subst (IsKeptOf plan real) (sym is) (kept_forgets plan real old place kept (ap (λ (p : Plan). is_settled p old place) (sym same) ∙ over))

-- a refused line
pub refuses_as : (plan other : Plan) (real old : State) (bytes : List ℕ) (refusal : LineRefusal) → other ≡ plan → IsKeptOf plan real old → RefusesBy (kept_event other) old bytes refusal
    → Refuses plan real bytes refusal
refuses_as plan other real old bytes refused.LineTooLong same kept refuses = refuses
refuses_as plan other real old bytes refused.LogTooLong same kept refuses = refuses
refuses_as plan other real old bytes refused.NoLineEnd same kept refuses = refuses
refuses_as plan other real old bytes refused.NotUtf8 same kept refuses = refuses
refuses_as plan other real old bytes refused.BadLine same kept refuses = refuses
refuses_as plan other real old bytes (refused.Step refusal) same kept (line, spells, never) = (
  line,
  spells,
  kept_refuses plan (event_of plan line) real old refusal kept (subst (λ (p : Plan). step old (kept_event p line) ≡ Err refusal) same never),
)

-- the ending of a report
ending_as : (plan : Plan) (last kept : State) (found : Option RefusedLine) → IsKeptOf plan last kept → SayAs (ending plan kept found) (ending plan last found)
ending_as plan last kept None is = kept_final plan last kept is
ending_as plan last kept (Some found) is = self_as (refused_line found)

pub exit_as : (plan : Plan) (last kept : State) (found : Option RefusedLine) → IsKeptOf plan last kept → exit_status kept found ≡ exit_status last found
exit_as plan last kept None is = kept_status plan last kept is
exit_as plan last kept (Some found) is = refl

pub ended_as : (plan : Plan) (kept last : State) (found : Option RefusedLine) (before : Option (List ℕ)) (waited : List ℕ) (after : Option (List ℕ)) (waits : List ℕ)
    → IsKeptOf plan last kept → WritesAll (ending plan kept found) before waited after waits → WritesAll (ending plan last found) before waited after waits
ended_as plan kept last found before waited after waits is = all_as (ending plan kept found) (ending plan last found) before waited after waits (ending_as plan last kept found is)

pub unended_as : (plan : Plan) (kept last : State) (found : Option RefusedLine) (before : Option (List ℕ)) (waited : List ℕ) (after : Option (List ℕ))
    → IsKeptOf plan last kept → WritesPrefix (ending plan kept found) before waited after → WritesPrefix (ending plan last found) before waited after
unended_as plan kept last found before waited after is = front_as (ending plan kept found) (ending plan last found) before waited after (ending_as plan last kept found is)

-- ---- one record

-- nothing was written
pub keeps_unwritten : (tests : List PlanTest) (place : ℕ) (told it : Record) → told.output ≡ wrote.Streams None None → it ≡ told → it ≡ record_to_keep tests place told
keeps_unwritten tests place told it none is = is ∙ sym (by_test (is_success told.result && hides_success tests place))
  where
    by_test : (b : Bool) → (if b then unwritten told else told) ≡ told
    by_test true = ap (λ (output : RecordOutput). record told { output = output }) (sym none)
    by_test false = refl

-- it is a failure
pub keeps_failure : (tests : List PlanTest) (place : ℕ) (told it : Record) → is_success told.result ≡ false → it ≡ told → it ≡ record_to_keep tests place told
keeps_failure tests place told it fails is =
    is ∙ sym (ap (λ (b : Bool). if b && hides_success tests place then unwritten told else told) fails)

-- it may be shown, or a success that is never shown
pub keeps_success : (tests : List PlanTest) (place : ℕ) (told it : Record) (hidden : Bool) → is_success told.result ≡ true → hidden ≡ hides_success tests place
    → it ≡ (if hidden then unwritten told else told) → it ≡ record_to_keep tests place told
keeps_success tests place told it hidden success same is =
    is ∙ ap (λ (b : Bool). if b then unwritten told else told) same
    ∙ sym (ap (λ (b : Bool). if b && hides_success tests place then unwritten told else told) success)
