-- It can't be that inputs and a log have no report with a text.
use Rattle.std.proofs.Common.{◌≡◌, ◌⊎◌, inl, inr, ℕ, ◌+◌, List, [], ◌∷◌, ◌++◌, map, length, Option, None, Some, Result, Ok, Err, refl, ap, subst, arith}
use Rattle.std.specs.Str.{IsUtf8}
use Rattle.nextest_run_events_slices.proofs.SomeSlice.{either_way}
use Rattle.test_runner_core_inputs.specs.declared.inputs.Inputs.{Inputs}
use Rattle.test_runner_core_line_syntax.specs.Spelling.{Spells}
use Rattle.test_runner_core_line_syntax.specs.declared.log_line.LogLine.{LogLine}
use Rattle.test_runner_core_log_reader.specs.Items.{Item, Line, Refused}
use Rattle.test_runner_core_plan.specs.declared.plan.Plan.{Plan}
use Rattle.test_runner_core_planning.proofs.Decided.{decided}
use Rattle.test_runner_core_planning.specs.Plan.{Builds}
use Rattle.test_runner_core_planning.specs.Texts.{status_of}
use Rattle.test_runner_core_planning.specs.declared.plan_error.PlanError.TheVariants as errors
use Rattle.test_runner_core_planning.specs.declared.plan_fault.PlanFault.{PlanFault}
use Rattle.test_runner_core_run_model.specs.Runs.{Run}
use Rattle.test_runner_core_run_model.specs.State.{State, initial}
use Rattle.test_runner_core_run_model.specs.Step.{step}
use Rattle.test_runner_core_run_model.specs.declared.event.Event.{Event}
use Rattle.test_runner_core_run_model.specs.declared.step_refusal.StepRefusal.{StepRefusal}
use Rattle.test_runner_core_session.specs.Session.{run_plan}
use Rattle.test_runner_core_reporter.specs.Opening.{opening}
use Rattle.test_runner_core_reporter.specs.Parts.{Part}
use Rattle.test_runner_core_reporter.specs.Steps.{progress}
use Rattle.test_runner_core_reporter.proofs.Texts.{some_text}
use Rattle.test_runner_core_workspace.specs.Lister.{Answer}
use Rattle.test_runner_core_workspace.specs.declared.record.Binary.{Binary}
use Rattle.test_runner_core.specs.Judging.{Finds, Refuses, SpellEvents, event_of, line_refusal_of}
use Rattle.test_runner_core.specs.Laws.{EndsWithSomeText}
use Rattle.test_runner_core.specs.Report.{Composed, Judged, ending, exit_status, refused_plan}
use Rattle.test_runner_core.specs.declared.refused_line.LineRefusal.{LineRefusal}
use Rattle.test_runner_core.specs.declared.refused_line.LineRefusal.TheVariants as refused
use Rattle.test_runner_core.specs.declared.refused_line.RefusedLine.{RefusedLine}

-- ---- the lines of a log, up to the first that is refused

record Walked (plan : Plan) (state : State) (number : ℕ) (log : List Item) : Type 0 where
  front : List (List ℕ)
  rest : List Item
  whole : log ≡ map Line front ++ rest
  events : List Event
  last : State
  writes : SpellEvents plan front events
  run : Run state events last
  found : Option RefusedLine
  finds : Finds plan last (number + length front) rest found

module _ (plan : Plan) where
  -- the first of them is refused, or there are none
  stops : (state : State) (number : ℕ) (log : List Item) (found : Option RefusedLine) → Finds plan state number log found → Walked plan state number log
  stops state number log found finds = record {
    front = [];
    rest = log;
    whole = refl;
    events = [];
    last = state;
    writes = tt;
    run = refl;
    found = found;
    finds = subst (λ (n : ℕ). Finds plan state n log found) {x = number} {y = number + 0} (omega arith) finds;
  }

  refuses : (state : State) (number : ℕ) (bytes : List ℕ) (more : List Item) (refusal : LineRefusal) → Refuses plan state bytes refusal → Walked plan state number (Line bytes ∷ more)
  refuses state number bytes more refusal is = stops state number (Line bytes ∷ more) (Some (record { line = number; refusal = refusal })) (refusal, is, refl)

  -- behind one line more
  onward : (state mid : State) (number : ℕ) (bytes : List ℕ) (more : List Item) (it : Walked plan mid (number + 1) more) (events : List Event) → SpellEvents plan (bytes ∷ it.front) events → Run state events it.last
      → Walked plan state number (Line bytes ∷ more)
  onward state mid number bytes more it events writes run = record {
    front = bytes ∷ it.front;
    rest = it.rest;
    whole = ap (λ (items : List Item). Line bytes ∷ items) it.whole;
    events = events;
    last = it.last;
    writes = writes;
    run = run;
    found = it.found;
    finds = subst (λ (n : ℕ). Finds plan it.last n it.rest it.found) {x = number + 1 + length it.front} {y = number + length (bytes ∷ it.front)} (omega arith) it.finds;
  }

  walk : (log : List Item) (state : State) (number : ℕ) → ¬ ¬ Walked plan state number log
  walk [] state number never = never (stops state number [] None refl)
  walk (Refused fault ∷ more) state number never = never (stops state number (Refused fault ∷ more) (Some (record { line = number; refusal = line_refusal_of fault })) refl)
  walk (Line [] ∷ more) state number never = walk more state (number + 1) (λ it. never (onward state state number [] more it it.events (inl (refl, it.writes)) it.run))
  walk (Line (byte ∷ bytes) ∷ more) state number never =
      either_way ((line : LogLine) × Spells line (byte ∷ bytes)) (by_line (λ line spells mid is. walk more mid (number + 1) (λ it.
      never (onward state mid number (byte ∷ bytes) more it (event_of plan line ∷ it.events) (inr (line, spells, (it.events, refl, it.writes))) (mid, is, it.run)))))
    where
      by_step : (line : LogLine) → Spells line (byte ∷ bytes) → ((mid : State) → step state (event_of plan line) ≡ Ok mid → ⊥) → (given : Result State StepRefusal) → step state (event_of plan line) ≡ given → ⊥
      by_step line spells goes_on (Ok mid) e = goes_on mid e
      by_step line spells goes_on (Err refusal) e = never (refuses state number (byte ∷ bytes) more (refused.Step refusal) (line, spells, e))

      by_text : ((line : LogLine) → Spells line (byte ∷ bytes) → ⊥) → IsUtf8 (byte ∷ bytes) ⊎ (IsUtf8 (byte ∷ bytes) → ⊥) → ⊥
      by_text none (inl text) = never (refuses state number (byte ∷ bytes) more refused.BadLine (text, (λ e. absurd (let h = e in cc)), none))
      by_text none (inr other) = never (refuses state number (byte ∷ bytes) more refused.NotUtf8 other)

      by_line : ((line : LogLine) → Spells line (byte ∷ bytes) → (mid : State) → step state (event_of plan line) ≡ Ok mid → ⊥)
          → ((line : LogLine) × Spells line (byte ∷ bytes)) ⊎ (((line : LogLine) × Spells line (byte ∷ bytes)) → ⊥) → ⊥
      by_line goes_on (inl (line, spells)) = by_step line spells (goes_on line spells) (step state (event_of plan line)) refl
      by_line goes_on (inr none) = either_way (IsUtf8 (byte ∷ bytes)) (by_text (λ line spells. none (line, spells)))

-- ---- a report

judged_of : (plan : Plan) (log : List Item) (it : Walked plan (initial (run_plan plan)) 1 log)
    → Judged plan log (opening plan ++ progress plan (Ok (initial (run_plan plan))) it.events ++ ending plan it.last it.found) (exit_status it.last it.found)
judged_of plan log it = record {
  front = it.front;
  rest = it.rest;
  whole = it.whole;
  last = it.last;
  told = opening plan ++ progress plan (Ok (initial (run_plan plan))) it.events;
  so_far = record { events = it.events; leads = record { events = it.writes; run = it.run }; told = refl };
  found = it.found;
  finds = subst (λ (n : ℕ). Finds plan it.last n it.rest it.found) {x = 1 + length it.front} {y = length it.front + 1} (omega arith) it.finds;
  composed = refl;
  status = refl;
}

some_composed : (answer : Binary → Answer) (inputs : Inputs) (log : List Item) → ¬ ¬ ((parts : List Part) × ((code : ℕ) × Composed answer inputs log parts code))
some_composed answer inputs log never = decided answer inputs by_plan
  where
    by_plan : ((plan : Plan) × Builds answer inputs (Ok plan)) ⊎ ((refusal : PlanFault) × Builds answer inputs (Err (errors.Refused refusal))) → ⊥
    by_plan (inl (plan, built)) = walk plan log (initial (run_plan plan)) 1 (λ it. never (_, (_, inr (plan, built, judged_of plan log it))))
    by_plan (inr (refusal, is)) = never (refused_plan refusal, (status_of refusal, inl (refusal, is, refl, refl)))

pub some_report : EndsWithSomeText
some_report answer inputs log never =
    some_composed answer inputs log (λ (parts, (code, composed)). some_text parts (λ (text, told). never (record { parts = parts; code = code; text = text; composed = composed; told = told })))
