-- The course of a run, one line further.
use Rattle.std.proofs.Common.{◌≡◌, ℕ, List, [], ◌∷◌, ◌++◌, Result, Ok, refl, sym, ap, ◌∙◌, inl, inr, append_assoc, append-nil}
use Rattle.test_runner_core_line_syntax.specs.Spelling.{Spells}
use Rattle.test_runner_core_line_syntax.specs.declared.log_line.LogLine.{LogLine}
use Rattle.test_runner_core_plan.specs.declared.plan.Plan.{Plan}
use Rattle.test_runner_core_run_model.proofs.Finishing.{keeps_reasons}
use Rattle.test_runner_core_run_model.specs.Finishing.{KeepsReasons}
use Rattle.test_runner_core_run_model.specs.Runs.{Run}
use Rattle.test_runner_core_run_model.specs.State.{State, initial}
use Rattle.test_runner_core_run_model.specs.Step.{step}
use Rattle.test_runner_core_run_model.specs.declared.event.Event.{Event}
use Rattle.test_runner_core_run_model.specs.declared.step_refusal.StepRefusal.{StepRefusal}
use Rattle.test_runner_core_session.specs.Session.{run_plan}
use Rattle.test_runner_core_reporter.specs.Opening.{opening}
use Rattle.test_runner_core_reporter.specs.Parts.{Part}
use Rattle.test_runner_core_reporter.specs.Steps.{parts_after, progress, step_parts}
use Rattle.test_runner_core.specs.Judging.{SpellEvents, event_of}
use Rattle.test_runner_core.specs.Report.{SoFar}

-- one line more
pub events_more : (plan : Plan) (front : List (List ℕ)) (told : List Event) (bytes : List ℕ) (line : LogLine) → SpellEvents plan front told → Spells line bytes
    → SpellEvents plan (front ++ bytes ∷ []) (told ++ event_of plan line ∷ [])
events_more plan [] [] bytes line so_far spells = inr (line, spells, ([], refl, tt))
events_more plan [] (event ∷ told) bytes line so_far spells = absurd so_far
events_more plan (first ∷ front) told bytes line (inl (empty, so_far)) spells = inl (empty, events_more plan front told bytes line so_far spells)
events_more plan (first ∷ front) told bytes line (inr (here, spelled, (rest, is, so_far))) spells =
    inr (here, spelled, (rest ++ event_of plan line ∷ [], ap (λ (t : List Event). t ++ event_of plan line ∷ []) is, events_more plan front rest bytes line so_far spells))

pub events_same : (plan : Plan) (front : List (List ℕ)) (told : List Event) (bytes : List ℕ) → SpellEvents plan front told → bytes ≡ [] → SpellEvents plan (front ++ bytes ∷ []) told
events_same plan [] [] bytes so_far empty = inl (empty, tt)
events_same plan [] (event ∷ told) bytes so_far empty = absurd so_far
events_same plan (first ∷ front) told bytes (inl (none, so_far)) empty = inl (none, events_same plan front told bytes so_far empty)
events_same plan (first ∷ front) told bytes (inr (here, spelled, (rest, is, so_far))) empty = inr (here, spelled, (rest, is, events_same plan front rest bytes so_far empty))

pub run_more : (old : State) (told : List Event) (mid new : State) (event : Event) → Run old told mid → step mid event ≡ Ok new → Run old (told ++ event ∷ []) new
run_more old [] mid new event same taken = (new, ap (λ (s : State). step s event) (sym same) ∙ taken, refl)
run_more old (first ∷ told) mid new event (next, here, run) taken = (next, here, run_more next told mid new event run taken)

-- what is reported of one event more
pub progress_more : (plan : Plan) (old : State) (told : List Event) (mid new : State) (event : Event) → Run old told mid → step mid event ≡ Ok new
    → progress plan (Ok old) (told ++ event ∷ []) ≡ progress plan (Ok old) told ++ step_parts plan event mid new
progress_more plan old [] mid new event same taken =
    ap (λ (r : Result State StepRefusal). parts_after plan event old r ++ progress plan r []) (ap (λ (s : State). step s event) (sym same) ∙ taken)
    ∙ append-nil (step_parts plan event old new) ∙ ap (λ (s : State). step_parts plan event s new) (sym same)
progress_more plan old (first ∷ told) mid new event (next, here, run) taken =
    ap (λ (r : Result State StepRefusal). parts_after plan first old r ++ progress plan r (told ++ event ∷ [])) here
    ∙ ap (λ (t : List Part). step_parts plan first old next ++ t) (progress_more plan next told mid new event run taken)
    ∙ sym (append_assoc (step_parts plan first old next) (progress plan (Ok next) told) (step_parts plan event mid new))
    ∙ ap (λ (r : Result State StepRefusal). (parts_after plan first old r ++ progress plan r told) ++ step_parts plan event mid new) (sym here)

pub so_far_none : (plan : Plan) → SoFar plan [] (initial (run_plan plan)) (opening plan)
so_far_none plan = record { events = []; leads = record { events = tt; run = refl }; told = sym (append-nil (opening plan)) }

pub so_far_same : (plan : Plan) (front : List (List ℕ)) (last : State) (parts : List Part) (bytes : List ℕ) → SoFar plan front last parts → bytes ≡ [] → SoFar plan (front ++ bytes ∷ []) last parts
so_far_same plan front last parts bytes so_far empty =
    record {
      events = so_far.events;
      leads = record { events = events_same plan front so_far.events bytes so_far.leads.events empty; run = so_far.leads.run };
      told = so_far.told;
    }

pub so_far_more : (plan : Plan) (front : List (List ℕ)) (last next : State) (parts : List Part) (bytes : List ℕ) (line : LogLine) → SoFar plan front last parts → Spells line bytes
    → step last (event_of plan line) ≡ Ok next → SoFar plan (front ++ bytes ∷ []) next (parts ++ step_parts plan (event_of plan line) last next)
so_far_more plan front last next parts bytes line so_far spells taken =
    record {
      events = so_far.events ++ event_of plan line ∷ [];
      leads = record {
        events = events_more plan front so_far.events bytes line so_far.leads.events spells;
        run = run_more (initial (run_plan plan)) so_far.events last next (event_of plan line) so_far.leads.run taken;
      };
      told =
          ap (λ (t : List Part). t ++ step_parts plan (event_of plan line) last next) so_far.told
          ∙ append_assoc (opening plan) (progress plan (Ok (initial (run_plan plan))) so_far.events) (step_parts plan (event_of plan line) last next)
          ∙ ap (λ (t : List Part). opening plan ++ t) (sym (progress_more plan (initial (run_plan plan)) so_far.events last next (event_of plan line) so_far.leads.run taken));
    }

-- in a run that went so far no test is over under a reason before there is one
pub reached : (plan : Plan) (front : List (List ℕ)) (last : State) (parts : List Part) → SoFar plan front last parts → KeepsReasons last
reached plan front last parts so_far = keeps_reasons (run_plan plan) so_far.events last so_far.leads.run
