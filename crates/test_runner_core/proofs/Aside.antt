-- Plans that are the same but for their warnings have the same runs, and report the same behind the
-- warnings.
use Rattle.std.proofs.Common.{◌≡◌, ℕ, ◌+◌, List, [], ◌∷◌, ◌++◌, map, length, Option, None, Some, Result, Ok, Err, refl, sym, ap, ◌∙◌, inl, inr, append_assoc}
use Rattle.std.specs.Prelude.{slice_get}
use Rattle.test_runner_core_line_syntax.specs.declared.log_line.LogLine.{LogLine}
use Rattle.test_runner_core_line_syntax.specs.declared.log_line.LogLine.TheVariants as lines
use Rattle.test_runner_core_log_reader.specs.Items.{Item, Line, Refused}
use Rattle.test_runner_core_plan.specs.declared.plan.Plan.{Plan}
use Rattle.test_runner_core_planning.proofs.OnePlan.{with_warnings}
use Rattle.test_runner_core_plan.specs.declared.plan.PlanTest.{PlanTest}
use Rattle.test_runner_core_report_lines.specs.declared.shows.Shows.{Shows}
use Rattle.test_runner_core_run_model.specs.Finishing.{finishing}
use Rattle.test_runner_core_run_model.specs.State.{State, TestState, initial}
use Rattle.test_runner_core_run_model.specs.Step.{step}
use Rattle.test_runner_core_run_model.specs.declared.event.Event.{Event}
use Rattle.test_runner_core_run_model.specs.declared.step_refusal.StepRefusal.{StepRefusal}
use Rattle.test_runner_core_session.specs.Session.{run_plan}
use Rattle.test_runner_core_reporter.specs.Final.{script_parts, shown_part, shown_tests, shows_of}
use Rattle.test_runner_core_reporter.specs.Opening.{opening}
use Rattle.test_runner_core_reporter.specs.Parts.{Part, Said}
use Rattle.test_runner_core_reporter.specs.RunEnd.{end_of, end_text}
use Rattle.test_runner_core_reporter.specs.Steps.{all_done, done, done_at, parts_after, progress}
use Rattle.test_runner_core_reporter.specs.declared.final_text.ShownTest.{ShownTest}
use Rattle.test_runner_core.specs.Judging.{Finds, Refuses, SpellEvents, event_of}
use Rattle.test_runner_core.specs.Report.{Judged, ending}
use Rattle.test_runner_core.specs.declared.refused_line.LineRefusal.{LineRefusal}
use Rattle.test_runner_core.specs.declared.refused_line.LineRefusal.TheVariants as refused
use Rattle.test_runner_core.specs.declared.refused_line.RefusedLine.{RefusedLine}

-- ---- lines

event_aside : (warnings : List (List ℕ)) (plan : Plan) (line : LogLine) → event_of (with_warnings warnings plan) line ≡ event_of plan line
event_aside warnings plan (lines.Script id told) = refl
event_aside warnings plan (lines.Start binary name) = refl
event_aside warnings plan (lines.End binary name told) = refl
event_aside warnings plan (lines.Stop reason) = refl

tells_aside : (warnings : List (List ℕ)) (plan : Plan) (front : List (List ℕ)) (told : List Event) → SpellEvents (with_warnings warnings plan) front told → SpellEvents plan front told
tells_aside warnings plan [] [] writes = writes
tells_aside warnings plan [] (event ∷ told) writes = absurd writes
tells_aside warnings plan (bytes ∷ more) told (inl (empty, writes)) = inl (empty, tells_aside warnings plan more told writes)
tells_aside warnings plan (bytes ∷ more) told (inr (line, spells, (rest, is, writes))) =
    inr (line, spells, (rest, is ∙ ap (λ (event : Event). event ∷ rest) (event_aside warnings plan line), tells_aside warnings plan more rest writes))

refuses_aside : (warnings : List (List ℕ)) (plan : Plan) (state : State) (bytes : List ℕ) (refusal : LineRefusal) → Refuses (with_warnings warnings plan) state bytes refusal → Refuses plan state bytes refusal
refuses_aside warnings plan state bytes refused.LineTooLong refuses = refuses
refuses_aside warnings plan state bytes refused.LogTooLong refuses = refuses
refuses_aside warnings plan state bytes refused.NoLineEnd refuses = refuses
refuses_aside warnings plan state bytes refused.NotUtf8 refuses = refuses
refuses_aside warnings plan state bytes refused.BadLine refuses = refuses
refuses_aside warnings plan state bytes (refused.Step refusal) (line, spells, stepped) =
    (line, spells, ap (λ (event : Event). step state event) (sym (event_aside warnings plan line)) ∙ stepped)

finds_aside : (warnings : List (List ℕ)) (plan : Plan) (state : State) (number : ℕ) (rest : List Item) (found : Option RefusedLine) → Finds (with_warnings warnings plan) state number rest found
    → Finds plan state number rest found
finds_aside warnings plan state number [] found finds = finds
finds_aside warnings plan state number (Line bytes ∷ more) found (refusal, refuses, is) = (refusal, refuses_aside warnings plan state bytes refusal refuses, is)
finds_aside warnings plan state number (Refused fault ∷ more) found finds = finds

-- ---- what is reported

shows_aside : (warnings : List (List ℕ)) (plan : Plan) (test : PlanTest) → shows_of (with_warnings warnings plan) test ≡ shows_of plan test
unfolding shows_of
shows_aside warnings plan test = refl

shown_aside : (warnings : List (List ℕ)) (plan : Plan) (tests : List PlanTest) (states : List TestState) → shown_tests (with_warnings warnings plan) tests states ≡ shown_tests plan tests states
shown_aside warnings plan [] states = refl
shown_aside warnings plan (test ∷ tests) [] = refl
shown_aside warnings plan (test ∷ tests) (state ∷ states) =
    ap (λ (shows : Shows). record { shows = shows; test = record { name = test.instance; state = state } } ∷ shown_tests (with_warnings warnings plan) tests states) (shows_aside warnings plan test)
    ∙ ap (λ (more : List ShownTest). record { shows = shows_of plan test; test = record { name = test.instance; state = state } } ∷ more) (shown_aside warnings plan tests states)

all_done_aside : (warnings : List (List ℕ)) (plan : Plan) (state : State) (places : List ℕ) → all_done (with_warnings warnings plan) state places ≡ all_done plan state places
all_done_aside warnings plan state [] = refl
all_done_aside warnings plan state (place ∷ places) =
    ap (λ (tests : List ShownTest). done (slice_get tests place) ++ all_done (with_warnings warnings plan) state places) (shown_aside warnings plan plan.tests state.tests)
    ∙ ap (λ (parts : List Part). done_at plan state place ++ parts) (all_done_aside warnings plan state places)

parts_aside : (warnings : List (List ℕ)) (plan : Plan) (event : Event) (old : State) (new : Result State StepRefusal) → parts_after (with_warnings warnings plan) event old new ≡ parts_after plan event old new
parts_aside warnings plan event old (Ok new) = all_done_aside warnings plan new (finishing event old new)
parts_aside warnings plan event old (Err refusal) = refl

progress_aside : (warnings : List (List ℕ)) (plan : Plan) (state : Result State StepRefusal) (events : List Event) → progress (with_warnings warnings plan) state events ≡ progress plan state events
progress_aside warnings plan (Err refusal) events = refl
progress_aside warnings plan (Ok state) [] = refl
progress_aside warnings plan (Ok state) (event ∷ more) =
    ap (λ (parts : List Part). parts ++ progress (with_warnings warnings plan) (step state event) more) (parts_aside warnings plan event state (step state event))
    ∙ ap (λ (parts : List Part). parts_after plan event state (step state event) ++ parts) (progress_aside warnings plan (step state event) more)

ending_aside : (warnings : List (List ℕ)) (plan : Plan) (last : State) (found : Option RefusedLine) → ending (with_warnings warnings plan) last found ≡ ending plan last found
ending_aside warnings plan last None =
    ap (λ (tests : List ShownTest). Said (end_text (end_of last)) ∷ (script_parts plan last ++ map shown_part tests)) (shown_aside warnings plan plan.tests last.tests)
ending_aside warnings plan last (Some found) = refl

-- ---- reports

-- what is reported behind the warnings of a plan, and that it is the same of the plan with other
-- ones
pub record ReportsAlike (warnings : List (List ℕ)) (plan : Plan) (log : List Item) (parts : List Part) (code : ℕ) : Type 0 where
  pub behind : List Part
  pub whole : parts ≡ opening (with_warnings warnings plan) ++ behind
  pub judged : Judged plan log (opening plan ++ behind) code

pub judged_aside : (warnings : List (List ℕ)) (plan : Plan) (log : List Item) (parts : List Part) (code : ℕ) → Judged (with_warnings warnings plan) log parts code → ReportsAlike warnings plan log parts code
judged_aside warnings plan log parts code it =
    let begin : Result State StepRefusal = Ok (initial (run_plan plan)) in
    let events = it.so_far.events in
    let told = progress plan begin events in
    let end = ending plan it.last it.found in
    record {
      behind = told ++ end;
      whole = it.composed ∙ ap (λ (t : List Part). t ++ ending (with_warnings warnings plan) it.last it.found) it.so_far.told
          ∙ ap (λ (t : List Part). (opening (with_warnings warnings plan) ++ t) ++ ending (with_warnings warnings plan) it.last it.found) (progress_aside warnings plan begin events)
          ∙ ap (λ (t : List Part). (opening (with_warnings warnings plan) ++ told) ++ t) (ending_aside warnings plan it.last it.found)
          ∙ append_assoc (opening (with_warnings warnings plan)) told end;
      judged = record {
        front = it.front;
        rest = it.rest;
        whole = it.whole;
        last = it.last;
        told = opening plan ++ told;
        so_far = record {
          events = events;
          leads = record { events = tells_aside warnings plan it.front events it.so_far.leads.events; run = it.so_far.leads.run };
          told = refl;
        };
        found = it.found;
        finds = finds_aside warnings plan it.last (length it.front + 1) it.rest it.found it.finds;
        composed = sym (append_assoc (opening plan) told end);
        status = it.status;
      };
    }
