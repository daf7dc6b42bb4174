-- How the run of a plan goes by the lines of a log.
use Rattle.std.specs.Prelude.{◌≡◌, ◌⊎◌, ℕ, List, [], ◌∷◌, Option, None, Some, Err, ⊤}
use Rattle.test_runner_core_log_reader.specs.Items.{Item, Line, Refused}
use Rattle.test_runner_core_log_reader.specs.declared.fault.LineFault.{LineFault}
use Rattle.test_runner_core_log_reader.specs.declared.fault.LineFault.TheVariants as faults
use Rattle.test_runner_core_line_syntax.specs.Reading.{ReadsLine}
use Rattle.test_runner_core_line_syntax.specs.Spelling.{Spells}
use Rattle.test_runner_core_line_syntax.specs.declared.log_line.LogLine.{LogLine}
use Rattle.test_runner_core_line_syntax.specs.declared.log_line.LogLine.TheVariants as lines
use Rattle.test_runner_core_line_syntax.specs.declared.parse_line_error.ParseLineError.TheVariants as unread
use Rattle.test_runner_core_plan.specs.declared.plan.Plan.{Plan}
use Rattle.test_runner_core_run_model.specs.Runs.{Run}
use Rattle.test_runner_core_run_model.specs.State.{State, initial}
use Rattle.test_runner_core_run_model.specs.Step.{step}
use Rattle.test_runner_core_run_model.specs.declared.event.Event.{Event}
use Rattle.test_runner_core_run_model.specs.declared.event.Event.TheVariants as events
use Rattle.test_runner_core_session.specs.Names.{script_place}
use Rattle.test_runner_core_session.specs.Session.{place_in, run_plan}
use Rattle.test_runner_core.specs.declared.refused_line.LineRefusal.{LineRefusal}
use Rattle.test_runner_core.specs.declared.refused_line.LineRefusal.TheVariants as refused
use Rattle.test_runner_core.specs.declared.refused_line.RefusedLine.{RefusedLine}

-- the event of a line, by the places of its names
abbrev pub event_of : Plan → LogLine → Event
event_of plan (lines.Script id ending) = events.ScriptEnded (script_place plan.scripts id) ending
event_of plan (lines.Start binary name) = events.Started (place_in plan binary name)
event_of plan (lines.End binary name ending) = events.Ended (place_in plan binary name) ending
event_of plan (lines.Stop reason) = events.Stopped reason

-- lines report events: each of them is empty, or spells the next event
abbrev pub SpellEvents : Plan → List (List ℕ) → List Event → Type 0
SpellEvents plan [] [] = ⊤
SpellEvents plan [] (event ∷ happened) = ⊥
SpellEvents plan (bytes ∷ more) happened =
    ((bytes ≡ []) × SpellEvents plan more happened)
    ⊎ ((line : LogLine) × Spells line bytes × ((rest : List Event) × (happened ≡ event_of plan line ∷ rest) × SpellEvents plan more rest))

-- lines lead the run of a plan by these events to a state
pub record Leads (plan : Plan) (front : List (List ℕ)) (happened : List Event) (last : State) : Type 0 where
  pub events : SpellEvents plan front happened
  pub run : Run (initial (run_plan plan)) happened last

-- the refusal of a line or a log that is too long, or that is cut
abbrev pub line_refusal_of : LineFault → LineRefusal
line_refusal_of faults.LineTooLong = refused.LineTooLong
line_refusal_of faults.LogTooLong = refused.LogTooLong
line_refusal_of faults.NoLineEnd = refused.NoLineEnd

-- the bytes of a whole line are refused: as no UTF-8, as a bad line, or as the step of its event
-- is, where this is a line's event
abbrev pub RefusesBy : (LogLine → Event) → State → List ℕ → LineRefusal → Type 0
RefusesBy event state bytes refused.LineTooLong = ⊥
RefusesBy event state bytes refused.LogTooLong = ⊥
RefusesBy event state bytes refused.NoLineEnd = ⊥
RefusesBy event state bytes refused.NotUtf8 = ReadsLine bytes (Err unread.NotUtf8)
RefusesBy event state bytes refused.BadLine = ReadsLine bytes (Err unread.BadLine)
RefusesBy event state bytes (refused.Step refusal) = (line : LogLine) × Spells line bytes × (step state (event line) ≡ Err refusal)

-- they are refused in a run of a plan
abbrev pub Refuses : Plan → State → List ℕ → LineRefusal → Type 0
Refuses plan = RefusesBy (event_of plan)

-- the line with this number is the first of these items, and refused; nothing is, where there are
-- none
abbrev pub Finds : Plan → State → ℕ → List Item → Option RefusedLine → Type 0
Finds plan state number [] found = found ≡ None
Finds plan state number (Line bytes ∷ more) found =
    (refusal : LineRefusal) × Refuses plan state bytes refusal × (found ≡ Some (record { line = number; refusal = refusal }))
Finds plan state number (Refused fault ∷ more) found = found ≡ Some (record { line = number; refusal = line_refusal_of fault })
