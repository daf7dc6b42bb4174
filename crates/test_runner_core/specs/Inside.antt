-- What the parts of judging answer and leave.
use Rattle.std.specs.Prelude.{◌≡◌, ◌⊎◌, ℕ, ◌+◌, ◌≤◌, List, true, [], ◌++◌, map, length, Option, None, Some, Result, Ok, Err}
use Rattle.test_runner_core_streams.specs.Left.{OfBytes, OfSomeBytes}
use Rattle.test_runner_core_line_syntax.specs.Spelling.{Spells}
use Rattle.test_runner_core_line_syntax.specs.declared.log_line.LogLine.{LogLine}
use Rattle.test_runner_core_log_reader.specs.Calls.{Hands, HandsAhead, HandsBytes, KeepsAhead, idle_reads}
use Rattle.test_runner_core_log_reader.specs.Cursor.{Cursor, items_ahead, bytes_received}
use Rattle.test_runner_core_log_reader.specs.Feeds.{IsPlain}
use Rattle.test_runner_core_log_reader.specs.Items.{Item, Line, whole_lines}
use Rattle.test_runner_core_log_reader.specs.Limits.{log_reads}
use Rattle.test_runner_core_log_reader.specs.declared.next.Next.{Next}
use Rattle.test_runner_core_plan.specs.declared.plan.Plan.{Plan}
use Rattle.test_runner_core_run_state.specs.Progress.{TakesStep}
use Rattle.test_runner_core_run_model.specs.State.{State}
use Rattle.test_runner_core_run_model.specs.Step.{step}
use Rattle.test_runner_core_run_model.specs.declared.event.Event.{Event}
use Rattle.test_runner_core_session.specs.Session.{SessionState}
use Rattle.test_runner_core_run_state.specs.Records.{state_with, unwritten_at}
use Rattle.test_runner_core_reporter.specs.Keeping.{IsKeptOf, event_to_keep, is_settled}
use Rattle.test_runner_core_reporter.specs.Parts.{Part}
use Rattle.test_runner_core_reporter.specs.Steps.{step_parts}
use Rattle.test_runner_core_reporter.specs.Writes.{MovesOn, WritesAll, WritesPrefix}
use Rattle.test_runner_core_reporter.specs.declared.fault.ReportFault.{ReportFault}
use Rattle.test_runner_core.specs.Judging.{Finds, RefusesBy, event_of}
use Rattle.test_runner_core.specs.Report.{IsWritten, Judged, SoFar}
use Rattle.test_runner_core.specs.declared.judge_fault.JudgeFault.{JudgeFault}
use Rattle.test_runner_core.specs.declared.judge_fault.JudgeFault.TheVariants as fault
use Rattle.test_runner_core.specs.declared.judging_line.LineStep.TheVariants as it
use Rattle.test_runner_core.specs.declared.judging_line.LineStep.{LineStep}
use Rattle.test_runner_core.specs.declared.refused_line.LineRefusal.{LineRefusal}
use Rattle.test_runner_core.specs.declared.refused_line.LineRefusal.TheVariants as refused
use Rattle.test_runner_core.specs.declared.refused_line.RefusedLine.{RefusedLine}

-- the event of a line, as it is kept
abbrev pub kept_event : Plan → LogLine → Event
kept_event plan line = event_to_keep plan (event_of plan line)

-- what the step of a line answers and leaves
abbrev pub Steps : LineStep → SessionState → LogLine → SessionState → Type 0
Steps (it.Taken finished) old line new = (new.plan ≡ old.plan) × TakesStep old.run (kept_event old.plan line) finished new.run
Steps (it.Refused refusal) old line new = (step old.run (kept_event old.plan line) ≡ Err refusal) × (new ≡ old)

-- what is kept of a run stays, or loses the outputs of a settled test
abbrev pub Forgets : Plan → State → State → Type 0
Forgets plan old new = (new ≡ old) ⊎ ((place : ℕ) × (is_settled plan old place ≡ true) × (new ≡ state_with (unwritten_at place) old))

-- what a line's event does, and what is reported of it
abbrev pub StepsLine : Result (Option LineRefusal) ReportFault → SessionState → LogLine → SessionState → Option (List ℕ) → List ℕ → Option (List ℕ) → List ℕ → Type 0
StepsLine (Ok None) old line new before waited after waits =
    (new.plan ≡ old.plan)
    × ((next : State) × (step old.run (kept_event old.plan line) ≡ Ok next) × Forgets old.plan next new.run
    × WritesAll (step_parts old.plan (kept_event old.plan line) old.run next) before waited after waits)
StepsLine (Ok (Some (refused.Step refusal))) old line new before waited after waits =
    (step old.run (kept_event old.plan line) ≡ Err refusal) × (new ≡ old) × WritesAll [] before waited after waits
StepsLine (Ok (Some other)) old line new before waited after waits = ⊥
StepsLine (Err fault) old line new before waited after waits =
    WritesPrefix [] before waited after
    ⊎ ((next : State) × (step old.run (kept_event old.plan line) ≡ Ok next) × WritesPrefix (step_parts old.plan (kept_event old.plan line) old.run next) before waited after)

-- what the bytes of a whole line do
abbrev pub JudgesLine : Result (Option LineRefusal) ReportFault → SessionState → List ℕ → SessionState → Option (List ℕ) → List ℕ → Option (List ℕ) → List ℕ → Type 0
JudgesLine (Ok None) old bytes new before waited after waits =
    ((bytes ≡ []) × (new ≡ old) × WritesAll [] before waited after waits)
    ⊎ ((line : LogLine) × Spells line bytes × StepsLine (Ok None) old line new before waited after waits)
JudgesLine (Ok (Some refusal)) old bytes new before waited after waits =
    RefusesBy (kept_event old.plan) old.run bytes refusal × (new ≡ old) × WritesAll [] before waited after waits
JudgesLine (Err fault) old bytes new before waited after waits =
    (line : LogLine) × Spells line bytes × StepsLine (Err fault) old line new before waited after waits

-- what looking for the next line hands out, and what is written: all that was reported, where a
-- read fails
abbrev pub HandsNext : Result Next JudgeFault → Cursor → Option (List ℕ) → Cursor → Option (List ℕ) → Option (List ℕ) → List ℕ → Option (List ℕ) → List ℕ → Type 0
HandsNext (Ok next) old left new rest before waited after waits =
    Hands old left new rest (Ok next) × HandsAhead old left new rest (Ok next) × HandsBytes (Ok next) old new × WritesAll [] before waited after waits
HandsNext (Err (fault.Read cause)) old left new rest before waited after waits =
    KeepsAhead old left new rest × IsPlain new.waiting × MovesOn before waited after [] []
HandsNext (Err (fault.Write cause)) old left new rest before waited after waits = WritesPrefix [] before waited after
HandsNext (Err fault.Memory) old left new rest before waited after waits = WritesPrefix [] before waited after

-- how often the reader is called for it
abbrev pub ReadsNext : Result Next JudgeFault → Cursor → ℕ → Cursor → ℕ → Type 0
ReadsNext (Ok next) old before new after =
    (after + bytes_received old ≤ before + bytes_received new + idle_reads (Ok next)) × (bytes_received new + idle_reads (Ok next) ≤ log_reads)
ReadsNext (Err (fault.Read cause)) old before new after = (after + bytes_received old ≤ before + bytes_received new + 1) × (bytes_received new + 1 ≤ log_reads)
ReadsNext (Err (fault.Write cause)) old before new after = after ≡ before
ReadsNext (Err fault.Memory) old before new after =
    (after ≡ before) ⊎ ((after + bytes_received old ≤ before + bytes_received new + 1) × (bytes_received new + 1 ≤ log_reads))

-- the items ahead are these lines and then the rest
abbrev pub IsLogOf : Cursor → Option (List ℕ) → List (List ℕ) → List Item → Type 0
IsLogOf begin known front rest = OfBytes known (λ bytes. items_ahead begin bytes ≡ map Line front ++ rest)

-- these are the whole lines of what was got
abbrev pub IsGotOf : Cursor → Option (List ℕ) → Option (List ℕ) → List (List ℕ) → Type 0
IsGotOf begin known left front = OfSomeBytes known left (λ bytes behind. (got : List ℕ) × (begin.waiting ++ bytes ≡ got ++ behind) × (whole_lines got ≡ front))

-- the lines up to the first that is refused were judged, and what they report was reported
pub record JudgedLines (plan : Plan) (last : State) (found : Option RefusedLine) (begin : Cursor) (known before after : Option (List ℕ)) (waits : List ℕ) : Type 0 where
  pub front : List (List ℕ)
  pub rest : List Item
  pub whole : IsLogOf begin known front rest
  pub parts : List Part
  pub so_far : SoFar plan front last parts
  pub finds : Finds plan last (length front + 1) rest found
  pub told : WritesAll parts before [] after waits

-- the whole lines that were got were judged, and what they report was written
pub record GotLines (plan : Plan) (begin : Cursor) (known left before after : Option (List ℕ)) : Type 0 where
  pub front : List (List ℕ)
  pub rest : List Item
  pub whole : IsLogOf begin known front rest
  pub got : IsGotOf begin known left front
  pub last : State
  pub parts : List Part
  pub so_far : SoFar plan front last parts
  pub written : IsWritten parts before after

-- some lines were judged, and a prefix of what they report was written
pub record BegunLines (plan : Plan) (begin : Cursor) (known before after : Option (List ℕ)) : Type 0 where
  pub front : List (List ℕ)
  pub rest : List Item
  pub whole : IsLogOf begin known front rest
  pub last : State
  pub parts : List Part
  pub so_far : SoFar plan front last parts
  pub told : WritesPrefix parts before [] after

-- the same, and this is kept of the run
abbrev pub KeepsJudged : Plan → State → Option RefusedLine → Cursor → Option (List ℕ) → Option (List ℕ) → Option (List ℕ) → List ℕ → Type 0
KeepsJudged plan kept found begin known before after waits =
    (last : State) × IsKeptOf plan last kept × JudgedLines plan last found begin known before after waits

abbrev pub JudgesLines : Result (Option RefusedLine) JudgeFault → Plan → State → Cursor → Option (List ℕ) → Option (List ℕ) → Option (List ℕ) → Option (List ℕ) → List ℕ → Type 0
JudgesLines (Ok found) plan last begin known left before after waits = KeepsJudged plan last found begin known before after waits
JudgesLines (Err (fault.Read cause)) plan last begin known left before after waits = GotLines plan begin known left before after
JudgesLines (Err (fault.Write cause)) plan last begin known left before after waits = BegunLines plan begin known before after
JudgesLines (Err fault.Memory) plan last begin known left before after waits = BegunLines plan begin known before after

-- the same of the items ahead and the bytes got, as parts of a report
abbrev pub IsJudged : Plan → Cursor → Option (List ℕ) → List Part → ℕ → Type 0
IsJudged plan begin known parts code = OfBytes known (λ bytes. Judged plan (items_ahead begin bytes) parts code)

abbrev pub IsGot : Plan → Cursor → Option (List ℕ) → Option (List ℕ) → List Part → Type 0
IsGot plan begin known left parts = (front : List (List ℕ)) × IsGotOf begin known left front × ((last : State) × SoFar plan front last parts)

abbrev pub IsBegun : Plan → Cursor → Option (List ℕ) → List Part → Type 0
IsBegun plan begin known parts =
    (parts ≡ [])
    ⊎ (((front : List (List ℕ)) × ((rest : List Item) × (IsLogOf begin known front rest × ((last : State) × SoFar plan front last parts))))
    ⊎ ((code : ℕ) × IsJudged plan begin known parts code))
