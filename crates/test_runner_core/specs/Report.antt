-- The report of inputs and a log, and its exit status.
use Rattle.std.specs.Prelude.{◌≡◌, ◌⊎◌, ℕ, ◌+◌, List, [], ◌∷◌, ◌++◌, map, length, codes, decimal, Option, None, Some, Result, Ok, Err}
use Rattle.std.specs.Io.KnownBytes.{Appends}
use Rattle.std.specs.List.{Contains}
use Rattle.test_runner_core_inputs.specs.declared.inputs.Inputs.{Inputs}
use Rattle.test_runner_core_inputs.specs.declared.inputs_error.InputsRefusal.{InputsRefusal}
use Rattle.test_runner_core_inputs.specs.declared.inputs_error.InputsRefusal.TheVariants as unread
use Rattle.test_runner_core_log_reader.specs.Items.{Item, Line, items, whole_lines}
use Rattle.test_runner_core_planning.specs.Plan.{Builds, Plans}
use Rattle.test_runner_core_planning.specs.Texts.{name_of, status_of}
use Rattle.test_runner_core_plan.specs.declared.plan.Plan.{Plan}
use Rattle.test_runner_core_planning.specs.declared.plan_fault.PlanFault.{PlanFault}
use Rattle.test_runner_core_run_model.specs.Counters.{status}
use Rattle.test_runner_core_run_model.specs.State.{State, initial}
use Rattle.test_runner_core_run_model.specs.declared.event.Event.{Event}
use Rattle.test_runner_core_session.specs.Session.{run_plan}
use Rattle.test_runner_core_reporter.specs.Final.{final_parts}
use Rattle.test_runner_core_reporter.specs.Opening.{opening}
use Rattle.test_runner_core_reporter.specs.Parts.{IsTextOf, Part, Said}
use Rattle.test_runner_core_reporter.specs.RunEnd.{LF, TAB}
use Rattle.test_runner_core_reporter.specs.Steps.{progress}
use Rattle.test_runner_core_reporter.specs.Writes.{WritesPrefix}
use Rattle.test_runner_core_workspace.specs.Lister.{Answer}
use Rattle.test_runner_core_workspace.specs.declared.record.Binary.{Binary}
use Rattle.test_runner_core.specs.Judging.{Finds, Leads}
use Rattle.test_runner_core.specs.Texts.{text_of}
use Rattle.test_runner_core.specs.declared.judge_fault.JudgeFault.{JudgeFault}
use Rattle.test_runner_core.specs.declared.judge_fault.JudgeFault.TheVariants as fault
use Rattle.test_runner_core.specs.declared.refused_line.RefusedLine.{RefusedLine}

-- why a line is no inputs
abbrev pub input_words : InputsRefusal → List ℕ
input_words (unread.Field path) = codes "Field" ++ TAB ∷ path
input_words unread.Syntax = codes "Syntax"

-- the one line of refused inputs
abbrev pub refused_inputs : InputsRefusal → List Part
refused_inputs refusal = Said (codes "refused" ++ TAB ∷ input_words refusal ++ LF ∷ []) ∷ []

-- of inputs without a plan
abbrev pub refused_plan : PlanFault → List Part
refused_plan refusal = Said (codes "refused" ++ TAB ∷ name_of refusal ++ LF ∷ []) ∷ []

-- of a refused line of the log
abbrev pub refused_line : RefusedLine → List Part
refused_line found = Said (codes "refused" ++ TAB ∷ codes "line" ++ TAB ∷ decimal found.line ++ TAB ∷ text_of found.refusal ++ LF ∷ []) ∷ []

-- how the report of a run ends: by the first refused line, or else by the final text
abbrev pub ending : Plan → State → Option RefusedLine → List Part
ending plan last None = final_parts plan last
ending plan last (Some found) = refused_line found

-- its exit status: 96 where a line is refused
abbrev pub exit_status : State → Option RefusedLine → ℕ
exit_status last None = status last
exit_status last (Some found) = 96

-- the exit statuses that are ever answered
abbrev pub IsStatus : ℕ → Type 0
IsStatus code = Contains (0 ∷ 4 ∷ 92 ∷ 96 ∷ 100 ∷ 105 ∷ []) code

-- what lines report: the warnings of the plan, and the progress of the run that they lead
pub record SoFar (plan : Plan) (front : List (List ℕ)) (last : State) (parts : List Part) : Type 0 where
  pub events : List Event
  pub leads : Leads plan front events last
  pub told : parts ≡ opening plan ++ progress plan (Ok (initial (run_plan plan))) events

-- the report of a planned run and its exit status: the warnings and the progress up to the first
-- refused line, or the log's end, and the ending
pub record Judged (plan : Plan) (log : List Item) (parts : List Part) (code : ℕ) : Type 0 where
  pub front : List (List ℕ)
  pub rest : List Item
  pub whole : log ≡ map Line front ++ rest
  pub last : State
  pub told : List Part
  pub so_far : SoFar plan front last told
  pub found : Option RefusedLine
  pub finds : Finds plan last (length front + 1) rest found
  pub composed : parts ≡ told ++ ending plan last found
  pub status : code ≡ exit_status last found

-- the report of inputs and a log and its exit status: the inputs have no plan, or their run is
-- judged
abbrev pub Composed : (Binary → Answer) → Inputs → List Item → List Part → ℕ → Type 0
Composed answer inputs log parts code =
    ((refusal : PlanFault) × Plans answer inputs (Err refusal) × (parts ≡ refused_plan refusal) × (code ≡ status_of refusal))
    ⊎ ((plan : Plan) × Builds answer inputs (Ok plan) × Judged plan log parts code)

-- what lines report of the run of these inputs
abbrev pub HasSoFar : (Binary → Answer) → Inputs → List (List ℕ) → List Part → Type 0
HasSoFar answer inputs front parts = (plan : Plan) × Builds answer inputs (Ok plan) × ((last : State) × SoFar plan front last parts)

-- a report, or what its first lines report, or nothing
abbrev pub Begun : (Binary → Answer) → Inputs → List Item → List Part → Type 0
Begun answer inputs log parts =
    (parts ≡ [])
    ⊎ (((front : List (List ℕ)) × ((rest : List Item) × ((log ≡ map Line front ++ rest) × HasSoFar answer inputs front parts)))
    ⊎ ((code : ℕ) × Composed answer inputs log parts code))

-- what the whole lines come to that were got of these bytes, where the rest was not
abbrev pub GotTo : (Binary → Answer) → Inputs → List ℕ → List ℕ → List Part → Type 0
GotTo answer inputs bytes rest parts = (got : List ℕ) × (bytes ≡ got ++ rest) × HasSoFar answer inputs (whole_lines got) parts

-- these parts were written, and nothing else
abbrev pub IsWritten : List Part → Option (List ℕ) → Option (List ℕ) → Type 0
IsWritten parts before after = (text : List ℕ) × IsTextOf parts text × Appends before after text

-- a whole report is written, and its exit status answered; where reading fails, what was begun by
-- the whole lines got is written, and where writing fails or there is no memory a prefix of what
-- was begun
abbrev pub Reports : Result ℕ JudgeFault → (List Part → ℕ → Type 0) → (List Part → Type 0) → (List Part → Type 0) → Option (List ℕ) → Option (List ℕ) → Type 0
Reports (Ok code) IsReport IsGot IsBegun before after = (parts : List Part) × IsReport parts code × IsWritten parts before after
Reports (Err (fault.Read cause)) IsReport IsGot IsBegun before after = (parts : List Part) × IsGot parts × IsBegun parts × IsWritten parts before after
Reports (Err (fault.Write cause)) IsReport IsGot IsBegun before after = (parts : List Part) × IsBegun parts × WritesPrefix parts before [] after
Reports (Err fault.Memory) IsReport IsGot IsBegun before after = (parts : List Part) × IsBegun parts × WritesPrefix parts before [] after

-- it holds of the bytes that a reader has left, where they are known, else of some bytes
abbrev pub OfLeft : Option (List ℕ) → (List ℕ → Type 0) → Type 0
OfLeft None Holds = (bytes : List ℕ) × Holds bytes
OfLeft (Some bytes) Holds = Holds bytes

-- of inputs and a log, of which these bytes are left to be read before the call and after it, what
-- is written. Where they aren't known, it is the report of some log
abbrev pub ReportsLog : (Binary → Answer) → Inputs → Result ℕ JudgeFault → Option (List ℕ) → Option (List ℕ) → Option (List ℕ) → Option (List ℕ) → Type 0
ReportsLog answer inputs result left rest before after =
    Reports result (λ parts code. OfLeft left (λ bytes. Composed answer inputs (items 0 bytes) parts code))
    (λ parts. OfLeft left (λ bytes. OfLeft rest (λ behind. GotTo answer inputs bytes behind parts)))
    (λ parts. OfLeft left (λ bytes. Begun answer inputs (items 0 bytes) parts)) before after
