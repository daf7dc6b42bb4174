-- What exit status and final text say of the run that a log reports, and the report of a stream.
use Rattle.std.specs.Prelude.{◌≡◌, ◌⊎◌, ◌↔◌, ℕ, true, List, [], ◌++◌, map, Option, Result, Ok, Err, ⊤}
use Rattle.std.specs.Io.KnownBytes.{Appends}
use Rattle.std.specs.List.{AllByRecursion}
use Rattle.test_runner_core_inputs.specs.Reading.{read_inputs}
use Rattle.test_runner_core_inputs.specs.declared.inputs.Inputs.{Inputs}
use Rattle.test_runner_core_inputs.specs.declared.inputs_error.InputsRefusal.{InputsRefusal}
use Rattle.test_runner_core_log_reader.specs.Feeds.{IsPlain, before_feed, behind_feed}
use Rattle.test_runner_core_log_reader.specs.Items.{Item, Line, items, whole_lines}
use Rattle.test_runner_core_planning.specs.Plan.{Builds, Plans}
use Rattle.test_runner_core_plan.specs.declared.plan.Plan.{Plan}
use Rattle.test_runner_core_planning.specs.declared.plan_fault.PlanFault.{PlanFault}
use Rattle.test_runner_core_run_model.specs.Assignment.{Assignment, IsUnstopped, due_status}
use Rattle.test_runner_core_run_model.specs.Ends.{final_state}
use Rattle.test_runner_core_run_model.specs.Runs.{Agrees, IsNoMilder, IsNoStop, is_complete}
use Rattle.test_runner_core_run_model.specs.State.{State, initial}
use Rattle.test_runner_core_run_model.specs.declared.event.Event.{Event}
use Rattle.test_runner_core_session.specs.Session.{run_plan}
use Rattle.test_runner_core_reporter.specs.Final.{final_parts}
use Rattle.test_runner_core_reporter.specs.Parts.{IsTextOf, Part}
use Rattle.test_runner_core_workspace.specs.Lister.{Answer, table_answer}
use Rattle.test_runner_core_workspace.specs.declared.record.Binary.{Binary}
use Rattle.test_runner_core.specs.Judging.{Leads}
use Rattle.test_runner_core.specs.Report.{Begun, Composed, HasSoFar, OfLeft, Reports, refused_inputs}
use Rattle.test_runner_core.specs.declared.judge_fault.JudgeFault.{JudgeFault}

-- the run of these inputs by a log: no line of the log is refused
pub record IsRun (answer : Binary → Answer) (inputs : Inputs) (log : List Item) : Type 0 where
  pub plan : Plan
  pub built : Builds answer inputs (Ok plan)
  pub lines : List (List ℕ)
  pub whole : log ≡ map Line lines
  pub events : List Event
  pub last : State
  pub leads : Leads plan lines events last

-- it agrees with an assignment
abbrev pub RunAgrees : {answer : Binary → Answer} {inputs : Inputs} {log : List Item} → IsRun answer inputs log → Assignment → Type 0
RunAgrees run assigned = Agrees assigned (initial (run_plan run.plan)) run.events

-- a log runs these inputs to their end as it is assigned: no line is refused, the run agrees with
-- the assignment, it is complete, and nobody asks it to stop
pub record IsWholeRun (answer : Binary → Answer) (inputs : Inputs) (log : List Item) (assigned : Assignment) : Type 0 where
  pub run : IsRun answer inputs log
  pub agrees : RunAgrees run assigned
  pub complete : is_complete run.last ≡ true
  pub no_stop : AllByRecursion IsNoStop run.events

-- an exit status is due: of a log that runs the inputs to their end it is the status that is due to
-- the assignment
abbrev pub IsDue : (Binary → Answer) → Inputs → List Item → ℕ → Type 0
IsDue answer inputs log code =
    (assigned : Assignment) (whole : IsWholeRun answer inputs log assigned) → code ≡ due_status (run_plan whole.run.plan) assigned

-- an exit status is no milder than what is due: wherever the log is cut and whoever asked the run
-- to stop, it is the status that is due to the assignment or a graver one, and 4 exactly where 4 is
-- due
abbrev pub IsNoMilderThanDue : (Binary → Answer) → Inputs → List Item → ℕ → Type 0
IsNoMilderThanDue answer inputs log code =
    (assigned : Assignment) (run : IsRun answer inputs log) → RunAgrees run assigned
    → IsNoMilder code (due_status (run_plan run.plan) assigned) × ((code ≡ 4) ↔ (due_status (run_plan run.plan) assigned ≡ 4))

-- the final text that is due to an unstopped assignment: that of the state in which everything
-- ended as it was assigned
abbrev pub due_parts : Plan → Assignment → List Part
due_parts plan assigned = final_parts plan (final_state (run_plan plan) assigned)

-- what was written ends with the text of these parts
abbrev pub EndsWith : List Part → Option (List ℕ) → Option (List ℕ) → Type 0
EndsWith parts before after = (told : List ℕ) × ((text : List ℕ) × IsTextOf parts text × Appends before after (told ++ text))

-- what was written of a log that runs the inputs to their end ends with the final text that is due,
-- if the assignment is unstopped
abbrev pub EndsAsDue : (Binary → Answer) → Inputs → List Item → Option (List ℕ) → Option (List ℕ) → Type 0
EndsAsDue answer inputs log before after =
    (assigned : Assignment) (whole : IsWholeRun answer inputs log assigned) → IsUnstopped (run_plan whole.run.plan) assigned
    → EndsWith (due_parts whole.run.plan assigned) before after

-- what a binary answers by the inputs' own table
abbrev pub table_of : Inputs → Binary → Answer
table_of inputs binary = table_answer inputs.workspace binary.id

-- the report of a first line, as inputs, and a log
abbrev pub LineComposed : Result Inputs InputsRefusal → List Item → List Part → ℕ → Type 0
LineComposed (Ok inputs) log parts code = Composed (table_of inputs) inputs log parts code
LineComposed (Err refusal) log parts code = (parts ≡ refused_inputs refusal) × (code ≡ 96)

abbrev pub LineBegun : Result Inputs InputsRefusal → List Item → List Part → Type 0
LineBegun (Ok inputs) log parts = Begun (table_of inputs) inputs log parts
LineBegun (Err refusal) log parts = (parts ≡ []) ⊎ (parts ≡ refused_inputs refusal)

-- a first line has no plan: it is no inputs, or they are refused
abbrev pub HasNoPlan : Result Inputs InputsRefusal → Type 0
HasNoPlan (Ok inputs) = (refusal : PlanFault) × Plans (table_of inputs) inputs (Err refusal)
HasNoPlan (Err refusal) = ⊤

-- the report of a stream: the bytes before its first line feed are the inputs, those behind it the
-- log
abbrev pub StreamComposed : List ℕ → List Part → ℕ → Type 0
StreamComposed bytes = LineComposed (read_inputs (before_feed bytes)) (items 0 (behind_feed bytes))

abbrev pub StreamBegun : List ℕ → List Part → Type 0
StreamBegun bytes = LineBegun (read_inputs (before_feed bytes)) (items 0 (behind_feed bytes))

-- what the bytes that were got of a stream report: nothing while the first line isn't whole, and
-- then its plan's warnings and the whole lines behind it
abbrev pub StreamHasSoFar : List ℕ → List Part → Type 0
StreamHasSoFar got parts =
    (IsPlain got × (parts ≡ []))
    ⊎ ((inputs : Inputs) × (read_inputs (before_feed got) ≡ Ok inputs) × HasSoFar (table_of inputs) inputs (whole_lines (behind_feed got)) parts)

abbrev pub StreamGotTo : List ℕ → List ℕ → List Part → Type 0
StreamGotTo bytes rest parts = (got : List ℕ) × (bytes ≡ got ++ rest) × StreamHasSoFar got parts

-- of a stream, of which these bytes are left to be read before the call and after it, what is
-- written. Where they aren't known, it is the report of some stream
abbrev pub ReportsStream : Result ℕ JudgeFault → Option (List ℕ) → Option (List ℕ) → Option (List ℕ) → Option (List ℕ) → Type 0
ReportsStream result left rest before after =
    Reports result (λ parts code. OfLeft left (λ bytes. StreamComposed bytes parts code))
    (λ parts. OfLeft left (λ bytes. OfLeft rest (λ behind. StreamGotTo bytes behind parts)))
    (λ parts. OfLeft left (λ bytes. StreamBegun bytes parts)) before after
