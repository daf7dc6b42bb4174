-- What holds of every run of a log.
use Rattle.std.specs.Prelude.{◌≡◌, ◌↔◌, ℕ, List, ◌++◌, Option, None, Result, Ok, ⊤}
use Rattle.std.specs.Io.KnownBytes.{Appends}
use Rattle.test_runner_core_inputs.specs.declared.inputs.Inputs.{Inputs}
use Rattle.test_runner_core_log_reader.specs.Items.{Item}
use Rattle.test_runner_core_planning.specs.Laws.{DifferOutside}
use Rattle.test_runner_core_planning.specs.Plan.{Builds}
use Rattle.test_runner_core_plan.specs.declared.plan.Plan.{Plan}
use Rattle.test_runner_core_run_model.specs.Assignment.{Assignment, IsUnstopped}
use Rattle.test_runner_core_run_model.specs.Ends.{EndedWhole}
use Rattle.test_runner_core_run_model.specs.RunPlan.{IsPlan}
use Rattle.test_runner_core_session.specs.Session.{run_plan}
use Rattle.test_runner_core_reporter.specs.Opening.{opening}
use Rattle.test_runner_core_reporter.specs.Parts.{IsTextOf, Part}
use Rattle.test_runner_core_workspace.specs.Lister.{Answer}
use Rattle.test_runner_core_workspace.specs.declared.record.Binary.{Binary}
use Rattle.test_runner_core.specs.Outcome.{IsDue, IsNoMilderThanDue, IsRun, IsWholeRun, due_parts}
use Rattle.test_runner_core.specs.Report.{Begun, Composed, Reports}
use Rattle.test_runner_core.specs.declared.judge_fault.JudgeFault.{JudgeFault}

-- inputs and a log have one report at most: one text and one exit status
abbrev pub EndsWithOneText : Type 0
EndsWithOneText =
    (answer : Binary → Answer) (inputs : Inputs) (log : List Item) (parts other_parts : List Part) (code other_code : ℕ) (text other_text : List ℕ)
    → Composed answer inputs log parts code → Composed answer inputs log other_parts other_code → IsTextOf parts text → IsTextOf other_parts other_text
    → (text ≡ other_text) × (code ≡ other_code)

-- a report of inputs and a log, with its text and its exit status
pub record Reported (answer : Binary → Answer) (inputs : Inputs) (log : List Item) : Type 0 where
  pub parts : List Part
  pub code : ℕ
  pub text : List ℕ
  pub composed : Composed answer inputs log parts code
  pub told : IsTextOf parts text

-- It can't be that they have none. No law decides whether a text is a filterset, so it is said in
-- this form.
abbrev pub EndsWithSomeText : Type 0
EndsWithSomeText = (answer : Binary → Answer) (inputs : Inputs) (log : List Item) → ¬ ¬ Reported answer inputs log

-- what was reported of a report that was begun is a prefix of the whole report
abbrev pub NothingTakenBack : Type 0
NothingTakenBack =
    (answer : Binary → Answer) (inputs : Inputs) (log : List Item) (parts front rest whole : List Part) (code : ℕ) (told text : List ℕ)
    → Begun answer inputs log parts → parts ≡ front ++ rest → IsTextOf front told → Composed answer inputs log whole code → IsTextOf whole text
    → (more : List ℕ) × (text ≡ told ++ more)

-- whatever a call answers, what it wrote is a prefix of the whole report
abbrev pub WrittenFirst : Type 0
WrittenFirst =
    (answer : Binary → Answer) (inputs : Inputs) (log : List Item) (result : Result ℕ JudgeFault) (before after : Option (List ℕ))
    → Reports result (Composed answer inputs log) (λ parts. ⊤) (Begun answer inputs log) before after
    → (whole : List Part) (code : ℕ) (text : List ℕ) → Composed answer inputs log whole code → IsTextOf whole text
    → (written more : List ℕ) × Appends before after written × (text ≡ written ++ more)

-- the exit status of a report is due
abbrev pub EndsWithDueStatus : Type 0
EndsWithDueStatus =
    (answer : Binary → Answer) (inputs : Inputs) (log : List Item) (parts : List Part) (code : ℕ) → Composed answer inputs log parts code
    → IsDue answer inputs log code

-- and no milder than what is due, where the log is cut or reports the run to stop
abbrev pub EndsNoMilder : Type 0
EndsNoMilder =
    (answer : Binary → Answer) (inputs : Inputs) (log : List Item) (parts : List Part) (code : ℕ) → Composed answer inputs log parts code
    → IsNoMilderThanDue answer inputs log code

-- two logs that run the same inputs to their end by one unstopped assignment, in whatever order,
-- have reports that end with one text, the final text that is due
abbrev pub HasOneReport : Type 0
HasOneReport =
    (answer : Binary → Answer) (inputs : Inputs) (assigned : Assignment) (log other : List Item)
    (whole : IsWholeRun answer inputs log assigned) → IsWholeRun answer inputs other assigned → IsUnstopped (run_plan whole.run.plan) assigned
    → (parts other_parts : List Part) (code other_code : ℕ) (text other_text : List ℕ)
    → Composed answer inputs log parts code → IsTextOf parts text → Composed answer inputs other other_parts other_code → IsTextOf other_parts other_text
    → (final told other_told : List ℕ) × IsTextOf (due_parts whole.run.plan assigned) final × (text ≡ told ++ final) × (other_text ≡ other_told ++ final)

-- no reason stands at the end of a log that runs the inputs to their end exactly where the
-- assignment is unstopped
abbrev pub StopsWhereDue : Type 0
StopsWhereDue =
    (answer : Binary → Answer) (inputs : Inputs) (assigned : Assignment) (log : List Item) (whole : IsWholeRun answer inputs log assigned)
    → (whole.run.last.reason ≡ None) ↔ IsUnstopped (run_plan whole.run.plan) assigned

-- a report with status 0 is that of a log without a refused line whose run ended all scripts of the
-- plan and finished all tests
abbrev pub SucceedsWhole : Type 0
SucceedsWhole =
    (answer : Binary → Answer) (inputs : Inputs) (log : List Item) (parts : List Part) → Composed answer inputs log parts 0
    → (run : IsRun answer inputs log) × EndedWhole (run_plan run.plan) run.last

-- a plan that was built is one in the sense of the laws over runs: each test has a try, a limit is
-- one at least, and no script is to run without a test
abbrev pub BuiltIsPlan : Type 0
BuiltIsPlan = (answer : Binary → Answer) (inputs : Inputs) (plan : Plan) → Builds answer inputs (Ok plan) → IsPlan (run_plan plan)

-- two texts are the warnings of two plans, and the same behind them
pub record DifferInWarnings (one second : Plan) (text other_text : List ℕ) : Type 0 where
  pub warned : List ℕ
  pub other_warned : List ℕ
  pub behind : List ℕ
  pub opened : IsTextOf (opening one) warned
  pub other_opened : IsTextOf (opening second) other_warned
  pub whole : text ≡ warned ++ behind
  pub other_whole : other_text ≡ other_warned ++ behind

-- nor of the report of a log, the warnings aside
abbrev pub IsolatesReports : Type 0
IsolatesReports =
    (answer : Binary → Answer) (inputs other : Inputs) (log : List Item) (one second : Plan) → DifferOutside inputs other
    → Builds answer inputs (Ok one) → Builds answer other (Ok second)
    → (parts other_parts : List Part) (code other_code : ℕ) (text other_text : List ℕ)
    → Composed answer inputs log parts code → IsTextOf parts text → Composed answer other log other_parts other_code → IsTextOf other_parts other_text
    → (code ≡ other_code) × DifferInWarnings one second text other_text
