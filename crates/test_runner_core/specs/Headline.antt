-- The headline: what is promised of each call that answers an exit status, whatever the order of
-- the tests and wherever the log ends.
use Rattle.std.specs.Prelude.{◌≡◌, ◌↔◌, ℕ, List, map, Option, Result, Ok, Err}
use Rattle.std.specs.List.{Contains}
use Rattle.nextest_run_events_results.specs.declared.instance.OwnedTestInstanceId.{OwnedTestInstanceId}
use Rattle.test_runner_core_inputs.specs.Reading.{read_inputs}
use Rattle.test_runner_core_inputs.specs.declared.inputs.Inputs.{Inputs}
use Rattle.test_runner_core_inputs.specs.declared.inputs_error.InputsRefusal.{InputsRefusal}
use Rattle.test_runner_core_log_reader.specs.Feeds.{before_feed, behind_feed}
use Rattle.test_runner_core_log_reader.specs.Items.{Item, items}
use Rattle.test_runner_core_plan.specs.declared.plan.Plan.{Plan}
use Rattle.test_runner_core_plan.specs.declared.plan.PlanTest.{PlanTest}
use Rattle.test_runner_core_planning.specs.Checks.{SetsAll}
use Rattle.test_runner_core_planning.specs.Filtering.{AllCanHold, AreInForce, Choice, InForce}
use Rattle.test_runner_core_planning.specs.Laws.{IsWanted}
use Rattle.test_runner_core_planning.specs.Plan.{Builds, Plans}
use Rattle.test_runner_core_planning.specs.Texts.{status_of}
use Rattle.test_runner_core_planning.specs.declared.plan_fault.PlanFault.{PlanFault}
use Rattle.test_runner_core_reporter.specs.Parts.{Part}
use Rattle.test_runner_core_workspace.specs.Lister.{Answer}
use Rattle.test_runner_core_workspace.specs.declared.record.Binary.{Binary}
use Rattle.test_runner_core.specs.Outcome.{EndsAsDue, IsDue, IsNoMilderThanDue, table_of}
use Rattle.test_runner_core.specs.Report.{Composed, IsWritten, refused_inputs, refused_plan}

-- filters in force of inputs, beside what is set for their run and their tests
pub record Filters (inputs : Inputs) : Type 0 where
  pub choice : Choice
  pub sets : SetsAll inputs choice
  pub force : InForce
  pub in_force : AreInForce inputs choice.run force

-- there are filters in force, and whichever are, a plan selects exactly the tests on which they
-- hold
pub record SelectsExactly (answer : Binary → Answer) (inputs : Inputs) (plan : Plan) : Type 0 where
  pub some : Filters inputs
  pub exactly : (by : Filters inputs) (test : OwnedTestInstanceId)
      → Contains (map (λ (t : PlanTest). t.instance) plan.tests) test ↔ IsWanted answer inputs by.choice by.force test

-- it lists exactly the binaries that some answers select: those on which each filter in force can
-- hold
pub record ListsExactly (inputs : Inputs) (plan : Plan) : Type 0 where
  pub some : Filters inputs
  pub exactly : (by : Filters inputs) (binary : Binary)
      → Contains inputs.workspace.binaries binary → Contains plan.listed binary.id ↔ AllCanHold inputs.workspace by.force binary

-- inputs without a plan are refused for the first check that they break, by one line and by its
-- status
abbrev pub RefusesUnplanned : (Binary → Answer) → Inputs → ℕ → Option (List ℕ) → Option (List ℕ) → Type 0
RefusesUnplanned answer inputs code before after =
    (refusal : PlanFault) → Plans answer inputs (Err refusal) → IsWritten (refused_plan refusal) before after × (code ≡ status_of refusal)

-- The promises, in the order of the headline. Inputs are refused exactly for the first check that
-- they break, by one line and by its status; all others have a plan. The plan selects and lists
-- exactly what it is to. What is written is the report of the plan's run by the log, up to its
-- first refused line, or its end. The status of each log that runs the inputs to their end by an
-- assignment is that assignment's due status; where the assignment is unstopped, the report ends
-- with the one final text that is due to it. Wherever the log is cut, and whoever stopped the run,
-- the status is no milder.
pub record Headline (answer : Binary → Answer) (inputs : Inputs) (log : List Item) (code : ℕ) (before after : Option (List ℕ)) : Type 0 where
  pub refuses : RefusesUnplanned answer inputs code before after
  pub plans : ((refusal : PlanFault) → ¬ Plans answer inputs (Err refusal)) → (plan : Plan) × Builds answer inputs (Ok plan)
  pub selects : (plan : Plan) → Builds answer inputs (Ok plan) → SelectsExactly answer inputs plan
  pub lists : (plan : Plan) → Builds answer inputs (Ok plan) → ListsExactly inputs plan
  pub report : (parts : List Part) × Composed answer inputs log parts code × IsWritten parts before after
  pub due : IsDue answer inputs log code
  pub one_report : EndsAsDue answer inputs log before after
  pub no_milder : IsNoMilderThanDue answer inputs log code

-- the same of a first line and a log: a line that is no inputs is refused
abbrev pub LineHeadline : Result Inputs InputsRefusal → List Item → ℕ → Option (List ℕ) → Option (List ℕ) → Type 0
LineHeadline (Ok inputs) log code before after = Headline (table_of inputs) inputs log code before after
LineHeadline (Err refusal) log code before after = IsWritten (refused_inputs refusal) before after × (code ≡ 96)

-- and of a stream: the bytes before its first line feed are the inputs, those behind it the log
abbrev pub StreamHeadline : List ℕ → ℕ → Option (List ℕ) → Option (List ℕ) → Type 0
StreamHeadline bytes = LineHeadline (read_inputs (before_feed bytes)) (items 0 (behind_feed bytes))
