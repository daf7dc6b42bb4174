-- That a plan has a log that runs it to its end.
use Rattle.std.specs.Prelude.{◌≡◌, ◌≢◌, ℕ, ◌<◌, ◌≤◌, true, List, [], ◌∷◌, ◌++◌, length, map, Some, Ok, slice_get}
use Rattle.std.specs.List.{AllByRecursion, AllPairs}
use Rattle.test_runner_core_inputs.specs.declared.inputs.Inputs.{Inputs}
use Rattle.test_runner_core_line_syntax.specs.Spelling.{Spells}
use Rattle.test_runner_core_line_syntax.specs.declared.log_line.LogLine.{LogLine}
use Rattle.test_runner_core_line_syntax.specs.declared.log_line.LogLine.TheVariants.{Script, Start, End}
use Rattle.test_runner_core_log_reader.specs.Items.{Line, items}
use Rattle.test_runner_core_log_reader.specs.declared.limits.TheConstants.{LINE_LIMIT, LOG_LIMIT}
use Rattle.test_runner_core_plan.specs.declared.plan.Plan.{Plan}
use Rattle.test_runner_core_plan.specs.declared.plan.PlanTest.{PlanTest}
use Rattle.test_runner_core_planning.specs.Plan.{Builds}
use Rattle.test_runner_core_run_model.specs.Assignment.{Assignment}
use Rattle.test_runner_core_run_model.specs.RunPlan.{IsPlan}
use Rattle.test_runner_core_run_model.specs.Runs.{Agrees, IsNoStop, is_complete}
use Rattle.test_runner_core_run_model.specs.State.{State, initial}
use Rattle.test_runner_core_run_model.specs.declared.event.Event.{Event}
use Rattle.test_runner_core_session.specs.Session.{names_of, run_plan}
use Rattle.test_runner_core_workspace.specs.Lister.{Answer}
use Rattle.test_runner_core_workspace.specs.declared.record.Binary.{Binary}
use Rattle.test_runner_core.specs.Judging.{Leads}
use Rattle.test_runner_core.specs.Outcome.{IsWholeRun}

-- the bytes of lines, each of which a line feed ends
abbrev pub bytes_of : List (List ℕ) → List ℕ
bytes_of [] = []
bytes_of (line ∷ more) = line ++ 10 ∷ bytes_of more

-- some bytes spell an event's line and are no longer than a line may be
abbrev pub HasLine : LogLine → Type 0
HasLine line = (bytes : List ℕ) × Spells line bytes × (length bytes ≤ LINE_LIMIT)

-- what is assigned can be written: the end of each script of the plan, and the start of each of its
-- tests and the end of each of its tries
pub record HasLines (plan : Plan) (assigned : Assignment) : Type 0 where
  pub scripts : (place : ℕ) (id : List ℕ) → slice_get plan.scripts place ≡ Some id → HasLine (Script id (assigned.script place))
  pub starts : (place : ℕ) (test : PlanTest) → slice_get plan.tests place ≡ Some test → HasLine (Start test.instance.binary_id test.instance.test_name)
  pub ends : (place number : ℕ) (test : PlanTest) → slice_get plan.tests place ≡ Some test → 0 < number → number ≤ test.tries
      → HasLine (End test.instance.binary_id test.instance.test_name (assigned.attempt place number))

-- no two scripts of a plan have one id, and no two of its tests one name in binaries of one id
pub record NoneRepeated (plan : Plan) : Type 0 where
  pub scripts : AllPairs (λ one other. one ≢ other) plan.scripts
  pub tests : AllPairs (λ one other. one ≢ other) (names_of plan)

-- lines run a plan to its end as it is assigned: each of them is an event and none is refused, the
-- run agrees with the assignment, it is complete, and nobody asks it to stop
pub record RunsToEnd (plan : Plan) (lines : List (List ℕ)) (assigned : Assignment) : Type 0 where
  pub events : List Event
  pub last : State
  pub leads : Leads plan lines events last
  pub each : length events ≡ length lines
  pub agrees : Agrees assigned (initial (run_plan plan)) events
  pub complete : is_complete last ≡ true
  pub no_stop : AllByRecursion IsNoStop events

-- a plan that repeats nothing has lines that run it to its end as it is assigned, where that can be
-- written. If they are no longer than a log may be, their bytes are a log that is cut into exactly
-- these lines
abbrev pub EndsSomeLog : Type 0
EndsSomeLog =
    (plan : Plan) (assigned : Assignment) → IsPlan (run_plan plan) → NoneRepeated plan → HasLines plan assigned
    → (lines : List (List ℕ)) × RunsToEnd plan lines assigned × (length (bytes_of lines) ≤ LOG_LIMIT → items 0 (bytes_of lines) ≡ map Line lines)

-- so inputs that have a plan have such lines, and their bytes are a log that runs the inputs to
-- their end, if it is no longer than a log may be
abbrev pub RunsSomeLog : Type 0
RunsSomeLog =
    (answer : Binary → Answer) (inputs : Inputs) (plan : Plan) (assigned : Assignment) → Builds answer inputs (Ok plan) → HasLines plan assigned
    → (lines : List (List ℕ)) × RunsToEnd plan lines assigned
    × (length (bytes_of lines) ≤ LOG_LIMIT → IsWholeRun answer inputs (items 0 (bytes_of lines)) assigned)
