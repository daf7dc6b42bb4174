-- What the laws say.
use Rattle.std.specs.Prelude.{◌≡◌, ℕ, List, true, Ok, Err}
use Rattle.test_runner_core_plan.specs.declared.plan.Plan.{Plan}
use Rattle.test_runner_core_run_model.specs.Counters.{status}
use Rattle.test_runner_core_run_model.specs.State.{State, initial}
use Rattle.test_runner_core_run_model.specs.Step.{step}
use Rattle.test_runner_core_run_model.specs.declared.event.Event.{Event}
use Rattle.test_runner_core_run_model.specs.declared.step_refusal.StepRefusal.{StepRefusal}
use Rattle.test_runner_core_run_state.specs.Records.{state_with, unwritten_at}
use Rattle.test_runner_core_session.specs.Session.{run_plan}
use Rattle.test_runner_core_reporter.specs.Final.{final_parts}
use Rattle.test_runner_core_reporter.specs.Keeping.{IsKeptOf, event_to_keep, is_settled}
use Rattle.test_runner_core_reporter.specs.Parts.{IsTextOf, Part}
use Rattle.test_runner_core_reporter.specs.Steps.{step_parts}

-- the run takes the step too, what is kept after the step is kept of the run after it, and a text
-- of what is kept is one of the run
pub record GoesAlike (plan : Plan) (event : Event) (real old now : State) : Type 0 where
  pub next : State
  pub taken : step real event ≡ Ok next
  pub kept : IsKeptOf plan next now
  pub texts : (text : List ℕ) → IsTextOf (step_parts plan (event_to_keep plan event) old now) text → IsTextOf (step_parts plan event real next) text

-- parts have one text
abbrev pub HaveOneText : Type 0
HaveOneText = (parts : List Part) (one other : List ℕ) → IsTextOf parts one → IsTextOf parts other → one ≡ other

-- and it can't be that they have none
abbrev pub HaveSomeText : Type 0
HaveSomeText = (parts : List Part) → ¬ ¬ ((text : List ℕ) × IsTextOf parts text)

-- at its beginning a run is kept whole
abbrev pub KeepsBegin : Type 0
KeepsBegin = (plan : Plan) → IsKeptOf plan (initial (run_plan plan)) (initial (run_plan plan))

-- it goes on as the run does, and each step of it reports the same
abbrev pub KeepsProgress : Type 0
KeepsProgress = (plan : Plan) (event : Event) (real old now : State) → IsKeptOf plan real old → step old (event_to_keep plan event) ≡ Ok now → GoesAlike plan event real old now

-- it refuses what the run refuses
abbrev pub KeepsRefusals : Type 0
KeepsRefusals = (plan : Plan) (event : Event) (real old : State) (refusal : StepRefusal) → IsKeptOf plan real old → step old (event_to_keep plan event) ≡ Err refusal
    → step real event ≡ Err refusal

-- what settled tests wrote can be forgotten
abbrev pub KeepsForgetting : Type 0
KeepsForgetting = (plan : Plan) (real kept : State) (place : ℕ) → IsKeptOf plan real kept → is_settled plan kept place ≡ true → IsKeptOf plan real (state_with (unwritten_at place) kept)

-- its end is reported as that of the run
abbrev pub KeepsFinal : Type 0
KeepsFinal = (plan : Plan) (real kept : State) (text : List ℕ) → IsKeptOf plan real kept → IsTextOf (final_parts plan kept) text → IsTextOf (final_parts plan real) text

-- and it comes to the same status
abbrev pub KeepsStatus : Type 0
KeepsStatus = (plan : Plan) (real kept : State) → IsKeptOf plan real kept → status kept ≡ status real
