-- What an event's call answers, and what it leaves.
use Rattle.std.specs.Prelude.{◌≡◌, ℕ, Bool, Some, Result, Ok, Err, slice_get}
use Rattle.nextest_run_events_results.specs.declared.record.Record.{Record}
use Rattle.test_runner_core_run_model.specs.Finishing.{KeepsReasons, finished_places, finishing, stops_run}
use Rattle.test_runner_core_run_model.specs.State.{TestState, State}
use Rattle.test_runner_core_run_model.specs.Step.{after_attempt, finishes, step}
use Rattle.test_runner_core_run_state.specs.Parts.{ChangesAt}
use Rattle.test_runner_core_run_model.specs.declared.event.Event.{Event}
use Rattle.test_runner_core_run_model.specs.declared.event.Event.TheVariants as events
use Rattle.test_runner_core_run_model.specs.declared.finished.Finished.{Finished}
use Rattle.test_runner_core_run_model.specs.declared.step_refusal.StepRefusal.{StepRefusal}
use Rattle.test_runner_core_run_state.specs.declared.start_fault.StartFault.{StartFault}
use Rattle.test_runner_core_run_state.specs.declared.start_fault.StartFault.TheVariants as fault

-- the event is taken and leads to the new state; the answer says whether that stops the run, and
-- which tests it finishes, where none was over under a reason before there was one
pub record TakesStep (old : State) (event : Event) (finished : Finished) (new : State) : Type 0 where
  pub taken : step old event ≡ Ok new
  pub stops : finished.stops ≡ stops_run old new
  pub finishes : KeepsReasons old → finishing event old new ≡ finished_places finished new

-- the event is taken, or it is refused as its step is and nothing changes
abbrev pub Takes : State → Event → Result Finished StepRefusal → State → Type 0
Takes old event (Ok finished) new = TakesStep old event finished new
Takes old event (Err refusal) new = (step old event ≡ Err refusal) × (new ≡ old)

-- the same of an attempt that starts; memory may be wanting only where it could start, and then
-- nothing changes either
abbrev pub Starts : {T : Type 0} → State → ℕ → Result T StartFault → State → Type 0
Starts old test (Ok done) new = step old (events.Started test) ≡ Ok new
Starts old test (Err (fault.Refused refusal)) new = (step old (events.Started test) ≡ Err refusal) × (new ≡ old)
Starts old test (Err fault.OutOfMemory) new = ((next : State) × (step old (events.Started test) ≡ Ok next)) × (new ≡ old)

-- the attempt of the test at a place ended, which finishes the test or not; the limit isn't looked
-- at yet
pub record EndsAttempt (old : State) (place : ℕ) (ending : Record) (finished : Bool) (new : State) : Type 0 where
  pub rest : new ≡ record old { tests = new.tests }
  pub test : ChangesAt place (λ test. after_attempt old test ending) old.tests new.tests
  pub is_finished : (test : TestState) → slice_get old.tests place ≡ Some test → finished ≡ finishes old test ending
