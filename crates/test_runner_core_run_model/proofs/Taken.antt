-- The steps that are taken.
use Rattle.std.proofs.Common.{◌≡◌, ℕ, ◌<◌, ◌≤◌, Bool, true, false, cond, ltb, leb, eqb, not, length, Option, None, Result, Ok, Err, refl, ap, ◌∙◌, arith}
use Rattle.std.specs.Prelude.{is_some}
use Rattle.std.specs.Option.{option_map_or}
use Rattle.std.proofs.lemmas.Bool.Decides.{nat_tests}
use Rattle.nextest_run_events_results.specs.declared.cancel_reason.CancelReason.{CancelReason}
use Rattle.nextest_run_events_results.specs.declared.record.Record.{Record}
use Rattle.test_runner_core_run_model.specs.State.{TestState, State}
use Rattle.test_runner_core_run_model.specs.Step.{start_of, start_from, end_from, after_script}
use Rattle.nextest_run_events_results.specs.Cancel.{is_inner}
use Rattle.test_runner_core_run_model.specs.Decisions.{Decides, ShowsScripts, ShowsTest}
use Rattle.test_runner_core_run_model.specs.declared.mark.Mark.{Mark}
use Rattle.test_runner_core_run_model.specs.declared.mark.Mark.TheVariants as marks
use Rattle.test_runner_core_run_model.specs.declared.event.Event.TheVariants as events
use Rattle.test_runner_core_run_model.specs.declared.step_refusal.StepRefusal.TheVariants as refused

-- what a guard lets through
passes : {E Y : Type 0} (b : Bool) (refusal : E) (more : Result Y E) → b ≡ false → cond b (Err refusal) more ≡ more
passes true refusal more h = cc
passes false refusal more h = refl

pub stop_taken : (state : State) (reason : CancelReason) → is_inner reason ≡ false → Decides state (events.Stopped reason) None
stop_taken state reason h = (_, passes (is_inner reason) refused.InnerReason _ h)

pub script_taken : (state : State) (ending : Record) (script planned ended : ℕ) (is_stopped : Bool) → ShowsScripts state planned ended is_stopped
    → script < planned → is_stopped ≡ false → script ≡ ended → Decides state (events.ScriptEnded script ending) None
script_taken state ending script planned ended is_stopped shows known free next =
    let p = shows.planned_scripts in
    let e = shows.ended_scripts in
    let known_test : leb state.planned_scripts script ≡ false = grind (arith, nat_tests) in
    let next_test : not (eqb script (length state.scripts)) ≡ false =
    (let same : eqb script (length state.scripts) ≡ true = grind (arith, nat_tests) in ap not same) in (
      after_script state ending,
      passes (leb state.planned_scripts script) refused.UnknownScript _ known_test
          ∙ passes (is_some state.reason) refused.Stopped _ (shows.reason ∙ free)
          ∙ passes (not (eqb script (length state.scripts))) refused.OutOfOrder _ next_test,
    )

abbrev pub MayStart : Mark → Type 0
MayStart marks.Waiting = Unit {0}
MayStart marks.Running = ⊥
MayStart marks.Between = Unit {0}
MayStart (marks.Finished kept) = ⊥

from_mark : (state : State) (place : ℕ) (test : TestState) (mark : Mark) → MayStart mark → (new : State) × (start_from state place test mark ≡ Ok new)
from_mark state place test marks.Waiting h = (_, refl)
from_mark state place test marks.Running h = absurd h
from_mark state place test marks.Between h = (_, refl)
from_mark state place test (marks.Finished kept) h = absurd h

pub start_taken : (state : State) (place : ℕ) (mark : Mark) (planned ended : ℕ) (is_stopped : Bool) → ShowsScripts state planned ended is_stopped → ShowsTest state place mark
    → is_stopped ≡ false → planned ≤ ended → MayStart mark → Decides state (events.Started place) None
start_taken state place mark planned ended is_stopped shows shown free over may =
    let p = shows.planned_scripts in
    let e = shows.ended_scripts in
    let over_test : ltb (length state.scripts) state.planned_scripts ≡ false = grind (arith, nat_tests) in
    let from = from_mark state place shown.test mark may in (
      from.0,
      ap (λ (o : Option TestState). option_map_or (start_of state place) o (Err refused.UnknownTest)) shown.found
          ∙ passes (is_some state.reason) refused.Stopped _ (shows.reason ∙ free)
          ∙ passes (ltb (length state.scripts) state.planned_scripts) refused.ScriptsPending _ over_test
          ∙ ap (start_from state place shown.test) shown.marked ∙ from.1,
    )

pub end_taken : (state : State) (place : ℕ) (ending : Record) → ShowsTest state place marks.Running → Decides state (events.Ended place ending) None
end_taken state place ending shown = (
  _,
  ap (λ (o : Option TestState). option_map_or (λ test. end_from state place ending test test.mark) o (Err refused.UnknownTest)) shown.found
      ∙ ap (end_from state place ending shown.test) shown.marked,
)
