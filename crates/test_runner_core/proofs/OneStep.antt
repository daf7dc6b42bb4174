-- What one line does to a session, and what is reported of it.
use Rattle.std.proofs.Common.{◌≡◌, ℕ, List, [], Option, None, Result, Ok, Err, ap, sym, ◌∙◌, subst, inr}
use Rattle.std.specs.Prelude.{◌⊎◌}
use Rattle.std.specs.Result.{IsErr}
use Rattle.test_runner_core_line_syntax.specs.declared.log_line.LogLine.{LogLine}
use Rattle.test_runner_core_plan.specs.declared.plan.Plan.{Plan}
use Rattle.test_runner_core_run_model.specs.Finishing.{KeepsReasons, finished_places}
use Rattle.test_runner_core_run_model.specs.State.{State}
use Rattle.test_runner_core_run_model.specs.Step.{step}
use Rattle.test_runner_core_run_model.specs.declared.finished.Finished.{Finished}
use Rattle.test_runner_core_session.specs.Session.{SessionState}
use Rattle.test_runner_core_reporter.specs.Parts.{Part}
use Rattle.test_runner_core_reporter.specs.Steps.{all_done, step_parts}
use Rattle.test_runner_core_reporter.specs.Writes.{WritesAll, WritesPrefix}
use Rattle.test_runner_core_reporter.specs.declared.fault.ReportFault.{ReportFault}
use Rattle.test_runner_core.specs.Inside.{Forgets, Steps, StepsLine, kept_event}
use Rattle.test_runner_core.specs.declared.judging_line.LineStep.TheVariants as it
use Rattle.test_runner_core.specs.declared.refused_line.LineRefusal.{LineRefusal}

-- what a step that is taken reports is reported of what it finished
record_output_of : (old new : SessionState) (line : LogLine) (finished : Finished) → KeepsReasons old.run → Steps (it.Taken finished) old line new
    → all_done new.plan new.run (finished_places finished new.run) ≡ step_parts old.plan (kept_event old.plan line) old.run new.run
record_output_of old new line finished reasons taken =
    ap (λ (plan : Plan). all_done plan new.run (finished_places finished new.run)) taken.0 ∙ ap (all_done old.plan new.run) (sym (taken.1.finishes reasons))

-- what fails, by an exit of `?`
pub line_fails : (result : Result (Option LineRefusal) ReportFault) (old new : SessionState) (line : LogLine) (before : Option (List ℕ)) (waited : List ℕ) (after : Option (List ℕ)) (waits : List ℕ) → IsErr result
    → WritesPrefix [] before waited after
    ⊎ ((next : State) × (step old.run (kept_event old.plan line) ≡ Ok next) × WritesPrefix (step_parts old.plan (kept_event old.plan line) old.run next) before waited after)
    → StepsLine result old line new before waited after waits
line_fails (Ok value) old new line before waited after waits is front = absurd (cc)
line_fails (Err fault) old new line before waited after waits is front = front

pub step_fails : (result : Result (Option LineRefusal) ReportFault) (old new last : SessionState) (line : LogLine) (finished : Finished) (before : Option (List ℕ)) (waited : List ℕ) (after : Option (List ℕ)) (waits : List ℕ)
    → IsErr result → KeepsReasons old.run → Steps (it.Taken finished) old line new → WritesPrefix (all_done new.plan new.run (finished_places finished new.run)) before waited after
    → StepsLine result old line last before waited after waits
step_fails result old new last line finished before waited after waits is reasons taken front =
    line_fails result old last line before waited after waits is
    (inr (new.run, taken.1.taken, subst (λ (parts : List Part). WritesPrefix parts before waited after) (record_output_of old new line finished reasons taken) front))

pub step_tells : (old next new : SessionState) (line : LogLine) (finished : Finished) (before : Option (List ℕ)) (waited : List ℕ) (after : Option (List ℕ)) (waits : List ℕ)
    → KeepsReasons old.run → Steps (it.Taken finished) old line next → new.plan ≡ next.plan → Forgets next.plan next.run new.run
    → WritesAll (all_done next.plan next.run (finished_places finished next.run)) before waited after waits
    → StepsLine (Ok None) old line new before waited after waits
step_tells old next new line finished before waited after waits reasons taken same forgets told = (
  same ∙ taken.0,
  (
    next.run,
    taken.1.taken,
    subst (λ (plan : Plan). Forgets plan next.run new.run) taken.0 forgets,
    subst (λ (parts : List Part). WritesAll parts before waited after waits) (record_output_of old next line finished reasons taken) told,
  ),
)
