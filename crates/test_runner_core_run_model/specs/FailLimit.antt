-- When the limit stops a run.
use Rattle.std.specs.Prelude.{◌≡◌, ℕ, suc, ◌+◌, ⊤, List, [], ◌∷◌, Option, None, if◌then◌else◌}
use Rattle.std.specs.List.{AllByRecursion}
use Rattle.std.specs.Option.{option_map}
use Rattle.nextest_config_elements_choices.specs.MaxFail.{mode_at}
use Rattle.nextest_run_events_results.specs.declared.cancel_reason.CancelReason.{CancelReason}
use Rattle.nextest_run_events_results.specs.declared.record.Record.{Record}
use Rattle.test_runner_core_run_model.specs.Assignment.{fails}
use Rattle.test_runner_core_run_model.specs.State.{State, failed_weight}
use Rattle.test_runner_core_run_model.specs.Step.{limit_reason}
use Rattle.test_runner_core_run_model.specs.declared.event.Event.{Event}
use Rattle.test_runner_core_run_model.specs.declared.event.Event.TheVariants as events
use Rattle.test_runner_core_run_model.specs.declared.run_test.RunTest.{RunTest}

-- the reason for which its failing tests stop a run, where they weigh as much as its limit
abbrev pub limit_stop : State → Option CancelReason
limit_stop state = option_map limit_reason (mode_at state.limit (failed_weight state.tests))

-- where no reason stood and the failing tests weighed less than the limit, the reason that stands
-- is the limit's exactly where they weigh as much now, and none elsewhere
abbrev pub StopsAtLimit : State → State → Type 0
StopsAtLimit old new = old.reason ≡ None → limit_stop old ≡ None → new.reason ≡ limit_stop new

-- an event is the end of an attempt
abbrev pub IsEnd : Event → Type 0
IsEnd (events.ScriptEnded script ending) = ⊥
IsEnd (events.Started test) = ⊥
IsEnd (events.Ended test ending) = ⊤
IsEnd (events.Stopped reason) = ⊥

-- each test weighs 1
abbrev pub WeighOne : List RunTest → Type 0
WeighOne = AllByRecursion (λ test. test.weight ≡ 1)

-- how many of the tests fail
abbrev pub failing_count : List RunTest → (ℕ → ℕ → Record) → ℕ
failing_count [] attempt = 0
failing_count (test ∷ tests) attempt = (if fails test (attempt 0) then 1 else 0) + failing_count tests (λ place. attempt (suc place))
