-- The texts by which the end of a unit is told.
use Rattle.std.specs.Prelude.{ℕ, List, codes}
use Rattle.nextest_run_events_outcomes.specs.declared.terminate.UnitTerminateReason.{UnitTerminateReason}
use Rattle.nextest_run_events_outcomes.specs.declared.terminate.UnitTerminateReason.TheVariants as why
use Rattle.nextest_run_events_outcomes.specs.declared.terminate.UnitTerminateSignal.{UnitTerminateSignal}
use Rattle.nextest_run_events_outcomes.specs.declared.terminate.UnitTerminateSignal.TheVariants as sent

abbrev pub reason_name : UnitTerminateReason → List ℕ
reason_name why.Timeout = codes "timeout"
reason_name why.Signal = codes "signal"
reason_name why.Interrupt = codes "interrupt"

-- a signal by its name of Unix
abbrev pub sent_name : UnitTerminateSignal → List ℕ
sent_name sent.Interrupt = codes "SIGINT"
sent_name sent.Term = codes "SIGTERM"
sent_name sent.Hangup = codes "SIGHUP"
sent_name sent.Quit = codes "SIGQUIT"
sent_name sent.Kill = codes "SIGKILL"
