-- How grave the reasons of a cancelled run are, and which of them come from outside.
use Rattle.std.specs.Prelude.{ℕ, Bool, true, false, nat_lt, if◌then◌else◌}
use Rattle.nextest_run_events_results.specs.declared.cancel_reason.CancelReason.{CancelReason}
use Rattle.nextest_run_events_results.specs.declared.cancel_reason.CancelReason.TheVariants as why

-- reasons rise in this order
abbrev pub gravity : CancelReason → ℕ
gravity why.SetupScriptFailure = 0
gravity why.TestFailure = 1
gravity why.ReportError = 2
gravity why.TestFailureImmediate = 3
gravity why.GlobalTimeout = 4
gravity why.Signal = 5
gravity why.Interrupt = 6
gravity why.SecondSignal = 7

-- the graver of two reasons
abbrev pub graver_reason : CancelReason → CancelReason → CancelReason
graver_reason old new = if nat_lt (gravity old) (gravity new) then new else old

-- the reasons that only the run itself gives
abbrev pub is_inner : CancelReason → Bool
is_inner why.SetupScriptFailure = true
is_inner why.TestFailure = true
is_inner why.ReportError = false
is_inner why.TestFailureImmediate = true
is_inner why.GlobalTimeout = false
is_inner why.Signal = false
is_inner why.Interrupt = false
is_inner why.SecondSignal = false
