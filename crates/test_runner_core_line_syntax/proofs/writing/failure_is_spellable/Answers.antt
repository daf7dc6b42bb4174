use Rattle.std.proofs.Common.{rules}
use Rattle.std.specs.Prelude.{FitsSigned}
use Rattle.std.specs.Int.{w32}
use Rattle.std.proofs.Math.Facts.{to_z-of_z}
use Rattle.test_runner_core_line_syntax.proofs.Writable.{code_spellable, signal_spellable}
use Rattle.test_runner_core_line_syntax.proofs.writing.failure_is_spellable.Goals as goal

pub returns-in-ExitCode : goal.returns-in-ExitCode
returns-in-ExitCode c =
    let fits : FitsSigned w32 c.in-ExitCode.code = search rules in
    rw c.in-ExitCode.is (code_spellable c.in-ExitCode.code fits)

pub returns-then-is_signal : goal.returns-then-is_signal
returns-then-is_signal c =
    let signal = c.in-UnixSignal.signal in
    let fits : FitsSigned w32 signal = search rules in
    let is = rw (to_z-of_z fits) at (c.is_signal.ensures.0 c.if-is_signal.true) in
    let named = rw (to_z-of_z fits) at c.is_name_of.ensures in
    let spellable = signal_spellable signal c.in-UnixSignal.name is in
    rw (c.in-Abort.is, c.in-UnixSignal.is) ((λ yes. spellable.0 (named.0 yes)), (λ has. named.1 (spellable.1 has)))
