use Rattle.std.proofs.Common.{sym, ◌∙◌}
use Rattle.std.proofs.Output.{has_written_of_eq}
use Rattle.nextest_filtering_escapes.proofs.Shown.{printed_control, printed_letter, printed_plain}
use Rattle.nextest_filtering_escapes.proofs.printing.InsideDisplay.fmt.Goals as goal

pub returns-in-Some-clause-writes : goal.returns-in-Some-clause-writes
returns-in-Some-clause-writes g c = λ plain ok.
    has_written_of_eq _ _ _ _ _ (printed_letter c.args.self.now.0 c.in-Some.letter c.in-Some.ensures) (c.write.ensures.writes plain ok)

pub returns-in-None-clause-writes : goal.returns-in-None-clause-writes
returns-in-None-clause-writes g c = λ plain ok.
    has_written_of_eq _ _ _ _ _ (printed_control c.args.self.now.0 c.in-None.ensures (sym c.is_control.ensures ∙ c.if-is_control.true))
    ((rw c.in_radix.ensures at c.write-in-None.ensures.writes) plain ok)

pub returns-in-None-2-clause-writes : goal.returns-in-None-2-clause-writes
returns-in-None-2-clause-writes g c = λ plain ok.
    has_written_of_eq _ _ _ _ _ (printed_plain c.args.self.now.0 c.in-None.ensures (sym c.is_control.ensures ∙ c.if-is_control.false))
    (c.write_char.ensures.writes plain ok)
