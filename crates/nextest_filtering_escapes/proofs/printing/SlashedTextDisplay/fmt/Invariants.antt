use Rattle.std.proofs.Common.{◌≡◌, ◌++◌, ℕ, List, length}
use Rattle.std.specs.Prelude.{IsUtf8}
use Rattle.std.specs.Fmt.{HasWritten, IsPlainFormatter}
use Rattle.nextest_filtering_escapes.specs.Printing.{regex_text_of}
use Rattle.nextest_filtering_escapes.proofs.printing.SlashedTextDisplay.fmt.Given as goal

abbrev pub decreases-loop-before : goal.decreases-loop-before
decreases-loop-before g l = length l.rest

abbrev pub invariant-loop-before : goal.invariant-loop-before
invariant-loop-before g l = (IsPlainFormatter l.initial.f
    → (done : List ℕ) × HasWritten g.W.Write.write_str_gives l.initial.f done l.f × (regex_text_of l.initial.rest ≡ done ++ regex_text_of l.rest)) × IsUtf8 l.rest
