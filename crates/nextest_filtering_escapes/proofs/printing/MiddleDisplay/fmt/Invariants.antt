use Rattle.std.proofs.Common.{◌≡◌, ◌++◌, ℕ, List}
use Rattle.std.specs.List.{flat_map}
use Rattle.std.specs.Fmt.{HasWritten, IsPlainFormatter}
use Rattle.nextest_filtering_escapes.specs.Printing.{text_of_byte}
use Rattle.nextest_filtering_escapes.proofs.printing.MiddleDisplay.fmt.Given as goal

abbrev pub invariant-loop-character : goal.invariant-loop-character
invariant-loop-character g l = IsPlainFormatter l.initial.f
    → (done : List ℕ) × HasWritten g.W.Write.write_str_gives l.initial.f done l.f
    × (flat_map text_of_byte l.self.0.now ≡ done ++ flat_map text_of_byte l.character-iterator.rest.now)
