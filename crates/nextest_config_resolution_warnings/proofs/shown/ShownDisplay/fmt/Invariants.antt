use Rattle.std.proofs.Common.{◌≡◌, ◌++◌, ℕ, List}
use Rattle.std.specs.Prelude.{IsUtf8}
use Rattle.std.specs.Fmt.{HasWritten, IsPlainFormatter}
use Rattle.nextest_config_resolution_warnings.specs.Shown.{one_line_of}
use Rattle.nextest_config_resolution_warnings.proofs.shown.ShownDisplay.fmt.Given as goal

abbrev pub invariant-loop-character : goal.invariant-loop-character
invariant-loop-character g l =
    (IsPlainFormatter l.initial.f
    → (done : List ℕ) × HasWritten g.W.Write.write_str_gives l.initial.f done l.f
    × (one_line_of l.self.0.now ≡ done ++ one_line_of l.character-iterator.rest.now))
    × IsUtf8 l.character-iterator.rest.now
