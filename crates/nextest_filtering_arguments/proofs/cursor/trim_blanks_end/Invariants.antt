use Rattle.std.proofs.Common.{◌≡◌, ◌++◌, ℕ, List, length}
use denote.Text.{Utf8}
use denote.Shadow.{shadow}
use Rattle.nextest_filtering_arguments.specs.Blanks.{AreBlanks}
use Rattle.nextest_filtering_arguments.proofs.cursor.trim_blanks_end.Given as goal

abbrev pub invariant-loop-front : goal.invariant-loop-front
invariant-loop-front l = ((blanks : List ℕ) × AreBlanks blanks × (l.text ≡ l.rest ++ blanks)) × shadow (Utf8 l.rest)

abbrev pub decreases-loop-front : goal.decreases-loop-front
decreases-loop-front l = length l.rest
