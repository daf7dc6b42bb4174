use Rattle.std.proofs.Common.{length, ◌≡◌}
use denote.Shadow.{shadow}
use denote.Text.{Utf8}
use Rattle.nextest_filtering_ast.specs.Grammar.{after_blanks}
use Rattle.nextest_filtering_arguments.proofs.cursor.skip_blanks.Given as goal

abbrev pub invariant-loop-rest : goal.invariant-loop-rest
invariant-loop-rest l = (after_blanks l.rest ≡ after_blanks l.fn.text) × shadow (Utf8 l.rest)

abbrev pub decreases-loop-rest : goal.decreases-loop-rest
decreases-loop-rest l = length l.rest
