use Rattle.std.proofs.Common.{◌≤◌, ◌∷◌, [], length}
use Rattle.nextest_filtering_globs.specs.declared.token.GlobToken.TheVariants as token
use Rattle.nextest_filtering_globs.specs.Inside.{IsAhead}
use Rattle.nextest_filtering_globs.proofs.words.from_letter.Given as goal

abbrev pub invariant-loop-c : goal.invariant-loop-c
invariant-loop-c g l = record {
  within : length l.rest ≤ length l.text;
  ahead : IsAhead (token.Literal l.letter ∷ []) (g.C.Character.codes l.text) (g.C.Character.codes l.rest);
}

abbrev pub decreases-loop-c : goal.decreases-loop-c
decreases-loop-c g l = length l.rest
