use Rattle.std.proofs.Common.{◌++◌, length}
use Rattle.std.specs.Prelude.{◌↔◌}
use Rattle.nextest_filtering_globs.specs.Inside.{in_braces, ArePlain}
use Rattle.nextest_filtering_globs.specs.Meaning.{Matches}
use Rattle.nextest_filtering_globs.proofs.matching.is_some_matched.Given as goal

abbrev pub invariant-loop-more : goal.invariant-loop-more
invariant-loop-more g l = record {
  plain : ArePlain l.left;
  same : Matches (l.front ++ in_braces l.alternatives) (g.C.Character.codes l.text) ↔ Matches (l.front ++ in_braces l.left) (g.C.Character.codes l.text);
}

abbrev pub decreases-loop-more : goal.decreases-loop-more
decreases-loop-more g l = length l.left
