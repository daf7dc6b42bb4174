use Rattle.std.proofs.Common.{◌≡◌, take}
use Rattle.std.specs.List.{All}
use Rattle.nextest_filtering_ast.specs.Matching.{comparison_of, text_of}
use Rattle.nextest_filtering_ast.specs.Meaning.{MatchesName}
use Rattle.nextest_filtering_ast.specs.Tree.{matcher_of}
use Rattle.nextest_filtering_compiling.proofs.faults.lacks_group.Given as goal

abbrev pub invariant-loop-name : goal.invariant-loop-name
invariant-loop-name l = record {
  comparison : comparison_of l.names ≡ (matcher_of l.matcher).comparison;
  text : text_of l.names ≡ (matcher_of l.matcher).text;
  none : All (λ it. MatchesName (matcher_of l.matcher) it → ⊥) (take l.name-index l.name-items);
}
