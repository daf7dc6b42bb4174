use Rattle.std.proofs.Common.{◌≡◌, ℕ, ◌<◌, ◌↔◌}
use Rattle.std.specs.List.{Contains}
use Rattle.nextest_filtering_ast.specs.Matching.{comparison_of, text_of}
use Rattle.nextest_filtering_ast.specs.Tree.{matcher_of}
use Rattle.nextest_filtering_compiling.specs.Packages.{IsNamed}
use Rattle.nextest_filtering_compiling.proofs.packages.named_places.Given as goal

abbrev pub invariant-loop-place : goal.invariant-loop-place
invariant-loop-place l = record {
  comparison : comparison_of l.names ≡ (matcher_of l.matcher).comparison;
  text : text_of l.names ≡ (matcher_of l.matcher).text;
  found : (one : ℕ) → Contains l.places.items one ↔ ((one < l.place) × IsNamed l.cx.graph (matcher_of l.matcher) one);
}
