use Rattle.std.proofs.Common.{◌≡◌}
use Rattle.nextest_filtering_ast.specs.Printing.{text_of_tree}
use Rattle.nextest_filtering_syntax.specs.Parsed.{tree_of}
use Rattle.nextest_filtering_syntax.specs.Pieces.{whole_text, pieces_weight}
use Rattle.nextest_filtering_syntax.proofs.tree.ParsedExpr.to_text.Given as goal

-- what was printed and what waits make up the whole
abbrev pub invariant-loop-piece : goal.invariant-loop-piece
invariant-loop-piece l = whole_text l.text l.waiting.items ≡ text_of_tree (tree_of l.self)

abbrev pub decreases-loop-piece : goal.decreases-loop-piece
decreases-loop-piece l = pieces_weight l.waiting.items
