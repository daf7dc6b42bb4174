use Rattle.std.proofs.Common.{◌≡◌, ◌++◌, map}
use Rattle.nextest_filtering_syntax.specs.Copies.{symbol_of, symbols_of, waiting_symbols}
use Rattle.nextest_filtering_syntax.specs.Walking.{waiting_weight}
use Rattle.nextest_filtering_syntax.proofs.copying.symbols_of.Given as goal

-- the symbols so far and those of what waits make up the whole
abbrev pub invariant-loop-next : goal.invariant-loop-next
invariant-loop-next l = map symbol_of l.symbols.items ++ waiting_symbols l.waiting.items ≡ symbols_of l.tree

abbrev pub decreases-loop-next : goal.decreases-loop-next
decreases-loop-next l = waiting_weight l.waiting.items
