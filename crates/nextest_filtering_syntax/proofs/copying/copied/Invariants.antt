use Rattle.std.proofs.Common.{◌≡◌, Some, [], ◌∷◌, map, length, reverse}
use Rattle.nextest_filtering_syntax.specs.Copies.{made_of, shapes, spanned_of, symbol_of}
use Rattle.nextest_filtering_syntax.proofs.copying.copied.Given as goal

-- the symbols that are left make the whole of what was made
abbrev pub invariant-loop-symbol : goal.invariant-loop-symbol
invariant-loop-symbol l = made_of (reverse (map symbol_of l.symbols.items)) (shapes l.made.items) ≡ Some (spanned_of l.tree ∷ [])

abbrev pub decreases-loop-symbol : goal.decreases-loop-symbol
decreases-loop-symbol l = length l.symbols.items
