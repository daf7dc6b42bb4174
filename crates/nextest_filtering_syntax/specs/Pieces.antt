-- What waits while a tree is printed without recursion.
use Rattle.std.specs.Prelude.{ℕ, ◌+◌, ◌*◌, List, [], ◌∷◌, ◌++◌, codes, String, string_bytes}
use Rattle.std.specs.declared.alloc.Global.{Global}
use Rattle.nextest_filtering_ast.specs.Words.{or_word, and_word, minus_word}
use Rattle.nextest_filtering_ast.specs.Printing.{text_of_tree}
use Rattle.nextest_filtering_syntax.specs.declared.text.Piece.{Piece}
use Rattle.nextest_filtering_syntax.specs.declared.text.Piece.TheVariants as piece
use Rattle.nextest_filtering_syntax.specs.Parsed.{tree_of}
use Rattle.nextest_filtering_syntax.specs.Walking.{weight}

-- an operator's word between spaces
abbrev pub between_spaces : List ℕ → List ℕ
between_spaces word = codes " " ++ word ++ codes " "

-- how a piece prints
abbrev pub piece_text : Piece → List ℕ
piece_text (piece.Tree t) = text_of_tree (tree_of t.now)
piece_text (piece.Or op) = between_spaces (or_word op)
piece_text (piece.And op) = between_spaces (and_word op)
piece_text (piece.Minus op) = between_spaces (minus_word op)
piece_text piece.Close = codes ")"

-- how pieces print of which the last one comes first
abbrev pub waiting_text : List Piece → List ℕ
waiting_text [] = []
waiting_text (p ∷ rest) = waiting_text rest ++ piece_text p

-- what was printed, and behind it what waits
abbrev pub whole_text : String Global → List Piece → List ℕ
whole_text text waiting = string_bytes text ++ waiting_text waiting

-- more than the steps that it takes to print a piece
abbrev pub piece_weight : Piece → ℕ
piece_weight (piece.Tree t) = 3 * weight t.now
piece_weight (piece.Or op) = 1
piece_weight (piece.And op) = 1
piece_weight (piece.Minus op) = 1
piece_weight piece.Close = 1

-- that of all pieces that wait
abbrev pub pieces_weight : List Piece → ℕ
pieces_weight [] = 0
pieces_weight (p ∷ rest) = pieces_weight rest + piece_weight p
