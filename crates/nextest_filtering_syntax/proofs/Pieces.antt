-- What waits to be printed, with more on top.
use Rattle.std.proofs.Common.{◌≡◌, ℕ, ◌+◌, List, [], ◌∷◌, ◌++◌, ap, ◌∙◌, append_assoc, arith}
use Rattle.std.proofs.lemmas.List.{append-nil}
use Rattle.nextest_filtering_syntax.specs.declared.text.Piece.{Piece}
use Rattle.nextest_filtering_syntax.specs.Pieces.{piece_text, waiting_text, pieces_weight}

pub waiting_text_append : (rest above : List Piece) → waiting_text (rest ++ above) ≡ waiting_text above ++ waiting_text rest
waiting_text_append [] above = simp append-nil
waiting_text_append (p ∷ rest) above =
    ap (λ (x : List ℕ). x ++ piece_text p) (waiting_text_append rest above) ∙ append_assoc (waiting_text above) (waiting_text rest) (piece_text p)

pub pieces_weight_append : (rest above : List Piece) → pieces_weight (rest ++ above) ≡ pieces_weight rest + pieces_weight above
pieces_weight_append [] above = omega arith
pieces_weight_append (p ∷ rest) above = let more = pieces_weight_append rest above in omega arith
