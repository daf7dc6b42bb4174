-- Blanks at the start of a text.
use Rattle.std.specs.Prelude.{◌≡◌, refl, ℕ, ◌<◌, true, false, List, [], ◌∷◌, drop, IsCharBoundary}
use Rattle.std.specs.Str.{IsUtf8}
use Rattle.std.proofs.Common.{arith, rules}
use Rattle.std.proofs.lemmas.Str.{IsCharBoundary-after_ascii}
use Rattle.nextest_filtering_escapes.specs.Text.{is_blank}
use Rattle.nextest_filtering_ast.specs.Grammar.{after_blanks}
use Rattle.nextest_filtering_arguments.specs.Blanks.{has_blank_front}

below : (byte : ℕ) → is_blank byte ≡ true → byte < 128
below byte blank = Prim.grind (arith)

-- a text may be cut behind a blank at its front
pub blank_ends : (text : List ℕ) → IsUtf8 text → has_blank_front text ≡ true → IsCharBoundary text 1
blank_ends [] utf8 blank = Prim.search rules
blank_ends (byte ∷ rest) utf8 blank = IsCharBoundary-after_ascii (byte ∷ rest) 0 utf8 (Prim.omega arith) (below byte blank)

-- a blank more or less changes nothing
pub unblanked_behind : (text : List ℕ) → has_blank_front text ≡ true → after_blanks (drop 1 text) ≡ after_blanks text
unblanked_behind [] blank = Prim.search rules
unblanked_behind (byte ∷ rest) blank = Prim.rw blank refl

-- what begins with no blank has none to leave out
pub unblanked_same : (text : List ℕ) → has_blank_front text ≡ false → text ≡ after_blanks text
unblanked_same [] none = refl
unblanked_same (byte ∷ rest) none = Prim.rw none refl
