-- The first bytes of a text tell what it begins with.
use Rattle.std.specs.Prelude.{◌≡◌, ℕ, nat_eq, Bool, true, false, List, ◌∷◌, ◌++◌, length, drop, get_or}
use Rattle.std.proofs.Common.{arith}
use Rattle.std.proofs.Math.Path.{ap, sym, ◌∙◌}
use Rattle.std.proofs.Math.Seq.{drop-append_seam}
use Rattle.nextest_filtering_ast.specs.Grammar.{ends_word}

-- behind its first byte stands one rest
pub same_rest : (a b : ℕ) (u x y : List ℕ) → u ≡ a ∷ x → u ≡ b ∷ y → x ≡ y
same_rest a b u x y e f = ap (drop 1) (sym e ∙ f)

pub same_first : (a b : ℕ) (u x y : List ℕ) → u ≡ a ∷ x → u ≡ b ∷ y → a ≡ b
same_first a b u x y e f = ap (λ l. get_or l 0 0) (sym e ∙ f)

-- a text doesn't begin with two bytes
pub apart : (a b : ℕ) (u x y : List ℕ) → nat_eq a b ≡ false → u ≡ a ∷ x → u ≡ b ∷ y → ⊥
apart a b u x y test e f = Prim.grind (arith, same_first a b u x y e f)

-- behind one front stands one rest
pub same_behind : (front u x y : List ℕ) → u ≡ front ++ x → u ≡ front ++ y → x ≡ y
same_behind front u x y e f = sym (drop-append_seam front x) ∙ (ap (drop (length front)) (sym e ∙ f) ∙ drop-append_seam front y)

-- where no word ends, none does by another reading
pub other_word : (front u rest : List ℕ) {b : Bool} → u ≡ front ++ rest → b ≡ ends_word rest → b ≡ false → (x : List ℕ) → u ≡ front ++ x → ends_word x ≡ true → ⊥
other_word front u rest e ends not x f true_there = Prim.grind (arith, ap ends_word (same_behind front u rest x e f))
