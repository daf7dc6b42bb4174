-- What tells the text of one number from that of another, and the size of a number of 32 bits.
use Rattle.std.proofs.Common.{◌≡◌, ℕ, ◌^◌, ◌<◌, List, false, subst, ap, sym, ◌∙◌, arith}
use Rattle.std.specs.Prelude.{nat_eq, ℤ, FitsSigned, Result, Ok}
use Rattle.std.specs.Int.{w32}
use Rattle.std.specs.Int.Signed.{mag}
use Rattle.std.specs.Cmp.Lexicographic.{pointwise, nat_list_eq_equiv}

-- a text that differs from the print of the number that was read isn't the print of that number
pub differs : {N E : Type 0} (print : N → List ℕ) (read number : N) (result : Result N E) (shown text : List ℕ)
    → result ≡ Ok read → result ≡ Ok number → shown ≡ print read → pointwise nat_eq shown text ≡ false → text ≡ print number → ⊥
differs {N} {E} print read number result shown text is found written differ same =
    let one : read ≡ number = cc in
    let told : pointwise nat_eq text text ≡ false = subst (λ (x : List ℕ). pointwise nat_eq x text ≡ false) (written ∙ ap print one ∙ sym same) differ in
    let itself = nat_list_eq_equiv.refl text in cc

pub mag_fits : (z : ℤ) → FitsSigned w32 z → mag z < 2 ^ 63
mag_fits z fits = let small : mag z < 2 ^ 31 = fits.sfits in omega arith
