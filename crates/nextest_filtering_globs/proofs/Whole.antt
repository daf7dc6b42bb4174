-- A whole text, and what it is read as.
use Rattle.std.proofs.Common.{◌≡◌, ℕ, List, [], ◌∷◌, length, subst, sym, refl, arith, Err}
use Rattle.std.specs.Str.{chars}
use Rattle.nextest_filtering_globs.specs.declared.construct_error.GlobConstructError.{GlobConstructError}
use Rattle.nextest_filtering_globs.specs.declared.construct_error.GlobConstructError.TheVariants as fault
use Rattle.nextest_filtering_globs.specs.declared.token.GlobToken.{GlobToken}
use Rattle.nextest_filtering_globs.specs.Glob.{Constructs}
use Rattle.nextest_filtering_globs.specs.Reading.{ReadsWhole, Refuses}
use Rattle.nextest_filtering_globs.specs.Syntax.{SpellsFrom}

pub length-zero : (xs : List ℕ) → length xs ≡ 0 → xs ≡ []
length-zero [] e = refl
length-zero (x ∷ xs) e = absurd (omega arith)

-- where no token is read, nothing is
pub none_read : {B : Type 0} (IsRead : B → List ℕ → Type 0) (text : List ℕ) (error : GlobConstructError)
    → (((other : B) (rest : List ℕ) → IsRead other rest → ⊥) → (all : List GlobToken) → SpellsFrom 0 all text → ⊥)
    → Refuses IsRead error → ReadsWhole text (Err error)
none_read IsRead text fault.InvalidGlob none h = none h
none_read IsRead text fault.OutOfMemory none h = tt

pub none_whole : (cs text : List ℕ) (error : GlobConstructError) → cs ≡ chars text → ReadsWhole cs (Err error)
    → Constructs text (Err error)
none_whole cs text fault.InvalidGlob e none = λ other k. none other (subst (λ y. SpellsFrom 0 other y) (sym e) k)
none_whole cs text fault.OutOfMemory e none = tt
