-- What reading a text gives.
use Rattle.std.proofs.Common.{Vec, Global}
use Rattle.nextest_filtering_globs.specs.declared.token.ClassRange.{ClassRange}
use Rattle.nextest_filtering_globs.specs.declared.token.GlobToken.{GlobToken}
use Rattle.std.specs.Prelude.{◌≡◌, ℕ, ◌<◌, Bool, true, false, List, ◌∷◌, ◌++◌, length, slice_index, take, Result, Ok, Err, IsTrue, ⊤}
use Rattle.nextest_filtering_globs.specs.declared.construct_error.GlobConstructError.{GlobConstructError}
use Rattle.nextest_filtering_globs.specs.declared.construct_error.GlobConstructError.TheVariants as fault
use Rattle.nextest_filtering_globs.specs.Signs.{closing_bracket, is_complement_sign}
use Rattle.nextest_filtering_globs.specs.Syntax.{AllRise, IsClassBody, IsUnclosed, SpellsFrom, begins_complement, class_ranges}

-- a refusal as invalid says that nothing is read so, and want of memory says nothing
abbrev pub Refuses : {B : Type 0} → (B → List ℕ → Type 0) → GlobConstructError → Type 0
Refuses {B} IsRead fault.InvalidGlob = (other : B) (rest : List ℕ) → IsRead other rest → ⊥
Refuses IsRead fault.OutOfMemory = ⊤

-- what is read, and what is left behind it, or a refusal
abbrev pub Reads : {A B : Type 0} → (A → B × List ℕ) → (B → List ℕ → Type 0) → Result A GlobConstructError → Type 0
Reads meant IsRead (Ok found) = IsRead (meant found).0 (meant found).1
Reads meant IsRead (Err error) = Refuses IsRead error

-- the tokens that the whole text spells; a refusal as invalid says that it spells none, and want of
-- memory says nothing
abbrev pub ReadsWhole : List ℕ → Result (Vec GlobToken Global) GlobConstructError → Type 0
ReadsWhole text (Ok tokens) = SpellsFrom 0 tokens.items text
ReadsWhole text (Err fault.InvalidGlob) = (tokens : List GlobToken) → SpellsFrom 0 tokens text → ⊥
ReadsWhole text (Err fault.OutOfMemory) = ⊤

-- the text begins with the characters of a class, and what is left stands behind its bracket
abbrev pub IsSplit : List ℕ → List ℕ → List ℕ → Type 0
IsSplit text body rest = (text ≡ body ++ closing_bracket ∷ rest) × IsClassBody body

-- the first closing bracket stands there
abbrev pub IsFirstBracket : List ℕ → ℕ → Type 0
IsFirstBracket text place = (place < length text) × IsUnclosed (take place text)
    × (slice_index text place ≡ closing_bracket)

-- whether the text begins with the sign of a complement, and what stands behind it
abbrev pub IsSigned : List ℕ → Bool → List ℕ → Type 0
IsSigned text true inner = (sign : ℕ) × (text ≡ sign ∷ inner) × IsTrue (is_complement_sign sign)
IsSigned text false inner = (begins_complement text ≡ false) × (inner ≡ text)

-- the ranges that the characters of a class are, none of which falls; a refusal as invalid says
-- that one does
abbrev pub RangesRise : List ℕ → Result (Vec ClassRange Global) GlobConstructError → Type 0
RangesRise body (Ok ranges) = (ranges.items ≡ class_ranges body) × AllRise (class_ranges body)
RangesRise body (Err fault.InvalidGlob) = AllRise (class_ranges body) → ⊥
RangesRise body (Err fault.OutOfMemory) = ⊤
