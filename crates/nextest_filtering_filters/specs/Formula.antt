-- Filters as formulas over leaves, and which values they can take.
use Rattle.std.specs.Prelude.{◌↔◌, Bool, true, false, ◌&&◌, ◌||◌, not, Option, None, Some, IsTrue}
use Rattle.nextest_filtering_filters.specs.declared.values.Values.{Values}

-- a formula over leaves
pub data Formula (L : Type 0) : Type 0 where
  leaf : L → Formula L
  negated : Formula L → Formula L
  either : Formula L → Formula L → Formula L
  both : Formula L → Formula L → Formula L

-- with another leaf for each
abbrev pub with_leaves : {L M : Type 0} → (L → M) → Formula L → Formula M
with_leaves change (leaf it) = leaf (change it)
with_leaves change (negated inside) = negated (with_leaves change inside)
with_leaves change (either left right) = either (with_leaves change left) (with_leaves change right)
with_leaves change (both left right) = both (with_leaves change left) (with_leaves change right)

-- it can be so where each leaf takes a value that it may take, apart from all other places, of the
-- same leaf too
pub data Gives {L : Type 0} (May : L → Bool → Type 0) : Formula L → Bool → Type 0 where
  leaf_gives : (it : L) (value : Bool) → May it value → Gives May (leaf it) value
  negated_gives : (inside : Formula L) (value : Bool) → Gives May inside value → Gives May (negated inside) (not value)
  either_gives : (left right : Formula L) (a b : Bool) → Gives May left a → Gives May right b → Gives May (either left right) (a || b)
  both_gives : (left right : Formula L) (a b : Bool) → Gives May left a → Gives May right b → Gives May (both left right) (a && b)

-- whether true, and whether false, is a value that can be
abbrev pub AreValues : (Bool → Type 0) → Values → Type 0
AreValues Can values = (IsTrue values.may_hold ↔ Can true) × (IsTrue values.may_fail ↔ Can false)

-- the one value that can be; none where both can
abbrev pub IsValue : (Bool → Type 0) → Option Bool → Type 0
IsValue Can (Some value) = Can value × (Can (not value) → ⊥)
IsValue Can None = Can true × Can false
