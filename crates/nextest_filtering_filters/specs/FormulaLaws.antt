-- What holds of all formulas.
use Rattle.std.specs.Prelude.{◌≡◌, ℕ, Bool, Some}
use Rattle.nextest_filtering_filters.specs.Formula.{Formula, Gives, IsValue}
use Rattle.nextest_filtering_filters.specs.Values.{may_by}
use Rattle.nextest_filtering_filters.specs.declared.values.Values.{Values}

-- the one value stays the one where leaves may be less
abbrev pub Stays : Type 0
Stays =
    (values less : ℕ → Values) → ((number : ℕ) (value : Bool) → may_by less number value → may_by values number value)
    → (formula : Formula ℕ) (one value : Bool) → IsValue (Gives (may_by values) formula) (Some one) → Gives (may_by less) formula value → value ≡ one
