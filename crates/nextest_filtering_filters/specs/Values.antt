-- Values that can be, of what is made of others.
use Rattle.std.specs.Prelude.{◌⊎◌, ℕ, Bool, true, false, List, slice_get, unwrap_or, ◌&&◌, ◌||◌, Option, None, Some, IsTrue, if◌then◌else◌}
use Rattle.nextest_filtering_filters.specs.declared.values.Values.{Values}

-- a leaf may be what its values say
abbrev pub may_by : (ℕ → Values) → ℕ → Bool → Type 0
may_by values number true = IsTrue (values number).may_hold
may_by values number false = IsTrue (values number).may_fail

-- what holds nowhere
abbrev pub nowhere : Values
nowhere = record { may_hold = false; may_fail = true }

-- the values of a leaf, by its place in a list; one that isn't there holds nowhere
abbrev pub values_at : List Values → ℕ → Values
values_at values number = unwrap_or (slice_get values number) nowhere

-- some value can be
abbrev pub IsSome : Values → Type 0
IsSome values = IsTrue values.may_hold ⊎ IsTrue values.may_fail

abbrev pub negated_values : Values → Values
negated_values values = record { may_hold = values.may_fail; may_fail = values.may_hold }

abbrev pub either_values : Values → Values → Values
either_values left right = record { may_hold = left.may_hold || right.may_hold; may_fail = left.may_fail && right.may_fail }

abbrev pub both_values : Values → Values → Values
both_values left right = record { may_hold = left.may_hold && right.may_hold; may_fail = left.may_fail || right.may_fail }

-- the one value that can be, or none where both can
abbrev pub one_value : Values → Option Bool
one_value values = if values.may_hold && values.may_fail then None else Some values.may_hold
