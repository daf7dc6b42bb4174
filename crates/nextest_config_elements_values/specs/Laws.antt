-- What the laws say.
use Rattle.std.specs.Prelude.{◌≡◌, ℤ, ◌<ℤ◌}
use Rattle.std.specs.declared.cmp.Ordering.{Ordering}
use Rattle.std.specs.declared.cmp.Ordering.TheVariants.{Less}

-- in an order of numbers the greater ones come first
abbrev pub GreaterFirst : (ℤ → ℤ → Ordering) → Type 0
GreaterFirst cmp = (greater other : ℤ) → other <ℤ greater → cmp greater other ≡ Less
