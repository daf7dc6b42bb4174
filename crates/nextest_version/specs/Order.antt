-- How versions stand to one another by precedence: builds are left aside.
use Rattle.std.specs.Prelude.{Bool}
use Rattle.std.specs.Ordering.{is_gt, nat_cmp, on, then_cmp}
use Rattle.std.specs.declared.cmp.Ordering.{Ordering}
use Rattle.semver.specs.Order.{pre_cmp}
use Rattle.semver.specs.Parse.{Parts}

-- by the three numbers, then by the pre-release
abbrev pub precedence : Parts → Parts → Ordering
precedence =
    then_cmp (on (λ it. it.0) nat_cmp) (then_cmp (on (λ it. it.1) nat_cmp)
    (then_cmp (on (λ it. it.2) nat_cmp) (on (λ it. it.3) pre_cmp)))

-- the first is greater
abbrev pub is_above : Parts → Parts → Bool
is_above one other = is_gt (precedence one other)
