use Rattle.std.proofs.Common.{◌≡◌, ◌-◌, slice_get}
use Rattle.nextest_json.specs.Left.{items_left}
use Rattle.nextest_json.proofs.form.nth.Given as goal

-- what is looked for stands as far behind as is not yet passed
abbrev pub invariant-loop-passed : goal.invariant-loop-passed
invariant-loop-passed l = slice_get (items_left l.more) (l.count - l._passed) ≡ slice_get (items_left l.fn.items) l.count
