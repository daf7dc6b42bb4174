use Rattle.std.proofs.Common.{◌≡◌, ◌+◌, length}
use Rattle.nextest_json.specs.Left.{items_left}
use Rattle.nextest_json.proofs.form.are_so_many.Given as goal

-- those that are passed and those that are left are all
abbrev pub invariant-loop-passed : goal.invariant-loop-passed
invariant-loop-passed l = l._passed + length (items_left l.more) ≡ length (items_left l.fn.items)
