use Rattle.std.proofs.Common.{◌≡◌, length}
use Rattle.nextest_json.specs.Left.{items_left}
use Rattle.nextest_json.specs.Reading.{each}
use Rattle.nextest_json.proofs.Collected.{behind}
use Rattle.nextest_json.proofs.form.each.Given as goal

-- what was found so far, and then what reading the rest gives, is what reading all gives
abbrev pub invariant-loop-item : goal.invariant-loop-item
invariant-loop-item g l = behind l.found (each g.T.Form.reading (length l.found) (items_left l.more)) ≡ each g.T.Form.reading 0 (items_left l.fn.items)

abbrev pub decreases-loop-item : goal.decreases-loop-item
decreases-loop-item g l = length (items_left l.more)
