use Rattle.std.proofs.Common.{◌≡◌, ◌++◌, length}
use Rattle.nextest_filtering_globs.specs.Syntax.{AllRise, class_ranges}
use Rattle.nextest_filtering_globs.proofs.class.ranges_of.Given as goal

abbrev pub invariant-loop-first : goal.invariant-loop-first
invariant-loop-first l = (class_ranges l.body ≡ l.ranges.items ++ class_ranges l.left) × AllRise l.ranges.items

abbrev pub decreases-loop-first : goal.decreases-loop-first
decreases-loop-first l = length l.left
