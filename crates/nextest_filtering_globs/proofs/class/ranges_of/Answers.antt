use Rattle.std.proofs.Common.{ap, ◌∙◌}
use Rattle.nextest_filtering_globs.proofs.Splits.{one_falls}
use Rattle.nextest_filtering_globs.specs.Syntax.{class_ranges}
use Rattle.nextest_filtering_globs.proofs.class.ranges_of.Goals as goal

pub returns-then-range : goal.returns-then-range
returns-then-range c =
    let range = c.first_range in
    one_falls (class_ranges c.args.body.now) c.loop-first.ranges.items (class_ranges c.loop-first.left.now)
    (class_ranges range.result.1.now) range.result.0
    c.loop-first.invariant.0 (ap class_ranges c.in-Some.ensures.cases.0 ∙ range.ensures.range) c.if-range.true
