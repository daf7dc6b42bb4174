use Rattle.std.proofs.Common.{below_more, ◌∙◌}
use Rattle.nextest_config_resolution_inheritance.proofs.endless.first_endless.Goals as goal

pub loop-start-preserved : goal.loop-start-preserved
loop-start-preserved c =
    (c.leaves.auto.walks ∙ c.loop-start.invariant.0, c.if-not-leaves.ensures.known, below_more _ _ c.loop-start.invariant.2 c.if-not-leaves.ensures.ends)
