use Rattle.std.proofs.Common.{◌∙◌}
use Rattle.nextest_config_resolution_overrides.proofs.Grouped.{group_more}
use Rattle.nextest_config_resolution_overrides.proofs.groups.groups_in.Goals as goal

pub loop-key-preserved : goal.loop-key-preserved
loop-key-preserved c =
    c.loop-key.invariant ∙ group_more c.loop-key.groups c.as_str.result.now c.in_ok-group.group c.push.new.self c.in-Some.key.now c.in-Some.given.now
    c.loop-key.key-iterator c.next.new.self c.in-Some.ensures.steps c.as_str.ensures.value c.in_ok-push.ensures.ok c.in_ok-group.ensures
