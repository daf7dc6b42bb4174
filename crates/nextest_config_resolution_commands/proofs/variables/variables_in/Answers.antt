use Rattle.std.proofs.Common.{◌∙◌}
use Rattle.nextest_config_resolution_commands.proofs.Listed.{variable_more}
use Rattle.nextest_config_resolution_commands.proofs.variables.variables_in.Goals as goal

pub loop-name-preserved : goal.loop-name-preserved
loop-name-preserved c =
    c.loop-name.invariant ∙ variable_more c.loop-name.variables c.as_str.result.now c.in_ok-variable.variable c.push.new.self c.in-Some.name.now c.in-Some.given.now
    c.loop-name.name-iterator c.next.new.self c.in-Some.ensures.steps c.as_str.ensures.value c.in_ok-push.ensures.ok c.in_ok-variable.ensures
