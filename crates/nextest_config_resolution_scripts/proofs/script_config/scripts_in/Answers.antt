use Rattle.std.proofs.Common.{◌∙◌}
use Rattle.nextest_config_resolution_scripts.proofs.Listed.{script_more}
use Rattle.nextest_config_resolution_scripts.proofs.script_config.scripts_in.Goals as goal

pub loop-key-preserved : goal.loop-key-preserved
loop-key-preserved g c =
    c.loop-key.invariant ∙ script_more g.T.DeserializeValue.reading c.loop-key.scripts c.as_str.result.now c.in_ok-script.script c.push.new.self c.in-Some.key.now c.in-Some.given.now
    c.loop-key.key-iterator c.next.new.self c.in-Some.ensures.steps c.as_str.ensures.value c.in_ok-push.ensures.ok c.in_ok-script.ensures
