use Rattle.std.proofs.Common.{◌∙◌}
use Rattle.nextest_config_resolution_load.proofs.FilesRead.{profile_more}
use Rattle.nextest_config_resolution_load.proofs.file_reading.read_each.Goals as goal

pub loop-name-preserved : goal.loop-name-preserved
loop-name-preserved c =
    c.loop-name.invariant ∙ profile_more c.loop-name.found c.as_str.result.now c.in_ok-one.one c.push.new.self c.in-Some.name.now c.in-Some.given.now
    c.loop-name.name-iterator c.next.new.self c.in-Some.ensures.steps c.as_str.ensures.value c.in_ok-push.ensures.ok c.in_ok-one.ensures
