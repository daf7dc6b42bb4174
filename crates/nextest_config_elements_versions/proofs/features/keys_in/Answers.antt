use Rattle.std.proofs.Common.{ap, ◌∙◌}
use Rattle.toml.proofs.Views.{view-Boolean}
use Rattle.toml.specs.View.{view}
use Rattle.nextest_config_elements_versions.proofs.Names.{key_more}
use Rattle.nextest_config_elements_versions.proofs.features.keys_in.Goals as goal

pub loop-name-preserved : goal.loop-name-preserved
loop-name-preserved c =
    c.loop-name.invariant ∙ key_more c.loop-name.names c.as_str-in-loop-name.result.now c.push_asked.new.names c.in-Boolean.is_asked c.in-Some.name.now
    c.in-Some.given.now c.loop-name.name-iterator c.next.new.self c.in-Some.ensures.steps (ap view c.in-Boolean.is ∙ view-Boolean c.in-Boolean.is_asked)
    c.as_str-in-loop-name.ensures.value c.in_ok-push_asked.ensures
