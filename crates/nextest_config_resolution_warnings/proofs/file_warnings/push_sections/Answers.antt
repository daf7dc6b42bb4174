use Rattle.std.proofs.Common.{◌++◌}
use Rattle.toml.specs.View.{table_view}
use Rattle.nextest_config_resolution_warnings.proofs.Sections.{section_further}
use Rattle.nextest_config_resolution_warnings.specs.Scripts.{sections}
use Rattle.nextest_config_resolution_warnings.specs.Warn.{section_warnings}
use Rattle.nextest_config_resolution_warnings.proofs.file_warnings.push_sections.Goals as goal

pub loop-name-preserved : goal.loop-name-preserved
loop-name-preserved c =
    section_further c.loop-name.found c.push_section.new.found (c.args.found.now ++ section_warnings (sections (table_view c.args.profiles.now))) c.loop-name.name-iterator c.next.new.self
    (c.in-Some.name.now, c.in-Some.profile.now) c.as_str.result.now c.empty_in_profile.result c.in-Some.ensures.steps c.as_str.ensures.value c.empty_in_profile.ensures
    c.loop-name.invariant c.in_ok-push_section.ensures
