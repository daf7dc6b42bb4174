use Rattle.std.proofs.Common.{◌≡◌, ◌++◌}
use Rattle.toml.specs.View.{members_view, table_view}
use Rattle.nextest_config_resolution_warnings.specs.Scripts.{sections}
use Rattle.nextest_config_resolution_warnings.specs.Warn.{section_warnings}
use Rattle.nextest_config_resolution_warnings.proofs.file_warnings.push_sections.Given as goal

-- what was found, and what is ahead, are all
abbrev pub invariant-loop-name : goal.invariant-loop-name
invariant-loop-name l =
    l.found ++ section_warnings (sections (members_view l.name-iterator)) ≡ l.initial.found ++ section_warnings (sections (table_view l.profiles))
