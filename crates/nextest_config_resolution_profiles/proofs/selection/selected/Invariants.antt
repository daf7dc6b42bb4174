use Rattle.std.proofs.Common.{◌≡◌, map, take}
use Rattle.nextest_config_resolution_profiles.specs.Selection.{source_by}
use Rattle.nextest_config_resolution_profiles.proofs.selection.selected.Given as goal

abbrev pub invariant-loop-source : goal.invariant-loop-source
invariant-loop-source l = l.found.items ≡ map (source_by l.selection) (take l.source-index l.sources)
