use Rattle.std.proofs.Common.{take}
use Rattle.std.specs.List.{flat_map}
use Rattle.nextest_config_resolution_warnings.specs.Kept.{told_in}
use Rattle.nextest_config_resolution_warnings.specs.Warn.{Warns}
use Rattle.nextest_config_resolution_warnings.proofs.kept_warnings.KeptWarnings.tell.Given as goal

-- what was told so far
abbrev pub invariant-loop-file : goal.invariant-loop-file
invariant-loop-file g l = Warns g.W.ConfigWarnings.has_warned l.initial.warnings l.warnings (flat_map told_in (take l.file-index l.file-items))
