use Rattle.std.proofs.Common.{take}
use Rattle.nextest_config_resolution_warnings.specs.Warn.{Warns, told_of}
use Rattle.nextest_config_resolution_warnings.proofs.warn.tell_all.Given as goal

-- what was told so far
abbrev pub invariant-loop-warning : goal.invariant-loop-warning
invariant-loop-warning g l = Warns g.W.ConfigWarnings.has_warned l.initial.warnings l.warnings (told_of l.source (take l.warning-index l.all))
