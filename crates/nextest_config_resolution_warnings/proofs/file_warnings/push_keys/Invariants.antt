use Rattle.std.proofs.Common.{◌≡◌, ◌++◌, map}
use Rattle.nextest_config_resolution_warnings.specs.declared.config_warning.ConfigWarning.TheVariants.{UnknownKey}
use Rattle.nextest_config_resolution_warnings.proofs.file_warnings.push_keys.Given as goal

-- those so far
abbrev pub invariant-loop-key : goal.invariant-loop-key
invariant-loop-key l = l.found ≡ l.initial.found ++ map UnknownKey l.yielded
