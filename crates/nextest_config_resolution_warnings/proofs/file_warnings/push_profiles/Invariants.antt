use Rattle.std.proofs.Common.{◌≡◌, ◌++◌, map}
use Rattle.nextest_config_resolution_warnings.specs.declared.config_warning.ConfigWarning.TheVariants.{UnknownReservedProfile}
use Rattle.nextest_config_resolution_warnings.proofs.file_warnings.push_profiles.Given as goal

-- those so far
abbrev pub invariant-loop-profile : goal.invariant-loop-profile
invariant-loop-profile l = l.found ≡ l.initial.found ++ map UnknownReservedProfile l.yielded
