use Rattle.std.proofs.Common.{◌≡◌, take}
use Rattle.nextest_config_elements_versions.specs.Features.{unknown_in}
use Rattle.nextest_config_elements_versions.proofs.experimental.unknown_in.Given as goal

abbrev pub invariant-loop-name : goal.invariant-loop-name
invariant-loop-name l = l.unknown ≡ unknown_in (take l.name-index l.names)
