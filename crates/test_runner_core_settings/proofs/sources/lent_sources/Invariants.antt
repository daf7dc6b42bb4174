use Rattle.std.proofs.Common.{◌≡◌, map}
use Rattle.nextest_config_elements_versions.specs.Sources.{version_source_of}
use Rattle.test_runner_core_settings.specs.Sources.{source_of}
use Rattle.test_runner_core_settings.proofs.sources.lent_sources.Given as goal

-- those so far
abbrev pub invariant-loop-source : goal.invariant-loop-source
invariant-loop-source l = map version_source_of l.found.items ≡ map source_of (map (λ it. it.now) l.yielded)
