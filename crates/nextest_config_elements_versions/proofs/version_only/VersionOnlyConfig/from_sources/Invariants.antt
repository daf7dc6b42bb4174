use Rattle.std.proofs.Common.{map, take, Ok}
use Rattle.nextest_config_elements_versions.specs.Sources.{GivesConfig, version_source_of}
use Rattle.nextest_config_elements_versions.proofs.version_only.VersionOnlyConfig.from_sources.Given as goal

-- what the sources so far come to
abbrev pub invariant-loop-source : goal.invariant-loop-source
invariant-loop-source l = GivesConfig (map version_source_of (take l.source-index l.sources)) (Ok l.config)
