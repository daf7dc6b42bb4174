-- The sources of a configuration, as the version pass takes them.
use Rattle.std.specs.Prelude.{ℕ, List, Option, None, Some, map}
use Rattle.nextest_config_elements_versions.specs.Sources.{Source}
use Rattle.nextest_config_resolution_sources.specs.Counting.{counting_sources}
use Rattle.nextest_config_resolution_sources.specs.declared.source.ConfigSource.{ConfigSource}
use Rattle.nextest_config_resolution_sources.specs.declared.source.ConfigSourceOutcome.{ConfigSourceOutcome}
use Rattle.nextest_config_resolution_sources.specs.declared.source.ConfigSourceOutcome.TheVariants as outcomes

-- the text of a source that was read
abbrev pub text_of : ConfigSourceOutcome → Option (List ℕ)
text_of (outcomes.Text text) = Some text
text_of outcomes.NotFound = None
text_of (outcomes.Failed cause) = None

-- a source as the version pass takes it
abbrev pub source_of : ConfigSource → Source
source_of it = record { kind = it.kind; path = it.path; text = text_of it.outcome }

-- those that count, the lowest first
abbrev pub sources_of : List ConfigSource → List Source
sources_of sources = map source_of (counting_sources sources)
