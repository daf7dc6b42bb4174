-- Where the repository's sources come from, by which file is selected.
use Rattle.std.specs.Prelude.{ℕ, List, Option, map}
use Rattle.nextest_config_elements_identifiers.specs.declared.source_kind.ConfigSourceKind.{ConfigSourceKind}
use Rattle.nextest_config_elements_identifiers.specs.declared.source_kind.ConfigSourceKind.TheVariants as kinds
use Rattle.nextest_config_resolution_sources.specs.Kinds.{repository_kind}
use Rattle.nextest_config_resolution_sources.specs.declared.source.ConfigSource.{ConfigSource}

-- where a source comes from: the repository's is named or looked for, as a selection says
abbrev pub kind_by : Option (List ℕ) → ConfigSourceKind → ConfigSourceKind
kind_by selection (kinds.Tool name) = kinds.Tool name
kind_by selection kinds.ExplicitRepository = repository_kind selection
kind_by selection kinds.DiscoveredRepository = repository_kind selection

-- a source that comes from there, with its path and what came of reading it
abbrev pub source_by : Option (List ℕ) → ConfigSource → ConfigSource
source_by selection source = record source { kind = kind_by selection source.kind }

-- sources, those of the repository as a selection says
abbrev pub selected_by : Option (List ℕ) → List ConfigSource → List ConfigSource
selected_by selection sources = map (source_by selection) sources
