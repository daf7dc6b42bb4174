-- Where sources come from.
use Rattle.std.specs.Prelude.{ℕ, List, Option, None, Some}
use Rattle.nextest_config_elements_identifiers.specs.declared.source_kind.ConfigSourceKind.{ConfigSourceKind}
use Rattle.nextest_config_elements_identifiers.specs.declared.source_kind.ConfigSourceKind.TheVariants as kinds

-- the tool that brings a source, where one does
abbrev pub tool_of : ConfigSourceKind → Option (List ℕ)
tool_of (kinds.Tool name) = Some name
tool_of kinds.ExplicitRepository = None
tool_of kinds.DiscoveredRepository = None

-- where the repository's source comes from: it is named by a path, or looked for
abbrev pub repository_kind : Option (List ℕ) → ConfigSourceKind
repository_kind (Some path) = kinds.ExplicitRepository
repository_kind None = kinds.DiscoveredRepository
