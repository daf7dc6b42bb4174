-- Which sources of a configuration count, the lowest first.
use Rattle.std.specs.Prelude.{Bool, true, false, List, [], ◌∷◌, ◌++◌, Option, None, Some, reverse, if◌then◌else◌}
use Rattle.std.specs.List.{filter}
use Rattle.std.specs.Option.{option_or}
use Rattle.nextest_config_elements_identifiers.specs.declared.source_kind.ConfigSourceKind.{ConfigSourceKind}
use Rattle.nextest_config_elements_identifiers.specs.declared.source_kind.ConfigSourceKind.TheVariants as kinds
use Rattle.nextest_config_resolution_sources.specs.declared.class.Class.{Class}
use Rattle.nextest_config_resolution_sources.specs.declared.class.Class.TheVariants as class
use Rattle.nextest_config_resolution_sources.specs.declared.source.ConfigSource.{ConfigSource}

-- where a source comes from, its name aside
abbrev pub class_of : ConfigSourceKind → Class
class_of (kinds.Tool name) = class.Tool
class_of kinds.ExplicitRepository = class.Explicit
class_of kinds.DiscoveredRepository = class.Discovered

abbrev pub same_class : Class → Class → Bool
same_class class.Tool class.Tool = true
same_class class.Explicit class.Explicit = true
same_class class.Discovered class.Discovered = true
same_class _ _ = false

abbrev pub is_of : Class → ConfigSource → Bool
is_of wanted source = same_class wanted (class_of source.kind)

-- the first source of a class
abbrev pub first_of : Class → List ConfigSource → Option ConfigSource
first_of wanted [] = None
first_of wanted (source ∷ more) = if is_of wanted source then Some source else first_of wanted more

-- the repository's source that counts: the first that was named, else the first that was looked for
abbrev pub repository : List ConfigSource → Option ConfigSource
repository sources = option_or (first_of class.Explicit sources) (first_of class.Discovered sources)

abbrev pub list_of_option : {A : Type 0} → Option A → List A
list_of_option None = []
list_of_option (Some x) = x ∷ []

-- the tools' sources, of which the first is the highest, and above them the repository's
abbrev pub counting_sources : List ConfigSource → List ConfigSource
counting_sources sources = reverse (filter (is_of class.Tool) sources) ++ list_of_option (repository sources)
