-- What a list of sources asks for, or the first source that may not stand in it.
use Rattle.std.specs.Prelude.{◌≡◌, ℕ, nat_lt, length, List, [], ◌∷◌, ◌++◌, Option, None, Some, Result, Ok, Err, ⊤, option_map, if◌then◌else◌}
use Rattle.std.specs.List.{flat_map}
use Rattle.std.specs.Option.{option_map_or}
use Rattle.toml.specs.Parse.{parse_document}
use Rattle.semver.specs.Parse.{Parts}
use Rattle.nextest_config_elements_identifiers.specs.declared.source_kind.ConfigSourceKind.{ConfigSourceKind}
use Rattle.nextest_config_elements_identifiers.specs.declared.source_kind.ConfigSourceKind.TheVariants as kinds
use Rattle.nextest_config_elements_toml.specs.Reading.{Path, Reading}
use Rattle.nextest_config_elements_versions.specs.Demand.{demand_of, no_demand}
use Rattle.nextest_config_elements_versions.specs.Features.{known_in, union, unknown_in}
use Rattle.nextest_config_elements_versions.specs.Verdict.{Ask, IsReq, asked_in, merged_versions, none_asked}
use Rattle.nextest_config_elements_versions.specs.declared.demand.VersionDemand.{VersionDemand}
use Rattle.nextest_config_elements_versions.specs.declared.experimental.ExperimentalConfig.{ExperimentalConfig}
use Rattle.nextest_config_elements_versions.specs.declared.experimental.UnknownFeatures.{UnknownFeatures}
use Rattle.nextest_config_elements_versions.specs.declared.origin.VersionOrigin.{VersionOrigin}
use Rattle.nextest_config_elements_versions.specs.declared.origin.VersionSource.{VersionSource}
use Rattle.nextest_config_elements_versions.specs.declared.source_fault.VersionOnlyError.{VersionOnlyError}
use Rattle.nextest_config_elements_versions.specs.declared.source_fault.VersionOnlyError.TheVariants as error
use Rattle.nextest_config_elements_versions.specs.declared.source_fault.VersionSourceFault.{VersionSourceFault}
use Rattle.nextest_config_elements_versions.specs.declared.source_fault.VersionSourceReason.{VersionSourceReason}
use Rattle.nextest_config_elements_versions.specs.declared.source_fault.VersionSourceReason.TheVariants as reason
use Rattle.nextest_config_elements_versions.specs.declared.version_only.VersionOnlyConfig.{VersionOnlyConfig}

-- a source: where it comes from, its path, and its text, unless it wasn't read
pub record Source : Type 0 where
  pub kind : ConfigSourceKind
  pub path : List ℕ
  pub text : Option (List ℕ)

-- the source that is lent
abbrev pub version_source_of : VersionSource → Source
version_source_of it = record { kind = it.kind.now; path = it.path.now; text = option_map (λ text. text.now) it.text }

-- why a source is refused: its text is no TOML, a value in it is none, or a tool asks for a feature
pub data Reason : Type 0 where
  no_toml : Reason
  bad_value : Path → Reason
  tool_features : Reason

-- a tool may ask for no feature, known or not
abbrev pub unless_tool : ConfigSourceKind → VersionDemand → Result VersionDemand Reason
unless_tool (kinds.Tool name) demand = if nat_lt 0 (length demand.features) then Err tool_features else Ok demand
unless_tool kinds.ExplicitRepository demand = Ok demand
unless_tool kinds.DiscoveredRepository demand = Ok demand

abbrev pub read_for : ConfigSourceKind → Reading VersionDemand → Result VersionDemand Reason
read_for kind (Ok demand) = unless_tool kind demand
read_for kind (Err path) = Err (bad_value path)

-- what a source asks for; one that wasn't read asks for nothing
abbrev pub demand_in : ConfigSourceKind → Option (List ℕ) → Result VersionDemand Reason
demand_in kind None = Ok no_demand
demand_in kind (Some text) = option_map_or (λ top. read_for kind (demand_of top)) (parse_document text) (Err no_toml)

-- a demand and whose it is
abbrev pub Asking : Type 0
Asking = VersionDemand × VersionOrigin

-- a source that is refused, by its path, and why
abbrev pub Refusal : Type 0
Refusal = List ℕ × Reason

abbrev pub origin_of : Source → VersionOrigin
origin_of source = record { kind = source.kind; path = source.path }

abbrev pub add : Source → Result VersionDemand Reason → Result (List Asking) Refusal → Result (List Asking) Refusal
add source (Err why) more = Err (source.path, why)
add source (Ok demand) (Err refusal) = Err refusal
add source (Ok demand) (Ok more) = Ok ((demand, origin_of source) ∷ more)

-- what the sources of a list ask for, or the first that is refused
abbrev pub askings : List Source → Result (List Asking) Refusal
askings [] = Ok []
askings (source ∷ more) = add source (demand_in source.kind source.text) (askings more)

-- the versions of a role that are asked for
abbrev pub ask_of : Option Parts → VersionOrigin → List Ask
ask_of None origin = []
ask_of (Some version) origin = (version, origin) ∷ []

abbrev pub required_in : List Asking → List Ask
required_in all = flat_map (λ it. ask_of it.0.versions.required it.1) all

abbrev pub recommended_in : List Asking → List Ask
recommended_in all = flat_map (λ it. ask_of it.0.versions.recommended it.1) all

-- the features that are asked for
abbrev pub features_in : List Asking → List (List ℕ)
features_in all = flat_map (λ it. it.0.features) all

-- the sources that ask for features which aren't known, each with these
abbrev pub unknown_features_of : VersionOrigin → List (List ℕ) → List UnknownFeatures
unknown_features_of origin [] = []
unknown_features_of origin (name ∷ more) = record { source = origin; names = name ∷ more } ∷ []

abbrev pub unknown_of : List Asking → List UnknownFeatures
unknown_of all = flat_map (λ it. unknown_features_of it.1 (unknown_in it.0.features)) all

-- what such a list comes to
pub record Comes (all : List Asking) (config : VersionOnlyConfig) : Type 0 where
  pub required : IsReq (required_in all) config.nextest_version.required
  pub recommended : IsReq (recommended_in all) config.nextest_version.recommended
  pub known : config.experimental.known ≡ known_in (features_in all)
  pub unknown : config.experimental.unknown ≡ unknown_of all

-- what one source comes to, and none
abbrev pub experimental_of : List (List ℕ) → VersionOrigin → ExperimentalConfig
experimental_of names source = record { known = known_in names; unknown = unknown_features_of source (unknown_in names) }

abbrev pub config_of : VersionDemand → VersionOrigin → VersionOnlyConfig
config_of demand source = record {
  nextest_version = asked_in demand.versions source;
  experimental = experimental_of demand.features source;
}

abbrev pub no_experimental : ExperimentalConfig
no_experimental = record { known = known_in []; unknown = [] }

-- two parts of a list
abbrev pub merged_features : ExperimentalConfig → ExperimentalConfig → ExperimentalConfig
merged_features one other = record { known = union one.known other.known; unknown = one.unknown ++ other.unknown }

abbrev pub merge_of : VersionOnlyConfig → VersionOnlyConfig → VersionOnlyConfig
merge_of one other = record {
  nextest_version = merged_versions one.nextest_version other.nextest_version;
  experimental = merged_features one.experimental other.experimental;
}

-- what a list comes to, source by source
abbrev pub no_config : VersionOnlyConfig
no_config = record { nextest_version = none_asked; experimental = no_experimental }

abbrev pub config_in : List Asking → VersionOnlyConfig
config_in [] = no_config
config_in (asking ∷ more) = merge_of (config_of asking.0 asking.1) (config_in more)

-- a fault tells a refusal
abbrev pub TellsReason : VersionSourceReason → Reason → Type 0
TellsReason (reason.Toml cause) why = why ≡ no_toml
TellsReason (reason.BadValue bad) why = why ≡ bad_value bad.path.keys
TellsReason reason.ToolFeatures why = why ≡ tool_features

abbrev pub TellsFault : VersionSourceFault → Refusal → Type 0
TellsFault fault refusal = (fault.path ≡ refusal.0) × TellsReason fault.reason refusal.1

-- a call refuses a source; want of memory says nothing
abbrev pub IsRefusal : List ℕ → VersionSourceReason → VersionOnlyError → Type 0
IsRefusal path why (error.Refused fault) = (fault.path ≡ path) × (fault.reason ≡ why)
IsRefusal path why error.OutOfMemory = ⊤

-- a call gives what a source asks for
abbrev pub GivesDemand : Source → Result VersionDemand Reason → Result VersionDemand VersionOnlyError → Type 0
GivesDemand source asked (Ok demand) = asked ≡ Ok demand
GivesDemand source asked (Err (error.Refused fault)) = (why : Reason) × (asked ≡ Err why) × TellsFault fault (source.path, why)
GivesDemand source asked (Err error.OutOfMemory) = ⊤

-- a call gives what a list of sources comes to, or refuses its first bad source; want of memory
-- says nothing
abbrev pub GivesConfig : List Source → Result VersionOnlyConfig VersionOnlyError → Type 0
GivesConfig sources (Ok config) = (all : List Asking) × (askings sources ≡ Ok all) × Comes all config
GivesConfig sources (Err (error.Refused fault)) = (refusal : Refusal) × (askings sources ≡ Err refusal) × TellsFault fault refusal
GivesConfig sources (Err error.OutOfMemory) = ⊤
