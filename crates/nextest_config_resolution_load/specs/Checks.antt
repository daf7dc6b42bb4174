-- What is checked of the sources of a configuration, in the written order.
use Rattle.std.specs.Prelude.{ℕ, Bool, true, false, not, ◌&&◌, ◌||◌, codes, List, [], ◌∷◌, ◌++◌, map, reverse, filter_map, Option, None, Some, option_map, option_to_list, Ok, Err}
use Rattle.std.specs.List.{flat_map}
use Rattle.std.specs.Str.{bytes_eq}
use Rattle.toml.specs.Data.{Data, table, Members, no_members, member, get_member}
use Rattle.toml.specs.Parse.{parse_document}
use Rattle.nextest_config_elements_identifiers.specs.Config.{is_tool}
use Rattle.nextest_config_elements_identifiers.specs.Parts.{tool_parts}
use Rattle.nextest_config_elements_identifiers.specs.declared.source_kind.ConfigSourceKind.{ConfigSourceKind}
use Rattle.nextest_config_elements_identifiers.specs.declared.source_kind.ConfigSourceKind.TheVariants as kinds
use Rattle.nextest_config_elements_toml.specs.Reading.{Path, Reading, ◌>>=◌}
use Rattle.nextest_config_elements_versions.specs.declared.feature.ConfigExperimental.TheVariants as feature
use Rattle.nextest_config_elements_versions.specs.declared.feature.FeatureSet.{FeatureSet}
use Rattle.nextest_config_resolution_inheritance.specs.Inheritance.{Parents}
use Rattle.nextest_config_resolution_sources.specs.Counting.{counting_sources}
use Rattle.nextest_config_resolution_sources.specs.declared.source.ConfigSource.{ConfigSource}
use Rattle.nextest_config_resolution_sources.specs.declared.source.ConfigSourceOutcome.{ConfigSourceOutcome}
use Rattle.nextest_config_resolution_sources.specs.declared.source.ConfigSourceOutcome.TheVariants as outcome
use Rattle.nextest_config_resolution_tree.specs.Tree.{over}
use Rattle.nextest_config_resolution_overrides.specs.Groups.{groups_at}
use Rattle.nextest_config_resolution_overrides.specs.declared.groups.NamedGroup.{NamedGroup}
use Rattle.nextest_config_resolution_overrides.specs.declared.placed_override.PlacedOverride.{PlacedOverride}
use Rattle.nextest_config_resolution_scripts.specs.Scripts.{scripts_at}
use Rattle.nextest_config_resolution_scripts.specs.declared.script_config.NamedScript.{NamedScript}
use Rattle.nextest_config_resolution_scripts.specs.declared.script_config.ScriptConfig.{ScriptConfig}
use Rattle.nextest_config_resolution_scripts.specs.declared.script_config.ScriptType.TheVariants as script
use Rattle.nextest_config_resolution_scripts.specs.declared.script_rule.PlacedScriptRule.{PlacedScriptRule}
use Rattle.nextest_config_resolution_keys.specs.File.{Named, default_filter_in, inherits_in, profiles_at, store_dir_at}
use Rattle.nextest_config_resolution_load.specs.File.{file_in}
pub use Rattle.nextest_config_resolution_load.specs.Refusal.{Check, broken, is_filter, is_spec, inheritance, Refusal, unread, no_toml, bad_value, both_script_tables, feature_not_enabled, bad_name, repeated_script, no_constraint, filter_and_default_filter, bad_spec, bad_rule_filter, bad_merged, unknown_group, unknown_script, unknown_wrapper, inherits_badly, bad_filter, must_hold}
use Rattle.nextest_config_resolution_load.specs.Rules.{group_checks, is_defined, has_script, profile_checks, rules_at, script_checks, script_rules_at}
use Rattle.nextest_config_resolution_load.specs.declared.file_config.FileConfig.{FileConfig}
use Rattle.nextest_config_resolution_load.specs.declared.languages.FilterPurpose.TheVariants as purpose

-- ---- of each source

-- that what is read can stand at its keys
abbrev pub value_checks : {A : Type 0} → (Path → Refusal) → Reading A → List Check
value_checks refusal (Ok values) = []
value_checks refusal (Err keys) = broken (refusal keys) ∷ []

-- a name that a source may define: of a tool's file one of that tool, of the repository's none of a
-- tool
abbrev pub is_of_tool : List ℕ → Option (List ℕ × List ℕ) → Bool
is_of_tool tool None = false
is_of_tool tool (Some parts) = bytes_eq parts.0 tool

abbrev pub may_define : ConfigSourceKind → List ℕ → Bool
may_define (kinds.Tool tool) name = is_of_tool tool (tool_parts name)
may_define kinds.ExplicitRepository name = not (is_tool name)
may_define kinds.DiscoveredRepository name = not (is_tool name)

abbrev pub may_name : List ℕ → ConfigSourceKind → List ℕ → List Check
may_name path kind name = must_hold (may_define kind name) (bad_name path name)

abbrev pub name_checks : List ℕ → ConfigSourceKind → FileConfig → List Check
name_checks path kind config =
    flat_map (λ group. may_name path kind group.name) config.groups
    ++ (flat_map (λ it. may_name path kind it.id) config.old_scripts
    ++ (flat_map (λ it. may_name path kind it.id) config.scripts.setup
    ++ flat_map (λ it. may_name path kind it.id) config.scripts.wrapper))

-- its setup scripts stand in one of the two tables that may have them
abbrev pub has_some : {A : Type 0} → List A → Bool
has_some [] = false
has_some (it ∷ more) = true

abbrev pub has_scripts : FileConfig → Bool
has_scripts config = has_some config.scripts.setup || has_some config.scripts.wrapper

abbrev pub table_checks : List ℕ → FileConfig → List Check
table_checks path config = must_hold (not (has_some config.old_scripts && has_scripts config)) (both_script_tables path)

-- it has setup scripts
abbrev pub has_setup : FileConfig → Bool
has_setup config = has_some config.old_scripts || has_some config.scripts.setup

-- scripts of a kind need its feature
abbrev pub feature_checks : FeatureSet → List ℕ → FileConfig → List Check
feature_checks features path config =
    must_hold (features.setup_scripts || not (has_setup config)) (feature_not_enabled path feature.SetupScripts)
    ++ must_hold (features.wrapper_scripts || not (has_some config.scripts.wrapper)) (feature_not_enabled path feature.WrapperScripts)

-- no name is that of a setup script and of a wrapper script
abbrev pub not_among : {A : Type 0} → List ℕ → List (NamedScript A) → List ℕ → List Check
not_among path scripts id = must_hold (not (has_script scripts id)) (repeated_script path id)

abbrev pub repeated_checks : List ℕ → FileConfig → List Check
repeated_checks path config =
    flat_map (λ it. not_among path config.scripts.wrapper it.id) config.old_scripts
    ++ flat_map (λ it. not_among path config.scripts.wrapper it.id) config.scripts.setup

-- what it defines
abbrev pub defined_checks : FeatureSet → List ℕ → ConfigSourceKind → FileConfig → List Check
defined_checks features path kind config =
    table_checks path config ++ (feature_checks features path config ++ (name_checks path kind config ++ repeated_checks path config))

-- that each value of a file can stand at its key, that it may define what it does, and what is
-- checked of its rules
abbrev pub file_checks : FeatureSet → List ℕ → ConfigSourceKind → Reading FileConfig → List Check
file_checks features path kind (Err keys) = broken (bad_value path keys) ∷ []
file_checks features path kind (Ok config) = defined_checks features path kind config ++ flat_map (profile_checks path) config.profiles

-- that a text is TOML
abbrev pub document_checks : FeatureSet → List ℕ → ConfigSourceKind → Option Members → List Check
document_checks features path kind None = broken (no_toml path) ∷ []
document_checks features path kind (Some file) = file_checks features path kind (file_in file)

-- only a file that was looked for may be missing
abbrev pub missing_checks : List ℕ → ConfigSourceKind → List Check
missing_checks path (kinds.Tool name) = broken (unread path) ∷ []
missing_checks path kinds.ExplicitRepository = broken (unread path) ∷ []
missing_checks path kinds.DiscoveredRepository = []

abbrev pub outcome_checks : FeatureSet → List ℕ → ConfigSourceKind → ConfigSourceOutcome → List Check
outcome_checks features path kind (outcome.Text text) = document_checks features path kind (parse_document text)
outcome_checks features path kind outcome.NotFound = missing_checks path kind
outcome_checks features path kind (outcome.Failed cause) = broken (unread path) ∷ []

abbrev pub source_checks : FeatureSet → ConfigSource → List Check
source_checks features source = outcome_checks features source.path source.kind source.outcome

-- ---- of what all come to

-- the file of a source, if there is one
abbrev pub document_of : ConfigSourceOutcome → Option Members
document_of (outcome.Text text) = parse_document text
document_of outcome.NotFound = None
document_of (outcome.Failed cause) = None

abbrev pub file_of : ConfigSource → Option Members
file_of source = document_of source.outcome

-- the rules of a file, by the names of their profiles, and those of a profile in their order
pub record FileRules : Type 0 where
  pub overrides : List PlacedOverride
  pub scripts : List PlacedScriptRule

abbrev pub no_rules : FileRules
no_rules = record { overrides = []; scripts = [] }

abbrev pub rules_in_file : List ℕ → Reading FileConfig → FileRules
rules_in_file path (Ok config) = record { overrides = rules_at path config.profiles; scripts = script_rules_at path config.profiles }
rules_in_file path (Err keys) = no_rules

abbrev pub rules_in : List ℕ → Option Members → FileRules
rules_in path None = no_rules
rules_in path (Some file) = rules_in_file path (file_in file)

abbrev pub rules_of_source : ConfigSource → FileRules
rules_of_source source = rules_in source.path (file_of source)

-- those of all sources that count: the highest file first, as rules are asked, and the lowest
-- first, as they are checked
abbrev pub rules_downward : List ConfigSource → List PlacedOverride
rules_downward sources = flat_map (λ source. (rules_of_source source).overrides) (reverse (counting_sources sources))

abbrev pub rules_upward : List ConfigSource → List PlacedOverride
rules_upward sources = flat_map (λ source. (rules_of_source source).overrides) (counting_sources sources)

abbrev pub script_rules_downward : List ConfigSource → List PlacedScriptRule
script_rules_downward sources = flat_map (λ source. (rules_of_source source).scripts) (reverse (counting_sources sources))

abbrev pub script_rules_upward : List ConfigSource → List PlacedScriptRule
script_rules_upward sources = flat_map (λ source. (rules_of_source source).scripts) (counting_sources sources)

-- what files come to, the lowest first, each over the lower ones
abbrev pub tree_of_files : Data → List Members → Data
tree_of_files tree [] = tree
tree_of_files tree (file ∷ files) = tree_of_files (over (table file) (Some tree)) files

-- the members of a table
abbrev pub members_of : Data → Members
members_of (table members) = members
members_of other = no_members

-- a file whose setup scripts under `script` stand under `scripts.setup`, over those that stand
-- there
abbrev pub as_setup : Data → Members
as_setup given = member (codes "scripts") (table (member (codes "setup") given no_members)) no_members

abbrev pub scripts_over : Option Members → Members → Members
scripts_over None file = file
scripts_over (Some scripts) file = members_of (over (table scripts) (Some (table file)))

abbrev pub file_with_setup : Members → Members
file_with_setup file = scripts_over (option_map as_setup (get_member (codes "script") file)) file

-- what the sources that count come to, over what is built in
abbrev pub merged_in : Members → List ConfigSource → Members
merged_in built_in sources = members_of (tree_of_files (table built_in) (map file_with_setup (filter_map file_of (counting_sources sources))))

-- what a merged tree says of profiles, scripts, the store and groups
pub record MergedConfig : Type 0 where
  pub profiles : List Named
  pub store_dir : Option (List ℕ)
  pub groups : List NamedGroup
  pub scripts : ScriptConfig

abbrev pub config_in : Members → Reading MergedConfig
config_in top = do
  profiles ← profiles_at top
  scripts ← scripts_at top
  store_dir ← store_dir_at top
  groups ← groups_at top
  Ok (record { profiles = profiles; store_dir = store_dir; groups = groups; scripts = scripts })

-- the profiles with their parents
abbrev pub parents_of : List Named → Parents
parents_of profiles = map (λ profile. (profile.0, inherits_in profile.1)) profiles

-- a default filter that a profile sets is one
abbrev pub default_check : List ℕ → Option (List ℕ) → List Check
default_check profile text = option_to_list (option_map (λ it. is_filter purpose.Default it (bad_filter profile)) text)

-- of each profile, by name
abbrev pub default_checks : List Named → List Check
default_checks profiles = flat_map (λ profile. default_check profile.0 (default_filter_in profile.1)) profiles

-- each value can stand at its key; the groups, setup scripts and wrapper scripts that rules name
-- are defined; profiles inherit as they may; default filters are some
abbrev pub named_checks : List PlacedOverride → List PlacedScriptRule → MergedConfig → List Check
named_checks rules scripts config =
    flat_map (group_checks (is_defined config.groups)) rules
    ++ (flat_map (script_checks script.Setup (has_script config.scripts.setup)) scripts
    ++ flat_map (script_checks script.Wrapper (has_script config.scripts.wrapper)) scripts)

abbrev pub merged_checks : List PlacedOverride → List PlacedScriptRule → Reading MergedConfig → List Check
merged_checks rules scripts (Err keys) = broken (bad_merged keys) ∷ []
merged_checks rules scripts (Ok config) = named_checks rules scripts config ++ (inheritance (parents_of config.profiles) ∷ default_checks config.profiles)

-- all checks: of each source that counts, the lowest first, then of what all of them come to
abbrev pub checks_of : FeatureSet → Members → List ConfigSource → List Check
checks_of features built_in sources =
    flat_map (source_checks features) (counting_sources sources)
    ++ merged_checks (rules_upward sources) (script_rules_upward sources) (config_in (merged_in built_in sources))
