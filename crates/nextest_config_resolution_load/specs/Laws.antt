-- What the laws say.
use Rattle.std.specs.Prelude.{◌≡◌, ◌⊎◌, ℕ, true, List, [], ◌∷◌, ◌++◌, map, reverse, Option, None, Some, is_some, Ok, Err, ⊤}
use Rattle.std.specs.List.{AllByRecursion}
use Rattle.std.specs.Option.{IfSome}
use Rattle.toml.specs.Data.{table, Members}
use Rattle.nextest_config_elements_identifiers.specs.declared.test_group.TestGroup.{TestGroup}
use Rattle.nextest_config_elements_identifiers.specs.declared.test_group.TestGroup.TheVariants as group
use Rattle.nextest_config_elements_versions.specs.declared.feature.FeatureSet.{FeatureSet}
use Rattle.nextest_config_resolution_overrides.specs.declared.groups.NamedGroup.{NamedGroup}
use Rattle.nextest_config_resolution_scripts.specs.Defined.{script_named}
use Rattle.nextest_config_resolution_scripts.specs.declared.script_config.NamedScript.{NamedScript}
use Rattle.nextest_config_resolution_scripts.specs.declared.script_config.ScriptConfig.{ScriptConfig}
use Rattle.nextest_config_resolution_scripts.specs.declared.script_rule.ScriptRuleConfig.{ScriptRuleConfig}
use Rattle.nextest_config_resolution_sources.specs.declared.source.ConfigSource.{ConfigSource}
use Rattle.nextest_config_resolution_tree.specs.Merged.{IsMerged}
use Rattle.nextest_config_resolution_load.specs.Checks.{tree_of_files}
use Rattle.nextest_config_resolution_load.specs.Load.{IsFilterBy, IsLoaded, IsLoadedAs, IsSpecBy, reason_of, merged_of}
use Rattle.nextest_config_resolution_load.specs.Rules.{is_defined}
use Rattle.nextest_config_resolution_load.specs.declared.load_error.LoadError.TheVariants.{Refused}
use Rattle.nextest_config_resolution_load.specs.declared.load_fault.LoadFault.{LoadFault}
use Rattle.nextest_config_resolution_load.specs.declared.loaded_config.LoadedConfig.{LoadedConfig}

-- what files come to, the lowest first, is the merged tree of them all, with what is built in below
abbrev pub MergedFiles : Type 0
MergedFiles = (built_in : Members) (files : List Members) → IsMerged (reverse (map table files) ++ table built_in ∷ []) (tree_of_files (table built_in) files)

-- what sources are loaded to has one list of values
abbrev pub OneLoad : {F S : Type 0} → IsFilterBy F → IsSpecBy S → (List ℕ → Type 0) → Type 0
OneLoad {F} {S} Is IsSpec IsTooDeep = (features : FeatureSet) (built_in : Members) (sources : List ConfigSource) (one other : LoadedConfig F S)
    → IsLoaded Is IsSpec IsTooDeep features built_in sources (Ok one) → IsLoaded Is IsSpec IsTooDeep features built_in sources (Ok other) → merged_of one ≡ merged_of other

-- where no text is too deep for the reader of filters, sources that are loaded aren't refused
abbrev pub NoFault : {F S : Type 0} → IsFilterBy F → IsSpecBy S → (List ℕ → Type 0) → Type 0
NoFault {F} {S} Is IsSpec IsTooDeep = ((text : List ℕ) → ¬ IsTooDeep text) → (features : FeatureSet) (built_in : Members) (sources : List ConfigSource) (config : LoadedConfig F S) (fault : LoadFault)
    → IsLoaded Is IsSpec IsTooDeep features built_in sources (Ok config) → ¬ IsLoaded Is IsSpec IsTooDeep features built_in sources (Err (Refused fault))

-- and are refused for one reason
abbrev pub OneReason : {F S : Type 0} → IsFilterBy F → IsSpecBy S → (List ℕ → Type 0) → Type 0
OneReason {F} {S} Is IsSpec IsTooDeep = ((text : List ℕ) → ¬ IsTooDeep text) → (features : FeatureSet) (built_in : Members) (sources : List ConfigSource) (one other : LoadFault)
    → IsLoaded Is IsSpec IsTooDeep features built_in sources (Err (Refused one)) → IsLoaded Is IsSpec IsTooDeep features built_in sources (Err (Refused other)) → reason_of one ≡ reason_of other

-- It can't be that sources are neither loaded nor refused. No law decides whether a text is a
-- filter, so it is said in this form.
abbrev pub SomeLoad : {F S : Type 0} → IsFilterBy F → IsSpecBy S → (List ℕ → Type 0) → Type 0
SomeLoad {F} {S} Is IsSpec IsTooDeep = (features : FeatureSet) (built_in : Members) (sources : List ConfigSource)
    → ¬ ¬ (((it : LoadedConfig F S) × IsLoaded Is IsSpec IsTooDeep features built_in sources (Ok it)) ⊎ ((told : LoadFault) × IsLoaded Is IsSpec IsTooDeep features built_in sources (Err (Refused told))))

-- ---- what rules name

-- a script of a name is found
abbrev pub IsFound : {A : Type 0} → List (NamedScript A) → List ℕ → Type 0
IsFound scripts id = is_some (script_named scripts id) ≡ true

-- each script that a script rule names is found among those of its kind
pub record HasScripts (scripts : ScriptConfig) (rule : ScriptRuleConfig) : Type 0 where
  pub setup : AllByRecursion (IsFound scripts.setup) rule.setup
  pub list_wrapper : IfSome rule.list_wrapper (IsFound scripts.wrapper)
  pub run_wrapper : IfSome rule.run_wrapper (IsFound scripts.wrapper)

-- the group that an override puts tests into is one of these, or is built in
abbrev pub HasGroup : List NamedGroup → Option TestGroup → Type 0
HasGroup groups None = ⊤
HasGroup groups (Some group.Global) = ⊤
HasGroup groups (Some (group.Custom name)) = is_defined groups name ≡ true

-- in what sources come to, script rules have their scripts
abbrev pub ScriptsAreDefined : {F S : Type 0} → IsFilterBy F → IsSpecBy S → Type 0
ScriptsAreDefined {F} {S} Is IsSpec = (features : FeatureSet) (built_in : Members) (sources : List ConfigSource) (it : LoadedConfig F S)
    → IsLoadedAs Is IsSpec features built_in sources it → AllByRecursion (λ rule. HasScripts it.scripts rule.placed.config) it.script_rules

-- and overrides their groups
abbrev pub GroupsAreDefined : {F S : Type 0} → IsFilterBy F → IsSpecBy S → Type 0
GroupsAreDefined {F} {S} Is IsSpec = (features : FeatureSet) (built_in : Members) (sources : List ConfigSource) (it : LoadedConfig F S)
    → IsLoadedAs Is IsSpec features built_in sources it → AllByRecursion (λ rule. HasGroup it.groups rule.placed.config.rule.test_group) it.rules
