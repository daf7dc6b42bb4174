-- A profile before anything is known of the platforms, as clauses see it.
use Rattle.std.specs.Prelude.{ℕ, List}
use Rattle.nextest_config_resolution_load.specs.Load.{LoadedOverride, LoadedScriptRule}
use Rattle.nextest_config_resolution_load.specs.declared.loaded_rule.LoadedRule.{LoadedRule}
use Rattle.nextest_config_resolution_overrides.specs.declared.groups.NamedGroup.{NamedGroup}
use Rattle.nextest_config_resolution_scripts.specs.declared.script_config.ScriptConfig.{ScriptConfig}
use Rattle.nextest_config_resolution_settings.specs.declared.default_filter.CompiledDefaultFilter.{CompiledDefaultFilter}
use Rattle.nextest_config_resolution_keys.specs.declared.profile_config.ProfileConfig.{ProfileConfig}

-- the name of the profile in which a rule is written, by what it says of itself
abbrev pub in_profile : {P F S : Type 0} → (P → List ℕ) → LoadedRule P F S → List ℕ
in_profile profile_of rule = profile_of rule.placed

-- its name, the directory of its files, the profiles that it is read from, the default filter of
-- these, its rules in the order in which they are asked, and all groups of tests and scripts
pub record Early (F S : Type 0) : Type 0 where
  pub name : List ℕ
  pub store_dir : List ℕ
  pub chain : List ProfileConfig
  pub default_filter : CompiledDefaultFilter F
  pub rules : List (LoadedOverride F S)
  pub script_rules : List (LoadedScriptRule F S)
  pub groups : List NamedGroup
  pub scripts : ScriptConfig
