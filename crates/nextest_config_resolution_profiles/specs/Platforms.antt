-- On which platforms rules hold, and which default filter is chosen by that.
use Rattle.std.specs.Prelude.{◌≡◌, ◌⊎◌, Bool, true, ◌&&◌, List, Option, None, Some, unwrap_or}
use Rattle.std.specs.Option.{option_copied}
use Rattle.nextest_config_resolution_load.specs.declared.loaded_rule.LoadedRule.{LoadedRule}
use Rattle.nextest_config_resolution_overrides.specs.declared.placed_override.PlacedOverride.{PlacedOverride}
use Rattle.nextest_config_resolution_scripts.specs.declared.script_rule.PlacedScriptRule.{PlacedScriptRule}
use Rattle.nextest_config_resolution_settings.specs.Rules.{IsLeast, NoneHoldsAndSets}
use Rattle.nextest_config_resolution_settings.specs.declared.default_filter.CompiledDefaultFilter.{CompiledDefaultFilter}
use Rattle.nextest_config_resolution_settings.specs.declared.default_filter.CompiledDefaultFilterSection.TheVariants as section
use Rattle.nextest_config_resolution_profiles.specs.declared.platforms.BuildPlatforms.{BuildPlatforms}

-- what is known of the platform that is built on, and of the one that is built for: the same, where
-- no other is handed in
abbrev pub built_on : {Facts : Type 0} → BuildPlatforms Facts → Facts
built_on platforms = platforms.host.now

abbrev pub built_for : {Facts : Type 0} → BuildPlatforms Facts → Facts
built_for platforms = unwrap_or (option_copied platforms.target) platforms.host.now

-- whether a spec holds on a platform: an absent one does, and so does one of which what is known
-- doesn't tell
abbrev pub spec_holds : {S Facts : Type 0} → (S → Facts → Option Bool) → Option S → Facts → Bool
spec_holds value_on None facts = true
spec_holds value_on (Some spec) facts = unwrap_or (value_on spec facts) true

-- whether a rule holds for what is built for the host: both of its specs hold there
abbrev pub holds_for_host : {P F S Facts : Type 0} → (S → Facts → Option Bool) → Facts → LoadedRule P F S → Bool
holds_for_host value_on host rule = spec_holds value_on rule.compiled.host host && spec_holds value_on rule.compiled.target host

-- whether it holds for what is built for the target: the spec of the host holds on the host, and
-- that of the target on the target
abbrev pub holds_for_target : {P F S Facts : Type 0} → (S → Facts → Option Bool) → Facts → Facts → LoadedRule P F S → Bool
holds_for_target value_on host target rule = spec_holds value_on rule.compiled.host host && spec_holds value_on rule.compiled.target target

-- a rule, with whether it holds for the one and for the other
pub record RuleOn (P F S : Type 0) : Type 0 where
  pub rule : LoadedRule P F S
  pub for_host : Bool
  pub for_target : Bool

abbrev pub on_platforms : {P F S Facts : Type 0} → (S → Facts → Option Bool) → Facts → Facts → LoadedRule P F S → RuleOn P F S
on_platforms value_on host target rule =
    record { rule = rule; for_host = holds_for_host value_on host rule; for_target = holds_for_target value_on host target rule }

-- an override, and a script rule
abbrev pub OverrideOn : Type 0 → Type 0 → Type 0
OverrideOn F S = RuleOn PlacedOverride F S

abbrev pub ScriptRuleOn : Type 0 → Type 0 → Type 0
ScriptRuleOn F S = RuleOn PlacedScriptRule F S

-- ---- the default filter

abbrev pub ForTarget : {P F S : Type 0} → RuleOn P F S → Type 0
ForTarget it = it.for_target ≡ true

-- what a rule sets as the default filter
abbrev pub default_set : {P F S : Type 0} → RuleOn P F S → Option F
default_set it = it.rule.compiled.default_filter

-- and where that is set
pub record IsDefaultOf {F S : Type 0} (rule : OverrideOn F S) (it : CompiledDefaultFilter F) : Type 0 where
  pub filter : default_set rule ≡ Some it.filter.now
  pub profile : it.profile.now ≡ rule.rule.placed.id.profile
  pub section : it.section ≡ section.Override

-- the default filter of the first rule that holds for the target and sets one
pub record IsDefaultOfRules {F S : Type 0} (rules : List (OverrideOn F S)) (it : CompiledDefaultFilter F) : Type 0 where
  pub rule : OverrideOn F S
  pub least : IsLeast ForTarget default_set rules rule it.filter.now
  pub set : IsDefaultOf rule it

-- the default filter on platforms: that, or the one of the profiles where no such rule sets any
abbrev pub IsChosenDefault : {F S : Type 0} → CompiledDefaultFilter F → List (OverrideOn F S) → CompiledDefaultFilter F → Type 0
IsChosenDefault early rules it = IsDefaultOfRules rules it ⊎ (NoneHoldsAndSets ForTarget default_set rules × (it ≡ early))
