-- Which value a setting has: that of the nearest layer of a list that sets it, else a fallback.
use Rattle.std.specs.Prelude.{◌≡◌, ℕ, List, ◌∷◌, ◌++◌, Option, Some, None, All, length, map}
use denote.Ref.{Bor}
use Rattle.nextest_config_resolution_overrides.specs.declared.override_id.OverrideId.{OverrideId}
use Rattle.nextest_config_resolution_scripts.specs.declared.script_rule.ScriptRuleId.{ScriptRuleId}
use Rattle.nextest_config_resolution_settings.specs.declared.source.SettingSource.{SettingSource}
use Rattle.nextest_config_resolution_settings.specs.declared.source.SettingSource.TheVariants as source

-- layers that are lent
abbrev pub lent_layers : {L : Type 0} → List (Bor L) → List L
lent_layers layers = map (λ layer. layer.now) layers

-- no layer of a list sets a value
abbrev pub SetsNone : {L V : Type 0} → (L → Option V) → List L → Type 0
SetsNone set_by layers = All (λ layer. set_by layer ≡ None) layers

-- the layer at a place sets a value, and none before it sets any
pub record IsNearest {L V : Type 0} (set_by : L → Option V) (layers : List L) (place : ℕ) (value : V) : Type 0 where
  pub front : List L
  pub layer : L
  pub back : List L
  pub divided : layers ≡ front ++ layer ∷ back
  pub placed : place ≡ length front
  pub before : SetsNone set_by front
  pub sets : set_by layer ≡ Some value

-- where the value of a setting comes from: from an override, from a script rule, from a profile by
-- its place in the chain, or from no layer
pub data Source : Type 0 where
  an_override : OverrideId → Source
  a_script_rule : ScriptRuleId → Source
  a_profile : ℕ → Source
  no_layer : Source

abbrev pub setting_source_of : SettingSource → Source
setting_source_of (source.Override id) = an_override id.now
setting_source_of (source.Script id) = a_script_rule id.now
setting_source_of (source.Profile place) = a_profile place
setting_source_of source.Default = no_layer

-- the nearest rule that sets a setting is this override
pub record IsOfRule {R V : Type 0} (id_of : R → OverrideId) (by_rule : R → Option V) (rules : List R) (value : V) (id : OverrideId) : Type 0 where
  pub place : ℕ
  pub nearest : IsNearest by_rule rules place value
  pub named : id ≡ id_of nearest.layer

-- the value of a setting over profiles, then a fallback, and where it comes from
pub data IsOfProfiles {P V : Type 0} (by_profile : P → Option V) (profiles : List P) (fallback : V)
    : V → Source → Type 0 where
  of_profile : (place : ℕ) (value : V) → IsNearest by_profile profiles place value
      → IsOfProfiles by_profile profiles fallback value (a_profile place)
  of_fallback : SetsNone by_profile profiles → IsOfProfiles by_profile profiles fallback fallback no_layer

-- the value of a setting over rules, then profiles, then a fallback, and where it comes from
pub data IsSetting {R P V : Type 0} (id_of : R → OverrideId) (by_rule : R → Option V) (by_profile : P → Option V)
    (rules : List R) (profiles : List P) (fallback : V) : V → Source → Type 0 where
  of_rule : (value : V) (id : OverrideId) → IsOfRule id_of by_rule rules value id
      → IsSetting id_of by_rule by_profile rules profiles fallback value (an_override id)
  of_profiles : (value : V) (from : Source) → SetsNone by_rule rules
      → IsOfProfiles by_profile profiles fallback value from
      → IsSetting id_of by_rule by_profile rules profiles fallback value from
