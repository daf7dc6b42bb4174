-- Settings, and what is kept of where they are taken from.
use Rattle.std.proofs.Common.{◌≡◌, ℕ, List, Option, sym, ap, ◌∙◌, subst, inl, inr}
use Rattle.nextest_config_resolution_overrides.specs.declared.override_id.OverrideId.{OverrideId}
use Rattle.nextest_config_resolution_scripts.specs.Defined.{script_named}
use Rattle.nextest_config_resolution_scripts.specs.declared.script_config.NamedScript.{NamedScript}
use Rattle.nextest_config_resolution_scripts.specs.declared.script_rule.PlacedScriptRule.{PlacedScriptRule}
use Rattle.nextest_config_resolution_scripts.specs.declared.wrapper_script.WrapperScriptConfig.{WrapperScriptConfig}
use Rattle.nextest_config_resolution_settings.proofs.Unique.{one_layer, one_nearest, one_of_profiles, one_setting, set_and_unset}
use Rattle.nextest_config_resolution_settings.specs.Nearest.{Source, a_script_rule}
use Rattle.nextest_config_resolution_settings.specs.Profile.{OfProfiles}
use Rattle.nextest_config_resolution_settings.specs.Tracked.{IsTracked}
use Rattle.nextest_config_resolution_settings.specs.Tracking.{HaveOneSource}
use Rattle.nextest_config_resolution_settings.specs.Wrappers.{IsWrapper}

-- profiles have one value of a setting
pub one_value : {P V : Type 0} (by_profile : P → Option V) (profiles : List P) (fallback one other : V)
    → OfProfiles by_profile profiles fallback one → OfProfiles by_profile profiles fallback other → one ≡ other
one_value by_profile profiles fallback one other a b = (one_of_profiles by_profile profiles fallback one other a.from b.from a.is b.is).0

-- rules and profiles have one value, whatever is kept of where it is taken from
pub same_value : {R P V S T : Type 0} {Tells : S → Source → Type 0} {Also : T → Source → Type 0}
    {id_of : R → OverrideId} {by_rule : R → Option V} {by_profile : P → Option V} {rules : List R} {profiles : List P} {fallback : V} {one : V × S} {other : V × T}
    → IsTracked Tells id_of by_rule by_profile rules profiles fallback one → IsTracked Also id_of by_rule by_profile rules profiles fallback other → one.0 ≡ other.0
same_value {id_of = id_of} {by_rule = by_rule} {by_profile = by_profile} {rules = rules} {profiles = profiles} {fallback = fallback} {one = one} {other = other} a b =
    (one_setting id_of by_rule by_profile rules profiles fallback one.0 other.0 a.from b.from a.is b.is).0

-- and take it from one place
pub same_source : {R P V S : Type 0} {Tells : S → Source → Type 0}
    {id_of : R → OverrideId} {by_rule : R → Option V} {by_profile : P → Option V} {rules : List R} {profiles : List P} {fallback : V} {one other : V × S}
    → IsTracked Tells id_of by_rule by_profile rules profiles fallback one → IsTracked Tells id_of by_rule by_profile rules profiles fallback other → HaveOneSource Tells one.1 other.1
same_source {Tells = Tells} {id_of = id_of} {by_rule = by_rule} {by_profile = by_profile} {rules = rules} {profiles = profiles} {fallback = fallback} {one = one} {other = other} a b =
    let same = (one_setting id_of by_rule by_profile rules profiles fallback one.0 other.0 a.from b.from a.is b.is).1 in
    (b.from, subst (λ from. Tells one.1 from) same a.kept, b.kept)

-- script rules set one wrapper script, which comes from one place
pub one_wrapper : (wrappers : List (NamedScript WrapperScriptConfig)) (named_by : PlacedScriptRule → Option (List ℕ)) (rules : List PlacedScriptRule)
    → {one other : Option WrapperScriptConfig} {from also : Source} → IsWrapper wrappers named_by rules one from → IsWrapper wrappers named_by rules other also
    → (one ≡ other) × (from ≡ also)
one_wrapper wrappers named_by rules (inl a) (inl b) = (
  a.found ∙ ap (script_named wrappers) (one_nearest a.nearest b.nearest).0 ∙ sym b.found,
  a.written ∙ ap (λ (rule : PlacedScriptRule). a_script_rule rule.id) (one_layer a.nearest b.nearest) ∙ sym b.written,
)
one_wrapper wrappers named_by rules (inl a) (inr (unset, none, from)) = absurd (set_and_unset a.nearest unset)
one_wrapper wrappers named_by rules (inr (unset, none, from)) (inl b) = absurd (set_and_unset b.nearest unset)
one_wrapper wrappers named_by rules (inr (unset, none, from)) (inr (also, no_other, source)) = (none ∙ sym no_other, from ∙ sym source)
