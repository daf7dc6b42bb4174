-- There is a value of each setting, which is taken from some place.
use Rattle.std.proofs.Common.{◌≡◌, ℕ, suc, List, [], ◌∷◌, Option, Some, None, Bor, refl, ap, inl, inr}
use Rattle.std.specs.Option.{option_copied}
use Rattle.std.proofs.lemmas.List.Elements.{All-nil, All-cons}
use Rattle.nextest_config_elements_identifiers.specs.declared.test_group.TestGroup.{TestGroup}
use Rattle.nextest_config_elements_identifiers.specs.declared.test_group.TestGroup.TheVariants as group
use Rattle.nextest_config_resolution_overrides.specs.declared.override_id.OverrideId.{OverrideId}
use Rattle.nextest_config_resolution_scripts.specs.Defined.{script_named}
use Rattle.nextest_config_resolution_scripts.specs.declared.script_config.NamedScript.{NamedScript}
use Rattle.nextest_config_resolution_scripts.specs.declared.script_rule.PlacedScriptRule.{PlacedScriptRule}
use Rattle.nextest_config_resolution_scripts.specs.declared.wrapper_script.WrapperScriptConfig.{WrapperScriptConfig}
use Rattle.nextest_config_resolution_keys.specs.declared.command.CommandValues.{CommandValues}
use Rattle.nextest_config_resolution_keys.specs.declared.report.ReportValues.{ReportValues}
use Rattle.nextest_config_resolution_keys.specs.declared.test.TestValues.{TestValues}
use Rattle.nextest_config_resolution_overrides.specs.declared.rule.RuleValues.{RuleValues}
use Rattle.nextest_config_resolution_settings.specs.Layers.{Layers, in_command, in_report, in_rule, in_test}
use Rattle.nextest_config_resolution_settings.specs.Nearest.{IsNearest, SetsNone, Source, a_profile, a_script_rule, an_override, no_layer, of_fallback, of_profile, of_profiles, of_rule}
use Rattle.nextest_config_resolution_settings.specs.Profile.{OfProfiles}
use Rattle.nextest_config_resolution_settings.specs.Rules.{id_of}
use Rattle.nextest_config_resolution_settings.specs.TestSettings.{group_of}
use Rattle.nextest_config_resolution_settings.specs.Tracked.{IsCommandSetting, IsReportSetting, IsRuleSetting, IsTestSetting, IsTracked}
use Rattle.nextest_config_resolution_settings.specs.Tracking.{KeepsSome}
use Rattle.nextest_config_resolution_settings.specs.Wrappers.{IsTrackedWrapper}
use Rattle.nextest_config_resolution_settings.specs.declared.test_settings.TestGroupRef.{TestGroupRef}
use Rattle.nextest_config_resolution_settings.specs.declared.test_settings.TestGroupRef.TheVariants as group_ref

-- a list of layers has a nearest one that sets a value, or none does
data Found {L V : Type 0} (set_by : L → Option V) (layers : List L) : Type 0 where
  at : (place : ℕ) (value : V) → IsNearest set_by layers place value → Found set_by layers
  nowhere : SetsNone set_by layers → Found set_by layers

behind : {L V : Type 0} (set_by : L → Option V) (layer : L) (layers : List L) → set_by layer ≡ None → Found set_by layers → Found set_by (layer ∷ layers)
behind set_by layer layers none (at place value is) = at (suc place) value (record {
  front = layer ∷ is.front;
  layer = is.layer;
  back = is.back;
  divided = ap (λ (more : List _). layer ∷ more) is.divided;
  placed = ap suc is.placed;
  before = All-cons (λ it. set_by it ≡ None) layer is.front none is.before;
  sets = is.sets;
})
behind set_by layer layers none (nowhere unset) = nowhere (All-cons (λ it. set_by it ≡ None) layer layers none unset)

found : {L V : Type 0} (set_by : L → Option V) (layers : List L) → Found set_by layers
found set_by [] = nowhere (All-nil (λ it. set_by it ≡ None))
found set_by (layer ∷ layers) = by_value (set_by layer) refl (found set_by layers)
  where
    by_value : (value : Option _) → set_by layer ≡ value → Found set_by layers → Found set_by (layer ∷ layers)
    by_value (Some value) e rest = at 0 value (record { front = []; layer = layer; back = layers; divided = refl; placed = refl; before = All-nil (λ it. set_by it ≡ None); sets = e })
    by_value None e rest = behind set_by layer layers e rest

-- where some layer sets a value, one is the nearest
pub some_nearest : {L V : Type 0} (set_by : L → Option V) (layers : List L) → ¬ SetsNone set_by layers → (value : V) × ((place : ℕ) × IsNearest set_by layers place value)
some_nearest set_by layers set = by_found (found set_by layers)
  where
    by_found : Found set_by layers → (value : _) × ((place : ℕ) × IsNearest set_by layers place value)
    by_found (at place value is) = (value, (place, is))
    by_found (nowhere unset) = absurd (set unset)

-- profiles have a value of a setting
pub some_value : {P V : Type 0} (by_profile : P → Option V) (profiles : List P) (fallback : V) → (value : V) × OfProfiles by_profile profiles fallback value
some_value by_profile profiles fallback = by_found (found by_profile profiles)
  where
    by_found : Found by_profile profiles → (value : _) × OfProfiles by_profile profiles fallback value
    by_found (at place value is) = (value, record { from = a_profile place; is = of_profile place value is })
    by_found (nowhere unset) = (fallback, record { from = no_layer; is = of_fallback unset })

-- rules and profiles have a value of a setting
pub some_tracked : {R P V S : Type 0} (Tells : S → Source → Type 0) → KeepsSome Tells
    → (id_of : R → OverrideId) (by_rule : R → Option V) (by_profile : P → Option V) (rules : List R) (profiles : List P) (fallback : V)
    → (it : V × S) × IsTracked Tells id_of by_rule by_profile rules profiles fallback it
some_tracked Tells keeps id_of by_rule by_profile rules profiles fallback = by_found (found by_rule rules) (some_value by_profile profiles fallback)
  where
    by_found : Found by_rule rules → ((value : _) × OfProfiles by_profile profiles fallback value) → (it : _ × _) × IsTracked Tells id_of by_rule by_profile rules profiles fallback it
    by_found (at place value is) other =
        let id = id_of is.layer in
        let kept = keeps (an_override id) in
        ((value, kept.0), record { from = an_override id; is = of_rule value id (record { place = place; nearest = is; named = refl }); kept = kept.1 })
    by_found (nowhere unset) (value, is) =
        let kept = keeps is.from in
        ((value, kept.0), record { from = is.from; is = of_profiles value is.from unset is.is; kept = kept.1 })

-- a group can be lent
pub some_lent : (it : TestGroup) → (lent : TestGroupRef) × (group_of lent ≡ it)
some_lent group.Global = (group_ref.Global, refl)
some_lent (group.Custom it) = (group_ref.Custom (record { ref_ptr = (0, 0); now = it }), refl)

-- a wrapper script can be lent
lent_wrapper : (it : Option WrapperScriptConfig) → (lent : Option (Bor WrapperScriptConfig)) × (option_copied lent ≡ it)
lent_wrapper None = (None, refl)
lent_wrapper (Some it) = (Some (record { ref_ptr = (0, 0); now = it }), refl)

-- and script rules set one, or none
pub some_wrapper : {S : Type 0} (Tells : S → Source → Type 0) → KeepsSome Tells
    → (wrappers : List (NamedScript WrapperScriptConfig)) (named_by : PlacedScriptRule → Option (List ℕ)) (rules : List PlacedScriptRule)
    → (it : Option (Bor WrapperScriptConfig) × S) × IsTrackedWrapper Tells wrappers named_by rules (option_copied it.0, it.1)
some_wrapper Tells keeps wrappers named_by rules = by_found (found named_by rules)
  where
    by_found : Found named_by rules → (it : Option (Bor WrapperScriptConfig) × _) × IsTrackedWrapper Tells wrappers named_by rules (option_copied it.0, it.1)
    by_found (at place id is) =
        let lent = lent_wrapper (script_named wrappers id) in
        let kept = keeps (a_script_rule is.layer.id) in (
          (lent.0, kept.0),
          record { from = a_script_rule is.layer.id; is = inl (record { place = place; id = id; nearest = is; found = lent.1; written = refl }); kept = kept.1 },
        )
    by_found (nowhere unset) =
        let kept = keeps no_layer in
        ((None, kept.0), record { from = no_layer; is = inr (unset, refl, refl); kept = kept.1 })

-- by the list that a key is of
pub some_of_rules : {S V : Type 0} (Tells : S → Source → Type 0) → KeepsSome Tells → (layers : Layers) (value_of : RuleValues → Option V) (fallback : V)
    → (it : V × S) × IsRuleSetting Tells layers value_of fallback it
some_of_rules Tells keeps layers value_of fallback = some_tracked Tells keeps id_of (in_rule value_of) (in_rule value_of) layers.overrides [] fallback

pub some_of_command : {S V : Type 0} (Tells : S → Source → Type 0) → KeepsSome Tells → (layers : Layers) (value_of : CommandValues → Option V) (fallback : V)
    → (it : V × S) × IsCommandSetting Tells layers value_of fallback it
some_of_command Tells keeps layers value_of fallback =
    some_tracked Tells keeps id_of (λ rule. value_of rule.config.command) (in_command value_of) layers.overrides layers.chain fallback

pub some_of_test : {S V : Type 0} (Tells : S → Source → Type 0) → KeepsSome Tells → (layers : Layers) (value_of : TestValues → Option V) (fallback : V)
    → (it : V × S) × IsTestSetting Tells layers value_of fallback it
some_of_test Tells keeps layers value_of fallback =
    some_tracked Tells keeps id_of (λ rule. value_of rule.config.test) (in_test value_of) layers.overrides layers.chain fallback

pub some_of_report : {S V : Type 0} (Tells : S → Source → Type 0) → KeepsSome Tells → (layers : Layers) (value_of : ReportValues → Option V) (fallback : V)
    → (it : V × S) × IsReportSetting Tells layers value_of fallback it
some_of_report Tells keeps layers value_of fallback =
    some_tracked Tells keeps id_of (λ rule. value_of rule.config.report) (in_report value_of) layers.overrides layers.chain fallback
