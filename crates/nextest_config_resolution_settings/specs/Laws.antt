-- What the laws say.
use Rattle.std.specs.Prelude.{◌≡◌, List, Option}
use Rattle.nextest_config_elements_choices.specs.declared.run_mode.NextestRunMode.{NextestRunMode}
use Rattle.nextest_config_resolution_overrides.specs.declared.override_id.OverrideId.{OverrideId}
use Rattle.nextest_config_resolution_settings.specs.Layers.{Layers}
use Rattle.nextest_config_resolution_settings.specs.Nearest.{IsSetting, Source}
use Rattle.nextest_config_resolution_settings.specs.TestSettings.{AreSame, AreSettings, HaveSameSources}
use Rattle.nextest_config_resolution_settings.specs.declared.test_settings.TestSettings.{TestSettings}

-- a setting has at most one value, which comes from one place
abbrev pub OneSetting : {R P V : Type 0} → (R → OverrideId) → (R → Option V) → (P → Option V) → Type 0
OneSetting {R} {P} {V} id_of by_rule by_profile =
    (rules : List R) (profiles : List P) (fallback one second : V) (from other : Source)
    → IsSetting id_of by_rule by_profile rules profiles fallback one from → IsSetting id_of by_rule by_profile rules profiles fallback second other
    → (one ≡ second) × (from ≡ other)

-- rules and a chain set the same for each test, whatever is kept of where that is taken from
abbrev pub SameSettings : {S T : Type 0} → (S → Source → Type 0) → (T → Source → Type 0) → Type 0
SameSettings {S} {T} Tells Also =
    (mode : NextestRunMode) (layers : Layers)
    (one : TestSettings S) (other : TestSettings T)
    → AreSettings Tells mode layers one → AreSettings Also mode layers other → AreSame one other

-- and each setting is taken from one place
abbrev pub SameSources : {S : Type 0} → (S → Source → Type 0) → Type 0
SameSources {S} Tells =
    (mode : NextestRunMode) (layers : Layers)
    (one other : TestSettings S)
    → AreSettings Tells mode layers one → AreSettings Tells mode layers other
    → HaveSameSources Tells one other

-- rules and a chain set something for each test
abbrev pub SomeSettings : {S : Type 0} → (S → Source → Type 0) → Type 0
SomeSettings {S} Tells =
    (mode : NextestRunMode) (layers : Layers)
    → (settings : TestSettings S) × AreSettings Tells mode layers settings
