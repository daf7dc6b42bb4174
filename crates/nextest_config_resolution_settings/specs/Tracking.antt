-- What is kept of where a setting comes from.
use Rattle.std.specs.Prelude.{◌≡◌, refl, ⊤}
use Rattle.nextest_config_resolution_settings.specs.Nearest.{Source, an_override, a_script_rule, a_profile, no_layer, setting_source_of}
use Rattle.nextest_config_resolution_settings.specs.declared.source.SettingSource.{SettingSource}
use Rattle.nextest_config_resolution_settings.specs.declared.source.SettingSource.TheVariants as source

-- nothing, or all
abbrev pub TellsNothing : Unit {0} → Source → Type 0
TellsNothing it from = ⊤

abbrev pub TellsAll : SettingSource → Source → Type 0
TellsAll it from = setting_source_of it ≡ from

-- something is kept of each source
abbrev pub KeepsSome : {S : Type 0} → (S → Source → Type 0) → Type 0
KeepsSome {S} Tells = (from : Source) → (it : S) × Tells it from

pub nothing_kept : KeepsSome TellsNothing
nothing_kept from = (tt, tt)

pub all_kept : KeepsSome TellsAll
all_kept (an_override id) = (source.Override (record { ref_ptr = (0, 0); now = id }), refl)
all_kept (a_script_rule id) = (source.Script (record { ref_ptr = (0, 0); now = id }), refl)
all_kept (a_profile place) = (source.Profile place, refl)
all_kept no_layer = (source.Default, refl)

-- what two keep is of one source
abbrev pub HaveOneSource : {S : Type 0} → (S → Source → Type 0) → S → S → Type 0
HaveOneSource Tells one other = (from : Source) × Tells one from × Tells other from
