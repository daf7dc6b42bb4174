-- What is told of configuration files.
use Rattle.std.specs.Prelude.{◌≡◌, ℕ, Bool, List, [], ◌∷◌, ◌++◌, map, if◌then◌else◌}
use Rattle.toml.specs.Data.{Members}
use Rattle.nextest_config_resolution_sources.specs.declared.source.ConfigSource.{ConfigSource}
use Rattle.nextest_config_resolution_warnings.specs.Reserved.{unknown_reserved}
use Rattle.nextest_config_resolution_warnings.specs.Scripts.{defines_old_scripts, empty_sections}
use Rattle.nextest_config_resolution_warnings.specs.Unknown.{unknown_keys}
use Rattle.nextest_config_resolution_warnings.specs.declared.config_warning.ConfigWarning.{ConfigWarning}
use Rattle.nextest_config_resolution_warnings.specs.declared.config_warning.ConfigWarning.TheVariants.{UnknownKey, UnknownReservedProfile, DeprecatedScriptConfig, EmptyScriptSections}

-- these are the warnings that were told, each with the source of its file
abbrev pub HasWarned : Type 0 → Type 1
HasWarned W = W → List (ConfigSource × ConfigWarning) → Type 0

-- further warnings were told, behind those before
abbrev pub Warns : {W : Type 0} → HasWarned W → W → W → List (ConfigSource × ConfigWarning) → Type 0
Warns has_warned old new further =
    (told : List (ConfigSource × ConfigWarning)) → has_warned old told → has_warned new (told ++ further)

-- none was
abbrev pub Keeps : {W : Type 0} → HasWarned W → W → W → Type 0
Keeps has_warned old new = (told : List (ConfigSource × ConfigWarning)) → has_warned old told → has_warned new told

-- a front of these was told
abbrev pub WarnsPrefix : {W : Type 0} → HasWarned W → W → W → List (ConfigSource × ConfigWarning) → Type 0
WarnsPrefix has_warned old new all =
    (front : List (ConfigSource × ConfigWarning)) × (rest : List (ConfigSource × ConfigWarning))
    × (all ≡ front ++ rest) × Warns has_warned old new front

-- what is told of a file: of its unknown keys, and then of its reserved profiles
abbrev pub unknown_warnings : Members → List ConfigWarning
unknown_warnings file = map UnknownKey (unknown_keys file) ++ map UnknownReservedProfile (unknown_reserved file)

-- what is told where it defines scripts in the table that held them before
abbrev pub old_scripts : Bool → List ConfigWarning
old_scripts are_defined = if are_defined then DeprecatedScriptConfig ∷ [] else []

-- what is told of profiles, each with how many of its rules name no script
abbrev pub section_warnings : List (List ℕ × ℕ) → List ConfigWarning
section_warnings = map (λ section. EmptyScriptSections section.0 section.1)

-- of its scripts: that it defines some there, and then of its profiles with such rules
abbrev pub script_warnings : Members → List ConfigWarning
script_warnings file = old_scripts (defines_old_scripts file) ++ section_warnings (empty_sections file)

-- all that is told of it
abbrev pub warnings_of : Members → List ConfigWarning
warnings_of file = unknown_warnings file ++ script_warnings file

-- warnings, told of the file of a source
abbrev pub told_of : ConfigSource → List ConfigWarning → List (ConfigSource × ConfigWarning)
told_of source = map (λ warning. (source, warning))
