-- What is told of the sources that count.
use Rattle.std.specs.Prelude.{◌≡◌, List, [], ◌++◌, Option, None, Some, option_map, Result, Ok, Err}
use Rattle.std.specs.List.{flat_map}
use Rattle.toml.specs.Data.{Members}
use Rattle.nextest_config_resolution_sources.specs.Counting.{counting_sources}
use Rattle.nextest_config_resolution_sources.specs.declared.source.ConfigSource.{ConfigSource}
use Rattle.nextest_config_resolution_warnings.specs.Warn.{HasWarned, Keeps, Warns, WarnsPrefix, told_of, warnings_of}
use Rattle.nextest_config_resolution_warnings.specs.declared.config_warning.ConfigWarning.{ConfigWarning}
use Rattle.nextest_config_resolution_load.specs.Checks.{file_of}
use Rattle.nextest_config_resolution_load.specs.declared.load_error.LoadError.{LoadError}
use Rattle.nextest_config_resolution_load.specs.declared.load_error.LoadError.TheVariants as error

-- what is told of the file of a source, if there is one
abbrev pub warnings_at : ConfigSource → Option Members → List (ConfigSource × ConfigWarning)
warnings_at source None = []
warnings_at source (Some file) = told_of source (warnings_of file)

-- of the file that the source itself has
abbrev pub warnings_for : ConfigSource → List (ConfigSource × ConfigWarning)
warnings_for source = warnings_at source (file_of source)

-- what is told of sources: of each that counts, the lowest first
abbrev pub warnings_in : List ConfigSource → List (ConfigSource × ConfigWarning)
warnings_in sources = flat_map warnings_for (counting_sources sources)

-- what is kept, if anything is, has these behind what it had
abbrev pub AreKept : Option (List (ConfigSource × ConfigWarning)) → Option (List (ConfigSource × ConfigWarning)) → List (ConfigSource × ConfigWarning) → Type 0
AreKept old new further = new ≡ option_map (λ told. told ++ further) old

-- what a load tells, by its result: all of these; none if it is refused; a front of them if there
-- was no memory
abbrev pub WarnsAs : {W A : Type 0} → HasWarned W → W → W → List (ConfigSource × ConfigWarning) → Result A LoadError → Type 0
WarnsAs has_warned old new all (Ok it) = Warns has_warned old new all
WarnsAs has_warned old new all (Err (error.Refused fault)) = Keeps has_warned old new
WarnsAs has_warned old new all (Err error.OutOfMemory) = WarnsPrefix has_warned old new all
