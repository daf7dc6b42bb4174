-- Warnings that are kept.
use Rattle.std.specs.Prelude.{List}
use Rattle.nextest_config_resolution_sources.specs.declared.source.ConfigSource.{ConfigSource}
use Rattle.nextest_config_resolution_warnings.specs.Warn.{told_of}
use Rattle.nextest_config_resolution_warnings.specs.declared.config_warning.ConfigWarning.{ConfigWarning}
use Rattle.nextest_config_resolution_warnings.specs.declared.kept_warnings.FileWarnings.{FileWarnings}

-- those of a file
abbrev pub told_in : FileWarnings → List (ConfigSource × ConfigWarning)
told_in it = told_of it.source.now it.warnings
