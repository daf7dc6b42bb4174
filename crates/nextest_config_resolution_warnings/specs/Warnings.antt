-- The texts of warnings.
use Rattle.std.specs.Prelude.{ℕ, List, ◌++◌, codes, decimal}
use Rattle.nextest_config_resolution_sources.specs.declared.source.ConfigSource.{ConfigSource}
use Rattle.nextest_config_resolution_warnings.specs.Shown.{one_line_of, shown_keys}
use Rattle.nextest_config_resolution_warnings.specs.declared.config_warning.ConfigWarning.{ConfigWarning}
use Rattle.nextest_config_resolution_warnings.specs.declared.config_warning.ConfigWarning.TheVariants.{UnknownKey, UnknownReservedProfile, DeprecatedScriptConfig, EmptyScriptSections}

-- where a warning is from
abbrev pub from : List ℕ → List ℕ
from path = codes " in " ++ one_line_of path

-- the text of a warning of the file at a path
abbrev pub text_at : List ℕ → ConfigWarning → List ℕ
text_at path (UnknownKey key) = codes "unknown key " ++ (shown_keys key.keys ++ from path)
text_at path (UnknownReservedProfile profile) = codes "unknown reserved profile " ++ (one_line_of profile ++ from path)
text_at path DeprecatedScriptConfig = codes "deprecated script table" ++ from path
text_at path (EmptyScriptSections profile count) =
    codes "empty script sections " ++ (decimal count ++ (codes " in profile " ++ (one_line_of profile ++ from path)))

-- the text of a warning that is told of the file of a source, by the path of the source
abbrev pub text_of : ConfigSource × ConfigWarning → List ℕ
text_of told = text_at told.0.path told.1
