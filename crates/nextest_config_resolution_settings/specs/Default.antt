-- Where a default filter is set.
use Rattle.std.specs.Prelude.{ℕ, List, ◌++◌, codes}
use Rattle.nextest_config_resolution_settings.specs.declared.default_filter.CompiledDefaultFilterSection.{CompiledDefaultFilterSection}
use Rattle.nextest_config_resolution_settings.specs.declared.default_filter.CompiledDefaultFilterSection.TheVariants.{Profile, Override}

abbrev pub config_text : List ℕ → CompiledDefaultFilterSection → List ℕ
config_text profile Profile = codes "profile." ++ (profile ++ codes ".default-filter")
config_text profile Override = codes "profile." ++ (profile ++ codes ".default-filter (override)")
