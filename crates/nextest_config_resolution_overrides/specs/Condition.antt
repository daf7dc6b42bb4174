-- The keys that tell on which platforms and tests a rule holds.
use Rattle.std.specs.Prelude.{ℕ, List, [], ◌∷◌, codes}
use Rattle.toml.specs.Data.{as_str}
use Rattle.nextest_config_elements_toml.specs.Reading.{leaf}
use Rattle.nextest_config_resolution_keys.specs.Keys.{Key}
use Rattle.nextest_config_resolution_overrides.specs.Platforms.{platforms_of}
use Rattle.nextest_config_resolution_overrides.specs.declared.platforms.OverridePlatforms.{OverridePlatforms}

-- `filter`: the filterset of the tests on which a rule holds
abbrev pub filter : Key (List ℕ)
filter = record { path = codes "filter" ∷ []; reading = leaf as_str }

-- `platform`: the platforms on which a rule holds
abbrev pub platform : Key OverridePlatforms
platform = record { path = codes "platform" ∷ []; reading = platforms_of }
