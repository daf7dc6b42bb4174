-- The platforms on which a rule holds, as a file says them.
use Rattle.std.specs.Prelude.{ℕ, List, [], ◌∷◌, codes, Option, None, Some, Ok, Err}
use Rattle.toml.specs.Data.{Data, string, table, Members, as_str}
use Rattle.nextest_config_elements_toml.specs.Reading.{Reading, leaf}
use Rattle.nextest_config_resolution_keys.specs.Keys.{Key, value_of}
use Rattle.nextest_config_resolution_keys.specs.Rows.{both, made_of, nothing}
use Rattle.nextest_config_resolution_overrides.specs.declared.platforms.OverridePlatforms.{OverridePlatforms}

-- `host`: the spec of the platform on which tests are built and run
abbrev pub host : Key (List ℕ)
host = record { path = codes "host" ∷ []; reading = leaf as_str }

-- `target`: the spec of the platform for which tests are built
abbrev pub target : Key (List ℕ)
target = record { path = codes "target" ∷ []; reading = leaf as_str }

-- the values of both, and what a table says of them
abbrev pub PlatformValues : Type 0
PlatformValues = Option (List ℕ) × (Option (List ℕ) × Unit {0})

abbrev pub platform_values_in : Members → Reading PlatformValues
platform_values_in = both (value_of host) (both (value_of target) nothing)

abbrev pub platforms_with : PlatformValues → OverridePlatforms
platforms_with it = record { host = it.0; target = it.1.0 }

-- a text is the spec of the target, a table has one of the host, of the target, or of both
abbrev pub platforms_of : Data → Reading OverridePlatforms
platforms_of (string text) = Ok (record { host = None; target = Some text })
platforms_of (table members) = made_of platforms_with (platform_values_in members)
platforms_of given = Err []
