-- What the built-in configuration is read as.
use Rattle.std.specs.Prelude.{[], ◌∷◌, codes, Some}
use Rattle.nextest_config_resolution_load.specs.Checks.{MergedConfig}
use Rattle.nextest_config_resolution_load.specs.declared.file_config.FileConfig.{FileConfig}
use Rattle.nextest_config_resolution_keys.specs.Command.{command_fallbacks, command_unset}
use Rattle.nextest_config_resolution_keys.specs.Own.{own_fallbacks, own_unset}
use Rattle.nextest_config_resolution_keys.specs.Report.{report_fallbacks, report_unset}
use Rattle.nextest_config_resolution_keys.specs.Test.{test_fallbacks, test_unset}
use Rattle.nextest_config_resolution_keys.specs.declared.command.CommandValues.{CommandValues}
use Rattle.nextest_config_resolution_keys.specs.declared.profile_config.ProfileConfig.{ProfileConfig}

-- the profile `default` sets each setting that has a fallback, and to that, and runs all tests
abbrev pub default_command : CommandValues
default_command = record { default_filter = Some (codes "all()"); run_extra_args = command_fallbacks.run_extra_args }

abbrev pub default_profile : ProfileConfig
default_profile = record { own = own_fallbacks; command = default_command; test = test_fallbacks; report = report_fallbacks }

-- the profile `default-miri` sets nothing
abbrev pub miri_profile : ProfileConfig
miri_profile = record { own = own_unset; command = command_unset; test = test_unset; report = report_unset }

-- both, and where files are stored
abbrev pub built_in_config : MergedConfig
built_in_config = record {
  profiles = (codes "default", default_profile) ∷ (codes "default-miri", miri_profile) ∷ [];
  store_dir = Some (codes "target/nextest");
  groups = [];
  scripts = record { setup = []; wrapper = [] };
}

-- neither has a rule
abbrev pub built_in_file : FileConfig
built_in_file = record {
  profiles =
      record { profile = codes "default"; overrides = []; scripts = [] }
      ∷ record { profile = codes "default-miri"; overrides = []; scripts = [] }
      ∷ [];
  groups = [];
  old_scripts = [];
  scripts = record { setup = []; wrapper = [] };
}
