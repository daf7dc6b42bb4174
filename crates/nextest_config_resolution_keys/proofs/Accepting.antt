-- Which tables are profiles.
use Rattle.std.proofs.Common.{◌≡◌, ◌↔◌, Ok, refl}
use Rattle.toml.specs.Data.{Members}
use Rattle.nextest_config_resolution_keys.specs.Command.{command_made, command_read}
use Rattle.nextest_config_resolution_keys.specs.Own.{own_made, own_read}
use Rattle.nextest_config_resolution_keys.specs.Profile.{IsProfile, profile_in, profile_read}
use Rattle.nextest_config_resolution_keys.specs.Report.{report_made, report_read}
use Rattle.nextest_config_resolution_keys.specs.Test.{test_made, test_read}
use Rattle.nextest_config_resolution_keys.specs.declared.profile_config.ProfileConfig.{ProfileConfig}

pub profile_parts : (given : Members) (it : ProfileConfig) → profile_in given ≡ Ok it → IsProfile given it
profile_parts given it is = let read = profile_read given it is in record {
  own = own_read given it.own read.own;
  command = command_read given it.command read.command;
  test = test_read given it.test read.test;
  report = report_read given it.report read.report;
}

profile_made : (given : Members) (it : ProfileConfig) → IsProfile given it → profile_in given ≡ Ok it
unfolding profile_in
profile_made given it is =
    rw (own_made given it.own is.own, command_made given it.command is.command, test_made given it.test is.test, report_made given it.report is.report) refl

pub accepted_profile : (given : Members) (it : ProfileConfig) → (profile_in given ≡ Ok it) ↔ IsProfile given it
accepted_profile given it = (profile_parts given it, profile_made given it)
