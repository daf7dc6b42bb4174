use Rattle.nextest_config_resolution_settings.specs.Nearest.{setting_source_of}
use Rattle.nextest_config_resolution_settings.proofs.profiles.of_profiles.Goals as goal

pub returns : goal.returns
returns g c = λ fallback. record { from = setting_source_of c.find_in_profiles.result.1; is = c.find_in_profiles.ensures fallback }
