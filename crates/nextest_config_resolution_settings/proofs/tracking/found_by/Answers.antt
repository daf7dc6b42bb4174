use Rattle.nextest_config_resolution_settings.specs.Nearest.{setting_source_of}
use Rattle.nextest_config_resolution_settings.proofs.tracking.found_by.Goals as goal

pub returns : goal.returns
returns g c = λ otherwise. record { from = setting_source_of c.find_setting.result.1; is = c.find_setting.ensures otherwise; kept = c.track.ensures }
