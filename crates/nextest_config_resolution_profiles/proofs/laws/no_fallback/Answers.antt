use Rattle.nextest_config_resolution_profiles.proofs.SetsAll.{no_fallback}
use Rattle.nextest_config_resolution_profiles.proofs.laws.no_fallback.Goals as goal

pub returns : goal.returns
returns g c = no_fallback g.K.ConfigKey.key _ c.reads_each.ensures c.read_as.ensures.values
