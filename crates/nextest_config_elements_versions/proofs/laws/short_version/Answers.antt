use Rattle.nextest_config_elements_versions.proofs.ShortVersions.{short_version}
use Rattle.nextest_config_elements_versions.proofs.laws.short_version.Goals as goal

pub returns : goal.returns
returns c = short_version
