use Rattle.nextest_config_resolution_profiles.proofs.RowNumbers.{one_numbered}
use Rattle.nextest_config_resolution_profiles.proofs.laws.numbered_rows.Goals as goal

pub returns : goal.returns
returns c = one_numbered
