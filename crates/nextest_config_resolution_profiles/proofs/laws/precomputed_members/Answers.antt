use Rattle.nextest_config_resolution_profiles.proofs.Members.{precomputed_members}
use Rattle.nextest_config_resolution_profiles.proofs.laws.precomputed_members.Goals as goal

pub returns : goal.returns
returns g c = precomputed_members g.F.Filters.on_test g.row.S.Denot
