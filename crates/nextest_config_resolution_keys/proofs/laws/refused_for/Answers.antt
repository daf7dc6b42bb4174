use Rattle.nextest_config_resolution_keys.proofs.laws.refused_for.Goals as goal

pub returns : goal.returns
returns g c = g.S.KeyList.refuses
