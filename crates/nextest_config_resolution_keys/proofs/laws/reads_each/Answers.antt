use Rattle.nextest_config_resolution_keys.proofs.laws.reads_each.Goals as goal

pub returns : goal.returns
returns g c = λ given it is. g.met.K.Values.HasKey.reads given (g.C.HasValues.values it) (g.met.C.HasValues.reads given it is)
