use Rattle.nextest_config_resolution_inheritance.proofs.laws.no_end.Goals as goal

pub returns : goal.returns
returns c profiles name = (λ no_end n is. no_end (n, is), λ endless ends. endless ends.0 ends.1)
