use Rattle.std.proofs.Common.{Option, codes, map, subst}
use Rattle.toml.specs.Data.{Data}
use Rattle.nextest_config_elements_toml.specs.Reading.{under}
use Rattle.nextest_config_resolution_load.specs.Load.{named_of}
use Rattle.nextest_config_resolution_load.specs.Reading.{GivesSeen}
use Rattle.nextest_config_resolution_load.proofs.reading.read_profiles.Goals as goal
use Rattle.nextest_config_resolution_keys.specs.File.{profiles_of}

pub returns-clause-read : goal.returns-clause-read
returns-clause-read c top lists =
    subst (λ (found : Option Data). GivesSeen (map named_of) c.read_under.result (under (codes "profile") (profiles_of found))) (c.in_ok-given.ensures top lists) c.read_under.ensures.read
