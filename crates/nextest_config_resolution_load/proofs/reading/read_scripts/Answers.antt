use Rattle.std.proofs.Common.{codes}
use Rattle.toml.specs.Data.{get_member}
use Rattle.nextest_config_resolution_scripts.specs.Scripts.{scripts_of}
use Rattle.nextest_config_resolution_load.proofs.Tops.{read_found}
use Rattle.nextest_config_resolution_load.proofs.reading.read_scripts.Goals as goal

pub returns : goal.returns
returns c top lists =
    read_found (codes "scripts") scripts_of c.as_ref.result c.in_ok-given.given (get_member (codes "scripts") top) c.deserialize_scripts.result c.as_ref.ensures.value (c.in_ok-given.ensures top lists)
    c.deserialize_scripts.ensures
