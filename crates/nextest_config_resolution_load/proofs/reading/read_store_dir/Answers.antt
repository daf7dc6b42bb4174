use Rattle.std.proofs.Common.{codes}
use Rattle.toml.specs.Data.{get_member}
use Rattle.nextest_config_resolution_keys.specs.File.{store_dir_of}
use Rattle.nextest_config_resolution_load.proofs.Tops.{read_found}
use Rattle.nextest_config_resolution_load.proofs.reading.read_store_dir.Goals as goal

pub returns : goal.returns
returns c top lists =
    read_found (codes "store") store_dir_of c.as_ref.result c.in_ok-given.given (get_member (codes "store") top) c.deserialize_store_dir.result c.as_ref.ensures.value (c.in_ok-given.ensures top lists)
    c.deserialize_store_dir.ensures
