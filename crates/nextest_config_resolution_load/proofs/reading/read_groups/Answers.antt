use Rattle.std.proofs.Common.{codes}
use Rattle.toml.specs.Data.{get_member}
use Rattle.nextest_config_resolution_overrides.specs.Groups.{groups_of}
use Rattle.nextest_config_resolution_load.proofs.Tops.{read_found}
use Rattle.nextest_config_resolution_load.proofs.reading.read_groups.Goals as goal

pub returns : goal.returns
returns c top lists =
    read_found (codes "test-groups") groups_of c.as_ref.result c.in_ok-given.given (get_member (codes "test-groups") top) c.deserialize_test_groups.result c.as_ref.ensures.value (c.in_ok-given.ensures top lists)
    c.deserialize_test_groups.ensures
