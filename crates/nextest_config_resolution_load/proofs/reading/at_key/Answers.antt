use Rattle.std.proofs.Common.{◌≡◌, IfOk, Option, option_map, subst}
use Rattle.toml.specs.Data.{Data, get_member, table}
use Rattle.toml.specs.View.{view}
use Rattle.nextest_config_resolution_load.proofs.Tops.{only_some}
use Rattle.nextest_config_resolution_load.proofs.reading.at_key.Goals as goal

pub returns : goal.returns
returns c top lists =
    subst (λ (found : Option Data). IfOk c.value_at.result (λ it. option_map view it ≡ found)) (only_some (get_member c.args.key.now top)) (c.value_at.ensures (table top) lists)
