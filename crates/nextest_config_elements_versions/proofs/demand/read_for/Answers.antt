use Rattle.nextest_config_elements_versions.proofs.Comings.{refuses_value}
use Rattle.nextest_config_elements_versions.specs.Demand.{demand_of}
use Rattle.nextest_config_elements_versions.specs.Sources.{version_source_of}
use Rattle.toml.specs.View.{table_view}
use Rattle.nextest_config_elements_versions.proofs.demand.read_for.Goals as goal

pub returns-in-Err-Refused : goal.returns-in-Err-Refused
returns-in-Err-Refused c =
    refuses_value (version_source_of c.args.source.now) (demand_of (table_view c.args.top.now)) c.in-Err-Refused.field-0 c.in-Err-Refused.bad c.refused.result
    c.in-Err-Refused.field-0-is c.in-Err-Refused.ensures c.refused.ensures
