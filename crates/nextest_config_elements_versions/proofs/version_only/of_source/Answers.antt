use Rattle.std.proofs.Common.{[], ◌∷◌, Ok, sym, subst}
use Rattle.nextest_config_elements_versions.specs.Sources.{GivesConfig, version_source_of}
use Rattle.nextest_config_elements_versions.specs.declared.version_only.VersionOnlyConfig.{VersionOnlyConfig}
use Rattle.nextest_config_elements_versions.proofs.Comings.{gives_one, refuses_one}
use Rattle.nextest_config_elements_versions.proofs.version_only.of_source.Goals as goal

pub returns-in-Err : goal.returns-in-Err
returns-in-Err c = refuses_one (version_source_of c.args.source.now) c.in-Err.error c.in-Err.ensures

pub returns-in-Ok-of_demand : goal.returns-in-Ok-of_demand
returns-in-Ok-of_demand c =
    subst (λ (config : VersionOnlyConfig). GivesConfig (version_source_of c.args.source.now ∷ []) (Ok config)) (sym c.in-Ok-of_demand.ensures)
    (gives_one (version_source_of c.args.source.now) c.in-Ok.demand c.in-Ok.ensures)
