use Rattle.std.proofs.Common.{◌+◌, map, take, Ok, sym, subst}
use Rattle.nextest_config_elements_versions.specs.Sources.{GivesConfig, version_source_of}
use Rattle.nextest_config_elements_versions.specs.declared.version_only.VersionOnlyConfig.{VersionOnlyConfig}
use Rattle.nextest_config_elements_versions.proofs.Comings.{walk_more, walk_refused}
use Rattle.nextest_config_elements_versions.proofs.version_only.VersionOnlyConfig.from_sources.Goals as goal

pub returns-in-Err : goal.returns-in-Err
returns-in-Err c = record {
  exact = walk_refused c.args.sources.now c.loop-source.source-index c.source-item.result c.loop-source.config c.in-Err.error
      c.loop-source-test.true c.source-item.is c.loop-source.invariant c.in-Err.ensures;
}

pub loop-source-preserved : goal.loop-source-preserved
loop-source-preserved c =
    subst (λ (config : VersionOnlyConfig). GivesConfig (map version_source_of (take (c.loop-source.source-index + 1) c.args.sources.now)) (Ok config))
    (sym c.in_ok-merge-in-Ok.ensures.merged)
    (walk_more c.args.sources.now c.loop-source.source-index c.source-item.result c.loop-source.config c.in-Ok.more
    c.loop-source-test.true c.source-item.is c.loop-source.invariant c.in-Ok.ensures)
