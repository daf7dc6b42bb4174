use Rattle.std.proofs.Common.{◌≡◌, List, Err, map, ap, ◌∙◌, subst}
use Rattle.nextest_config_elements_versions.specs.Sources.{GivesConfig, version_source_of}
use Rattle.nextest_config_elements_versions.specs.declared.origin.VersionSource.{VersionSource}
use Rattle.nextest_config_elements_versions.specs.declared.source_fault.VersionOnlyError.{VersionOnlyError}
use Rattle.nextest_config_resolution_sources.specs.declared.source.ConfigSource.{ConfigSource}
use Rattle.test_runner_core_settings.specs.Sources.{sources_of}
use Rattle.test_runner_core_settings.proofs.Passing.{passes, refuses}
use Rattle.test_runner_core_settings.proofs.pass.version_pass.Goals as goal

pub returns-in-Ok : goal.returns-in-Ok
returns-in-Ok c =
    let lent = c.as_slice-2.result.now in
    let are : map version_source_of lent ≡ sources_of c.args.inputs.now.sources =
    ap (λ (l : List VersionSource). map version_source_of l) c.as_slice-2.ensures.value ∙ c.in_ok-sources.ensures
    ∙ ap (λ (l : List ConfigSource). sources_of l) c.as_slice.ensures in
    record { exact = passes c.args.inputs.now (map version_source_of lent) c.in-Ok.config c.judge.result are c.in-Ok.ensures.exact c.judge.ensures }

pub returns-in-Err-Refused : goal.returns-in-Err-Refused
returns-in-Err-Refused c =
    let lent = c.as_slice-2.result.now in
    let are : map version_source_of lent ≡ sources_of c.args.inputs.now.sources =
    ap (λ (l : List VersionSource). map version_source_of l) c.as_slice-2.ensures.value ∙ c.in_ok-sources.ensures
    ∙ ap (λ (l : List ConfigSource). sources_of l) c.as_slice.ensures in
    record {
      exact = refuses c.args.inputs.now (map version_source_of lent) c.in-Err-Refused.field-0-0 are
          (subst (λ (e : VersionOnlyError). GivesConfig (map version_source_of lent) (Err e)) c.in-Err-Refused.field-0-is c.in-Err-Refused.ensures.exact);
    }
