use Rattle.std.proofs.Common.{ℕ, List, [], Ok, map, ap, subst}
use Rattle.nextest_config_elements_versions.specs.declared.feature.FeatureSet.{FeatureSet}
use Rattle.nextest_config_resolution_load.specs.Warn.{warnings_in}
use Rattle.nextest_config_resolution_profiles.specs.Config.{IsConfig}
use Rattle.nextest_config_resolution_sources.specs.declared.source.ConfigSource.{ConfigSource}
use Rattle.nextest_config_resolution_warnings.specs.Warnings.{text_of}
use Rattle.test_runner_core_settings.specs.Sets.{IsFilter, IsPlatformSpec, IsTooDeep}
use Rattle.test_runner_core_settings.proofs.configured.configure.Goals as goal

pub returns : goal.returns
returns c = λ known.
    let inputs = c.args.inputs.now in
    let cx = c.args.cx.now in
    let config = c.in_ok-config.config in
    let loaded =
    subst (λ (features : FeatureSet). IsConfig (IsFilter cx) IsPlatformSpec IsTooDeep features inputs.root inputs.sources (Ok config)) known
    (subst (λ (root : List ℕ). IsConfig (IsFilter cx) IsPlatformSpec IsTooDeep c.args.experimental root inputs.sources (Ok config)) c.as_str-root.ensures
    (subst (λ (sources : List ConfigSource). IsConfig (IsFilter cx) IsPlatformSpec IsTooDeep c.args.experimental c.as_str-root.result.now sources (Ok config)) c.as_slice-sources.ensures
    c.in_ok-config.ensures.config)) in
    let told = c.in_ok-config.ensures.warnings [] c.new-warnings.ensures in
    let same = ap (λ (sources : List ConfigSource). map text_of (warnings_in sources)) c.as_slice-sources.ensures in (loaded, cc)
