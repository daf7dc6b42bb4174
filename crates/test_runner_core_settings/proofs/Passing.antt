-- How inputs come to pass.
use Rattle.std.proofs.Common.{◌≡◌, List, Result, Ok, Err, sym, ap, ◌∙◌, subst}
use Rattle.nextest_config_elements_versions.proofs.Comings.{comes_in, one_config}
use Rattle.nextest_config_elements_versions.specs.Sources.{Asking, GivesConfig, Refusal, Source, askings, config_in}
use Rattle.nextest_config_elements_versions.specs.declared.source_fault.VersionOnlyError.TheVariants as untold
use Rattle.nextest_config_elements_versions.specs.declared.source_fault.VersionSourceFault.{VersionSourceFault}
use Rattle.nextest_config_elements_versions.specs.declared.version_only.VersionOnlyConfig.{VersionOnlyConfig}
use Rattle.test_runner_core_inputs.specs.declared.inputs.Inputs.{Inputs}
use Rattle.test_runner_core_settings.specs.Laws.{PassesByConfig, RefusedBySource}
use Rattle.test_runner_core_settings.specs.Sources.{sources_of}
use Rattle.test_runner_core_settings.specs.Pass.{GivesPass, pass_of_config, pass_by, pass_of}
use Rattle.test_runner_core_settings.specs.declared.pass.VersionPass.{VersionPass}
use Rattle.test_runner_core_settings.specs.declared.pass_error.VersionPassError.{VersionPassError}
use Rattle.test_runner_core_settings.specs.declared.pass_error.VersionPassFault.TheVariants as refused

-- what is judged is what the inputs come to
pub passes : (inputs : Inputs) (sources : List Source) (config : VersionOnlyConfig) (result : Result VersionPass VersionPassError)
    → sources ≡ sources_of inputs.sources → GivesConfig sources (Ok config)
    → GivesPass result (pass_of_config config inputs.current_version inputs.override_version_check) → GivesPass result (pass_of inputs)
unfolding pass_of
passes inputs sources config result are (all, asked, comes) gives =
    let one : config ≡ config_in all = one_config all config (config_in all) comes (comes_in all) in
    let here : askings (sources_of inputs.sources) ≡ Ok all = ap askings (sym are) ∙ asked in
    subst (λ (asks : Result (List Asking) Refusal). GivesPass result (pass_by inputs.current_version inputs.override_version_check asks)) (sym here)
    (subst (λ (c : VersionOnlyConfig). GivesPass result (pass_of_config c inputs.current_version inputs.override_version_check)) one gives)

-- a source that is refused refuses the inputs
pub refuses : (inputs : Inputs) (sources : List Source) (fault : VersionSourceFault)
    → sources ≡ sources_of inputs.sources → GivesConfig sources (Err (untold.Refused fault)) → pass_of inputs ≡ Err refused.VersionSource
unfolding pass_of
refuses inputs sources fault are (refusal, asked, told) =
    ap (λ (asks : Result (List Asking) Refusal). pass_by inputs.current_version inputs.override_version_check asks) (ap askings (sym are) ∙ asked)

-- whatever the sources come to, the inputs come to what the current version makes of it
pub passes_by_config : PassesByConfig
unfolding pass_of
passes_by_config inputs all config asked comes =
    ap (λ (asks : Result (List Asking) Refusal). pass_by inputs.current_version inputs.override_version_check asks) asked
    ∙ ap (λ (c : VersionOnlyConfig). pass_of_config c inputs.current_version inputs.override_version_check) (one_config all (config_in all) config (comes_in all) comes)

pub refused_by_source : RefusedBySource
unfolding pass_of
refused_by_source inputs refusal asked =
    ap (λ (asks : Result (List Asking) Refusal). pass_by inputs.current_version inputs.override_version_check asks) asked
