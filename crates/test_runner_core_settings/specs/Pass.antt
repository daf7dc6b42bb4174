-- What inputs come to by the versions and features that their sources ask for.
use Rattle.std.specs.Prelude.{◌≡◌, ℕ, Bool, true, false, not, nat_lt, length, List, [], ◌∷◌, codes, Result, Ok, Err, ⊤, if◌then◌else◌}
use Rattle.semver.specs.Parse.{Parts}
use Rattle.nextest_config_elements_versions.specs.Sources.{Asking, Refusal, askings, config_in}
use Rattle.nextest_config_elements_versions.specs.Verdict.{Verdict, satisfied, error, warn, verdict}
use Rattle.nextest_config_elements_versions.specs.declared.feature.FeatureSet.{FeatureSet}
use Rattle.nextest_config_elements_versions.specs.declared.version_only.VersionOnlyConfig.{VersionOnlyConfig}
use Rattle.test_runner_core_inputs.specs.declared.inputs.Inputs.{Inputs}
use Rattle.test_runner_core_settings.specs.Sources.{sources_of}
use Rattle.test_runner_core_settings.specs.Warnings.{overridden, plain, version_text}
use Rattle.test_runner_core_settings.specs.declared.pass.VersionPass.{VersionPass}
use Rattle.test_runner_core_settings.specs.declared.pass_error.VersionPassError.{VersionPassError}
use Rattle.test_runner_core_settings.specs.declared.pass_error.VersionPassError.TheVariants as fault
use Rattle.test_runner_core_settings.specs.declared.pass_error.VersionPassFault.{VersionPassFault}
use Rattle.test_runner_core_settings.specs.declared.pass_error.VersionPassFault.TheVariants as refused

-- a required version is above the current one, and that isn't passed over
abbrev pub is_refused : Bool → Verdict → Bool
is_refused is_overridden satisfied = false
is_refused is_overridden (error required source) = not is_overridden
is_refused is_overridden (warn recommended source) = false

-- what is told of a verdict that isn't refused
abbrev pub warnings_by : Bool → Parts → Verdict → List (List ℕ)
warnings_by is_overridden current satisfied = []
warnings_by true current (error required source) = version_text (codes "required") required current source.path overridden ∷ []
warnings_by false current (error required source) = []
warnings_by true current (warn recommended source) = version_text (codes "recommended") recommended current source.path overridden ∷ []
warnings_by false current (warn recommended source) = version_text (codes "recommended") recommended current source.path plain ∷ []

-- what the current version, and whether it is let pass, make of what the sources ask for
abbrev pub pass_of_config : VersionOnlyConfig → Parts → Bool → Result VersionPass VersionPassFault
pass_of_config config current is_overridden =
    if is_refused is_overridden (verdict config.nextest_version current) then Err refused.VersionError
    else if nat_lt 0 (length config.experimental.unknown) then Err refused.UnknownFeature
    else Ok (record { warnings = warnings_by is_overridden current (verdict config.nextest_version current); experimental = config.experimental.known })

abbrev pub pass_by : Parts → Bool → Result (List Asking) Refusal → Result VersionPass VersionPassFault
pass_by current is_overridden (Ok all) = pass_of_config (config_in all) current is_overridden
pass_by current is_overridden (Err refusal) = Err refused.VersionSource

-- what inputs come to: each reason is looked for in all sources before the next
unfoldable pub pass_of : Inputs → Result VersionPass VersionPassFault
pass_of inputs = pass_by inputs.current_version inputs.override_version_check (askings (sources_of inputs.sources))

-- the features that are known then; none where the inputs are refused
abbrev pub features_by : Result VersionPass VersionPassFault → FeatureSet
features_by (Ok passed) = passed.experimental
features_by (Err refusal) = record { setup_scripts = false; wrapper_scripts = false; benchmarks = false }

abbrev pub features_of : Inputs → FeatureSet
features_of inputs = features_by (pass_of inputs)

-- a call gives what the inputs come to; want of memory says nothing
abbrev pub GivesPass : Result VersionPass VersionPassError → Result VersionPass VersionPassFault → Type 0
GivesPass (Ok passed) given = given ≡ Ok passed
GivesPass (Err (fault.Refused refusal)) given = given ≡ Err refusal
GivesPass (Err fault.OutOfMemory) given = ⊤
