-- What an evaluation of a version tells.
use Rattle.std.specs.Prelude.{◌≡◌, Bool, true, false}
use Rattle.semver.specs.declared.Version.{Version}
use Rattle.nextest_config_elements_versions.specs.Verdict.{Verdict, satisfied, error, warn}
use Rattle.nextest_config_elements_versions.specs.declared.version_eval.NextestVersionEval.{NextestVersionEval}
use Rattle.nextest_config_elements_versions.specs.declared.version_eval.NextestVersionEval.TheVariants as eval

-- it tells this verdict on the current version, with what is below a version let pass or not
abbrev pub Tells : Bool → Version → NextestVersionEval → Verdict → Type 0
Tells is_overridden current eval.Satisfied given = given ≡ satisfied
Tells is_overridden current (eval.Error required told source) given = (given ≡ error required.now source.now) × (told.now ≡ current) × (is_overridden ≡ false)
Tells is_overridden current (eval.Warn recommended told source) given = (given ≡ warn recommended.now source.now) × (told.now ≡ current) × (is_overridden ≡ false)
Tells is_overridden current (eval.ErrorOverride required told source) given = (given ≡ error required.now source.now) × (told.now ≡ current) × (is_overridden ≡ true)
Tells is_overridden current (eval.WarnOverride recommended told source) given = (given ≡ warn recommended.now source.now) × (told.now ≡ current) × (is_overridden ≡ true)
