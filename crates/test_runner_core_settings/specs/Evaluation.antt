-- What is told of an evaluation.
use Rattle.std.specs.Prelude.{ℕ, Bool, true, false, List, [], ◌∷◌, codes}
use Rattle.semver.specs.Identifiers.{parts_of}
use Rattle.nextest_config_elements_versions.specs.declared.version_eval.NextestVersionEval.{NextestVersionEval}
use Rattle.nextest_config_elements_versions.specs.declared.version_eval.NextestVersionEval.TheVariants as eval
use Rattle.test_runner_core_settings.specs.Warnings.{overridden, plain, version_text}

abbrev pub is_error : NextestVersionEval → Bool
is_error eval.Satisfied = false
is_error (eval.Error required current source) = true
is_error (eval.Warn recommended current source) = false
is_error (eval.ErrorOverride required current source) = false
is_error (eval.WarnOverride recommended current source) = false

abbrev pub version_warnings : NextestVersionEval → List (List ℕ)
version_warnings eval.Satisfied = []
version_warnings (eval.Error required current source) = []
version_warnings (eval.Warn recommended current source) = version_text (codes "recommended") recommended.now (parts_of current.now) source.now.path plain ∷ []
version_warnings (eval.ErrorOverride required current source) = version_text (codes "required") required.now (parts_of current.now) source.now.path overridden ∷ []
version_warnings (eval.WarnOverride recommended current source) = version_text (codes "recommended") recommended.now (parts_of current.now) source.now.path overridden ∷ []
