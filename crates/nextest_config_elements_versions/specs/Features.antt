-- Which features are known.
use Rattle.std.specs.Prelude.{ℕ, Bool, ◌||◌, ◌≡◌, List, Option, None, Some, Result, Ok, Err, codes, is_none, if◌then◌else◌}
use Rattle.std.specs.List.{list_any, filter}
use Rattle.std.specs.Str.{bytes_eq}
use Rattle.nextest_config_elements_choices.specs.declared.max_fail.BadText.{BadText}
use Rattle.nextest_config_elements_versions.specs.declared.feature.ConfigExperimental.{ConfigExperimental}
use Rattle.nextest_config_elements_versions.specs.declared.feature.ConfigExperimental.TheVariants as feature
use Rattle.nextest_config_elements_versions.specs.declared.feature.FeatureSet.{FeatureSet}

-- the name of a feature
abbrev pub text_of : ConfigExperimental → List ℕ
text_of feature.SetupScripts = codes "setup-scripts"
text_of feature.WrapperScripts = codes "wrapper-scripts"
text_of feature.Benchmarks = codes "benchmarks"

-- the feature of a name
abbrev pub feature_of : List ℕ → Option ConfigExperimental
feature_of name =
    if bytes_eq name (codes "setup-scripts") then Some feature.SetupScripts
    else if bytes_eq name (codes "wrapper-scripts") then Some feature.WrapperScripts
    else if bytes_eq name (codes "benchmarks") then Some feature.Benchmarks
    else None

-- a call gives the feature of a name
abbrev pub KnownBy : List ℕ → Result ConfigExperimental BadText → Type 0
KnownBy name (Ok feature) = feature_of name ≡ Some feature
KnownBy name (Err bad) = feature_of name ≡ None

-- the variable of the environment that turns a feature on
abbrev pub env_var : ConfigExperimental → Option (List ℕ)
env_var feature.SetupScripts = None
env_var feature.WrapperScripts = None
env_var feature.Benchmarks = Some (codes "NEXTEST_EXPERIMENTAL_BENCHMARKS")

-- a feature is in a set
abbrev pub contains : ConfigExperimental → FeatureSet → Bool
contains feature.SetupScripts found = found.setup_scripts
contains feature.WrapperScripts found = found.wrapper_scripts
contains feature.Benchmarks found = found.benchmarks

-- those features whose names are asked for
abbrev pub is_named : ConfigExperimental → List (List ℕ) → Bool
is_named it names = list_any (bytes_eq (text_of it)) names

abbrev pub known_in : List (List ℕ) → FeatureSet
known_in names = record {
  setup_scripts = is_named feature.SetupScripts names;
  wrapper_scripts = is_named feature.WrapperScripts names;
  benchmarks = is_named feature.Benchmarks names;
}

-- the names that are no feature's, in their order
abbrev pub unknown_in : List (List ℕ) → List (List ℕ)
unknown_in names = filter (λ name. is_none (feature_of name)) names

-- what is in one of two sets
abbrev pub union : FeatureSet → FeatureSet → FeatureSet
union one other = record {
  setup_scripts = one.setup_scripts || other.setup_scripts;
  wrapper_scripts = one.wrapper_scripts || other.wrapper_scripts;
  benchmarks = one.benchmarks || other.benchmarks;
}
