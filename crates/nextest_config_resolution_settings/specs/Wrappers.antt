-- Which wrapper script some script rules set: that of the name that the nearest of them names.
use Rattle.std.specs.Prelude.{◌≡◌, ◌⊎◌, ℕ, List, Option, None}
use Rattle.nextest_config_resolution_scripts.specs.Defined.{script_named}
use Rattle.nextest_config_resolution_scripts.specs.declared.script_config.NamedScript.{NamedScript}
use Rattle.nextest_config_resolution_scripts.specs.declared.script_rule.PlacedScriptRule.{PlacedScriptRule}
use Rattle.nextest_config_resolution_scripts.specs.declared.wrapper_script.WrapperScriptConfig.{WrapperScriptConfig}
use Rattle.nextest_config_resolution_settings.specs.Nearest.{IsNearest, SetsNone, Source, a_script_rule, no_layer}

-- the script that a rule names for the commands of tests, and the one for what lists tests
abbrev pub run_wrapper : PlacedScriptRule → Option (List ℕ)
run_wrapper rule = rule.config.run_wrapper

abbrev pub list_wrapper : PlacedScriptRule → Option (List ℕ)
list_wrapper rule = rule.config.list_wrapper

-- it is the script of the name that the nearest rule which names one has, and comes from that rule
pub record IsOfNearest (wrappers : List (NamedScript WrapperScriptConfig)) (named_by : PlacedScriptRule → Option (List ℕ))
    (rules : List PlacedScriptRule) (it : Option WrapperScriptConfig) (from : Source) : Type 0 where
  pub place : ℕ
  pub id : List ℕ
  pub nearest : IsNearest named_by rules place id
  pub found : it ≡ script_named wrappers id
  pub written : from ≡ a_script_rule nearest.layer.id

-- that, or none where no rule names one
abbrev pub IsWrapper : List (NamedScript WrapperScriptConfig) → (PlacedScriptRule → Option (List ℕ)) → List PlacedScriptRule
    → Option WrapperScriptConfig → Source → Type 0
IsWrapper wrappers named_by rules it from =
    IsOfNearest wrappers named_by rules it from ⊎ (SetsNone named_by rules × (it ≡ None) × (from ≡ no_layer))

-- the same, with what is kept of where it comes from
pub record IsTrackedWrapper {S : Type 0} (Tells : S → Source → Type 0) (wrappers : List (NamedScript WrapperScriptConfig))
    (named_by : PlacedScriptRule → Option (List ℕ)) (rules : List PlacedScriptRule) (it : Option WrapperScriptConfig × S) : Type 0 where
  pub from : Source
  pub is : IsWrapper wrappers named_by rules it.0 from
  pub kept : Tells it.1 from

-- and whatever is kept
abbrev pub SetsWrapper : List (NamedScript WrapperScriptConfig) → (PlacedScriptRule → Option (List ℕ)) → List PlacedScriptRule
    → Option WrapperScriptConfig → Type 0
SetsWrapper wrappers named_by rules it = (from : Source) × IsWrapper wrappers named_by rules it from
