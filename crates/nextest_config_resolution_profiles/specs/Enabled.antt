-- Which setup scripts the tests of a run need, and which wrapper script what lists tests needs.
use Rattle.std.specs.Prelude.{◌≡◌, ◌↔◌, ℕ, Bool, true, IsTrue, List, Option, Some, IfSome, filter_map, map, option_map, take}
use Rattle.std.specs.BTreeSet.{BTreeSet, contains}
use Rattle.std.specs.Cmp.Lexicographic.{slice_cmp}
use Rattle.std.specs.List.{Contains, list_any}
use Rattle.std.specs.List.Sorted.{IsStrictlySortedBy}
use Rattle.std.specs.Ordering.{nat_cmp}
use Rattle.std.specs.Str.{bytes_eq}
use Rattle.nextest_config_resolution_profiles.specs.Evaluatable.{Evaluatable}
use Rattle.nextest_config_resolution_profiles.specs.Held.{Holds, holds_for, placed_of}
use Rattle.nextest_config_resolution_profiles.specs.HeldRules.{IsRowBy, rules_at}
use Rattle.nextest_config_resolution_profiles.specs.Platforms.{RuleOn, ScriptRuleOn}
use Rattle.nextest_config_resolution_profiles.specs.declared.enabled.Asked.{Asked}
use Rattle.nextest_config_resolution_profiles.specs.declared.enabled.Asked.TheVariants as asked
use Rattle.nextest_config_resolution_profiles.specs.declared.enabled.EnabledScript.{EnabledScript}
use Rattle.nextest_config_resolution_scripts.specs.Defined.{script_named}
use Rattle.nextest_config_resolution_scripts.specs.declared.script_config.NamedScript.{NamedScript}
use Rattle.nextest_config_resolution_scripts.specs.declared.script_rule.PlacedScriptRule.{PlacedScriptRule}
use Rattle.nextest_config_resolution_scripts.specs.declared.setup_script.SetupScriptConfig.{SetupScriptConfig}
use Rattle.nextest_config_resolution_scripts.specs.declared.wrapper_script.WrapperScriptConfig.{WrapperScriptConfig}
use Rattle.nextest_config_resolution_settings.specs.Rules.{AreHeld}
use Rattle.nextest_config_resolution_settings.specs.Wrappers.{SetsWrapper, list_wrapper}
use Rattle.nextest_filtering_filters.specs.Query.{Binary, Test, binary_of, test_of}

-- ---- setup scripts

-- a rule holds on some of these tests
abbrev pub HoldsOnSome : {P F S : Type 0} → (F → F → Test → Bool → Type 0) → F → List Test → RuleOn P F S → Type 0
HoldsOnSome OnTest default tests rule = (test : Test) × Contains tests test × Holds OnTest default test rule

-- the setup scripts that a script rule names
abbrev pub setup_of : {F S : Type 0} → ScriptRuleOn F S → List (List ℕ)
setup_of rule = (placed_of rule).config.setup

-- a setup script is enabled for some tests: a script rule of the profile names it that holds on
-- some of them
pub record IsEnabled {F S : Type 0} (OnTest : F → F → Test → Bool → Type 0) (profile : Evaluatable F S) (tests : List Test) (id : List ℕ) : Type 0 where
  pub rule : ScriptRuleOn F S
  pub of_profile : Contains profile.script_rules rule
  pub names : Contains (setup_of rule) id
  pub holds : HoldsOnSome OnTest profile.default_filter.filter.now tests rule

-- ---- their names

-- a set of names has one
abbrev pub has_name : BTreeSet (List ℕ) → List ℕ → Bool
has_name names id = contains (slice_cmp nat_cmp) names id

-- it has exactly those of the scripts that are enabled for some tests
abbrev pub HasEnabled : {F S : Type 0} → (F → F → Test → Bool → Type 0) → Evaluatable F S → List Test → BTreeSet (List ℕ) → Type 0
HasEnabled OnTest profile tests names = (id : List ℕ) → IsTrue (has_name names id) ↔ IsEnabled OnTest profile tests id

-- names rise by their bytes, so each stands once
abbrev pub Rise : List (List ℕ) → Type 0
Rise names = IsStrictlySortedBy (slice_cmp nat_cmp) names

-- these are exactly the names of which this is so
pub record AreNamesOf (Is : List ℕ → Type 0) (names : List (List ℕ)) : Type 0 where
  pub rise : Rise names
  pub exactly : (id : List ℕ) → Contains names id ↔ Is id

-- a script by its name, where one is defined
abbrev pub defined_as : List (NamedScript SetupScriptConfig) → List ℕ → Option (List ℕ × SetupScriptConfig)
defined_as scripts id = option_map (λ config. (id, config)) (script_named scripts id)

-- these are the scripts of exactly the names of which this is so, by the bytes of their names, each
-- with what it is set to
pub record AreScriptsOf (Is : List ℕ → Type 0) (scripts : List (NamedScript SetupScriptConfig)) (it : List (List ℕ × SetupScriptConfig)) : Type 0 where
  pub names : List (List ℕ)
  pub are : AreNamesOf Is names
  pub each : it ≡ filter_map (defined_as scripts) names

-- these are the enabled scripts
abbrev pub AreEnabled : {F S : Type 0} → (F → F → Test → Bool → Type 0) → Evaluatable F S → List Test → List (List ℕ × SetupScriptConfig) → Type 0
AreEnabled OnTest profile tests it = AreScriptsOf (IsEnabled OnTest profile tests) profile.scripts.setup it

-- an enabled script as it is handed out
abbrev pub seen_script : EnabledScript → List ℕ × SetupScriptConfig
seen_script it = (it.id, it.config.now)

-- ---- what lists tests

-- a rule holds on a binary, whatever its tests are: for the platform that it is built for, and by
-- its filter, beside the default filter
pub record HoldsOnBinary {P F S : Type 0} (OnBinary : F → F → Binary → Option Bool → Type 0) (default : F) (binary : Binary) (it : RuleOn P F S) : Type 0 where
  pub platform : holds_for binary.platform it ≡ true
  pub filter : IfSome it.rule.compiled.filter (λ filter. OnBinary filter default binary (Some true))

-- the wrapper script of what lists the tests of a binary, by the script rules that hold on the
-- binary
pub record IsListWrapper {F S : Type 0} (OnBinary : F → F → Binary → Option Bool → Type 0) (profile : Evaluatable F S) (binary : Binary)
    (it : Option WrapperScriptConfig) : Type 0 where
  pub held : List (ScriptRuleOn F S)
  pub are : AreHeld (HoldsOnBinary OnBinary profile.default_filter.filter.now binary) profile.script_rules held
  pub sets : SetsWrapper profile.scripts.wrapper list_wrapper (map placed_of held) it

-- ---- what is asked of rules

-- whether a rule holds on some of these tests, or on this binary
abbrev pub HoldsAsked : {P F S : Type 0} → (F → F → Test → Bool → Type 0) → (F → F → Binary → Option Bool → Type 0) → F → Asked → RuleOn P F S → Type 0
HoldsAsked OnTest OnBinary default (asked.Tests tests) rule = HoldsOnSome OnTest default (map test_of tests.now) rule
HoldsAsked OnTest OnBinary default (asked.Binary binary) rule = HoldsOnBinary OnBinary default (binary_of binary.now) rule

-- some of the first values is true
abbrev pub any_in : ℕ → List Bool → Bool
any_in count values = list_any (λ value. value) (take count values)

-- some rule names a setup script
abbrev pub is_named : List PlacedScriptRule → List ℕ → Bool
is_named rules id = list_any (λ rule. list_any (bytes_eq id) rule.config.setup) rules

-- a test of a binary, by its name
abbrev pub test_in : Binary → List ℕ → Test
test_in binary name = record { binary = binary; name = name }

-- these are what the script rules of a profile say of which that is so, in their order
pub record FindsAsked {F S : Type 0} (OnTest : F → F → Test → Bool → Type 0) (OnBinary : F → F → Binary → Option Bool → Type 0)
    (profile : Evaluatable F S) (asked : Asked) (found : List PlacedScriptRule) : Type 0 where
  pub row : List Bool
  pub told : IsRowBy (HoldsAsked OnTest OnBinary profile.default_filter.filter.now asked) profile.script_rules row
  pub same : found ≡ map placed_of (rules_at row profile.script_rules)
