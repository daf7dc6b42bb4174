-- What it takes to ask the filters of a configuration.
use Rattle.std.specs.Prelude.{◌≡◌, Bool, true, false, List, Option, All, IfSome}
use Rattle.nextest_config_resolution_load.specs.declared.loaded_rule.LoadedRule.{LoadedRule}

-- a filter, where there is one, serves as a default filter
abbrev pub Serves : {F : Type 0} → (F → Bool) → Option F → Type 0
Serves serves_as_default found = IfSome found (λ it. serves_as_default it ≡ true)

-- a filter, where there is one, asks for no groups
abbrev pub AsksNoGroups : {F : Type 0} → (F → Bool) → Option F → Type 0
AsksNoGroups asks_groups found = IfSome found (λ it. asks_groups it ≡ false)

-- a rule asks for no groups, and what it sets as the default filter serves as one
pub record IsAskable {P F S : Type 0} (serves_as_default asks_groups : F → Bool) (rule : LoadedRule P F S) : Type 0 where
  pub filter : AsksNoGroups asks_groups rule.compiled.filter
  pub default_filter : Serves serves_as_default rule.compiled.default_filter

-- so do all of some rules, overrides and script rules, beside a default filter that serves as one
pub record AreAskable {P Q F S : Type 0} (serves_as_default asks_groups : F → Bool) (default : F) (rules : List (LoadedRule P F S))
    (scripts : List (LoadedRule Q F S)) : Type 0 where
  pub serves : serves_as_default default ≡ true
  pub each : All (IsAskable serves_as_default asks_groups) rules
  pub each_script : All (IsAskable serves_as_default asks_groups) scripts
