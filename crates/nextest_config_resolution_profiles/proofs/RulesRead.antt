-- The rules of a configuration have the filters and specs of their texts.
use Rattle.std.proofs.Common.{ℕ, List, [], ◌∷◌, refl, sym, subst}
use Rattle.std.specs.List.{AllByRecursion}
use Rattle.std.proofs.lemmas.List.Elements.{All-from_recursion}
use Rattle.nextest_config_resolution_load.specs.Checks.{rules_downward, script_rules_downward}
use Rattle.nextest_config_resolution_load.specs.Load.{AreReadBy, IsCompiledRule, IsFilterBy, IsReadBy, IsReadRule, IsSpecBy, LoadedOverride, LoadedScriptRule}
use Rattle.nextest_config_resolution_load.specs.Rules.{Conditions, conditions_of, script_conditions_of}
use Rattle.nextest_config_resolution_load.specs.declared.loaded_rule.LoadedRule.{LoadedRule}
use Rattle.nextest_config_resolution_profiles.specs.Laws.{RulesAreRead, ScriptRulesAreRead}

module _ {F S : Type 0} (Is : IsFilterBy F) (IsSpec : IsSpecBy S) where
  each_read : {P : Type 0} (conditions : P → Conditions) (rules : List P) (loaded : List (LoadedRule P F S)) → AreReadBy conditions Is IsSpec rules loaded
      → AllByRecursion (λ rule. IsReadBy conditions Is IsSpec rule.placed rule) loaded
  each_read conditions [] [] are = tt
  each_read conditions [] (it ∷ loaded) are = absurd are
  each_read conditions (rule ∷ rules) [] are = absurd are
  each_read conditions (rule ∷ rules) (it ∷ loaded) are = (
    record {
      same = refl;
      compiled = subst (λ (placed : _). IsCompiledRule Is IsSpec (conditions placed) it.compiled) (sym are.0.same) are.0.compiled;
    },
    each_read conditions rules loaded are.1,
  )

pub rules_are_read : {F S : Type 0} (Is : IsFilterBy F) (IsSpec : IsSpecBy S) (IsTooDeep : List ℕ → Type 0) → RulesAreRead Is IsSpec IsTooDeep
rules_are_read Is IsSpec IsTooDeep features root sources config loaded =
    All-from_recursion (λ (rule : LoadedOverride _ _). IsReadRule Is IsSpec rule.placed rule) config.loaded.rules
    (each_read Is IsSpec conditions_of (rules_downward sources) config.loaded.rules loaded.1.rules)

pub script_rules_are_read : {F S : Type 0} (Is : IsFilterBy F) (IsSpec : IsSpecBy S) (IsTooDeep : List ℕ → Type 0) → ScriptRulesAreRead Is IsSpec IsTooDeep
script_rules_are_read Is IsSpec IsTooDeep features root sources config loaded =
    All-from_recursion (λ (rule : LoadedScriptRule _ _). IsReadBy script_conditions_of Is IsSpec rule.placed rule) config.loaded.script_rules
    (each_read Is IsSpec script_conditions_of (script_rules_downward sources) config.loaded.script_rules loaded.1.script_rules)
