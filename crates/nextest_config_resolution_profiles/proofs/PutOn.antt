-- Rules that are put on platforms, and the filters of a profile, which can be asked.
use Rattle.std.proofs.Common.{◌≡◌, ℕ, zero, suc, ◌<◌, Bool, true, false, List, [], ◌∷◌, ◌++◌, Option, Some, cond, length, get_or, map, refl, sym, ap, ◌∙◌, subst, inl, inr, arith}
use Rattle.std.specs.List.{All, AllByRecursion, filter, slice_get}
use Rattle.std.proofs.lemmas.List.{get_or-map, length-map}
use Rattle.std.proofs.lemmas.List.Elements.{All-from_recursion, recursion_from_All}
use Rattle.std.proofs.lemmas.Option.{none-some, same_Some}
use Rattle.nextest_config_resolution_inheritance.specs.Inheritance.{Name}
use Rattle.nextest_config_resolution_load.specs.declared.loaded_config.LoadedConfig.{LoadedConfig}
use Rattle.nextest_config_resolution_load.specs.Load.{LoadedScriptRule}
use Rattle.nextest_config_resolution_load.specs.declared.loaded_rule.LoadedRule.{LoadedRule}
use Rattle.nextest_config_resolution_overrides.specs.declared.placed_override.PlacedOverride.{PlacedOverride}
use Rattle.nextest_config_resolution_settings.specs.Rules.{is_of_profile, profile_of, rules_of, rules_of_profile, script_profile_of}
use Rattle.nextest_config_resolution_settings.specs.declared.default_filter.CompiledDefaultFilter.{CompiledDefaultFilter}
use Rattle.nextest_config_resolution_profiles.specs.Asking.{AreAskable, IsAskable, Serves}
use Rattle.nextest_config_resolution_profiles.specs.ChainRules.{put_on, rule_in, rules_in, seen_rules}
use Rattle.nextest_config_resolution_profiles.specs.Chains.{IsChained}
use Rattle.nextest_config_resolution_profiles.specs.Early.{in_profile}
use Rattle.nextest_config_resolution_profiles.specs.Platforms.{IsChosenDefault, OverrideOn, RuleOn, on_platforms}
use Rattle.nextest_config_resolution_profiles.specs.Whole.{IsSound}
use Rattle.nextest_config_resolution_profiles.specs.declared.chain_rule.ChainRule.{ChainRule}
use Rattle.nextest_config_resolution_profiles.specs.declared.chains.Chained.{Chained}

-- ---- rules on platforms

module _ {P F S Facts : Type 0} (value_on : S → Facts → Option Bool) (host target : Facts) where
  pub rules_put : (rules : List (ChainRule P F S)) → rules_in (map (put_on value_on host target) rules) ≡ rules_in rules
  rules_put [] = refl
  rules_put (it ∷ rules) = ap (λ (more : List (LoadedRule P F S)). it.rule.now ∷ more) (rules_put rules)

  pub seen_put : (rules : List (ChainRule P F S)) → seen_rules (map (put_on value_on host target) rules) ≡ map (on_platforms value_on host target) (rules_in rules)
  seen_put [] = refl
  seen_put (it ∷ rules) = ap (λ (more : List (RuleOn P F S)). on_platforms value_on host target it.rule.now ∷ more) (seen_put rules)

-- ---- what holds of each rule

-- of the one at a place
pub item_has : {Q F S : Type 0} (P : LoadedRule Q F S → Type 0) (rules : List (ChainRule Q F S)) (place : ℕ) (it : ChainRule Q F S) → place < length rules → it ≡ get_or rules place it
    → All P (rules_in rules) → P (rule_in it)
item_has P rules place it within is each =
    subst P (get_or-map rule_in rules place it (rule_in it) within ∙ ap rule_in (sym is)) (each place (rule_in it) (omega (arith, within, length-map rules rule_in)))

-- of the one at which a list is divided
pub division_has : {X : Type 0} (P : X → Type 0) (front : List X) (x : X) (back : List X) → AllByRecursion P (front ++ x ∷ back) → P x
division_has P [] x back each = each.0
division_has P (other ∷ front) x back each = division_has P front x back each.1

seen_have : {Q F S : Type 0} (P : LoadedRule Q F S → Type 0) (rules : List (ChainRule Q F S)) → AllByRecursion P (rules_in rules) → AllByRecursion (λ it. P it.rule) (seen_rules rules)
seen_have P [] each = tt
seen_have P (rule ∷ rules) each = (each.0, seen_have P rules each.1)

-- of those of some profiles
filtered_have : {X : Type 0} (P : X → Type 0) (test : X → Bool) (xs : List X) → AllByRecursion P xs → AllByRecursion P (filter test xs)
filtered_have P test [] each = tt
filtered_have P test (x ∷ xs) each = by_test (test x) (filtered_have P test xs each.1)
  where
    by_test : (passes : Bool) → AllByRecursion P (filter test xs) → AllByRecursion P (cond passes (x ∷ filter test xs) (filter test xs))
    by_test true more = (each.0, more)
    by_test false more = more

both_have : {X : Type 0} (P : X → Type 0) (xs ys : List X) → AllByRecursion P xs → AllByRecursion P ys → AllByRecursion P (xs ++ ys)
both_have P [] ys each more = more
both_have P (x ∷ xs) ys each more = (each.0, both_have P xs ys each.1 more)

pub named_have : {X : Type 0} (written : X → Name) (P : X → Type 0) (all : List X) (names : List Name) → AllByRecursion P all → AllByRecursion P (rules_of written all names)
named_have written P all [] each = tt
named_have written P all (name ∷ names) each =
    both_have P (rules_of_profile written all name) (rules_of written all names) (filtered_have P (is_of_profile written name) all each) (named_have written P all names each)

-- ---- the filters of a profile

-- what stands at a place
placed_has : {X : Type 0} (P : X → Type 0) (xs : List X) (place : ℕ) (x : X) → AllByRecursion P xs → slice_get xs place ≡ Some x → P x
placed_has P [] place x each e = absurd (none-some x e)
placed_has P (y ∷ xs) zero x each e = subst P (same_Some y x e) each.0
placed_has P (y ∷ xs) (suc place) x each e = placed_has P xs place x each.1 e

-- those of a profile of a configuration can be asked
pub early_askable : {F S : Type 0} (serves_as_default asks_groups : F → Bool) (loaded : LoadedConfig F S) (name : Name) (it : Chained F S) → IsSound serves_as_default asks_groups loaded
    → IsChained loaded.profiles loaded.default_filters loaded.rules loaded.script_rules name it
    → AreAskable serves_as_default asks_groups it.default_filter.filter.now (rules_in it.rules.items) (rules_in it.script_rules.items)
early_askable {F} {S} serves_as_default asks_groups loaded name it sound chained = record {
  serves = placed_has (Serves serves_as_default) loaded.default_filters chained.filtered.at (Some it.default_filter.filter.now)
      (recursion_from_All (Serves serves_as_default) loaded.default_filters sound.serve) chained.filtered.read;
  each = subst (All (IsAskable serves_as_default asks_groups)) (sym chained.ruled)
      (named_askable (in_profile profile_of) loaded.rules sound.askable);
  each_script = subst (All (IsAskable serves_as_default asks_groups)) (sym chained.scripted)
      (named_askable (in_profile script_profile_of) loaded.script_rules sound.scripts_askable);
}
  where
    named_askable : {P : Type 0} (written : LoadedRule P F S → Name) (all : List (LoadedRule P F S)) → All (IsAskable serves_as_default asks_groups) all
        → All (IsAskable serves_as_default asks_groups) (rules_of written all chained.chained.names)
    named_askable written all each =
        All-from_recursion (IsAskable serves_as_default asks_groups) (rules_of written all chained.chained.names)
        (named_have written (IsAskable serves_as_default asks_groups) all chained.chained.names (recursion_from_All (IsAskable serves_as_default asks_groups) all each))

-- and so can those that are chosen by its rules
pub chosen_askable : {F S : Type 0} (serves_as_default asks_groups : F → Bool) (early it : CompiledDefaultFilter F) (rules : List (ChainRule PlacedOverride F S)) (scripts : List (LoadedScriptRule F S))
    → AreAskable serves_as_default asks_groups early.filter.now (rules_in rules) scripts → IsChosenDefault early (seen_rules rules) it
    → AreAskable serves_as_default asks_groups it.filter.now (rules_in rules) scripts
chosen_askable serves_as_default asks_groups early it rules scripts are (inr same) =
    subst (λ (default : CompiledDefaultFilter _). AreAskable serves_as_default asks_groups default.filter.now (rules_in rules) scripts) (sym same.1) are
chosen_askable serves_as_default asks_groups early it rules scripts are (inl found) = record {
  serves = of_set found.rule.rule.compiled.default_filter found.set.filter
      (division_has (λ (rule : OverrideOn _ _). IsAskable serves_as_default asks_groups rule.rule) found.least.front found.rule found.least.back
      (subst (AllByRecursion (λ (rule : OverrideOn _ _). IsAskable serves_as_default asks_groups rule.rule)) found.least.divided
      (seen_have (IsAskable serves_as_default asks_groups) rules (recursion_from_All (IsAskable serves_as_default asks_groups) (rules_in rules) are.each)))).default_filter;
  each = are.each;
  each_script = are.each_script;
}
  where
    of_set : (set : Option _) → set ≡ Some it.filter.now → Serves serves_as_default set → serves_as_default it.filter.now ≡ true
    of_set set e serve = subst (Serves serves_as_default) e serve
