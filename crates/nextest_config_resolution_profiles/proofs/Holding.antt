-- The rules that hold on a test, and what follows from them.
use Rattle.std.proofs.Common.{◌≡◌, ℕ, ◌+◌, ◌<◌, ◌≤◌, Bool, List, [], ◌∷◌, ◌++◌, Option, None, length, get_or, map, take, refl, sym, ap, ◌∙◌, subst, append-nil, inl, inr, arith}
use Rattle.std.specs.List.{AllByRecursion}
use Rattle.std.proofs.lemmas.List.{length-map, map-append, take_all}
use Rattle.std.proofs.lemmas.List.Elements.{All-from_recursion, All-nil, recursion_from_All}
use Rattle.nextest_config_elements_identifiers.specs.declared.test_group.TestGroup.{TestGroup}
use Rattle.nextest_config_elements_identifiers.specs.declared.test_group.TestGroup.TheVariants as group
use Rattle.nextest_config_elements_choices.specs.declared.run_mode.NextestRunMode.{NextestRunMode}
use Rattle.nextest_config_resolution_load.proofs.Passing.{taken_more}
use Rattle.nextest_config_resolution_overrides.specs.declared.placed_override.PlacedOverride.{PlacedOverride}
use Rattle.nextest_config_resolution_profiles.specs.ChainRules.{seen_rule, seen_rules}
use Rattle.nextest_config_resolution_profiles.specs.Evaluatable.{Evaluatable}
use Rattle.nextest_config_resolution_profiles.specs.Finding.{AddsHeld, FindsHeld}
use Rattle.nextest_config_resolution_profiles.specs.Held.{AreSettingsFor, Holds, IsGroupBy, group_set, layers_of, placed_of}
use Rattle.nextest_config_resolution_profiles.specs.Platforms.{ForTarget, OverrideOn, RuleOn, default_set}
use Rattle.nextest_config_resolution_profiles.proofs.PutOn.{division_has}
use Rattle.nextest_config_resolution_profiles.specs.RuleLaws.{EarlyDefault, GroupOfSettings, NoRules, OneHeld, OneScriptsHeld, SameSettingsFor, SameSourcesFor}
use Rattle.nextest_config_resolution_profiles.specs.declared.chain_rule.ChainRule.{ChainRule}
use Rattle.nextest_config_resolution_scripts.specs.declared.script_rule.PlacedScriptRule.{PlacedScriptRule}
use Rattle.nextest_config_resolution_settings.specs.Nearest.{IsNearest, IsSetting, of_fallback, of_profiles, of_rule, SetsNone, Source, no_layer}
use Rattle.nextest_config_resolution_overrides.specs.RuleKeys.{test_group_of}
use Rattle.nextest_config_resolution_settings.specs.Rules.{AreHeld, HoldsAndSets, IsLeast, NoneHoldsAndSets, holds_too, id_of, left_out, none_left}
use Rattle.nextest_config_resolution_settings.specs.TestSettings.{AreSettings}
use Rattle.nextest_config_resolution_settings.specs.Layers.{in_rule}
use Rattle.nextest_config_resolution_settings.specs.declared.test_settings.TestSettings.{TestSettings}
use Rattle.nextest_config_resolution_settings.proofs.Least.{least_is_nearest, none_is_least}
use Rattle.nextest_config_resolution_settings.proofs.EachSetting.{same_settings, same_sources}
use Rattle.nextest_config_resolution_settings.proofs.Unique.{one_setting}
use Rattle.nextest_filtering_filters.specs.Query.{Test}

-- ---- lists of rules that hold

module _ {R : Type 0} (Holding : R → Type 0) where
  -- of two lists one after another
  pub held_both : {rules held more others : List R} → AreHeld Holding rules held → AreHeld Holding more others → AreHeld Holding (rules ++ more) (held ++ others)
  held_both none_left behind = behind
  held_both {more = more} {others = others} (holds_too rule rules held holds before) behind = holds_too rule (rules ++ more) (held ++ others) holds (held_both before behind)
  held_both {more = more} {others = others} (left_out rule rules held fails before) behind = left_out rule (rules ++ more) (held ++ others) fails (held_both before behind)

  -- they are one list
  pub held_once : {rules one other : List R} → AreHeld Holding rules one → AreHeld Holding rules other → one ≡ other
  held_once none_left none_left = refl
  held_once (holds_too rule rules held holds before) (holds_too again others more also behind) = ap (λ (rest : List R). rule ∷ rest) (held_once before behind)
  held_once (holds_too rule rules held holds before) (left_out again others more fails behind) = absurd (fails holds)
  held_once (left_out rule rules held fails before) (holds_too again others more holds behind) = absurd (fails holds)
  held_once (left_out rule rules held fails before) (left_out again others more also behind) = held_once before behind

  -- of no rules none holds
  pub held_of_none : {rules held : List R} → AreHeld Holding rules held → rules ≡ [] → held ≡ []
  held_of_none none_left e = refl
  held_of_none (holds_too rule rules held holds before) e = absurd (omega (arith, ap length e))
  held_of_none (left_out rule rules held fails before) e = absurd (omega (arith, ap length e))

-- ---- as a loop finds them

module _ {P F S : Type 0} (Holding : RuleOn P F S → Type 0) where
  pub found_none : (found : List P) → found ≡ [] → FindsHeld Holding [] found
  found_none found none = record { held = []; are = none_left; same = none }

  pub found_both : (rules more : List (RuleOn P F S)) (found own all : List P) → FindsHeld Holding rules found → FindsHeld Holding more own → all ≡ found ++ own
      → FindsHeld Holding (rules ++ more) all
  found_both rules more found own all before behind same = record {
    held = before.held ++ behind.held;
    are = held_both Holding before.are behind.are;
    same = same ∙ ap (λ (front : List P). front ++ own) before.same ∙ ap (λ (rest : List P). map placed_of before.held ++ rest) behind.same
        ∙ sym (map-append placed_of before.held behind.held);
  }

  -- one more rule
  pub found_more : (rules : List (ChainRule P F S)) (place : ℕ) (rule : ChainRule P F S) (found all : List P) → place < length rules → rule ≡ get_or rules place rule
      → FindsHeld Holding (seen_rules (take place rules)) found → AddsHeld Holding (seen_rule rule) found all → FindsHeld Holding (seen_rules (take (place + 1) rules)) all
  found_more rules place rule found all within is before adds =
      subst (λ (them : List (RuleOn P F S)). FindsHeld Holding them all) (sym (ap seen_rules (taken_more rules place rule within is) ∙ map-append seen_rule (take place rules) (rule ∷ [])))
      (found_both (seen_rules (take place rules)) (seen_rule rule ∷ []) found adds.own all before adds.finds adds.added)

  pub found_all : (rules : List (ChainRule P F S)) (place : ℕ) (found : List P) → length rules ≤ place → FindsHeld Holding (seen_rules (take place rules)) found
      → FindsHeld Holding (seen_rules rules) found
  found_all rules place found over finds = subst (λ (them : List (ChainRule P F S)). FindsHeld Holding (seen_rules them) found) (take_all place rules over) finds

  -- a rule that holds is added, and one that doesn't isn't
  pub adds_one : (rule : RuleOn P F S) (old new : List P) → Holding rule → new ≡ old ++ placed_of rule ∷ [] → AddsHeld Holding rule old new
  adds_one rule old new holds same =
      record { own = placed_of rule ∷ []; finds = record { held = rule ∷ []; are = holds_too rule [] [] holds none_left; same = refl }; added = same }

  pub adds_none : (rule : RuleOn P F S) (old new : List P) → ¬ Holding rule → new ≡ old → AddsHeld Holding rule old new
  adds_none rule old new fails same =
      record { own = []; finds = record { held = []; are = left_out rule [] [] fails none_left; same = refl }; added = same ∙ sym (append-nil old) }

-- the settings by the rules that were found
pub settings_found : {F S T : Type 0} (OnTest : F → F → Test → Bool → Type 0) (Tells : T → Source → Type 0) (profile : Evaluatable F S) (mode : NextestRunMode) (test : Test) (it : TestSettings T)
    (found : List PlacedOverride) (scripts : List PlacedScriptRule) → FindsHeld (Holds OnTest profile.default_filter.filter.now test) profile.rules found
    → FindsHeld (Holds OnTest profile.default_filter.filter.now test) profile.script_rules scripts → AreSettings Tells mode (layers_of profile found scripts) it
    → AreSettingsFor OnTest Tells profile mode test it
settings_found OnTest Tells profile mode test it found scripts finds also settings = record {
  held = finds.held;
  are = finds.are;
  scripts = also.held;
  scripts_are = also.are;
  settings = subst (λ (held : List PlacedOverride). AreSettings Tells mode (layers_of profile held (map placed_of also.held)) it) finds.same
      (subst (λ (held : List PlacedScriptRule). AreSettings Tells mode (layers_of profile found held) it) also.same settings);
}

-- ---- laws

-- where none holds and sets a value, none is the least that does
pub no_least : {R V : Type 0} (Holding : R → Type 0) (set_by : R → Option V) (rules : List R) (rule : R) (value : V)
    → NoneHoldsAndSets Holding set_by rules → IsLeast Holding set_by rules rule value → ⊥
no_least Holding set_by rules rule value none least =
    division_has (λ it. ¬ HoldsAndSets Holding set_by it) least.front rule least.back
    (subst (AllByRecursion (λ it. ¬ HoldsAndSets Holding set_by it)) least.divided (recursion_from_All (λ it. ¬ HoldsAndSets Holding set_by it) rules none))
    (least.holds, (value, least.sets))

pub early_default : (F S : Type 0) → EarlyDefault F S
early_default F S early it rules none (inl found) = absurd (no_least ForTarget default_set rules found.rule it.filter.now none found.least)
early_default F S early it rules none (inr other) = other.1

pub one_held : {F : Type 0} (OnTest : F → F → Test → Bool → Type 0) (S : Type 0) → OneHeld OnTest S
one_held OnTest S profile test one other are also = held_once (Holds OnTest profile.default_filter.filter.now test) are also

pub one_scripts_held : {F : Type 0} (OnTest : F → F → Test → Bool → Type 0) (S : Type 0) → OneScriptsHeld OnTest S
one_scripts_held OnTest S profile test one other are also = held_once (Holds OnTest profile.default_filter.filter.now test) are also

-- the layers of a test are the same
same_layers : {F S T U : Type 0} (OnTest : F → F → Test → Bool → Type 0) (Tells : T → Source → Type 0) (Also : U → Source → Type 0) (profile : Evaluatable F S) (mode : NextestRunMode) (test : Test)
    (one : TestSettings T) (other : TestSettings U) (first : AreSettingsFor OnTest Tells profile mode test one) (second : AreSettingsFor OnTest Also profile mode test other)
    → AreSettings Also mode (layers_of profile (map placed_of first.held) (map placed_of first.scripts)) other
same_layers {S = S} OnTest Tells Also profile mode test one other first second =
    subst (λ (held : List PlacedOverride). AreSettings Also mode (layers_of profile held (map placed_of first.scripts)) other)
    (ap (map placed_of) (one_held OnTest S profile test second.held first.held second.are first.are))
    (subst (λ (scripts : List PlacedScriptRule). AreSettings Also mode (layers_of profile (map placed_of second.held) scripts) other)
    (ap (map placed_of) (one_scripts_held OnTest S profile test second.scripts first.scripts second.scripts_are first.scripts_are)) second.settings)

pub same_settings_for : {F T U : Type 0} (OnTest : F → F → Test → Bool → Type 0) (S : Type 0) (Tells : T → Source → Type 0) (Also : U → Source → Type 0) → SameSettingsFor OnTest S Tells Also
same_settings_for OnTest S Tells Also profile mode test one other first second =
    same_settings Tells Also mode (layers_of profile (map placed_of first.held) (map placed_of first.scripts)) one other first.settings
    (same_layers OnTest Tells Also profile mode test one other first second)

pub same_sources_for : {F T : Type 0} (OnTest : F → F → Test → Bool → Type 0) (S : Type 0) (Tells : T → Source → Type 0) → SameSourcesFor OnTest S Tells
same_sources_for OnTest S Tells profile mode test one other first second =
    same_sources Tells mode (layers_of profile (map placed_of first.held) (map placed_of first.scripts)) one other first.settings
    (same_layers OnTest Tells Tells profile mode test one other first second)

pub no_rules : {F T : Type 0} (OnTest : F → F → Test → Bool → Type 0) (S : Type 0) (Tells : T → Source → Type 0) → NoRules OnTest S Tells
no_rules OnTest S Tells profile mode test settings none no_scripts are =
    subst (λ (held : List PlacedOverride). AreSettings Tells mode (layers_of profile held []) settings)
    (ap (map placed_of) (held_of_none (Holds OnTest profile.default_filter.filter.now test) are.are none))
    (subst (λ (scripts : List PlacedScriptRule). AreSettings Tells mode (layers_of profile (map placed_of are.held) scripts) settings)
    (ap (map placed_of) (held_of_none (Holds OnTest profile.default_filter.filter.now test) are.scripts_are no_scripts)) are.settings)

-- ---- the group of a test

all_mapped : {A B : Type 0} (P : B → Type 0) (f : A → B) (xs : List A) → AllByRecursion (λ x. P (f x)) xs → AllByRecursion P (map f xs)
all_mapped P f [] all = tt
all_mapped P f (x ∷ xs) all = (all.0, all_mapped P f xs all.1)

none_mapped : {A B V : Type 0} (set_by : B → Option V) (f : A → B) (xs : List A) → SetsNone (λ x. set_by (f x)) xs → SetsNone set_by (map f xs)
none_mapped set_by f xs none =
    All-from_recursion (λ it. set_by it ≡ None) (map f xs) (all_mapped (λ it. set_by it ≡ None) f xs (recursion_from_All (λ it. set_by (f it) ≡ None) xs none))

nearest_mapped : {A B V : Type 0} (set_by : B → Option V) (f : A → B) (xs : List A) (place : ℕ) (value : V) → IsNearest (λ x. set_by (f x)) xs place value → IsNearest set_by (map f xs) place value
nearest_mapped set_by f xs place value it = record {
  front = map f it.front;
  layer = f it.layer;
  back = map f it.back;
  divided = ap (map f) it.divided ∙ map-append f it.front (it.layer ∷ it.back);
  placed = it.placed ∙ sym (length-map it.front f);
  before = none_mapped set_by f it.front it.before;
  sets = it.sets;
}

-- as a setting of the rules that hold, which overrides alone set
as_setting : {F S : Type 0} (Holding : OverrideOn F S → Type 0) (rules held : List (OverrideOn F S)) (it : TestGroup)
    → AreHeld Holding rules held → IsGroupBy Holding rules it
    → (from : Source) × IsSetting id_of (in_rule test_group_of) (in_rule test_group_of) (map placed_of held) [] group.Global it from
as_setting Holding rules held it are (inl (rule, least)) =
    let found = least_is_nearest Holding group_set rules held rule it are least in
    let nearest = nearest_mapped (in_rule test_group_of) placed_of held found.place it found.nearest in
    (_, of_rule it (id_of nearest.layer) (record { place = found.place; nearest = nearest; named = refl }))
as_setting Holding rules held it are (inr (none, is)) =
    let sets_none = none_mapped (in_rule test_group_of) placed_of held ((none_is_least Holding group_set rules held are).1 none) in (
      no_layer,
      subst (λ (value : TestGroup). IsSetting id_of (in_rule test_group_of) (in_rule test_group_of) (map placed_of held) [] group.Global value no_layer) (sym is)
          (of_profiles group.Global no_layer sets_none (of_fallback (All-nil (λ rule. in_rule test_group_of rule ≡ None)))),
    )

pub group_of_settings : {F T : Type 0} (OnTest : F → F → Test → Bool → Type 0) (S : Type 0) (Tells : T → Source → Type 0) → GroupOfSettings OnTest S Tells
group_of_settings OnTest S Tells profile mode test settings found are is =
    let told = are.settings.test_group in
    let set = as_setting (Holds OnTest profile.default_filter.filter.now test) profile.rules are.held found are.are is in
    (one_setting id_of (in_rule test_group_of) (in_rule test_group_of) (map placed_of are.held) [] _ _ found told.from set.0 told.is set.1).0
