-- Which rules hold on the tests of a binary: columns of rules, rows of tests, and what is picked by
-- a row.
use Rattle.std.proofs.Common.{◌≡◌, ℕ, zero, suc, ◌+◌, ◌<◌, Bool, true, false, List, [], ◌∷◌, ◌++◌, Option, Some, Bor, cond, drop, length, get_or, map, take, refl, sym, ap, ◌∙◌, subst, arith}
use Rattle.std.proofs.lemmas.Bool.{false≢true}
use Rattle.std.proofs.lemmas.List.{length-map, length-take-le, map-append, map_push}
use Rattle.std.proofs.lemmas.List.Prefix.{front_rest}
use Rattle.std.proofs.lemmas.Option.{none-some}
use Rattle.std.proofs.lemmas.Slice.Zip.{all_zipped_more}
use Rattle.std.specs.List.{AllZip, slice_get}
use Rattle.nextest_config_resolution_filters.specs.Filters.{FiltersLaws}
use Rattle.nextest_config_elements_choices.specs.declared.run_mode.NextestRunMode.{NextestRunMode}
use Rattle.nextest_config_resolution_load.proofs.Passing.{taken_more}
use Rattle.nextest_config_resolution_overrides.specs.declared.placed_override.PlacedOverride.{PlacedOverride}
use Rattle.nextest_config_resolution_profiles.specs.ChainRules.{seen_rule, seen_rules}
use Rattle.nextest_config_resolution_profiles.specs.Evaluatable.{Evaluatable}
use Rattle.nextest_config_resolution_profiles.specs.Held.{AreSettingsFor, Holds, layers_of, placed_of}
use Rattle.nextest_config_resolution_profiles.specs.HeldRules.{AreColumns, AreHeldColumns, IsRowOn, IsRowBy, Columns, IsColumn, IsHeldRow, TellsEach, held_row, rules_at, row_at, value_at}
use Rattle.nextest_config_resolution_profiles.specs.Platforms.{RuleOn}
use Rattle.nextest_config_resolution_profiles.specs.declared.chain_rule.ChainRule.{ChainRule}
use Rattle.nextest_config_resolution_profiles.proofs.Holding.{settings_found}
use Rattle.nextest_config_resolution_scripts.specs.declared.script_rule.PlacedScriptRule.{PlacedScriptRule}
use Rattle.nextest_config_resolution_settings.specs.Nearest.{Source, lent_layers}
use Rattle.nextest_config_resolution_settings.specs.Rules.{AreHeld, holds_too, left_out, none_left}
use Rattle.nextest_config_resolution_settings.specs.TestSettings.{AreSettings}
use Rattle.nextest_config_resolution_settings.specs.declared.test_settings.TestSettings.{TestSettings}
use Rattle.nextest_filtering_arguments.specs.declared.ban.FiltersetKind.{FiltersetKind}
use Rattle.nextest_filtering_filters.specs.Meaning.{Tells}
use Rattle.nextest_filtering_filters.specs.Query.{Binary, Test}
use Rattle.nextest_filtering_filters.specs.declared.known_groups.KnownGroups.{KnownGroups}

-- what a loop over rules finds of each, at one more rule
pub zipped_more : {P F S W : Type 0} (Own : RuleOn P F S → W → Type 0) (rules : List (ChainRule P F S)) (place : ℕ) (rule : ChainRule P F S) (found all : List W) (own : W) → place < length rules → rule ≡ get_or rules place rule
    → all ≡ found ++ own ∷ [] → Own (seen_rule rule) own → AllZip Own (seen_rules (take place rules)) found → AllZip Own (seen_rules (take (place + 1) rules)) all
zipped_more {P} {F} {S} {W} Own rules place rule found all own within is adds it before =
    let front = seen_rules (take place rules) in
    subst (λ (them : List (RuleOn P F S)). AllZip Own them all) (sym (ap seen_rules (taken_more rules place rule within is) ∙ map_push seen_rule (take place rules) rule))
    (subst (λ (them : List W). AllZip Own (front ++ seen_rule rule ∷ []) them) (sym adds) (all_zipped_more Own front found (seen_rule rule) own before it))

-- ---- the columns of rules

module _ {P F S : Type 0} (OnTest : F → F → Test → Bool → Type 0) (default : F) (binary : Binary) (names : List (List ℕ)) where
  -- of one more rule
  pub columns_more : {V : Type 0} (items : V → List Bool) (rules : List (ChainRule P F S)) (place : ℕ) (rule : ChainRule P F S) (columns all : List V) (column : V) → place < length rules → rule ≡ get_or rules place rule
      → all ≡ columns ++ column ∷ [] → IsColumn OnTest default binary names (seen_rule rule) (items column)
      → AreColumns OnTest default binary names (seen_rules (take place rules)) (map items columns) → AreColumns OnTest default binary names (seen_rules (take (place + 1) rules)) (map items all)
  columns_more items rules place rule columns all column within is adds own before =
      zipped_more (IsColumn OnTest default binary names) rules place rule (map items columns) (map items all) (items column) within is (ap (map items) adds ∙ map_push items columns column) own before

  -- what they say of a test
  pub row_of : (place : ℕ) (name : List ℕ) → slice_get names place ≡ Some name → (rules : List (RuleOn P F S)) (columns : List (List Bool)) → AreColumns OnTest default binary names rules columns
      → IsRowOn OnTest default (record { binary = binary; name = name }) rules (row_at place columns)
  row_of place name at [] [] all = tt
  row_of place name at [] (column ∷ columns) all = absurd all
  row_of place name at (rule ∷ rules) [] all = absurd all
  row_of place name at (rule ∷ rules) (column ∷ columns) all = (all.0 place name at, row_of place name at rules columns all.1)

-- what stands beside a name in a list of values
value_of_name : (R : List ℕ → Bool → Type 0) (names : List (Bor (List ℕ))) (values : List Bool) → AllZip (λ name value. R name.now value) names values
    → (place : ℕ) (name : List ℕ) → slice_get (lent_layers names) place ≡ Some name → R name (value_at place values)
value_of_name R [] values all place name at = absurd (none-some name at)
value_of_name R (one ∷ names) [] all place name at = absurd all
value_of_name R (one ∷ names) (value ∷ values) all zero name at = let same : one.now ≡ name = let f = at in cc in subst (λ (it : List ℕ). R it value) same all.0
value_of_name R (one ∷ names) (value ∷ values) all (suc place) name at = value_of_name R names values all.1 place name at

module _ {F Cx : Type 0} {IsParsed : Cx → FiltersetKind → KnownGroups → List ℕ → F → Type 0}
    {OnBinary : F → F → Binary → Option Bool → Type 0} {OnTest : F → F → Test → Bool → Type 0}
    {asks_groups has_runtime_leaves serves_as_default : F → Bool} (laws : FiltersLaws IsParsed OnBinary OnTest asks_groups has_runtime_leaves serves_as_default)
    (filter default : F) (binary : Binary) where
  -- by the values of a filter on tests
  pub told_each : serves_as_default default ≡ true → asks_groups filter ≡ false → (names : List (Bor (List ℕ))) (column : List Bool)
      → AllZip (λ name value. OnTest filter default (record { binary = binary; name = name.now }) value) names column
      → TellsEach (λ name. OnTest filter default (record { binary = binary; name = name }) true) (lent_layers names) column
  told_each serves asks names column all place name at =
      let test : Test = record { binary = binary; name = name } in
      let value = value_at place column in
      let is : OnTest filter default test value = value_of_name (λ name value. OnTest filter default (record { binary = binary; name = name }) value) names column all place name at in
      ((λ so. subst (λ (b : Bool). OnTest filter default test b) so is), (λ on. laws.one_on_test filter default test value true serves asks is on))

-- ---- what is picked by a row

-- the rules that hold are those at which the row is true
pub picked_hold : {R : Type 0} (Holding : R → Type 0) (rules : List R) (row : List Bool) → AllZip (λ rule value. Tells (Holding rule) value) rules row → AreHeld Holding rules (rules_at row rules)
picked_hold Holding [] [] all = none_left
picked_hold Holding [] (value ∷ row) all = absurd all
picked_hold Holding (rule ∷ rules) [] all = absurd all
picked_hold Holding (rule ∷ rules) (true ∷ row) all = holds_too rule rules (rules_at row rules) (all.0.0 refl) (picked_hold Holding rules row all.1)
picked_hold Holding (rule ∷ rules) (false ∷ row) all = left_out rule rules (rules_at row rules) (λ holds. false≢true (all.0.1 holds)) (picked_hold Holding rules row all.1)

-- one more rule
picked_push : {R : Type 0} (row : List Bool) (rules : List R) (rule : R) → rules_at row (rules ++ rule ∷ []) ≡ rules_at row rules ++ cond (value_at (length rules) row) (rule ∷ []) []
picked_push [] [] rule = refl
picked_push (true ∷ row) [] rule = refl
picked_push (false ∷ row) [] rule = refl
picked_push [] (first ∷ rules) rule = refl
picked_push (true ∷ row) (first ∷ rules) rule = ap (λ (them : List _). first ∷ them) (picked_push row rules rule)
picked_push (false ∷ row) (first ∷ rules) rule = picked_push row rules rule

map_cond : {A B : Type 0} (f : A → B) (b : Bool) (x : A) → map f (cond b (x ∷ []) []) ≡ cond b (f x ∷ []) []
map_cond f true x = refl
map_cond f false x = refl

-- as a loop comes to it
pub picked_more : {P F S : Type 0} (row : List Bool) (rules : List (ChainRule P F S)) (place : ℕ) (rule : ChainRule P F S) (is_asked : Bool) (before after : List P) → place < length rules
    → rule ≡ get_or rules place rule → is_asked ≡ value_at place row → before ≡ map placed_of (rules_at row (seen_rules (take place rules))) → after ≡ before ++ cond is_asked (placed_of (seen_rule rule) ∷ []) []
    → after ≡ map placed_of (rules_at row (seen_rules (take (place + 1) rules)))
picked_more {P} {F} {S} row rules place rule is_asked before after within is asked so_far adds =
    let front = seen_rules (take place rules) in
    let one = seen_rule rule in
    let count : length front ≡ place = length-map (take place rules) seen_rule ∙ length-take-le place rules (omega (arith, within)) in
    let own : Bool → List P = λ b. cond b (placed_of one ∷ []) [] in
    adds ∙ ap (λ (them : List P). them ++ own is_asked) so_far
    ∙ ap (λ (b : Bool). map placed_of (rules_at row front) ++ own b) (asked ∙ sym (ap (λ (n : ℕ). value_at n row) count))
    ∙ sym (ap (λ (them : List (RuleOn P F S)). map placed_of (rules_at row them)) (ap seen_rules (taken_more rules place rule within is) ∙ map_push seen_rule (take place rules) rule)
    ∙ ap (map placed_of) (picked_push row front one)
    ∙ map-append placed_of (rules_at row front) (cond (value_at (length front) row) (one ∷ []) [])
    ∙ ap (λ (last : List P). map placed_of (rules_at row front) ++ last) (map_cond placed_of (value_at (length front) row) one))

-- ---- a row in two parts

-- rules have as many values
pub told_length : {R : Type 0} (Holding : R → Type 0) (rules : List R) (row : List Bool) → IsRowBy Holding rules row → length row ≡ length rules
told_length Holding [] [] all = refl
told_length Holding [] (value ∷ row) all = absurd all
told_length Holding (rule ∷ rules) [] all = absurd all
told_length Holding (rule ∷ rules) (value ∷ row) all = ap suc (told_length Holding rules row all.1)

-- what stands behind the values of rules isn't picked by
picked_front : {R : Type 0} (rules : List R) (front back : List Bool) → length front ≡ length rules → rules_at (front ++ back) rules ≡ rules_at front rules
picked_front [] front back same = refl
picked_front (rule ∷ rules) [] back same = absurd (omega (arith, same))
picked_front (rule ∷ rules) (true ∷ front) back same = ap (λ (them : List _). rule ∷ them) (picked_front rules front back (omega (arith, same)))
picked_front (rule ∷ rules) (false ∷ front) back same = picked_front rules front back (omega (arith, same))

drop_front : (front back : List Bool) (count : ℕ) → length front ≡ count → drop count (front ++ back) ≡ back
drop_front front back count same = ap (λ (n : ℕ). drop n (front ++ back)) (sym same) ∙ front_rest (front ++ back) front back refl

-- the settings by the rules that are picked, of each test of which the row is told
pub settings_picked : {F S T : Type 0} (OnTest : F → F → Test → Bool → Type 0) (Tracks : T → Source → Type 0) (profile : Evaluatable F S) (mode : NextestRunMode) (row behind : List Bool)
    (found : List PlacedOverride) (scripts : List PlacedScriptRule) (it : TestSettings T) → behind ≡ drop (length profile.rules) row → found ≡ map placed_of (rules_at row profile.rules)
    → scripts ≡ map placed_of (rules_at behind profile.script_rules) → AreSettings Tracks mode (layers_of profile found scripts) it
    → (test : Test) → IsHeldRow OnTest profile test row → AreSettingsFor OnTest Tracks profile mode test it
settings_picked OnTest Tracks profile mode row behind found scripts it cut picks also settings test told =
    let count = told_length (Holds OnTest profile.default_filter.filter.now test) profile.rules told.front told.overrides in
    let back : behind ≡ told.back = cut ∙ ap (drop (length profile.rules)) told.divided ∙ drop_front told.front told.back (length profile.rules) count in
    settings_found OnTest Tracks profile mode test it found scripts
    (record {
      held = rules_at told.front profile.rules;
      are = picked_hold (Holds OnTest profile.default_filter.filter.now test) profile.rules told.front told.overrides;
      same = picks ∙ ap (λ (them : List Bool). map placed_of (rules_at them profile.rules)) told.divided ∙ ap (map placed_of) (picked_front profile.rules told.front told.back count);
    })
    (record {
      held = rules_at told.back profile.script_rules;
      are = picked_hold (Holds OnTest profile.default_filter.filter.now test) profile.script_rules told.back told.scripts;
      same = also ∙ ap (λ (them : List Bool). map placed_of (rules_at them profile.script_rules)) back;
    }) settings

-- what the columns of a profile say of a test
pub held_at : {F S : Type 0} (OnTest : F → F → Test → Bool → Type 0) (profile : Evaluatable F S) (binary : Binary) (names : List (List ℕ)) (held : Columns) → AreHeldColumns OnTest profile binary names held
    → (place : ℕ) (name : List ℕ) → slice_get names place ≡ Some name → IsHeldRow OnTest profile (record { binary = binary; name = name }) (held_row place held)
held_at OnTest profile binary names held are place name at = record {
  front = row_at place held.overrides;
  back = row_at place held.scripts;
  divided = refl;
  overrides = row_of OnTest profile.default_filter.filter.now binary names place name at profile.rules held.overrides are.overrides;
  scripts = row_of OnTest profile.default_filter.filter.now binary names place name at profile.script_rules held.scripts are.scripts;
}
