-- The setup scripts that are enabled: by the rules that hold on some tests, and by the columns of
-- rules.
use Rattle.std.proofs.Common.{◌≡◌, ◌↔◌, ℕ, zero, suc, ◌+◌, ◌<◌, ◌≤◌, Bool, true, false, ◌||◌, List, [], ◌∷◌, ◌++◌, Bor, Some, cond, get_or, length, map, take, refl, sym, ap, ◌∙◌, subst, ◌⊎◌, inl, inr, arith, IsTrue}
use Rattle.std.specs.BTreeSet.{BTreeSet, Updates}
use Rattle.std.specs.List.{Contains, filter_map, list_any, slice_get}
use Rattle.std.specs.List.Sorted.{IsStrictlySortedBy}
use Rattle.std.specs.Ordering.{is_eq, nat_cmp}
use Rattle.std.specs.declared.cmp.Ordering.TheVariants.{Equal}
use Rattle.std.specs.Cmp.Lexicographic.{nat_list_eq_equiv, on_texts, slice_cmp}
use Rattle.std.specs.Str.{bytes_eq}
use Rattle.std.proofs.lemmas.Bool.{false≢true}
use Rattle.std.proofs.lemmas.List.{map_push, take_all}
use Rattle.std.proofs.lemmas.List.Folds.{list_any-append}
use Rattle.std.proofs.lemmas.List.Elements.{Contains-append_cases, Contains-append_left, Contains-append_right, Contains-push_cases, filter_map-append}
use Rattle.std.proofs.lemmas.Map.Lookups.{btree_set_from_contains}
use Rattle.std.proofs.lemmas.Map.Text.{is_eq-slice_cmp}
use Rattle.std.proofs.lemmas.Slice.Eq.{bytes_eq-Decides}
use Rattle.nextest_config_resolution_load.proofs.Passing.{taken_more}
use Rattle.nextest_config_resolution_profiles.specs.Enabled.{AreNamesOf, HasEnabled, HoldsOnSome, IsEnabled, any_in, defined_as, has_name, is_named, setup_of, test_in}
use Rattle.nextest_config_resolution_profiles.specs.Evaluatable.{Evaluatable}
use Rattle.nextest_config_resolution_profiles.specs.Held.{Holds, placed_of}
use Rattle.nextest_config_resolution_profiles.specs.HeldRules.{AreColumns, IsRowBy, IsColumn, rules_at, value_at}
use Rattle.nextest_config_resolution_profiles.specs.Platforms.{RuleOn, ScriptRuleOn}
use Rattle.nextest_config_resolution_profiles.specs.RuleLaws.{MoreEnableNoFewer}
use Rattle.nextest_config_resolution_scripts.specs.declared.script_config.NamedScript.{NamedScript}
use Rattle.nextest_config_resolution_scripts.specs.declared.script_rule.PlacedScriptRule.{PlacedScriptRule}
use Rattle.nextest_config_resolution_scripts.specs.declared.setup_script.SetupScriptConfig.{SetupScriptConfig}
use Rattle.nextest_config_resolution_settings.specs.Nearest.{lent_layers}
use Rattle.nextest_filtering_filters.specs.Meaning.{Tells}
use Rattle.nextest_filtering_filters.specs.Query.{Binary, Test}

-- ---- truth values

either : (a b : Bool) → (a || b) ≡ true → (a ≡ true) ⊎ (b ≡ true)
either true b h = inl refl
either false b h = inr h

either_left : (a b : Bool) → a ≡ true → (a || b) ≡ true
either_left true b h = refl
either_left false b h = absurd (false≢true h)

either_right : (a b : Bool) → b ≡ true → (a || b) ≡ true
either_right true b h = refl
either_right false b h = h

-- a text among others
pub among : (id : List ℕ) (ids : List (List ℕ)) → list_any (bytes_eq id) ids ≡ true → Contains ids id
among id [] h = absurd (false≢true h)
among id (other ∷ ids) h = by_side (among id ids) (either (bytes_eq id other) (list_any (bytes_eq id) ids) h)
  where
    by_side : (list_any (bytes_eq id) ids ≡ true → Contains ids id) → (bytes_eq id other ≡ true) ⊎ (list_any (bytes_eq id) ids ≡ true) → Contains (other ∷ ids) id
    by_side rest (inl here) = subst (λ (it : List ℕ). Contains (it ∷ ids) id) ((bytes_eq-Decides id other).0 here) (0, omega arith, refl)
    by_side rest (inr behind) = Contains-append_right (other ∷ []) ids id (rest behind)

pub among_back : (id : List ℕ) (ids : List (List ℕ)) → Contains ids id → list_any (bytes_eq id) ids ≡ true
among_back id [] (k, within, is) = absurd (omega (arith, within))
among_back id (other ∷ ids) has = by_side (among_back id ids) (Contains-append_cases (other ∷ []) ids id has)
  where
    by_side : (Contains ids id → list_any (bytes_eq id) ids ≡ true) → Contains (other ∷ []) id ⊎ Contains ids id → (bytes_eq id other || list_any (bytes_eq id) ids) ≡ true
    by_side rest (inl (zero, within, is)) = either_left (bytes_eq id other) (list_any (bytes_eq id) ids) ((bytes_eq-Decides id other).1 (sym is))
    by_side rest (inl (suc k, within, is)) = absurd (omega (arith, within))
    by_side rest (inr behind) = either_right (bytes_eq id other) (list_any (bytes_eq id) ids) (rest behind)

-- ---- what a loop over names adds to a set

or_false : (b : Bool) → (b || false) ≡ b
or_false true = refl
or_false false = refl

or_assoc : (a b c : Bool) → ((a || b) || c) ≡ (a || (b || c))
or_assoc true b c = refl
or_assoc false b c = refl

pub any_more : {X : Type 0} (test : X → Bool) (old so_far new : Bool) (all : List X) (place : ℕ) (x : X) → place < length all → x ≡ get_or all place x → so_far ≡ (old || list_any test (take place all))
    → new ≡ (so_far || test x) → new ≡ (old || list_any test (take (place + 1) all))
any_more test old so_far new all place x within is before adds =
    let front = take place all in
    adds
    ∙ ap (λ (b : Bool). b || test x) before
    ∙ or_assoc old (list_any test front) (test x)
    ∙ ap (λ (b : Bool). old || (list_any test front || b)) (sym (or_false (test x)))
    ∙ ap (λ (b : Bool). old || b) (sym (list_any-append test front (x ∷ [])) ∙ sym (ap (list_any test) (taken_more all place x within is)))

pub any_all : {X : Type 0} (test : X → Bool) (old new : Bool) (all : List X) (place : ℕ) → length all ≤ place → new ≡ (old || list_any test (take place all)) → new ≡ (old || list_any test all)
any_all test old new all place over is = is ∙ ap (λ (them : List _). old || list_any test them) (take_all place all over)

taken : (c m : Bool) → cond c true m ≡ (m || c)
taken true true = refl
taken true false = refl
taken false true = refl
taken false false = refl

-- one name more
pub inserted : (old new : BTreeSet (List ℕ)) (key : List ℕ) → Updates (slice_cmp nat_cmp) old new key true → (id : List ℕ) → has_name new id ≡ (has_name old id || bytes_eq id key)
inserted old new key update id =
    let one : has_name new id ≡ cond (is_eq (slice_cmp nat_cmp key id)) true (has_name old id) = update.0 id in
    one ∙ ap (λ (b : Bool). cond b true (has_name old id)) (is_eq-slice_cmp key id ∙ nat_list_eq_equiv.symm key id) ∙ taken (bytes_eq id key) (has_name old id)

-- the names of rules
pub named_in : (rules : List (Bor PlacedScriptRule)) (id : List ℕ) → list_any (λ rule. list_any (bytes_eq id) rule.now.config.setup) rules ≡ is_named (lent_layers rules) id
named_in [] id = refl
named_in (rule ∷ rules) id = ap (λ (b : Bool). list_any (bytes_eq id) rule.now.config.setup || b) (named_in rules id)

-- ---- what rules name

-- a rule of which this is so names it
pub record Names {F S : Type 0} (Holding : ScriptRuleOn F S → Type 0) (rules : List (ScriptRuleOn F S)) (id : List ℕ) : Type 0 where
  pub rule : ScriptRuleOn F S
  pub of : Contains rules rule
  pub holds : Holding rule
  pub names : Contains (setup_of rule) id

module _ {F S : Type 0} (Holding : ScriptRuleOn F S → Type 0) where
  names_behind : (first : ScriptRuleOn F S) (rules : List (ScriptRuleOn F S)) (id : List ℕ) → Names Holding rules id → Names Holding (first ∷ rules) id
  names_behind first rules id it = record { rule = it.rule; of = Contains-append_right (first ∷ []) rules it.rule it.of; holds = it.holds; names = it.names }

  pub named_by : (rules : List (ScriptRuleOn F S)) (row : List Bool) → IsRowBy Holding rules row → (id : List ℕ) → is_named (map placed_of (rules_at row rules)) id ≡ true → Names Holding rules id
  named_by [] row told id h = absurd (false≢true h)
  named_by (rule ∷ rules) [] told id h = absurd told
  named_by (rule ∷ rules) (true ∷ row) told id h = by_side (named_by rules row told.1 id) (either (list_any (bytes_eq id) (setup_of rule)) (is_named (map placed_of (rules_at row rules)) id) h)
    where
      by_side : (is_named (map placed_of (rules_at row rules)) id ≡ true → Names Holding rules id) → (list_any (bytes_eq id) (setup_of rule) ≡ true) ⊎ (is_named (map placed_of (rules_at row rules)) id ≡ true) → Names Holding (rule ∷ rules) id
      by_side rest (inl here) = record { rule = rule; of = (0, omega arith, refl); holds = told.0.0 refl; names = among id (setup_of rule) here }
      by_side rest (inr behind) = names_behind rule rules id (rest behind)
  named_by (rule ∷ rules) (false ∷ row) told id h = names_behind rule rules id (named_by rules row told.1 id h)

  pub named_back : (rules : List (ScriptRuleOn F S)) (row : List Bool) → IsRowBy Holding rules row → (id : List ℕ) → Names Holding rules id → is_named (map placed_of (rules_at row rules)) id ≡ true
  named_back [] row told id it = absurd (none it.of)
    where
      none : {x : ScriptRuleOn F S} → Contains [] x → ⊥
      none (k, within, is) = omega (arith, within)
  named_back (rule ∷ rules) [] told id it = absurd told
  named_back (rule ∷ rules) (value ∷ row) told id it =
      by_value (λ of. named_back rules row told.1 id (record { rule = it.rule; of = of; holds = it.holds; names = it.names })) value told.0
      (Contains-append_cases (rule ∷ []) rules it.rule it.of)
    where
      here : Contains (rule ∷ []) it.rule → rule ≡ it.rule
      here (zero, within, is) = is
      here (suc k, within, is) = absurd (omega (arith, within))

      by_value : (Contains rules it.rule → is_named (map placed_of (rules_at row rules)) id ≡ true) → (value : Bool) → Tells (Holding rule) value
          → Contains (rule ∷ []) it.rule ⊎ Contains rules it.rule → is_named (map placed_of (rules_at (value ∷ row) (rule ∷ rules))) id ≡ true
      by_value rest true tells (inl of) = either_left (list_any (bytes_eq id) (setup_of rule)) (is_named (map placed_of (rules_at row rules)) id)
          (among_back id (setup_of rule) (subst (λ (r : ScriptRuleOn F S). Contains (setup_of r) id) (sym (here of)) it.names))
      by_value rest true tells (inr of) = either_right (list_any (bytes_eq id) (setup_of rule)) (is_named (map placed_of (rules_at row rules)) id) (rest of)
      by_value rest false tells (inl of) = absurd (false≢true (tells.1 (subst Holding (sym (here of)) it.holds)))
      by_value rest false tells (inr of) = rest of

-- ---- some of the tests of a binary

-- no value is true where there is none
any_in_none : (count : ℕ) → any_in count [] ≡ false
any_in_none zero = refl
any_in_none (suc count) = refl

none_in : (column : List Bool) → any_in 0 column ≡ false
none_in [] = refl
none_in (value ∷ column) = refl

-- a rule holds on some of them, by its column
abbrev SomeNamed : (List ℕ → Type 0) → List (List ℕ) → Type 0
SomeNamed So names = (name : List ℕ) × Contains names name × So name

some_told : (So : List ℕ → Type 0) (names : List (List ℕ)) (column : List Bool)
    → ((place : ℕ) (name : List ℕ) → slice_get names place ≡ Some name → Tells (So name) (value_at place column)) → Tells (SomeNamed So names) (any_in (length names) column)
some_told So [] column tells = ((λ h. absurd (false≢true (sym (none_in column) ∙ h))), (λ it. absurd (nobody it.1)))
  where
    nobody : {x : List ℕ} → Contains [] x → ⊥
    nobody (k, within, is) = omega (arith, within)
some_told So (first ∷ names) [] tells =
    let rest = some_told So names [] (λ place name at. tells (suc place) name at) in (
      (λ h. absurd (false≢true h)),
      (λ it. absurd (by_side rest.1 it.0 it.2 (Contains-append_cases (first ∷ []) names it.0 it.1))),
    )
  where
    by_side : (SomeNamed So names → any_in (length names) [] ≡ true) → (name : List ℕ) → So name → Contains (first ∷ []) name ⊎ Contains names name → ⊥
    by_side rest name so (inl (zero, within, is)) = false≢true ((tells 0 first refl).1 (subst So (sym is) so))
    by_side rest name so (inl (suc k, within, is)) = omega (arith, within)
    by_side rest name so (inr behind) = false≢true (sym (any_in_none (length names)) ∙ rest (name, behind, so))
some_told So (first ∷ names) (value ∷ column) tells =
    let rest = some_told So names column (λ place name at. tells (suc place) name at) in (
      (λ h. forth rest.0 (either value (any_in (length names) column) h)),
      (λ it. back rest.1 it.0 it.2 (Contains-append_cases (first ∷ []) names it.0 it.1)),
    )
  where
    forth : (any_in (length names) column ≡ true → SomeNamed So names) → (value ≡ true) ⊎ (any_in (length names) column ≡ true) → SomeNamed So (first ∷ names)
    forth rest (inl here) = (first, (0, omega arith, refl), (tells 0 first refl).0 here)
    forth rest (inr behind) = let it = rest behind in (it.0, Contains-append_right (first ∷ []) names it.0 it.1, it.2)

    back : (SomeNamed So names → any_in (length names) column ≡ true) → (name : List ℕ) → So name → Contains (first ∷ []) name ⊎ Contains names name → (value || any_in (length names) column) ≡ true
    back rest name so (inl (zero, within, is)) = either_left value (any_in (length names) column) ((tells 0 first refl).1 (subst So (sym is) so))
    back rest name so (inl (suc k, within, is)) = absurd (omega (arith, within))
    back rest name so (inr behind) = either_right value (any_in (length names) column) (rest (name, behind, so))

-- tests of a binary by their names
contains_test : (binary : Binary) (names : List (List ℕ)) (name : List ℕ) → Contains names name → Contains (map (test_in binary) names) (test_in binary name)
contains_test binary [] name (k, within, is) = absurd (omega (arith, within))
contains_test binary (first ∷ names) name has = by_side (contains_test binary names name) (Contains-append_cases (first ∷ []) names name has)
  where
    by_side : (Contains names name → Contains (map (test_in binary) names) (test_in binary name)) → Contains (first ∷ []) name ⊎ Contains names name
        → Contains (map (test_in binary) (first ∷ names)) (test_in binary name)
    by_side rest (inl (zero, within, is)) = (0, omega arith, ap (test_in binary) is)
    by_side rest (inl (suc k, within, is)) = absurd (omega (arith, within))
    by_side rest (inr behind) = Contains-append_right (test_in binary first ∷ []) (map (test_in binary) names) (test_in binary name) (rest behind)

abbrev NamedAs : Binary → List (List ℕ) → Test → Type 0
NamedAs binary names test = (name : List ℕ) × Contains names name × (test_in binary name ≡ test)

name_of_test : (binary : Binary) (names : List (List ℕ)) (test : Test) → Contains (map (test_in binary) names) test → NamedAs binary names test
name_of_test binary [] test (k, within, is) = absurd (omega (arith, within))
name_of_test binary (first ∷ names) test has = by_side (name_of_test binary names test) (Contains-append_cases (test_in binary first ∷ []) (map (test_in binary) names) test has)
  where
    by_side : (Contains (map (test_in binary) names) test → NamedAs binary names test) → Contains (test_in binary first ∷ []) test ⊎ Contains (map (test_in binary) names) test
        → NamedAs binary (first ∷ names) test
    by_side rest (inl (zero, within, is)) = (first, (0, omega arith, refl), is)
    by_side rest (inl (suc k, within, is)) = absurd (omega (arith, within))
    by_side rest (inr behind) = let it = rest behind in (it.0, Contains-append_right (first ∷ []) names it.0 it.1, it.2)

module _ {P F S : Type 0} (OnTest : F → F → Test → Bool → Type 0) (default : F) (binary : Binary) (names : List (List ℕ)) where
  some_of_binary : (rule : RuleOn P F S) (column : List Bool) → IsColumn OnTest default binary names rule column
      → Tells (HoldsOnSome OnTest default (map (test_in binary) names) rule) (any_in (length names) column)
  some_of_binary rule column told =
      let So : List ℕ → Type 0 = λ name. Holds OnTest default (test_in binary name) rule in
      let some = some_told So names column told in (
        (λ h. let it = some.0 h in (test_in binary it.0, contains_test binary names it.0 it.1, it.2)),
        (λ it.
            let known = name_of_test binary names it.0 it.1 in
            some.1 (known.0, known.1, subst (λ (test : Test). Holds OnTest default test rule) (sym known.2) it.2)),
      )

  pub told_by_columns : (rules : List (RuleOn P F S)) (columns : List (List Bool)) (count : ℕ) → count ≡ length names → AreColumns OnTest default binary names rules columns
      → IsRowBy (HoldsOnSome OnTest default (map (test_in binary) names)) rules (map (any_in count) columns)
  told_by_columns [] [] count same are = tt
  told_by_columns [] (column ∷ columns) count same are = absurd are
  told_by_columns (rule ∷ rules) [] count same are = absurd are
  told_by_columns (rule ∷ rules) (column ∷ columns) count same are = (
    subst (λ (n : ℕ). Tells (HoldsOnSome OnTest default (map (test_in binary) names) rule) (any_in n column)) (sym same) (some_of_binary rule column are.0),
    told_by_columns rules columns count same are.1,
  )

-- ---- scripts of some tests, and of more

module _ {F S : Type 0} (OnTest : F → F → Test → Bool → Type 0) (profile : Evaluatable F S) where
  pub enabled_more : (some more : List Test) (id : List ℕ) → ((test : Test) → Contains some test → Contains more test) → IsEnabled OnTest profile some id → IsEnabled OnTest profile more id
  enabled_more some more id within it =
      record { rule = it.rule; of_profile = it.of_profile; names = it.names; holds = (it.holds.0, within it.holds.0 it.holds.1, it.holds.2) }

  -- by what holds on some tests and what holds on others
  pub enabled_both : (tests more : List Test) (old new : BTreeSet (List ℕ)) (row : List Bool) → HasEnabled OnTest profile tests old
      → IsRowBy (HoldsOnSome OnTest profile.default_filter.filter.now more) profile.script_rules row
      → ((id : List ℕ) → has_name new id ≡ (has_name old id || is_named (map placed_of (rules_at row profile.script_rules)) id)) → HasEnabled OnTest profile (tests ++ more) new
  enabled_both tests more old new row before told adds = λ id. (
    (λ h. forth id (either (has_name old id) (is_named (map placed_of (rules_at row profile.script_rules)) id) (sym (adds id) ∙ h))),
    (λ it. adds id ∙ back id it (Contains-append_cases tests more it.holds.0 it.holds.1)),
  )
    where
      forth : (id : List ℕ) → (has_name old id ≡ true) ⊎ (is_named (map placed_of (rules_at row profile.script_rules)) id ≡ true) → IsEnabled OnTest profile (tests ++ more) id
      forth id (inl early) = enabled_more tests (tests ++ more) id (λ test has. Contains-append_left tests more test has) ((before id).0 early)
      forth id (inr named) =
          let it = named_by (HoldsOnSome OnTest profile.default_filter.filter.now more) profile.script_rules row told id named in
          record { rule = it.rule; of_profile = it.of; names = it.names; holds = (it.holds.0, Contains-append_right tests more it.holds.0 it.holds.1, it.holds.2) }

      back : (id : List ℕ) (it : IsEnabled OnTest profile (tests ++ more) id) → Contains tests it.holds.0 ⊎ Contains more it.holds.0
          → (has_name old id || is_named (map placed_of (rules_at row profile.script_rules)) id) ≡ true
      back id it (inl has) = either_left (has_name old id) (is_named (map placed_of (rules_at row profile.script_rules)) id)
          ((before id).1 (record { rule = it.rule; of_profile = it.of_profile; names = it.names; holds = (it.holds.0, has, it.holds.2) }))
      back id it (inr has) = either_right (has_name old id) (is_named (map placed_of (rules_at row profile.script_rules)) id)
          (named_back (HoldsOnSome OnTest profile.default_filter.filter.now more) profile.script_rules row told id
          (record { rule = it.rule; of = it.of_profile; holds = (it.holds.0, has, it.holds.2); names = it.names }))

  -- no tests enable any
  pub none_enabled : (names : BTreeSet (List ℕ)) → ((id : List ℕ) → has_name names id ≡ false) → HasEnabled OnTest profile [] names
  none_enabled names none = λ id. ((λ h. absurd (false≢true (sym (none id) ∙ h))), (λ it. absurd (nobody it.holds.1)))
    where
      nobody : {x : Test} → Contains [] x → ⊥
      nobody (k, within, is) = omega (arith, within)

pub more_enable_no_fewer : {F : Type 0} (OnTest : F → F → Test → Bool → Type 0) (S : Type 0) → MoreEnableNoFewer OnTest S
more_enable_no_fewer OnTest S profile some more id within it = enabled_more OnTest profile some more id within it

-- ---- the names of a set

-- what a set has is what its keys have
pub has_key : (keys : List (List ℕ)) (id : List ℕ) → list_any (λ k. is_eq (slice_cmp nat_cmp id k)) keys ≡ list_any (bytes_eq id) keys
has_key [] id = refl
has_key (key ∷ keys) id = ap (λ (b : Bool). b || list_any (λ k. is_eq (slice_cmp nat_cmp id k)) keys) (is_eq-slice_cmp id key) ∙ ap (λ (b : Bool). bytes_eq id key || b) (has_key keys id)

pub names_of_set : (names : BTreeSet (List ℕ)) → IsStrictlySortedBy (slice_cmp nat_cmp) names.keys → AreNamesOf (λ id. IsTrue (has_name names id)) names.keys
names_of_set names ordered = record {
  rise = ordered;
  exactly = λ id. ((λ has. has_key names.keys id ∙ among_back id names.keys has), (λ h. among id names.keys (sym (has_key names.keys id) ∙ h)));
}

pub same_names : {Is Also : List ℕ → Type 0} (names : List (List ℕ)) → ((id : List ℕ) → Is id ↔ Also id) → AreNamesOf Is names → AreNamesOf Also names
same_names names same are = record {
  rise = are.rise;
  exactly = λ id. ((λ has. (same id).0 ((are.exactly id).0 has)), (λ it. (are.exactly id).1 ((same id).1 it)));
}

-- two lists of the names of which one thing is so are the same
contains_named : {Is : List ℕ → Type 0} (one other : List (List ℕ)) → AreNamesOf Is one → AreNamesOf Is other → (id : List ℕ) → list_any (bytes_eq id) one ≡ true → list_any (bytes_eq id) other ≡ true
contains_named one other a b id h = among_back id other ((b.exactly id).1 ((a.exactly id).0 (among id one h)))

both_ways : (a b : Bool) → (a ≡ true → b ≡ true) → (b ≡ true → a ≡ true) → a ≡ b
both_ways true b there back = sym (there refl)
both_ways false true there back = back refl
both_ways false false there back = refl

texts_tie : (a b : List ℕ) → slice_cmp nat_cmp a b ≡ Equal → a ≡ b
texts_tie a b tie = (bytes_eq-Decides a b).0 (sym (is_eq-slice_cmp a b) ∙ ap is_eq tie)

pub one_names : {Is : List ℕ → Type 0} (one other : List (List ℕ)) → AreNamesOf Is one → AreNamesOf Is other → one ≡ other
one_names one other a b =
    btree_set_from_contains (on_texts (λ (id : List ℕ). id)) (record { keys = one }) (record { keys = other }) a.rise b.rise
    (λ id. has_key one id ∙ both_ways (list_any (bytes_eq id) one) (list_any (bytes_eq id) other) (contains_named one other a b id) (contains_named other one b a id) ∙ sym (has_key other id)) texts_tie

-- ---- a loop over tests

-- a rule that holds on none so far, and not on the next
pub none_so_far : {P F S : Type 0} (OnTest : F → F → Test → Bool → Type 0) (default : F) (rule : RuleOn P F S) (front : List Test) (test : Test) → ¬ HoldsOnSome OnTest default front rule → ¬ Holds OnTest default test rule
    → ¬ HoldsOnSome OnTest default (front ++ test ∷ []) rule
none_so_far OnTest default rule front test none fails (it, has, holds) = by_side (Contains-push_cases front test it has)
  where
    by_side : Contains front it ⊎ (test ≡ it) → ⊥
    by_side (inl early) = none (it, early, holds)
    by_side (inr here) = fails (subst (λ (t : Test). Holds OnTest default t rule) (sym here) holds)

-- ---- columns, and the names of a set, as calls answer them

pub columns_any : {V : Type 0} (items : V → List Bool) (count : ℕ) (columns : List V) → map (λ column. any_in count (items column)) columns ≡ map (any_in count) (map items columns)
columns_any items count [] = refl
columns_any items count (column ∷ columns) = ap (λ (row : List Bool). any_in count (items column) ∷ row) (columns_any items count columns)

pub defined_more : (scripts : List (NamedScript SetupScriptConfig)) (names : List (Bor (List ℕ))) (name : Bor (List ℕ)) (before after : List (List ℕ × SetupScriptConfig))
    → before ≡ filter_map (defined_as scripts) (lent_layers names) → after ≡ before ++ filter_map (defined_as scripts) (name.now ∷ []) → after ≡ filter_map (defined_as scripts) (lent_layers (names ++ name ∷ []))
defined_more scripts names name before after so_far adds =
    adds
    ∙ ap (λ (front : List (List ℕ × SetupScriptConfig)). front ++ filter_map (defined_as scripts) (name.now ∷ [])) so_far
    ∙ sym (filter_map-append (defined_as scripts) (lent_layers names) (name.now ∷ []))
    ∙ sym (ap (filter_map (defined_as scripts)) (map_push (λ (it : Bor (List ℕ)). it.now) names name))
