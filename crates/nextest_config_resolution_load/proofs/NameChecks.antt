-- Sets of names, and the checks that ask them.
use Rattle.std.proofs.Common.{◌≡◌, ℕ, List, [], ◌∷◌, ◌++◌, map, Bool, true, false, cond, ◌||◌, None, Some, Option, refl, ap, sym, ◌∙◌, subst}
use Rattle.std.specs.BTreeSet.{BTreeSet, Updates}
use Rattle.std.specs.Cmp.Lexicographic.{slice_cmp, nat_list_eq_equiv}
use Rattle.std.specs.Prelude.{Result, not, ⊤}
use Rattle.std.specs.List.{AllByRecursion, flat_map, list_any}
use Rattle.std.specs.Ordering.{nat_cmp, is_eq}
use Rattle.std.specs.Str.{bytes_eq}
use Rattle.std.proofs.lemmas.Grind.{flat_map-append}
use Rattle.std.proofs.lemmas.List.Folds.{list_any-append}
use Rattle.std.proofs.lemmas.Map.Text.{is_eq-slice_cmp}
use denote.Ref.{Bor}
use Rattle.nextest_config_elements_identifiers.specs.declared.test_group.TestGroup.{TestGroup}
use Rattle.nextest_config_elements_identifiers.specs.declared.test_group.TestGroup.TheVariants as group
use Rattle.nextest_config_resolution_load.specs.Checks.{Check, must_hold, not_among, repeated_script, unknown_group, unknown_script, unknown_wrapper}
use Rattle.nextest_config_resolution_load.specs.Load.{IsFilterBy, IsKept, IsSpecBy}
use Rattle.nextest_config_resolution_load.specs.Reading.{all_placed, has_name, placed_of}
use Rattle.nextest_config_resolution_load.specs.Reading.{not_among as among_set}
use Rattle.nextest_config_resolution_load.specs.Refusing.{IsRefused, Passes, RefusesFor}
use Rattle.nextest_config_resolution_load.specs.Rules.{group_checks, group_checks_of, has_script, script_checks, setup_check, wrapper_check}
use Rattle.nextest_config_resolution_load.specs.declared.load_error.LoadError.{LoadError}
use Rattle.nextest_config_resolution_load.specs.declared.loaded_rule.LoadedRule.{LoadedRule}
use Rattle.nextest_config_resolution_load.proofs.Passing.{kept_where, refuses_where}
use Rattle.nextest_config_resolution_overrides.specs.declared.override_id.OverrideId.{OverrideId}
use Rattle.nextest_config_resolution_overrides.specs.declared.placed_override.PlacedOverride.{PlacedOverride}
use Rattle.nextest_config_resolution_scripts.specs.declared.script_config.NamedScript.{NamedScript}
use Rattle.nextest_config_resolution_scripts.specs.declared.script_config.ScriptType.{ScriptType}
use Rattle.nextest_config_resolution_scripts.specs.declared.script_config.ScriptType.TheVariants as script
use Rattle.nextest_config_resolution_scripts.specs.declared.script_rule.PlacedScriptRule.{PlacedScriptRule}
use Rattle.nextest_config_resolution_scripts.specs.declared.script_rule.ScriptRuleId.{ScriptRuleId}
use Rattle.nextest_config_resolution_scripts.specs.declared.setup_script.SetupScriptConfig.{SetupScriptConfig}
use Rattle.nextest_config_resolution_scripts.specs.declared.wrapper_script.WrapperScriptConfig.{WrapperScriptConfig}

taken : (c m : Bool) → cond c true m ≡ (m || (c || false))
taken true true = refl
taken true false = refl
taken false true = refl
taken false false = refl

-- the set with one more name
pub names_more : {A : Type 0} (name_of : A → List ℕ) (set new : BTreeSet (Bor (List ℕ))) (key : Bor (List ℕ)) (all : List A) (more : A)
    → Updates (λ x y. slice_cmp nat_cmp x.now y.now) set new key true → key.now ≡ name_of more
    → ((name : List ℕ) → has_name set name ≡ list_any (λ it. bytes_eq name (name_of it)) all)
    → (name : List ℕ) → has_name new name ≡ list_any (λ it. bytes_eq name (name_of it)) (all ++ more ∷ [])
names_more name_of set new key all more update is before name =
    let one : has_name new name ≡ cond (is_eq (slice_cmp nat_cmp key.now name)) true (has_name set name) = update.0 (record { ref_ptr = (0, 0); now = name }) in
    one
    ∙ ap (λ (b : Bool). cond b true (has_name set name)) (is_eq-slice_cmp key.now name ∙ nat_list_eq_equiv.symm key.now name ∙ ap (bytes_eq name) is)
    ∙ ap (λ (b : Bool). cond (bytes_eq name (name_of more)) true b) (before name)
    ∙ taken (bytes_eq name (name_of more)) (list_any (λ it. bytes_eq name (name_of it)) all)
    ∙ sym (list_any-append (λ (it : _). bytes_eq name (name_of it)) all (more ∷ []))

-- what is checked by two tests that say the same
one_check : (known defined : List ℕ → Bool) → ((name : List ℕ) → known name ≡ defined name) → (id : OverrideId) (given : Option TestGroup) → group_checks_of known id given ≡ group_checks_of defined id given
one_check known defined same id None = refl
one_check known defined same id (Some group.Global) = refl
one_check known defined same id (Some (group.Custom name)) = ap (λ (holds : Bool). must_hold holds (unknown_group id name)) (same name)

pub same_each : {A : Type 0} (one other : A → List Check) → ((it : A) → one it ≡ other it) → (all : List A) → flat_map one all ≡ flat_map other all
same_each one other same [] = refl
same_each one other same (it ∷ all) =
    ap (λ (first : List Check). first ++ flat_map one all) (same it) ∙ ap (λ (more : List Check). other it ++ more) (same_each one other same all)

pub same_checks : (known defined : List ℕ → Bool) → ((name : List ℕ) → known name ≡ defined name) → (rules : List PlacedOverride)
    → flat_map (group_checks known) rules ≡ flat_map (group_checks defined) rules
same_checks known defined same rules = same_each (group_checks known) (group_checks defined) (λ rule. one_check known defined same rule.id rule.config.rule.test_group) rules

one_wrapper : (known defined : List ℕ → Bool) → ((name : List ℕ) → known name ≡ defined name) → (rule : ScriptRuleId) (given : Option (List ℕ)) → wrapper_check known rule given ≡ wrapper_check defined rule given
one_wrapper known defined same rule None = refl
one_wrapper known defined same rule (Some id) = ap (λ (holds : Bool). must_hold holds (unknown_wrapper rule id)) (same id)

one_rule : (kind : ScriptType) (known defined : List ℕ → Bool) → ((name : List ℕ) → known name ≡ defined name) → (rule : PlacedScriptRule) → script_checks kind known rule ≡ script_checks kind defined rule
one_rule script.Setup known defined same rule =
    same_each (setup_check known rule.id) (setup_check defined rule.id) (λ id. ap (λ (holds : Bool). must_hold holds (unknown_script rule.id id)) (same id)) rule.config.setup
one_rule script.Wrapper known defined same rule =
    ap (λ (first : List Check). first ++ wrapper_check known rule.id rule.config.run_wrapper) (one_wrapper known defined same rule.id rule.config.list_wrapper)
    ∙ ap (λ (more : List Check). wrapper_check defined rule.id rule.config.list_wrapper ++ more) (one_wrapper known defined same rule.id rule.config.run_wrapper)

pub same_scripts : (kind : ScriptType) (known defined : List ℕ → Bool) → ((name : List ℕ) → known name ≡ defined name) → (rules : List PlacedScriptRule)
    → flat_map (script_checks kind known) rules ≡ flat_map (script_checks kind defined) rules
same_scripts kind known defined same rules = same_each (script_checks kind known) (script_checks kind defined) (one_rule kind known defined same) rules

-- the checks of the parts of some items, and of items as they are seen
pub nested : {A B : Type 0} (checks : B → List Check) (parts : A → List B) (all : List A) → flat_map (λ it. flat_map checks (parts it)) all ≡ flat_map checks (flat_map parts all)
nested checks parts [] = refl
nested checks parts (it ∷ all) =
    ap (λ (more : List Check). flat_map checks (parts it) ++ more) (nested checks parts all) ∙ sym (flat_map-append checks (parts it) (flat_map parts all))

-- what the rules say of lists that are seen
pub seen_placed : {A R F S : Type 0} (view : A → List (LoadedRule R F S)) (all : List A) → flat_map (λ it. placed_of (view it)) all ≡ all_placed (map view all)
seen_placed view [] = refl
seen_placed view (it ∷ all) = ap (λ (more : List _). placed_of (view it) ++ more) (seen_placed view all)

pub mapped : {A B : Type 0} (checks : B → List Check) (view : A → B) (all : List A) → flat_map (λ it. checks (view it)) all ≡ flat_map checks (map view all)
mapped checks view [] = refl
mapped checks view (it ∷ all) = ap (λ (more : List Check). checks (view it) ++ more) (mapped checks view all)

-- what is checked of an override that names a group
module _ {F S : Type 0} (Is : IsFilterBy F) (IsSpec : IsSpecBy S) (IsTooDeep : List ℕ → Type 0) where
  pub kept_group : (is_known : List ℕ → Bool) (id : OverrideId) (given : Option TestGroup) (name : List ℕ) → given ≡ Some (group.Custom name) → is_known name ≡ true
      → AllByRecursion (IsKept Is IsSpec) (group_checks_of is_known id given)
  kept_group is_known id given name is known =
      subst (λ (found : Option TestGroup). AllByRecursion (IsKept Is IsSpec) (group_checks_of is_known id found)) (sym is)
      (kept_where Is IsSpec IsTooDeep (is_known name) (unknown_group id name) known)

  pub refused_group : (is_known : List ℕ → Bool) (id : OverrideId) (given : Option TestGroup) (name : List ℕ) (told : LoadError) → given ≡ Some (group.Custom name)
      → is_known name ≡ false → IsRefused (unknown_group id name) told → RefusesFor Is IsSpec IsTooDeep (group_checks_of is_known id given) told
  refused_group is_known id given name told is unknown refused =
      subst (λ (found : Option TestGroup). RefusesFor Is IsSpec IsTooDeep (group_checks_of is_known id found) told) (sym is)
      (refuses_where Is IsSpec IsTooDeep (is_known name) (unknown_group id name) told unknown refused)

  -- and of a script rule that names a wrapper script
  pub kept_wrapper : (is_known : List ℕ → Bool) (rule : ScriptRuleId) (given : Option (List ℕ)) (id : List ℕ) → given ≡ Some id → is_known id ≡ true
      → AllByRecursion (IsKept Is IsSpec) (wrapper_check is_known rule given)
  kept_wrapper is_known rule given id is known =
      subst (λ (found : Option (List ℕ)). AllByRecursion (IsKept Is IsSpec) (wrapper_check is_known rule found)) (sym is)
      (kept_where Is IsSpec IsTooDeep (is_known id) (unknown_wrapper rule id) known)

  pub refused_wrapper : (is_known : List ℕ → Bool) (rule : ScriptRuleId) (given : Option (List ℕ)) (id : List ℕ) (told : LoadError) → given ≡ Some id
      → is_known id ≡ false → IsRefused (unknown_wrapper rule id) told → RefusesFor Is IsSpec IsTooDeep (wrapper_check is_known rule given) told
  refused_wrapper is_known rule given id told is unknown refused =
      subst (λ (found : Option (List ℕ)). RefusesFor Is IsSpec IsTooDeep (wrapper_check is_known rule found) told) (sym is)
      (refuses_where Is IsSpec IsTooDeep (is_known id) (unknown_wrapper rule id) told unknown refused)

  -- setup scripts with other names than those of a set, and than wrapper scripts
  module _ (path : List ℕ) (set : BTreeSet (Bor (List ℕ))) (wrappers : List (NamedScript WrapperScriptConfig)) (names : (name : List ℕ) → has_name set name ≡ has_script wrappers name) where
    same_others : (scripts : List (NamedScript SetupScriptConfig)) → flat_map (λ it. among_set path set it.id) scripts ≡ flat_map (λ it. not_among path wrappers it.id) scripts
    same_others scripts =
        same_each (λ it. among_set path set it.id) (λ it. not_among path wrappers it.id) (λ it. ap (λ (holds : Bool). must_hold (not holds) (repeated_script path it.id)) (names it.id)) scripts

    pub kept_others : (scripts : List (NamedScript SetupScriptConfig)) → AllByRecursion (IsKept Is IsSpec) (flat_map (λ it. among_set path set it.id) scripts)
        → AllByRecursion (IsKept Is IsSpec) (flat_map (λ it. not_among path wrappers it.id) scripts)
    kept_others scripts kept = subst (λ (checks : List Check). AllByRecursion (IsKept Is IsSpec) checks) (same_others scripts) kept

    pub refuses_others : (scripts : List (NamedScript SetupScriptConfig)) (told : LoadError) → RefusesFor Is IsSpec IsTooDeep (flat_map (λ it. among_set path set it.id) scripts) told
        → RefusesFor Is IsSpec IsTooDeep (flat_map (λ it. not_among path wrappers it.id) scripts) told
    refuses_others scripts told refuses = subst (λ (checks : List Check). RefusesFor Is IsSpec IsTooDeep checks told) (same_others scripts) refuses

    pub passes_others : (scripts : List (NamedScript SetupScriptConfig)) (result : Result (Unit {0}) LoadError) → Passes Is IsSpec IsTooDeep (flat_map (λ it. among_set path set it.id) scripts) (λ _. ⊤) result
        → Passes Is IsSpec IsTooDeep (flat_map (λ it. not_among path wrappers it.id) scripts) (λ _. ⊤) result
    passes_others scripts result passes = subst (λ (checks : List Check). Passes Is IsSpec IsTooDeep checks (λ _. ⊤) result) (same_others scripts) passes
