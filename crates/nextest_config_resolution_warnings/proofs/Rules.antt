-- Tables and lists that are empty, and how many rules name no script.
use Rattle.std.proofs.Common.{◌≡◌, ◌==◌, ◌↔◌, IsTrue, Bool, not, List, [], ◌∷◌, cond, ◌+◌, length, refl, ap, ◌∙◌, arith}
use Rattle.std.proofs.lemmas.Bool.Decides.{nat_tests}
use Rattle.std.proofs.lemmas.List.Sums.{sum_by-cons}
use Rattle.std.specs.List.{count_by}
use Rattle.toml.proofs.Views.{Entry}
use Rattle.toml.specs.View.{items_view, members_view, view}
use Rattle.toml.specs.declared.value.Value.{Value}
use Rattle.nextest_config_resolution_warnings.specs.Scripts.{empty_rules, has_keys, has_no_items, names_no_script}

-- a list with no value has no items
pub has_no_items_is : (values : List Value) → (length values == 0) ≡ has_no_items (items_view values)
has_no_items_is [] = refl
has_no_items_is (value ∷ values) = grind (arith, nat_tests)

-- a table with an entry has keys
pub has_keys_is : (entries : List Entry) (is_empty : Bool) → (IsTrue is_empty ↔ (length entries ≡ 0)) → not is_empty ≡ has_keys (members_view entries)
has_keys_is [] is_empty known = grind (arith, nat_tests)
has_keys_is (entry ∷ entries) is_empty known = grind (arith, nat_tests)

-- the values that are rules which name no script
pub empty_rules_are : (rules : List Value) → count_by (λ rule. names_no_script (view rule)) rules ≡ empty_rules (items_view rules)
empty_rules_are [] = refl
empty_rules_are (rule ∷ rules) =
    sum_by-cons (λ (it : Value). cond (names_no_script (view it)) 1 0) rule rules
    ∙ ap (λ n. cond (names_no_script (view rule)) 1 0 + n) (empty_rules_are rules)
