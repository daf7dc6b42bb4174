-- Values that aren't tables.
use Rattle.std.proofs.Common.{◌≡◌, List, [], ◌∷◌, Some, String, Global, BTreeMap, rules, refl}
use Rattle.toml.specs.Data.{Data}
use Rattle.toml.specs.View.{view}
use Rattle.toml.specs.declared.value.Value.{Value, Table as TableValue, the_lemmas}
use Rattle.nextest_config_resolution_tree.specs.Merged.{merge_of_files}
use Rattle.nextest_config_resolution_tree.specs.Tree.{over}
use Rattle.nextest_config_resolution_tree.specs.Ends.{IsSorted, ends}

over_leaf : (value : Value) (below : Data) → ((it : BTreeMap (String Global) Value) → value ≡ TableValue it → ⊥) → over (view value) (Some below) ≡ view value
over_leaf value below never = search (rules, the_lemmas)

pub ends_leaf : (value : Value) → ((it : BTreeMap (String Global) Value) → value ≡ TableValue it → ⊥) → ends (view value) ≡ ([], view value) ∷ []
ends_leaf value never = search (rules, the_lemmas)

pub leaf_sorted : (value : Value) → ((it : BTreeMap (String Global) Value) → value ≡ TableValue it → ⊥) → IsSorted (view value)
leaf_sorted value never = search (rules, the_lemmas)

pub leaf_alone : (value : Value) (lower : List Data) → ((it : BTreeMap (String Global) Value) → value ≡ TableValue it → ⊥) → merge_of_files (view value) lower ≡ view value
leaf_alone value [] never = refl
leaf_alone value (next ∷ lower) never = over_leaf value (merge_of_files next lower) never
