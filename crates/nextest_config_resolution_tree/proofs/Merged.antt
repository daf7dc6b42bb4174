-- What tables come to, by what is gathered of them.
use Rattle.std.proofs.Common.{◌≡◌, ℕ, List, [], ◌∷◌, map, sym, ap, ◌∙◌, String, Global, BTreeMap}
use Rattle.std.specs.List.{AllByRecursion}
use Rattle.std.specs.List.Sorted.{IsStrictlySortedBy}
use Rattle.std.specs.Map.{keys_of}
use Rattle.std.specs.String.{string_cmp}
use Rattle.toml.specs.Data.{table}
use Rattle.toml.specs.View.{table_view}
use Rattle.toml.specs.declared.value.Value.{Value}
use Rattle.nextest_config_resolution_tree.specs.Gathered.{KeysRise, given_at, members_of, merged_tables, values_at}
use Rattle.nextest_config_resolution_tree.proofs.Gathered.{Entry, get_given, get_joined, joined, tables_joined, top}
use Rattle.nextest_config_resolution_tree.proofs.Rising.{AllRise, entries_rise, joined_rises, same_members, table_rises}

all_rise : (tables : List (BTreeMap (String Global) Value)) → AllByRecursion KeysRise tables → AllRise (map table_view tables)
all_rise [] rise = tt
all_rise (first ∷ tables) rise = (table_rises first.entries rise.0, all_rise tables rise.1)

pub tables_are : (tables : List (BTreeMap (String Global) Value)) (entries : List Entry) → IsStrictlySortedBy string_cmp (keys_of entries) → AllByRecursion KeysRise tables
    → ((key : List ℕ) → given_at key entries ≡ values_at key (map table_view tables)) → merged_tables (map table_view tables) ≡ table (members_of entries)
tables_are tables entries order rise gives =
    let all = map table_view tables in
    tables_joined all
    ∙ ap table (same_members (joined all) (members_of entries) (joined_rises all (all_rise tables rise)) (entries_rise entries order)
    (λ key. get_joined key all ∙ ap top (sym (gives key)) ∙ sym (get_given key entries)))
