-- Scripts of a file where they stood before, and script rules of its profiles that name none.
use Rattle.std.specs.Prelude.{ℕ, ◌+◌, ◌==◌, Bool, true, false, ◌&&◌, not, List, [], ◌∷◌, ◌++◌, codes, if◌then◌else◌}
use Rattle.std.specs.Option.{is_some, option_map_or}
use Rattle.toml.specs.Data.{Data, array, table, Items, no_items, item, Members, no_members, member, get_member}

-- a table has keys
abbrev pub has_keys : Members → Bool
has_keys no_members = false
has_keys (member key value more) = true

abbrev pub is_filled_table : Data → Bool
is_filled_table (table members) = has_keys members
is_filled_table _ = false

-- a file defines scripts under `script`, where they stood before
abbrev pub defines_old_scripts : Members → Bool
defines_old_scripts file = option_map_or is_filled_table (get_member (codes "script") file) false

-- something stands at a key
abbrev pub has : List ℕ → Members → Bool
has key members = is_some (get_member key members)

-- a list has no items
abbrev pub has_no_items : Items → Bool
has_no_items no_items = true
has_no_items (item value more) = false

abbrev pub is_empty_list : Data → Bool
is_empty_list (array items) = has_no_items items
is_empty_list _ = false

-- the setup scripts of a rule are left out, or are none
abbrev pub has_no_setup : Members → Bool
has_no_setup rule = option_map_or is_empty_list (get_member (codes "setup") rule) true

-- a script rule names no script: no wrapper, and no setup script
abbrev pub is_empty_rule : Members → Bool
is_empty_rule rule =
    not (has (codes "list-wrapper") rule) && not (has (codes "run-wrapper") rule) && has_no_setup rule

abbrev pub names_no_script : Data → Bool
names_no_script (table rule) = is_empty_rule rule
names_no_script _ = false

-- how many of some rules name none
abbrev pub empty_rules : Items → ℕ
empty_rules no_items = 0
empty_rules (item rule more) = (if names_no_script rule then 1 else 0) + empty_rules more

-- how many script rules of a profile name none
abbrev pub empty_in_list : Data → ℕ
empty_in_list (array rules) = empty_rules rules
empty_in_list _ = 0

abbrev pub empty_at : Members → ℕ
empty_at profile = option_map_or empty_in_list (get_member (codes "scripts") profile) 0

abbrev pub empty_in_profile : Data → ℕ
empty_in_profile (table profile) = empty_at profile
empty_in_profile _ = 0

-- a profile and how many such rules it has, if it has any
abbrev pub section : List ℕ → ℕ → List (List ℕ × ℕ)
section name count = if count == 0 then [] else (name, count) ∷ []

-- the profiles that have such rules, by the bytes of their names, each with how many it has
abbrev pub sections : Members → List (List ℕ × ℕ)
sections no_members = []
sections (member name profile more) = section name (empty_in_profile profile) ++ sections more

abbrev pub sections_in : Data → List (List ℕ × ℕ)
sections_in (table profiles) = sections profiles
sections_in _ = []

-- those of a file
abbrev pub empty_sections : Members → List (List ℕ × ℕ)
empty_sections file = option_map_or sections_in (get_member (codes "profile") file) []
