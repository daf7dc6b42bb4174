-- All that is missing, ill-typed or not allowed in inputs, in the written order: nothing that is
-- wrong hides what is wrong behind it.
use Rattle.std.specs.Prelude.{ℕ, Bool, true, false, List, [], ◌∷◌, ◌++◌, codes, decimal, map, Option, None, Some, is_some, if◌then◌else◌, option_and_then}
use Rattle.std.specs.List.{enumerate_from, flat_map}
use Rattle.std.specs.Option.{option_map_or}
use Rattle.serde_json.specs.Data.{Data}
use Rattle.serde_json.specs.Find.{as_object}
use Rattle.test_runner_core_inputs.specs.Given.{value_of, member, has_member, items, has_items, item_at}
use Rattle.test_runner_core_inputs.specs.Reading.{Path, dotted_path}
use Rattle.test_runner_core_inputs.specs.Values as value
use Rattle.test_runner_core_inputs.specs.declared.source_word.SourceWord.{SourceWord}
use Rattle.test_runner_core_inputs.specs.declared.source_word.SourceWord.TheVariants as words
use Rattle.test_runner_core_inputs.specs.declared.inputs_error.InputsRefusal.{InputsRefusal}
use Rattle.test_runner_core_inputs.specs.declared.inputs_error.InputsRefusal.TheVariants as errors

-- where the faults of something stand: the empty path is that of the whole itself
abbrev pub Faults : Type 0
Faults = List Path

abbrev pub none : Faults
none = []

abbrev pub itself : Faults
itself = [] ∷ []

-- the faults of part after part
abbrev pub all_of : List Faults → Faults
all_of [] = []
all_of (first ∷ rest) = first ++ all_of rest

-- the faults of a part, told from the whole
abbrev pub within : List ℕ → Faults → Faults
within step faults = map (λ path. step ∷ path) faults

abbrev pub unless : Bool → Faults
unless true = none
unless false = itself

-- a part that has no parts has a value
abbrev pub is : {A : Type 0} → (Data → Option A) → Data → Faults
is value given = unless (is_some (value given))

-- a member that must stand, and one that may
abbrev pub has : List ℕ → (Data → Faults) → Data → Faults
has name faults given = within name (option_map_or faults (member name given) itself)

abbrev pub may_have : List ℕ → (Data → Faults) → Data → Faults
may_have name faults given = within name (option_map_or faults (member name given) none)

-- the item at a position
abbrev pub has_item : ℕ → (Data → Faults) → Data → Faults
has_item position faults given = within (decimal position) (option_map_or faults (item_at position given) itself)

-- a list, item after item
abbrev pub each_of : (Data → Faults) → ℕ → List Data → Faults
each_of faults position found = flat_map (λ it. within (decimal it.0) (faults it.1)) (enumerate_from position found)

abbrev pub is_list : (Data → Faults) → Data → Faults
is_list faults given = option_map_or (each_of faults 0) (items given) itself

-- an object, part after part
abbrev pub is_object : (Data → List Faults) → Data → Faults
is_object parts given = if is_some (as_object given) then all_of (parts given) else itself

abbrev pub package_parts : Data → List Faults
package_parts given = has (codes "id") (is value.text) given ∷ has (codes "name") (is value.text) given ∷ []

abbrev pub package_faults : Data → Faults
package_faults = is_object package_parts

abbrev pub link_parts : Data → List Faults
link_parts given = has_item 0 (is value.text) given ∷ has_item 1 (is value.text) given ∷ []

abbrev pub link_faults : Data → Faults
link_faults given = if has_items 2 given then all_of (link_parts given) else itself

-- a list of names, or an object with a fault
abbrev pub tests_fault : Data → List Faults
tests_fault given = has (codes "fault") (is value.text) given ∷ []

abbrev pub tests_faults : Data → Faults
tests_faults given = option_map_or (each_of (is value.text) 0) (items given) (is_object tests_fault given)

abbrev pub binary_parts : Data → List Faults
binary_parts given =
    has (codes "id") (is value.text) given
    ∷ has (codes "name") (is value.text) given
    ∷ has (codes "package") (is value.text) given
    ∷ has (codes "kind") (is value.kind) given
    ∷ has (codes "platform") (is value.platform) given
    ∷ has (codes "tests") tests_faults given
    ∷ []

abbrev pub binary_faults : Data → Faults
binary_faults = is_object binary_parts

abbrev pub workspace_parts : Data → List Faults
workspace_parts given =
    has (codes "packages") (is_list package_faults) given
    ∷ has (codes "links") (is_list link_faults) given
    ∷ has (codes "binaries") (is_list binary_faults) given
    ∷ []

abbrev pub workspace_faults : Data → Faults
workspace_faults = is_object workspace_parts

-- only a tool's source has a tool
abbrev pub tool_faults : Option SourceWord → Data → Faults
tool_faults None given = none
tool_faults (Some words.Tool) given = has (codes "tool") (is value.tool) given
tool_faults (Some words.Explicit) given = none
tool_faults (Some words.Discovered) given = none

-- exactly one of three forms
abbrev pub form_faults : Bool → Bool → Bool → Data → Faults
form_faults true false false given = has (codes "text") (is value.text) given
form_faults false true false given = has (codes "missing") (is value.only_true) given
form_faults false false true given = has (codes "failed") (is value.text) given
form_faults _ _ _ given = itself

abbrev pub outcome_faults : Data → Faults
outcome_faults given = form_faults (has_member (codes "text") given) (has_member (codes "missing") given) (has_member (codes "failed") given) given

abbrev pub source_parts : Data → List Faults
source_parts given =
    has (codes "kind") (is value.source_word) given
    ∷ tool_faults (option_and_then value.source_word (member (codes "kind") given)) given
    ∷ has (codes "path") (is value.undivided_text_of) given
    ∷ outcome_faults given
    ∷ []

abbrev pub source_faults : Data → Faults
source_faults = is_object source_parts

-- a name, perhaps a value, and whether it holds
abbrev pub plain_parts : Data → List Faults
plain_parts given = has_item 0 (is value.text) given ∷ has_item 1 (is value.truth) given ∷ []

abbrev pub valued_parts : Data → List Faults
valued_parts given = has_item 0 (is value.text) given ∷ has_item 1 (is value.text) given ∷ has_item 2 (is value.truth) given ∷ []

abbrev pub fact_faults : Data → Faults
fact_faults given =
    if has_items 2 given then all_of (plain_parts given)
    else if has_items 3 given then all_of (valued_parts given)
    else itself

abbrev pub platform_parts : Data → List Faults
platform_parts given = has (codes "triple") (is value.text) given ∷ has (codes "facts") (is_list fact_faults) given ∷ []

abbrev pub platform_faults : Data → Faults
platform_faults = is_object platform_parts

abbrev pub inputs_parts : Data → List Faults
inputs_parts given =
    has (codes "workspace") workspace_faults given
    ∷ has (codes "sources") (is_list source_faults) given
    ∷ has (codes "current_version") (is value.version) given
    ∷ may_have (codes "profile") (is value.text) given
    ∷ may_have (codes "mode") (is value.mode) given
    ∷ may_have (codes "host") platform_faults given
    ∷ may_have (codes "target") platform_faults given
    ∷ may_have (codes "filterset") (is value.text) given
    ∷ may_have (codes "ignore_default_filter") (is value.truth) given
    ∷ may_have (codes "override_version_check") (is value.truth) given
    ∷ may_have (codes "processors") (is value.positive) given
    ∷ may_have (codes "root") (is value.text) given
    ∷ []

-- a top that is no object has no workspace
abbrev pub inputs_faults : Data → Faults
inputs_faults given = if is_some (as_object given) then all_of (inputs_parts given) else (codes "workspace" ∷ []) ∷ []

-- all that is wrong with bytes
abbrev pub faults_of : List ℕ → List InputsRefusal
faults_of bytes = option_map_or (λ given. map (λ path. errors.Field (dotted_path path)) (inputs_faults given)) (value_of bytes) (errors.Syntax ∷ [])
