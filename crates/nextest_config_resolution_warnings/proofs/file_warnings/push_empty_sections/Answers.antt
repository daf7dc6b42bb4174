use Rattle.std.proofs.Common.{◌≡◌, ◌++◌, List, ℕ, [], BTreeMap, Global, IfOk, Option, String, sym, ap, ◌∙◌, subst}
use Rattle.std.specs.Option.{option_map_or}
use Rattle.toml.proofs.Views.{view-Table}
use Rattle.toml.specs.Data.{Data, table}
use Rattle.toml.specs.View.{table_view, view}
use Rattle.toml.specs.declared.value.Value.{Value}
use Rattle.nextest_config_resolution_warnings.specs.Scripts.{sections, sections_in}
use Rattle.nextest_config_resolution_warnings.specs.Warn.{section_warnings}
use Rattle.nextest_config_resolution_warnings.proofs.file_warnings.push_empty_sections.Goals as goal

pub returns-in-Some-Table : goal.returns-in-Some-Table
returns-in-Some-Table c =
    let found = c.in-Some-Table in
    let passed = ap (λ (profiles : BTreeMap (String Global) Value). sections (table_view profiles)) found.profiles-is in
    let seen : view found.field-0.now ≡ table (table_view found.profiles) = ap view found.field-0-is ∙ view-Table found.profiles in
    let looked_up = ap (λ (it : Option Data). option_map_or sections_in it []) found.ensures in
    subst (λ (some : List (List ℕ × ℕ)). IfOk c.push_sections.result (λ _. c.push_sections.new.found ≡ c.args.found.now ++ section_warnings some))
    (passed ∙ sym (ap sections_in seen) ∙ looked_up) c.push_sections.ensures
