-- What is told of profiles, of one at a time.
use Rattle.std.proofs.Common.{◌≡◌, ℕ, List, ◌∷◌, ◌++◌, string_bytes, sym, ap, ◌∙◌, append_assoc}
use Rattle.std.proofs.lemmas.List.{map-append}
use Rattle.toml.proofs.Views.{Entry}
use Rattle.toml.specs.View.{members_view, view}
use Rattle.nextest_config_resolution_warnings.specs.Scripts.{empty_in_profile, section, sections}
use Rattle.nextest_config_resolution_warnings.specs.Warn.{section_warnings}
use Rattle.nextest_config_resolution_warnings.specs.declared.config_warning.ConfigWarning.{ConfigWarning}
use Rattle.nextest_config_resolution_warnings.specs.declared.config_warning.ConfigWarning.TheVariants.{EmptyScriptSections}

-- what is told of the first of some profiles, and of those behind it
section_first : (entries ahead : List Entry) (entry : Entry) (name : List ℕ) (count : ℕ) → entries ≡ entry ∷ ahead
    → name ≡ string_bytes entry.0 → count ≡ empty_in_profile (view entry.1)
    → section_warnings (sections (members_view entries)) ≡ section_warnings (section name count) ++ section_warnings (sections (members_view ahead))
section_first entries ahead entry name count parted named counted =
    ap (λ (es : List Entry). section_warnings (sections (members_view es))) parted
    ∙ map-append (λ (it : List ℕ × ℕ). EmptyScriptSections it.0 it.1) (section (string_bytes entry.0) (empty_in_profile (view entry.1))) (sections (members_view ahead))
    ∙ ap (λ (it : List ℕ). section_warnings (section it (empty_in_profile (view entry.1))) ++ section_warnings (sections (members_view ahead))) (sym named)
    ∙ ap (λ (it : ℕ). section_warnings (section name it) ++ section_warnings (sections (members_view ahead))) (sym counted)

-- what was found, and what is ahead, are all, one profile further
pub section_further : (before now whole : List ConfigWarning) (entries ahead : List Entry) (entry : Entry) (name : List ℕ) (count : ℕ) → entries ≡ entry ∷ ahead
    → name ≡ string_bytes entry.0 → count ≡ empty_in_profile (view entry.1)
    → before ++ section_warnings (sections (members_view entries)) ≡ whole → now ≡ before ++ section_warnings (section name count)
    → now ++ section_warnings (sections (members_view ahead)) ≡ whole
section_further before now whole entries ahead entry name count parted named counted known more =
    let left = section_warnings (sections (members_view ahead)) in
    ap (λ (found : List ConfigWarning). found ++ left) more
    ∙ append_assoc before (section_warnings (section name count)) left
    ∙ ap (λ (found : List ConfigWarning). before ++ found) (sym (section_first entries ahead entry name count parted named counted))
    ∙ known
