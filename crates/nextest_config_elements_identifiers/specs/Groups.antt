-- Which group of tests a text names.
use Rattle.std.specs.Prelude.{ℕ, List, Result, Ok, codes, nat_eq, Err, if◌then◌else◌}
use Rattle.std.specs.Cmp.Lexicographic.{pointwise}
use Rattle.nextest_config_elements_identifiers.specs.Config.{identifier}
use Rattle.nextest_config_elements_identifiers.specs.declared.invalid_identifier.InvalidIdentifier.{InvalidIdentifier}
use Rattle.nextest_config_elements_identifiers.specs.declared.test_group.TestGroup.{TestGroup}
use Rattle.nextest_config_elements_identifiers.specs.declared.test_group.TestGroup.TheVariants as group

-- the group that an identifier names
abbrev pub custom : Result (List ℕ) InvalidIdentifier → Result TestGroup InvalidIdentifier
custom (Ok name) = Ok (group.Custom name)
custom (Err refusal) = Err refusal

-- the group that a text names, or why it names none
abbrev pub group_of : List ℕ → Result TestGroup InvalidIdentifier
group_of text = if pointwise nat_eq text (codes "@global") then Ok group.Global else custom (identifier text)

-- how a group is written
abbrev pub text_of : TestGroup → List ℕ
text_of group.Global = codes "@global"
text_of (group.Custom name) = name
