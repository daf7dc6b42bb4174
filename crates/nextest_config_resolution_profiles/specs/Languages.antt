-- Which texts are filters of a configuration.
use Rattle.std.specs.Prelude.{◌≡◌, ℕ, Bool, false, List, Option, None, Some, if◌then◌else◌}
use Rattle.nextest_filtering_arguments.specs.declared.ban.FiltersetKind.{FiltersetKind}
use Rattle.nextest_filtering_arguments.specs.declared.ban.FiltersetKind.TheVariants as kind
use Rattle.nextest_filtering_filters.specs.declared.known_groups.KnownGroups.{KnownGroups}
use Rattle.nextest_filtering_filters.specs.declared.known_groups.KnownGroups.TheVariants as groups
use Rattle.nextest_config_resolution_load.specs.declared.languages.FilterPurpose.{FilterPurpose}
use Rattle.nextest_config_resolution_load.specs.declared.languages.FilterPurpose.TheVariants as purpose

-- the kind of the filters for a purpose
abbrev pub kind_of : FilterPurpose → FiltersetKind
kind_of purpose.Default = kind.DefaultFilter
kind_of purpose.Override = kind.OverrideFilter
kind_of purpose.ListWrapper = kind.OverrideFilter

-- in a context a text is this filter for a purpose: no kind may ask for a group, so none is known;
-- and that of a rule with a `list-wrapper` asks nothing that only tests tell
abbrev pub IsFilterIn : {F Cx : Type 0} → (Cx → FiltersetKind → KnownGroups → List ℕ → F → Type 0) → (F → Bool)
    → Cx → FilterPurpose → List ℕ → F → Type 0
IsFilterIn IsParsed asks_tests cx purpose.Default text it = IsParsed cx kind.DefaultFilter groups.Unavailable text it
IsFilterIn IsParsed asks_tests cx purpose.Override text it = IsParsed cx kind.OverrideFilter groups.Unavailable text it
IsFilterIn IsParsed asks_tests cx purpose.ListWrapper text it =
    IsParsed cx kind.OverrideFilter groups.Unavailable text it × (asks_tests it ≡ false)

-- a filter that was parsed for a purpose, if it serves it
abbrev pub if_serves : {F : Type 0} → (F → Bool) → FilterPurpose → F → Option F
if_serves asks_tests purpose.Default it = Some it
if_serves asks_tests purpose.Override it = Some it
if_serves asks_tests purpose.ListWrapper it = if asks_tests it then None else Some it
