-- What filtersets are for.
use Rattle.std.specs.Prelude.{ℕ, List, codes}
use Rattle.nextest_filtering_arguments.specs.declared.ban.FiltersetKind.{FiltersetKind}
use Rattle.nextest_filtering_arguments.specs.declared.ban.FiltersetKind.TheVariants as kind

-- how a kind is named
abbrev pub kind_word : FiltersetKind → List ℕ
kind_word kind.Test = codes "test"
kind_word kind.TestArchive = codes "test-archive"
kind_word kind.OverrideFilter = codes "override-filter"
kind_word kind.DefaultFilter = codes "default-filter"
