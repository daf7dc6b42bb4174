-- The selected tests of binaries, as filters look at them.
use Rattle.std.specs.Prelude.{List, map, flat_map}
use Rattle.nextest_filtering_filters.specs.Query as query
use Rattle.test_runner_core_listing.specs.Answers.{seen_test}
use Rattle.test_runner_core_listing.specs.declared.selection.SelectedTests.{SelectedTests}

-- those of a binary, as it lists them
abbrev pub tests_of_one : SelectedTests → List query.Test
tests_of_one it = map (seen_test it.binary.now) it.names

-- those of binaries, one after another
abbrev pub tests_in : List SelectedTests → List query.Test
tests_in selected = flat_map tests_of_one selected
