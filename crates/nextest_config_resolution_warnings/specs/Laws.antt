-- What the laws say.
use Rattle.std.specs.Prelude.{◌≡◌, ◌≢◌, ◌↔◌, true, AllPairs, Contains}
use Rattle.toml.specs.Data.{Data, is_sorted}
use Rattle.nextest_config_elements_toml.specs.Reading.{Path}
use Rattle.nextest_config_resolution_warnings.specs.ShortLists.{HasShortLists}
use Rattle.nextest_config_resolution_warnings.specs.Places.{Place}
use Rattle.nextest_config_resolution_warnings.specs.Standing.{ComesBefore, IsUnknownAt}
use Rattle.nextest_config_resolution_warnings.specs.Unknown.{unknown_in}

-- what may not stand in a value is found exactly where it stands
abbrev pub FindsUnknown : Type 0
FindsUnknown = (place : Place) (given : Data) (path : Path) → is_sorted given ≡ true → Contains (unknown_in place given) path ↔ IsUnknownAt place given path

-- in the order in which it stands there
abbrev pub FindsInOrder : Type 0
FindsInOrder = (place : Place) (given : Data) → is_sorted given ≡ true → AllPairs (ComesBefore given) (unknown_in place given)

-- and once
abbrev pub FindsOnce : Type 0
FindsOnce = (place : Place) (given : Data) → is_sorted given ≡ true → HasShortLists given → AllPairs (λ one other. one ≢ other) (unknown_in place given)
