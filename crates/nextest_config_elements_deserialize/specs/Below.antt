-- What is read under a key by a reading of its own, and what becomes of an error there.
use Rattle.std.specs.Prelude.{◌≡◌, ℕ, List, [], ◌++◌, Ok, Err, ⊤}
use Rattle.std.specs.Option.{option_map_or}
use Rattle.toml.specs.Data.{Data, Members, get_member}
use Rattle.nextest_config_elements_toml.specs.Reading.{Path, Reading, under}
use Rattle.nextest_config_elements_toml.specs.declared.bad_value.BadValue.{BadValue}
use Rattle.nextest_config_elements_toml.specs.declared.value_error.ValueError.{ValueError}
use Rattle.nextest_config_elements_toml.specs.declared.value_error.ValueError.TheVariants as error

-- the value of a key that must stand
abbrev pub required_by : {A : Type 0} → List ℕ → (Data → Reading A) → Members → Reading A
required_by key reading members = under key (option_map_or reading (get_member key members) (Err []))

-- the value of a key for which something else stands where it is left out
abbrev pub defaulted_by : {A : Type 0} → List ℕ → (Data → Reading A) → A → Members → Reading A
defaulted_by key reading otherwise members = under key (option_map_or reading (get_member key members) (Ok otherwise))

-- what is refused, with a path in front of where it stands
pub record IsToldBelow (path : Path) (bad told : BadValue) : Type 0 where
  pub place : told.path.keys ≡ path ++ bad.path.keys
  pub expected : told.expected.now ≡ bad.expected.now
  pub found : told.found ≡ bad.found

-- an error, with a path in front of what it refuses
abbrev pub IsBelow : Path → ValueError → ValueError → Type 0
IsBelow path (error.Refused bad) (error.Refused told) = IsToldBelow path bad told
IsBelow path error.OutOfMemory (error.Refused told) = ⊥
IsBelow path given error.OutOfMemory = ⊤
