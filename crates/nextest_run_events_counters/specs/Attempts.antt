-- The attempts of a test.
use Rattle.std.specs.Prelude.{ℕ, ◌-◌, List, length, Option, slice_get}
use Rattle.nextest_config_elements_choices.specs.declared.timeouts.FlakyResult.{FlakyResult}

-- a list, and for how many more elements there is room
pub record Roomy (Item : Type 0) : Type 0 where
  pub items : List Item
  pub room : ℕ

-- the attempts in their order, what becomes of a test that passes late, and for how many more
-- attempts there is room
pub record Attempts (Status : Type 0) : Type 0 where
  pub statuses : List Status
  pub flaky_result : FlakyResult
  pub room : ℕ

-- the last of a list, if it has one
abbrev pub last : {Item : Type 0} → List Item → Option Item
last items = slice_get items (length items - 1)
