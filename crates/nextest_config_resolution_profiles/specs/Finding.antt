-- What calls of this crate find among rules.
use Rattle.std.specs.Prelude.{◌≡◌, List, [], ◌∷◌, ◌++◌, Option, None, Some, map}
use Rattle.nextest_config_resolution_profiles.specs.Held.{group_set, placed_of}
use Rattle.nextest_config_resolution_profiles.specs.Platforms.{OverrideOn, RuleOn}
use Rattle.nextest_config_resolution_settings.specs.Rules.{AreHeld, HoldsAndSets}
use Rattle.nextest_config_resolution_settings.specs.TestSettings.{group_of}
use Rattle.nextest_config_resolution_settings.specs.declared.test_settings.TestGroupRef.{TestGroupRef}

-- what those of some rules say that hold, in their order
pub record FindsHeld {P F S : Type 0} (Holding : RuleOn P F S → Type 0) (rules : List (RuleOn P F S)) (found : List P) : Type 0 where
  pub held : List (RuleOn P F S)
  pub are : AreHeld Holding rules held
  pub same : found ≡ map placed_of held

-- what a rule says is added, if it holds
pub record AddsHeld {P F S : Type 0} (Holding : RuleOn P F S → Type 0) (rule : RuleOn P F S) (old new : List P) : Type 0 where
  pub own : List P
  pub finds : FindsHeld Holding (rule ∷ []) own
  pub added : new ≡ old ++ own

-- the group that a rule sets, if it holds
abbrev pub GivesGroup : {F S : Type 0} → (OverrideOn F S → Type 0) → OverrideOn F S → Option TestGroupRef → Type 0
GivesGroup Holding rule None = ¬ HoldsAndSets Holding group_set rule
GivesGroup Holding rule (Some it) = Holding rule × (group_set rule ≡ Some (group_of it))
