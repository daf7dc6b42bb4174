-- Sources come to a configuration, or are refused.
use Rattle.std.proofs.Common.{ℕ, List, refl, inl, inr}
use Rattle.nextest_config_resolution_load.specs.Load.{IsFilterBy, IsSpecBy}
use Rattle.nextest_config_resolution_load.proofs.SomeLoad.{some_load}
use Rattle.nextest_config_resolution_profiles.specs.BuiltIn.{built_in_members}
use Rattle.nextest_config_resolution_profiles.specs.Laws.{SomeConfig}

pub some_config : {F S : Type 0} (Is : IsFilterBy F) (IsSpec : IsSpecBy S) (IsTooDeep : List ℕ → Type 0) → SomeConfig Is IsSpec IsTooDeep
some_config Is IsSpec IsTooDeep features root sources never = some_load Is IsSpec IsTooDeep features built_in_members sources (λ some.
    never (elim some [
      | inl (it, loaded) ↦ inl (record { root = root; loaded = it }, (refl, loaded))
      | inr (told, refused) ↦ inr (told, refused)
    ]))
