-- What holds of every platform spec.
use Rattle.std.specs.Prelude.{◌≡◌, ℕ, Bool, List, Option}
use Rattle.std.proofs.Common.{ap}
use Rattle.nextest_config_resolution_filters.specs.Specs.{SpecsLaws}
use Rattle.test_runner_core_platforms.specs.Spec.{Spec}
use Rattle.test_runner_core_platforms.specs.Facts.{Facts}
use Rattle.test_runner_core_platforms.specs.Grammar.{IsSpec}
use Rattle.test_runner_core_platforms.specs.Meaning.{HasValue, value_of}
use Rattle.test_runner_core_platforms.specs.Single.{one_spec}
use Rattle.test_runner_core_platforms.specs.Trees.{spec_of}

-- a text is one spec at most
abbrev pub OneSpec : Type 0
OneSpec = (text : List ℕ) (one other : Spec) → IsSpec text one → IsSpec text other → one ≡ other

-- the value by three values is one that a spec has
abbrev pub SomeValue : Type 0
SomeValue = (facts : Facts) (it : Spec) → HasValue facts it (value_of facts it)

-- and it has no other
abbrev pub HasOneValue : Type 0
HasOneValue = (facts : Facts) (it : Spec) (value : Option Bool) → HasValue facts it value → value ≡ value_of facts it

pub platform_spec_laws : SpecsLaws (λ text it. IsSpec text (spec_of it)) (λ it facts. value_of facts (spec_of it))
platform_spec_laws = record {
  one_meaning = λ text one other first second facts. ap (value_of facts) (one_spec text (spec_of one) (spec_of other) first second);
}
