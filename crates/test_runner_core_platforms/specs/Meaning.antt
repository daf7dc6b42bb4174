-- Whether a platform spec holds on a platform of which some facts are known.
use Rattle.std.specs.Prelude.{◌≡◌, ℕ, Bool, true, false, not, List, [], ◌∷◌, Option, None, Some, option_map, ⊤}
use Rattle.std.specs.List.{list_all, list_any}
use Rattle.std.specs.Str.{bytes_eq}
use Rattle.nextest_filtering_filters.specs.Formula.{IsValue}
use Rattle.test_runner_core_platforms.specs.declared.fact.Fact.{Fact}
use Rattle.test_runner_core_platforms.specs.Spec.{Condition, fact, fact_value, negation, all_of, any_of, Conditions, no_conditions, with_first, Spec, triple, condition}
use Rattle.test_runner_core_platforms.specs.Facts.{Facts, answer_of}

-- ---- what a spec can come out as

-- what is known is so, and what isn't may be either
abbrev pub MayBe : Option Bool → Bool → Type 0
MayBe (Some holds) value = value ≡ holds
MayBe None value = ⊤

-- a condition can come out so: each place where an unknown fact stands takes a value of its own
mutual
  pub data ComesOut (known : List Fact) : Condition → Bool → Type 0 where
    of_fact : (name : List ℕ) (value : Bool) → MayBe (answer_of known name None) value → ComesOut known (fact name) value
    of_value : (name text : List ℕ) (value : Bool) → MayBe (answer_of known name (Some text)) value → ComesOut known (fact_value name text) value
    of_negation : (it : Condition) (value : Bool) → ComesOut known it value → ComesOut known (negation it) (not value)
    of_all : (each : Conditions) (values : List Bool) → ComeOut known each values → ComesOut known (all_of each) (list_all (λ value. value) values)
    of_any : (each : Conditions) (values : List Bool) → ComeOut known each values → ComesOut known (any_of each) (list_any (λ value. value) values)

  -- conditions can come out as these, one after another
  pub data ComeOut (known : List Fact) : Conditions → List Bool → Type 0 where
    of_none : ComeOut known no_conditions []
    of_more : (it : Condition) (each : Conditions) (value : Bool) (values : List Bool) → ComesOut known it value → ComeOut known each values
        → ComeOut known (with_first it each) (value ∷ values)

-- so can a spec; whether the triple is this one is always known
abbrev pub SpecComesOut : Facts → Spec → Bool → Type 0
SpecComesOut facts (triple name) value = value ≡ bytes_eq name facts.triple
SpecComesOut facts (condition it) value = ComesOut facts.known it value

-- the one value that a spec can come out as; none where it can be either
abbrev pub HasValue : Facts → Spec → Option Bool → Type 0
HasValue facts it = IsValue (SpecComesOut facts it)

-- ---- the same by three values

abbrev pub both : Option Bool → Option Bool → Option Bool
both (Some true) other = other
both (Some false) other = Some false
both None (Some true) = None
both None (Some false) = Some false
both None None = None

abbrev pub either : Option Bool → Option Bool → Option Bool
either (Some true) other = Some true
either (Some false) other = other
either None (Some true) = Some true
either None (Some false) = None
either None None = None

abbrev mutual
  pub condition_value : List Fact → Condition → Option Bool
  condition_value known (fact name) = answer_of known name None
  condition_value known (fact_value name text) = answer_of known name (Some text)
  condition_value known (negation it) = option_map not (condition_value known it)
  condition_value known (all_of each) = value_of_all known each
  condition_value known (any_of each) = value_of_any known each

  pub value_of_all : List Fact → Conditions → Option Bool
  value_of_all known no_conditions = Some true
  value_of_all known (with_first it each) = both (condition_value known it) (value_of_all known each)

  pub value_of_any : List Fact → Conditions → Option Bool
  value_of_any known no_conditions = Some false
  value_of_any known (with_first it each) = either (condition_value known it) (value_of_any known each)

-- the value of a spec; none where the facts don't tell
abbrev pub value_of : Facts → Spec → Option Bool
value_of facts (triple name) = Some (bytes_eq name facts.triple)
value_of facts (condition it) = condition_value facts.known it
