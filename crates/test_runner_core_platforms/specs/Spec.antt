-- Platform specs as trees.
use Rattle.std.specs.Prelude.{ℕ, List}

mutual
  -- what holds on a platform or doesn't: a name, a name with a value, or what these make up
  pub data Condition : Type 0 where
    fact : List ℕ → Condition
    fact_value : List ℕ → List ℕ → Condition
    negation : Condition → Condition
    all_of : Conditions → Condition
    any_of : Conditions → Condition

  -- one after another
  pub data Conditions : Type 0 where
    no_conditions : Conditions
    with_first : Condition → Conditions → Conditions

-- the platforms of one triple, or those on which a condition holds
pub data Spec : Type 0 where
  triple : List ℕ → Spec
  condition : Condition → Spec
