-- What holds of platform specs, whatever they are.
use Rattle.std.specs.Prelude.{◌≡◌, ℕ, Bool, List, Option}

-- Platform specs, where these say which spec a text is, and whether a spec holds on a platform.
pub record SpecsLaws {Spec Facts : Type 0} (IsParsed : List ℕ → Spec → Type 0) (value_on : Spec → Facts → Option Bool) : Type 0 where
  -- a text is one spec, by its values on all platforms
  pub one_meaning : (text : List ℕ) (one other : Spec) → IsParsed text one → IsParsed text other → (facts : Facts) → value_on one facts ≡ value_on other facts
