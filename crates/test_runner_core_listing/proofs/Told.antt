-- What an evaluator says, and what its filter is.
use Rattle.std.proofs.Common.{Bool, true, false, not, Option, None, Some, refl}
use Rattle.std.specs.Bool.{beq}
use Rattle.std.specs.Option.{option_eq}
use Rattle.nextest_filtering_filters.specs.Formula.{IsValue}
use Rattle.nextest_filtering_filters.specs.Meaning.{Tells}

-- what isn't known to be false can hold
pub can_hold : (Can : Bool → Type 0) (value : Option Bool) → IsValue Can value → Tells (Can true) (not (option_eq beq value (Some false)))
can_hold Can None is = ((λ e. is.0), (λ can. refl))
can_hold Can (Some true) is = ((λ e. is.0), (λ can. refl))
can_hold Can (Some false) is = ((λ e. absurd cc), (λ can. absurd (is.1 can)))

-- the one value that can be tells whether it holds
pub holds : (Is : Bool → Type 0) (value : Bool) → IsValue Is (Some value) → Tells (Is true) value
holds Is true is = ((λ e. is.0), (λ has. refl))
holds Is false is = ((λ e. absurd cc), (λ has. absurd (is.1 has)))
