-- A profile has one chain, and of it one list of values.
use Rattle.std.proofs.Common.{◌≡◌, List, [], ◌∷◌, map, Option, None, Some, refl, ap, sym, ◌∙◌}
use Rattle.nextest_config_resolution_inheritance.specs.Inheritance.{Name, Parents, IsChain}
use Rattle.nextest_config_resolution_inheritance.specs.Inheritance.IsChain.{ends, goes_on}
use Rattle.nextest_config_resolution_load.specs.Checks.{parents_of}
use Rattle.nextest_config_resolution_profiles.specs.Config.{values_of}
use Rattle.nextest_config_resolution_profiles.specs.Laws.{OneProfile}

pub one_order : (profiles : Parents) {name : Name} {one other : List Name} → IsChain profiles name one → IsChain profiles name other → one ≡ other
one_order profiles (ends is) (ends also) = refl
one_order profiles (ends is) (goes_on apart chain) = absurd (apart is)
one_order profiles (goes_on apart chain) (ends is) = absurd (apart is)
one_order profiles (goes_on {name = name} apart chain) (goes_on also more) = ap (λ (names : List Name). name ∷ names) (one_order profiles chain more)

-- what is there
abbrev pub given : {X : Type 0} → List (Option X) → List X
given [] = []
given (None ∷ more) = given more
given (Some x ∷ more) = x ∷ given more

pub given_all : {X : Type 0} (xs : List X) → given (map Some xs) ≡ xs
given_all [] = refl
given_all (x ∷ xs) = ap (λ more. x ∷ more) (given_all xs)

pub one_chain_of : OneProfile
one_chain_of profiles name a b one other =
    sym (given_all a)
    ∙ ap given (sym one.valued ∙ ap (map (values_of profiles)) (one_order (parents_of profiles) one.in_order other.in_order) ∙ other.valued)
    ∙ given_all b
