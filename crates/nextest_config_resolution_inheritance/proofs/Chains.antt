-- The chain of a profile.
use Rattle.std.proofs.Common.{◌≡◌, ℕ, zero, suc, List, [], ◌∷◌, refl, ap, subst, inl, inr}
use Rattle.std.proofs.lemmas.Bool.{cases_Bool}
use Rattle.std.proofs.lemmas.Bool.Decides.{not_from_Decides}
use Rattle.std.proofs.lemmas.Slice.Eq.{bytes_eq-Decides}
use Rattle.std.specs.List.{Contains}
use Rattle.std.specs.Str.{bytes_eq}
use Rattle.nextest_config_resolution_inheritance.specs.Inheritance.{Name, Profile, Parents, default, next, ancestor, Ends, IsChain, IsAccepted}
use Rattle.nextest_config_resolution_inheritance.specs.Inheritance.IsChain.{ends, goes_on}

-- a chain by the number of its steps
some_chain : (profiles : Parents) (n : ℕ) (name : Name) → ancestor profiles n name ≡ default → (chain : List Name) × IsChain profiles name chain
some_chain profiles zero name is = (name ∷ [], ends is)
some_chain profiles (suc n) name is =
    elim (cases_Bool (bytes_eq name default)) [
      | inl same ↦ (name ∷ [], ends ((bytes_eq-Decides name default).0 same))
      | inr apart ↦
          let behind = some_chain profiles n (next profiles name) is in
          (name ∷ behind.0, goes_on (not_from_Decides (bytes_eq name default) (bytes_eq-Decides name default) apart) behind.1)
    ]

only : (profiles : Parents) {name : Name} {one other : List Name} → IsChain profiles name one → IsChain profiles name other → other ≡ one
only profiles (ends is) (ends also) = refl
only profiles (ends is) (goes_on apart chain) = absurd (apart is)
only profiles (goes_on apart chain) (ends is) = absurd (apart is)
only profiles (goes_on {name = name} apart chain) (goes_on also more) = ap (λ (names : List Name). name ∷ names) (only profiles chain more)

pub one_chain : (profiles : Parents) (profile : Profile) → IsAccepted profiles → Contains profiles profile
    → (chain : List Name) × IsChain profiles profile.0 chain × ((other : List Name) → IsChain profiles profile.0 other → other ≡ chain)
one_chain profiles profile accepted stands =
    let end = subst (λ (it : Profile). Ends profiles it.0) stands.2 (accepted.ending stands.0 profile stands.1) in
    let chain = some_chain profiles end.0 profile.0 end.1 in
    (chain.0, chain.1, λ other also. only profiles chain.1 also)
