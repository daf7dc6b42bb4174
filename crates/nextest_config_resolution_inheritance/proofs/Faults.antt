-- The first profile against a rule, and the first fault.
use Rattle.std.proofs.Common.{◌≡◌, suc, [], ◌∷◌, ◌++◌, Some, ap, subst, arith}
use Rattle.std.specs.List.{All}
use Rattle.std.specs.Option.{unwrap_or}
use Rattle.nextest_config_resolution_inheritance.specs.Inheritance.{Name, Profile, Parents, SetsNoneIfReserved, KnowsParent, Ends, IsAccepted}
use Rattle.nextest_config_resolution_inheritance.specs.Refusals.{IsFirstAgainst, IsFirstFault}
use Rattle.nextest_config_resolution_inheritance.specs.declared.inheritance_fault.InheritanceFault.{InheritanceFault}
use Rattle.nextest_config_resolution_inheritance.specs.declared.inheritance_fault.InheritanceFault.TheVariants.{InheritsInDefault, UnknownParent, Cycle}

behind : (Rule : Profile → Type 0) (first : Profile) (rest : Parents) → All Rule (first ∷ rest) → All Rule rest
behind Rule first rest all k d within = all (suc k) d (omega (arith, within))

same : (Rule : Profile → Type 0) (front other rest more : Parents) (one two : Profile) → front ++ one ∷ rest ≡ other ++ two ∷ more
    → All Rule front → All Rule other → ¬ Rule one → ¬ Rule two → one ≡ two
same Rule [] [] rest more one two is before also breaks too = cc
same Rule [] (x ∷ other) rest more one two is before also breaks too =
    let here : x ≡ one = cc in
    absurd (breaks (subst Rule here (also 0 x (omega arith))))
same Rule (x ∷ front) [] rest more one two is before also breaks too =
    let here : x ≡ two = cc in
    absurd (too (subst Rule here (before 0 x (omega arith))))
same Rule (x ∷ front) (y ∷ other) rest more one two is before also breaks too =
    let left : front ++ one ∷ rest ≡ other ++ two ∷ more = cc in
    same Rule front other rest more one two left (behind Rule x front before) (behind Rule y other also) breaks too

-- the first profile against a rule is one
one_first : (Rule : Profile → Type 0) (profiles : Parents) (one two : Profile) → IsFirstAgainst Rule profiles one → IsFirstAgainst Rule profiles two → one ≡ two
one_first Rule profiles one two first second =
    let is : first.front ++ one ∷ first.rest ≡ second.front ++ two ∷ second.rest = cc (first.divided, second.divided) in
    same Rule first.front second.front first.rest second.rest one two is first.before second.before first.breaks second.breaks

within_all : (Rule : Profile → Type 0) (front rest : Parents) (profile : Profile) → All Rule (front ++ profile ∷ rest) → Rule profile
within_all Rule [] rest profile all = all 0 profile (omega arith)
within_all Rule (x ∷ front) rest profile all = within_all Rule front rest profile (behind Rule x (front ++ profile ∷ rest) all)

-- where all keep a rule none is the first against it
pub none_against : (Rule : Profile → Type 0) (profiles : Parents) (profile : Profile) → All Rule profiles → ¬ IsFirstAgainst Rule profiles profile
none_against Rule profiles profile all first =
    first.breaks (within_all Rule first.front first.rest profile (subst (λ (list : Parents). All Rule list) first.divided all))

pub no_fault : (profiles : Parents) (fault : InheritanceFault) → IsAccepted profiles → ¬ IsFirstFault profiles fault
no_fault profiles (InheritsInDefault name) accepted first = none_against SetsNoneIfReserved profiles (name, Some first.0) accepted.reserved first.1
no_fault profiles (UnknownParent name parent) accepted first = none_against (KnowsParent profiles) profiles (name, Some parent) accepted.known first.1
no_fault profiles (Cycle name) accepted first = none_against (λ profile. Ends profiles profile.0) profiles (name, first.2.0) accepted.ending first.2.1

name : Profile → Name
name profile = profile.0

pub one_fault : (profiles : Parents) (one other : InheritanceFault) → IsFirstFault profiles one → IsFirstFault profiles other → one ≡ other
one_fault profiles (InheritsInDefault a) (InheritsInDefault b) x y =
    ap (λ (it : Profile). InheritsInDefault it.0) (one_first SetsNoneIfReserved profiles (a, Some x.0) (b, Some y.0) x.1 y.1)
one_fault profiles (InheritsInDefault a) (UnknownParent b parent) x y = absurd (none_against SetsNoneIfReserved profiles (a, Some x.0) y.0 x.1)
one_fault profiles (InheritsInDefault a) (Cycle b) x y = absurd (none_against SetsNoneIfReserved profiles (a, Some x.0) y.0 x.1)
one_fault profiles (UnknownParent a parent) (InheritsInDefault b) x y = absurd (none_against SetsNoneIfReserved profiles (b, Some y.0) x.0 y.1)
one_fault profiles (UnknownParent a parent) (UnknownParent b other) x y =
    ap (λ (it : Profile). UnknownParent it.0 (unwrap_or it.1 [])) (one_first (KnowsParent profiles) profiles (a, Some parent) (b, Some other) x.1 y.1)
one_fault profiles (UnknownParent a parent) (Cycle b) x y = absurd (none_against (KnowsParent profiles) profiles (a, Some parent) y.1 x.1)
one_fault profiles (Cycle a) (InheritsInDefault b) x y = absurd (none_against SetsNoneIfReserved profiles (b, Some y.0) x.0 y.1)
one_fault profiles (Cycle a) (UnknownParent b parent) x y = absurd (none_against (KnowsParent profiles) profiles (b, Some parent) x.1 y.1)
one_fault profiles (Cycle a) (Cycle b) x y =
    ap (λ (it : Profile). Cycle it.0) (one_first (λ profile. Ends profiles profile.0) profiles (a, x.2.0) (b, y.2.0) x.2.1 y.2.1)
