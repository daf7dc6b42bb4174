-- What the laws say.
use Rattle.std.specs.Prelude.{◌≡◌, ◌↔◌, ◌⊎◌, List, Contains}
use Rattle.nextest_config_resolution_inheritance.specs.Inheritance.{Name, Profile, Parents, Ends, IsAccepted, IsChain, IsEndless}
use Rattle.nextest_config_resolution_inheritance.specs.Refusals.{IsFirstFault}
use Rattle.nextest_config_resolution_inheritance.specs.declared.inheritance_fault.InheritanceFault.{InheritanceFault}

-- profiles have at most one first fault
abbrev pub OneFault : Type 0
OneFault = (profiles : Parents) (one other : InheritanceFault) → IsFirstFault profiles one → IsFirstFault profiles other → one ≡ other

-- accepted profiles have none
abbrev pub NoFault : Type 0
NoFault = (profiles : Parents) (fault : InheritanceFault) → IsAccepted profiles → ¬ IsFirstFault profiles fault

-- a profile comes to no end exactly if none of its ancestors is `default`
abbrev pub NoEnd : Type 0
NoEnd = (profiles : Parents) (name : Name) → (¬ Ends profiles name) ↔ IsEndless profiles name

-- each profile of accepted profiles has exactly one chain
abbrev pub OneChain : Type 0
OneChain = (profiles : Parents) (profile : Profile) → IsAccepted profiles → Contains profiles profile
    → (chain : List Name) × IsChain profiles profile.0 chain × ((other : List Name) → IsChain profiles profile.0 other → other ≡ chain)

-- profiles are accepted, or have a first fault
abbrev pub OneVerdict : Type 0
OneVerdict = (profiles : Parents) → IsAccepted profiles ⊎ ((fault : InheritanceFault) × IsFirstFault profiles fault)
