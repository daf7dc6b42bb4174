-- Why profiles are refused.
use Rattle.std.specs.Prelude.{◌≡◌, ◌∷◌, ◌++◌, Option, Some, ⊤, All, Contains}
use Rattle.nextest_config_resolution_inheritance.specs.Inheritance.{Name, Profile, Parents, names, SetsNoneIfReserved, KnowsParent, Ends}
use Rattle.nextest_config_resolution_inheritance.specs.declared.inheritance_error.InheritanceError.{InheritanceError}
use Rattle.nextest_config_resolution_inheritance.specs.declared.inheritance_error.InheritanceError.TheVariants.{Refused, OutOfMemory}
use Rattle.nextest_config_resolution_inheritance.specs.declared.inheritance_fault.InheritanceFault.{InheritanceFault}
use Rattle.nextest_config_resolution_inheritance.specs.declared.inheritance_fault.InheritanceFault.TheVariants.{InheritsInDefault, UnknownParent, Cycle}

-- a profile breaks a rule, and none before it does
pub record IsFirstAgainst (Rule : Profile → Type 0) (profiles : Parents) (profile : Profile) : Type 0 where
  pub front : Parents
  pub rest : Parents
  pub divided : profiles ≡ front ++ profile ∷ rest
  pub before : All Rule front
  pub breaks : ¬ Rule profile

-- the first broken rule, and the first profile that breaks it
abbrev pub IsFirstFault : Parents → InheritanceFault → Type 0
IsFirstFault profiles (InheritsInDefault name) = (parent : Name) × IsFirstAgainst SetsNoneIfReserved profiles (name, Some parent)
IsFirstFault profiles (UnknownParent name parent) = All SetsNoneIfReserved profiles × IsFirstAgainst (KnowsParent profiles) profiles (name, Some parent)
IsFirstFault profiles (Cycle name) =
    All SetsNoneIfReserved profiles × All (KnowsParent profiles) profiles
    × ((parent : Option Name) × IsFirstAgainst (λ profile. Ends profiles profile.0) profiles (name, parent))

-- the parent of a profile is none of the profiles
abbrev pub IsUnknownParent : Parents → Name → Option Name → InheritanceFault → Type 0
IsUnknownParent profiles name parent fault =
    (unknown : Name) × (parent ≡ Some unknown) × (fault ≡ UnknownParent name unknown) × ¬ Contains (names profiles) unknown

-- what a check answers; want of memory says nothing of the profiles
abbrev pub IsRefusedFor : InheritanceError → (InheritanceFault → Type 0) → Type 0
IsRefusedFor (Refused fault) Why = Why fault
IsRefusedFor OutOfMemory Why = ⊤
