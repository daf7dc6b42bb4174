-- Profiles that inherit from one another.
use Rattle.std.specs.Prelude.{◌≡◌, ◌≢◌, ℕ, zero, suc, Bool, ◌||◌, List, [], ◌∷◌, Option, None, Some, ⊤, IsTrue, IsNone, All, Contains, codes, find, map, nat_eq, slice_index_or, unwrap_or}
use Rattle.std.specs.Cmp.Lexicographic.{slice_cmp}
use Rattle.std.specs.List.{starts_with}
use Rattle.std.specs.List.Sorted.{IsStrictlySortedBy}
use Rattle.std.specs.Option.{option_and_then}
use Rattle.std.specs.Ordering.{nat_cmp}
use Rattle.std.specs.Str.{bytes_eq}

abbrev pub Name : Type 0
Name = List ℕ

-- a name, and the parent that the profile of that name sets, if it sets one
abbrev pub Profile : Type 0
Profile = Name × Option Name

-- the profiles of a configuration
abbrev pub Parents : Type 0
Parents = List Profile

abbrev pub names : Parents → List Name
names profiles = map (λ profile. profile.0) profiles

abbrev pub profile_at : Parents → ℕ → Profile
profile_at profiles place = slice_index_or profiles place ([], None)

abbrev pub name_at : Parents → ℕ → Name
name_at profiles place = (profile_at profiles place).0

abbrev pub names_at : Parents → List ℕ → List Name
names_at profiles places = map (name_at profiles) places

-- the names rise by their bytes, each above the one before it
abbrev pub Rise : Parents → Type 0
Rise profiles = IsStrictlySortedBy (slice_cmp nat_cmp) (names profiles)

abbrev pub default : Name
default = codes "default"

-- `default`, and each name that begins with `default-`
abbrev pub is_reserved : Name → Bool
is_reserved name = bytes_eq name default || starts_with nat_eq name (codes "default-")

-- the parent that the profile of a name sets, and `default` where it sets none
abbrev pub next : Parents → Name → Name
next profiles name = unwrap_or (option_and_then (λ profile. profile.1) (find (λ profile. bytes_eq name profile.0) profiles)) default

-- the name after n steps from a name to the next
abbrev pub ancestor : Parents → ℕ → Name → Name
ancestor profiles zero name = name
ancestor profiles (suc n) name = ancestor profiles n (next profiles name)

-- the steps from a name come to `default`, or never do
abbrev pub Ends : Parents → Name → Type 0
Ends profiles name = (n : ℕ) × (ancestor profiles n name ≡ default)

abbrev pub IsEndless : Parents → Name → Type 0
IsEndless profiles name = (n : ℕ) → ancestor profiles n name ≢ default

-- a profile's name, its parents' names one after another, and `default` at the end
pub data IsChain (profiles : Parents) : Name → List Name → Type 0 where
  ends : {name : Name} → name ≡ default → IsChain profiles name (name ∷ [])
  goes_on : {name : Name} {chain : List Name} → name ≢ default → IsChain profiles (next profiles name) chain → IsChain profiles name (name ∷ chain)

-- the rules: a profile whose name is reserved sets no parent
abbrev pub SetsNoneIfReserved : Profile → Type 0
SetsNoneIfReserved profile = IsTrue (is_reserved profile.0) → IsNone profile.1

-- the parent that a profile sets is one of the profiles
abbrev pub IsOneOf : Parents → Option Name → Type 0
IsOneOf profiles None = ⊤
IsOneOf profiles (Some parent) = Contains (names profiles) parent

abbrev pub KnowsParent : Parents → Profile → Type 0
KnowsParent profiles profile = IsOneOf profiles profile.1

-- each profile keeps each rule
pub record IsAccepted (profiles : Parents) : Type 0 where
  pub reserved : All SetsNoneIfReserved profiles
  pub known : All (KnowsParent profiles) profiles
  pub ending : All (λ profile. Ends profiles profile.0) profiles
