-- The stages of the check, and the look-up of what comes next.
use Rattle.std.proofs.Common.{◌≡◌, ℕ, ◌<◌, List, length, get_or, true, false, Option, Some, None, refl, ap, sym, ◌∙◌, subst, arith, is_some, IsSome, IfNone, option_copied}
use denote.Ref.{Bor}
use Rattle.std.specs.List.{All, Contains}
use Rattle.std.specs.Option.{unwrap_or}
use Rattle.nextest_config_resolution_inheritance.specs.Inheritance.{Name, Profile, Parents, default, is_reserved, names, SetsNoneIfReserved, KnowsParent, IsOneOf, profile_at, name_at}
use Rattle.nextest_config_resolution_inheritance.specs.Places.{IsPlaceOf, ArePlaces}
use Rattle.nextest_config_resolution_inheritance.specs.Refusals.{IsFirstAgainst, IsFirstFault, IsRefusedFor, IsUnknownParent}
use Rattle.nextest_config_resolution_inheritance.specs.declared.inheritance_error.InheritanceError.{InheritanceError}
use Rattle.nextest_config_resolution_inheritance.specs.declared.inheritance_error.InheritanceError.TheVariants.{Refused, OutOfMemory}
use Rattle.nextest_config_resolution_inheritance.specs.declared.inheritance_fault.InheritanceFault.{InheritanceFault}
use Rattle.nextest_config_resolution_inheritance.specs.declared.inheritance_fault.InheritanceFault.TheVariants.{UnknownParent}
use Rattle.nextest_config_resolution_inheritance.proofs.Following.{first_at}
use Rattle.nextest_config_resolution_inheritance.proofs.Found.{all_at, at_all, name_in, length_names}

-- ---- reserved names

pub reserved_first : (all : Parents) (k : ℕ) (name told : Name) (parent : Option Name) (lent : Option (Bor Name)) → k < length all → profile_at all k ≡ (name, parent)
    → option_copied lent ≡ parent → is_some lent ≡ true → is_reserved name ≡ true → ((j : ℕ) → j < k → SetsNoneIfReserved (profile_at all j)) → told ≡ name
    → (x : Name) × IsFirstAgainst SetsNoneIfReserved all (told, Some x)
reserved_first all k name told parent None within is gives set reserved before same = cc
reserved_first all k name told parent (Some x) within is gives set reserved before same =
    let here : profile_at all k ≡ (told, Some x.now) = is ∙ cc (gives, same) in (
      x.now,
      subst (λ (it : Profile). IsFirstAgainst SetsNoneIfReserved all it) here
          (first_at SetsNoneIfReserved all k within before (λ keeps. breaks (subst SetsNoneIfReserved here keeps))),
    )
  where
    breaks : SetsNoneIfReserved (told, Some x.now) → ⊥
    breaks keeps = let none : true ≡ false = keeps (ap is_reserved same ∙ reserved) in cc

pub not_reserved : (all : Parents) (k : ℕ) (name : Name) (parent : Option Name) → profile_at all k ≡ (name, parent) → is_reserved name ≡ false → SetsNoneIfReserved (profile_at all k)
not_reserved all k name parent is apart = subst SetsNoneIfReserved (sym is) (λ reserved. cc)

pub sets_none : (all : Parents) (k : ℕ) (name : Name) (parent : Option Name) (lent : Option (Bor Name)) → profile_at all k ≡ (name, parent)
    → option_copied lent ≡ parent → is_some lent ≡ false → SetsNoneIfReserved (profile_at all k)
sets_none all k name parent None is gives unset = subst SetsNoneIfReserved (sym is) (λ reserved. ap is_some (sym gives))
sets_none all k name parent (Some x) is gives unset = cc

-- ---- parents

contains_at : (all : Parents) (place : ℕ) (name : Name) → place < length all → name_at all place ≡ name → Contains (names all) name
contains_at all place name within is = (place, omega (arith, within, length_names all), name_in all place name within ∙ is)

place_known : (all : Parents) (parent : Option Name) (place : ℕ) → IsPlaceOf all parent place → IsOneOf all parent
place_known all None place is = tt
place_known all (Some parent) place is = contains_at all place parent is.0 is.1

pub all_known : (all : Parents) (places : List ℕ) → ArePlaces all places → All (KnowsParent all) all
all_known all places are = all_at (KnowsParent all) all (λ k within. place_known all (profile_at all k).1 (get_or places k 0) (are.placed k within))

pub unknown_first : (all : Parents) (places : List ℕ) (k : ℕ) (name : Name) (parent : Option Name) (error : InheritanceError) → k < length all → profile_at all k ≡ (name, parent)
    → All SetsNoneIfReserved all → ((j : ℕ) → j < k → IsPlaceOf all (profile_at all j).1 (get_or places j 0))
    → IsRefusedFor error (IsUnknownParent all name parent) → IsRefusedFor error (IsFirstFault all)
unknown_first all places k name parent OutOfMemory within is reserved before told = tt
unknown_first all places k name parent (Refused fault) within is reserved before (unknown, set, names_it, missing) =
    let here : profile_at all k ≡ (name, Some unknown) = is ∙ ap (λ (o : Option Name). let p : Profile = (name, o) in p) set in
    let first : IsFirstFault all (UnknownParent name unknown) = (
      reserved,
      subst (λ (it : Profile). IsFirstAgainst (KnowsParent all) all it) here
          (first_at (KnowsParent all) all k within (λ j below. place_known all (profile_at all j).1 (get_or places j 0) (before j below))
          (λ knows. missing (subst (KnowsParent all) here knows))),
    ) in
    subst (λ (it : InheritanceFault). IsFirstFault all it) (sym names_it) first

-- ---- what comes next

-- the parent that is set, or `default`, is one of the profiles
pub next_known : (all : Parents) (k : ℕ) → All (KnowsParent all) all → Contains (names all) default → k < length all → Contains (names all) (unwrap_or (profile_at all k).1 default)
next_known all k known has_default within = by_parent (profile_at all k).1 (at_all (KnowsParent all) all known k within)
  where
    by_parent : (parent : Option Name) → IsOneOf all parent → Contains (names all) (unwrap_or parent default)
    by_parent None is = has_default
    by_parent (Some parent) is = is

pub found_some : (all : Parents) (name : Name) (o : Option ℕ) → IfNone o (¬ Contains (names all) name) → Contains (names all) name → IsSome o
found_some all name None missing stands = absurd (missing stands)
found_some all name (Some place) missing stands = refl

pub parent_text : (lent : Option (Bor Name)) (parent : Option Name) (r d : Bor Name) → r ≡ unwrap_or lent d → option_copied lent ≡ parent → d.now ≡ default
    → r.now ≡ unwrap_or parent default
parent_text None parent r d is gives last = ap (λ (b : Bor Name). b.now) is ∙ last ∙ ap (λ (o : Option Name). unwrap_or o default) gives
parent_text (Some x) parent r d is gives last = ap (λ (b : Bor Name). b.now) is ∙ ap (λ (o : Option Name). unwrap_or o default) gives
