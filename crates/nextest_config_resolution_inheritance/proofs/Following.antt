-- Steps from name to name, beside steps from place to place.
use Rattle.std.proofs.Common.{◌≡◌, ◌≢◌, ℕ, zero, suc, ◌<◌, ◌≤◌, List, [], ◌++◌, length, get_or, take, drop, Option, Some, None, refl, ap, sym, ◌∙◌, subst, arith, IsNone, IsTrue}
use Rattle.std.proofs.Math.Seq.{drop-cons}
use Rattle.std.proofs.lemmas.List.{get_or_default, get_or-take, take-append-drop, length-take}
use Rattle.std.specs.List.{All}
use Rattle.std.specs.Option.{unwrap_or}
use Rattle.nextest_config_resolution_inheritance.specs.Inheritance.{Name, Profile, Parents, Rise, default, is_reserved, next, ancestor, Ends, SetsNoneIfReserved, KnowsParent, profile_at, name_at}
use Rattle.nextest_config_resolution_inheritance.specs.Places.{IsPlaceOf, ArePlaces, after, Leaves, IsFirstEndless}
use Rattle.nextest_config_resolution_inheritance.specs.Refusals.{IsFirstAgainst, IsFirstFault}
use Rattle.nextest_config_resolution_inheritance.specs.declared.inheritance_fault.InheritanceFault.TheVariants.{Cycle}
use Rattle.nextest_config_resolution_inheritance.proofs.Found.{all_at, at_all, is_at, next_at}

-- the first place against a rule
pub first_at : (Rule : Profile → Type 0) (all : Parents) (k : ℕ) → k < length all → ((j : ℕ) → j < k → Rule (profile_at all j)) → ¬ Rule (profile_at all k)
    → IsFirstAgainst Rule all (profile_at all k)
first_at Rule all k within each breaks = record {
  front = take k all;
  rest = drop (suc k) all;
  divided = sym (take-append-drop k all) ∙ ap (λ (rest : Parents). take k all ++ rest) (drop-cons all k ([], None) within);
  before = λ j d inside.
      let below : j < k = omega (arith, inside, length-take {A = Profile}) in
      subst Rule (sym (get_or-take k all j d below ∙ is_at all j d (omega (arith, below, within)))) (each j below);
  breaks = breaks;
}

-- what is known of the profiles, and the places of their parents
pub record Placed (all : Parents) (places : List ℕ) : Type 0 where
  pub rise : Rise all
  pub reserved : All SetsNoneIfReserved all
  pub parents : ArePlaces all places

-- from a place to the name that comes next
data Step (all : Parents) (places : List ℕ) (k : ℕ) : Type 0 where
  over : length places ≤ get_or places k (length places) → next all (name_at all k) ≡ default → Step all places k
  on : get_or places k (length places) < length all → next all (name_at all k) ≡ name_at all (get_or places k (length places))
      → (profile_at all k).1 ≢ None → Step all places k

step : (all : Parents) (places : List ℕ) (k : ℕ) → Placed all places → k < length all → Step all places k
step all places k placed within = by_parent (profile_at all k).1 refl
  where
    place : ℕ
    place = get_or places k (length places)

    is_place : IsPlaceOf all (profile_at all k).1 (get_or places k (length places))
    is_place = subst (λ (p : ℕ). IsPlaceOf all (profile_at all k).1 p) (get_or_default places k 0 (length places) (omega (arith, placed.parents.each, within))) (placed.parents.placed k within)

    by_parent : (parent : Option Name) → (profile_at all k).1 ≡ parent → Step all places k
    by_parent None is =
        let past = subst (λ (o : Option Name). IsPlaceOf all o (get_or places k (length places))) is is_place in
        over (omega (arith, past, placed.parents.each)) (next_at all k placed.rise within ∙ ap (λ (o : Option Name). unwrap_or o default) is)
    by_parent (Some parent) is =
        let there = subst (λ (o : Option Name). IsPlaceOf all o (get_or places k (length places))) is is_place in
        on there.0 (next_at all k placed.rise within ∙ ap (λ (o : Option Name). unwrap_or o default) is ∙ sym there.1) (λ none. cc)

-- where the places come to an end, so do the names
pub leaves_ends : (all : Parents) (places : List ℕ) (n k : ℕ) → Placed all places → k < length all → length places ≤ after places n k → Ends all (name_at all k)
leaves_ends all places zero k placed within past = absurd (omega (arith, past, within, placed.parents.each))
leaves_ends all places (suc n) k placed within past =
    elim (step all places k placed within) [
      | over gone is ↦ (1, is)
      | on inside is some ↦
          let rest = leaves_ends all places n (get_or places k (length places)) placed inside past in
          (suc rest.0, subst (λ (name : Name). ancestor all rest.0 name ≡ default) (sym is) rest.1)
    ]

none_of : (o : Option Name) → IsNone o → o ≡ None
none_of None is = refl
none_of (Some name) is = cc

-- `default` sets no parent
none_set : (all : Parents) (k : ℕ) → All SetsNoneIfReserved all → k < length all → name_at all k ≡ default → (profile_at all k).1 ≡ None
none_set all k reserved within is =
    none_of (profile_at all k).1 (at_all SetsNoneIfReserved all reserved k within (subst (λ (name : Name). IsTrue (is_reserved name)) (sym is) refl))

-- and the other way round
pub ends_leaves : (all : Parents) (places : List ℕ) (n k : ℕ) → Placed all places → k < length all → ancestor all n (name_at all k) ≡ default → Leaves places k
ends_leaves all places zero k placed within ended =
    elim (step all places k placed within) [
      | over gone is ↦ (1, gone)
      | on inside is some ↦ absurd (some (none_set all k placed.reserved within ended))
    ]
ends_leaves all places (suc n) k placed within ended =
    elim (step all places k placed within) [
      | over gone is ↦ (1, gone)
      | on inside is some ↦
          let rest = ends_leaves all places n (get_or places k (length places)) placed inside (subst (λ (name : Name). ancestor all n name ≡ default) is ended) in
          (suc rest.0, rest.1)
    ]

-- all come to an end, or the first that doesn't is the fault
pub all_end : (all : Parents) (places : List ℕ) → Placed all places → IsFirstEndless places None → All (λ profile. Ends all profile.0) all
all_end all places placed leave = all_at (λ profile. Ends all profile.0) all (λ k within.
    let left = leave k (omega (arith, within, placed.parents.each)) in leaves_ends all places left.0 k placed within left.1)

pub endless : (all : Parents) (places : List ℕ) (k : ℕ) → Placed all places → All (KnowsParent all) all → IsFirstEndless places (Some k) → IsFirstFault all (Cycle (name_at all k))
endless all places k placed known first =
    let within : k < length all = omega (arith, first.0, placed.parents.each) in (
      placed.reserved,
      known,
      (
        (profile_at all k).1,
        first_at (λ profile. Ends all profile.0) all k within
            (λ j below. let left = first.2 j below in leaves_ends all places left.0 j placed (omega (arith, below, within)) left.1)
            (λ ends. first.1 (ends_leaves all places ends.0 k placed within ends.1)),
      ),
    )
