-- Names are refused by the first with which something is wrong.
use Rattle.std.proofs.Common.{◌≡◌, ◌↔◌, ◌==◌, ℕ, Bool, true, false, List, [], ◌∷◌, ◌++◌, length, Option, Some, None, refl, sym, ap, ◌∙◌, subst, ◌⊎◌, inl, inr, append_assoc, append-nil}
use Rattle.test_runner_core_workspace.specs.Workspace.{is_among, has_separator}
use Rattle.test_runner_core_listing.specs.Laws.{AreAccepted, IsRefusedBy, fault_behind}
use Rattle.test_runner_core_listing.specs.Listing.{refused_name}
use Rattle.test_runner_core_listing.specs.declared.listing_fault.ListingFault.{ListingFault}
use Rattle.test_runner_core_listing.proofs.OneByOne.{from_name}

-- a fault that was found, or else what comes later
abbrev or_later : Option ListingFault → Option ListingFault → Option ListingFault
or_later None later = later
or_later (Some fault) later = Some fault

by_tests : (empty bad repeated : Bool) (later : Option ListingFault) → from_name empty bad repeated later ≡ or_later (from_name empty bad repeated None) later
by_tests true bad repeated later = refl
by_tests false true repeated later = refl
by_tests false false true later = refl
by_tests false false false later = refl

-- what is refused from a name on
at_first : (front : List (List ℕ)) (name : List ℕ) (names : List (List ℕ))
    → refused_name front (name ∷ names) ≡ or_later (fault_behind front name) (refused_name (front ++ name ∷ []) names)
at_first front name names = by_tests (length name == 0) (has_separator name) (is_among front name) (refused_name (front ++ name ∷ []) names)

-- nothing is wrong with names behind others
abbrev AcceptedFrom : List (List ℕ) → List (List ℕ) → Type 0
AcceptedFrom front [] = Unit {0}
AcceptedFrom front (name ∷ names) = (fault_behind front name ≡ None) × AcceptedFrom (front ++ name ∷ []) names

-- such names are passed
passed : (front names rest : List (List ℕ)) → AcceptedFrom front names → refused_name front (names ++ rest) ≡ refused_name (front ++ names) rest
passed front [] rest h = ap (λ (before : List (List ℕ)). refused_name before rest) (sym (append-nil front))
passed front (name ∷ names) rest h =
    at_first front name (names ++ rest)
    ∙ ap (λ (o : Option ListingFault). or_later o (refused_name (front ++ name ∷ []) (names ++ rest))) h.0
    ∙ passed (front ++ name ∷ []) names rest h.1
    ∙ ap (λ (before : List (List ℕ)). refused_name before rest) (append_assoc front (name ∷ []) names)

-- the first with which something is wrong, behind others
record RefusedFrom (front names : List (List ℕ)) (fault : ListingFault) : Type 0 where
  before : List (List ℕ)
  name : List ℕ
  behind : List (List ℕ)
  division : names ≡ before ++ name ∷ behind
  all_before : AcceptedFrom front before
  own_fault : fault_behind (front ++ before) name ≡ Some fault

first_fault : (front names : List (List ℕ)) → AcceptedFrom front names ⊎ ((fault : ListingFault) × RefusedFrom front names fault)
first_fault front [] = inl tt
first_fault front (name ∷ names) = by_fault (fault_behind front name) refl (first_fault (front ++ name ∷ []) names)
  where
    by_fault : (o : Option ListingFault) → fault_behind front name ≡ o
        → AcceptedFrom (front ++ name ∷ []) names ⊎ ((fault : ListingFault) × RefusedFrom (front ++ name ∷ []) names fault)
        → AcceptedFrom front (name ∷ names) ⊎ ((fault : ListingFault) × RefusedFrom front (name ∷ names) fault)
    by_fault (Some fault) e later = inr (
      fault,
      record {
        before = [];
        name = name;
        behind = names;
        division = refl;
        all_before = tt;
        own_fault = ap (λ (before : List (List ℕ)). fault_behind before name) (append-nil front) ∙ e;
      },
    )
    by_fault None e (inl all) = inl (e, all)
    by_fault None e (inr later) =
        let it = later.1 in
        inr (
          later.0,
          record {
            before = name ∷ it.before;
            name = it.name;
            behind = it.behind;
            division = ap (λ (rest : List (List ℕ)). name ∷ rest) it.division;
            all_before = (e, it.all_before);
            own_fault = ap (λ (before : List (List ℕ)). fault_behind before it.name) (sym (append_assoc front (name ∷ []) it.before)) ∙ it.own_fault;
          },
        )

-- one after another, and by divisions
each_accepted : (front names : List (List ℕ)) → AcceptedFrom front names
    → (before : List (List ℕ)) (name : List ℕ) (behind : List (List ℕ)) → names ≡ before ++ name ∷ behind → fault_behind (front ++ before) name ≡ None
each_accepted front [] h [] name behind e = cc
each_accepted front [] h (first ∷ before) name behind e = cc
each_accepted front (first ∷ names) h [] name behind e =
    let same : first ≡ name = cc in
    subst (λ (n : List ℕ). fault_behind (front ++ []) n ≡ None) same (ap (λ (before : List (List ℕ)). fault_behind before first) (append-nil front) ∙ h.0)
each_accepted front (first ∷ names) h (other ∷ before) name behind e =
    let same : first ≡ other = cc in
    let rest : names ≡ before ++ name ∷ behind = cc in
    subst (λ (n : List ℕ). fault_behind (front ++ n ∷ before) name ≡ None) same
    (ap (λ (some : List (List ℕ)). fault_behind some name) (sym (append_assoc front (first ∷ []) before))
    ∙ each_accepted (front ++ first ∷ []) names h.1 before name behind rest)

all_accepted : (front names : List (List ℕ))
    → ((before : List (List ℕ)) (name : List ℕ) (behind : List (List ℕ)) → names ≡ before ++ name ∷ behind → fault_behind (front ++ before) name ≡ None)
    → AcceptedFrom front names
all_accepted front [] h = tt
all_accepted front (first ∷ names) h = (
  ap (λ (before : List (List ℕ)). fault_behind before first) (sym (append-nil front)) ∙ h [] first names refl,
  all_accepted (front ++ first ∷ []) names (λ before name behind e.
      ap (λ (some : List (List ℕ)). fault_behind some name) (append_assoc front (first ∷ []) before)
      ∙ h (first ∷ before) name behind (ap (λ (rest : List (List ℕ)). first ∷ rest) e)),
)

refused_at : (names : List (List ℕ)) (fault : ListingFault) → RefusedFrom [] names fault → refused_name [] names ≡ Some fault
refused_at names fault it =
    ap (refused_name []) it.division
    ∙ passed [] it.before (it.name ∷ it.behind) it.all_before
    ∙ at_first it.before it.name it.behind
    ∙ ap (λ (o : Option ListingFault). or_later o (refused_name (it.before ++ it.name ∷ []) it.behind)) it.own_fault

none_refused : (names : List (List ℕ)) → AcceptedFrom [] names → refused_name [] names ≡ None
none_refused names h = ap (refused_name []) (sym (append-nil names)) ∙ passed [] names [] h

pub refuses_by_first : (names : List (List ℕ)) (fault : ListingFault) → (refused_name [] names ≡ Some fault) ↔ IsRefusedBy names fault
refuses_by_first names fault = (
  λ is.
      elim (first_fault [] names) [
        | inl all ↦ let none = none_refused names all in cc
        | inr found ↦
            let it = found.1 in
            let told = refused_at names found.0 it in
            let same : found.0 ≡ fault = cc in
            subst (IsRefusedBy names) same
            (record {
              before = it.before;
              name = it.name;
              behind = it.behind;
              division = it.division;
              all_before = each_accepted [] it.before it.all_before;
              own_fault = it.own_fault;
            })
      ],
  λ it.
      refused_at names fault
      (record {
        before = it.before;
        name = it.name;
        behind = it.behind;
        division = it.division;
        all_before = all_accepted [] it.before it.all_before;
        own_fault = it.own_fault;
      }),
)

pub accepts_else : (names : List (List ℕ)) → (refused_name [] names ≡ None) ↔ AreAccepted names
accepts_else names = (
  λ is.
      elim (first_fault [] names) [
        | inl all ↦ each_accepted [] names all
        | inr found ↦ let told = refused_at names found.0 found.1 in let no : Some found.0 ≡ None = sym told ∙ is in cc
      ],
  λ h. none_refused names (all_accepted [] names h),
)
