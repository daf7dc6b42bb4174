-- Profiles are accepted, or have a first fault.
use Rattle.std.proofs.Common.{◌≡◌, ◌≢◌, ℕ, zero, suc, ◌+◌, ◌<◌, ◌≤◌, List, [], ◌∷◌, length, get_or, Bool, true, false, cond, ◌||◌, Option, Some, None, refl, ap, sym, ◌∙◌, subst, ◌⊎◌, inl, inr, arith, find, filter_map, option_and_then}
use Rattle.std.proofs.lemmas.Bool.{cases_Bool}
use Rattle.std.proofs.lemmas.Bool.Decides.{not_from_Decides}
use Rattle.std.proofs.lemmas.List.Folds.{Any-from_list_any}
use Rattle.std.proofs.lemmas.Map.Keys.{IsDistinct-from_apart}
use Rattle.std.proofs.lemmas.Map.Made.{length-le_from_is_member}
use Rattle.std.proofs.lemmas.Slice.Eq.{bytes_eq-Decides}
use Rattle.std.specs.Cmp.Lexicographic.{nat_list_eq_equiv}
use Rattle.std.specs.List.{All, Contains, cons_option, list_any}
use Rattle.std.specs.Option.{unwrap_or}
use Rattle.std.specs.Str.{bytes_eq}
use Rattle.nextest_config_resolution_inheritance.specs.Inheritance.{Name, Profile, Parents, default, is_reserved, names, next, ancestor, Ends, SetsNoneIfReserved, KnowsParent, IsAccepted}
use Rattle.nextest_config_resolution_inheritance.specs.Refusals.{IsFirstAgainst, IsFirstFault}
use Rattle.nextest_config_resolution_inheritance.specs.declared.inheritance_fault.InheritanceFault.{InheritanceFault}
use Rattle.nextest_config_resolution_inheritance.specs.declared.inheritance_fault.InheritanceFault.TheVariants.{InheritsInDefault, UnknownParent, Cycle}
use Rattle.nextest_config_resolution_inheritance.proofs.Climbing.{never}

-- ---- whether a name's steps come to `default`

-- the parents that are set
abbrev set_in : Parents → List Name
set_in profiles = filter_map (λ profile. profile.1) profiles

few_more : (parent : Option Name) (set : List Name) (n : ℕ) → length set ≤ n → length (cons_option parent set) ≤ suc n
few_more None set n few = omega (arith, few)
few_more (Some parent) set n few = omega (arith, few)

few_set : (profiles : Parents) → length (set_in profiles) ≤ length profiles
few_set [] = omega arith
few_set (profile ∷ profiles) = few_more profile.1 (set_in profiles) (length profiles) (few_set profiles)

either : (a b : Bool) → b ≡ true → (a || b) ≡ true
either true b is = refl
either false b is = is

-- the parent that a profile sets, or `default`
abbrev parent_in : Option Profile → Name
parent_in found = unwrap_or (option_and_then (λ (profile : Profile). profile.1) found) default

next_more : (passes : Bool) (profile : Profile) (parent : Option Name) (found : Option Profile) (set : List Name) (name : Name) → profile.1 ≡ parent
    → name ≡ parent_in (cond passes (Some profile) found) → name ≢ default → (name ≡ parent_in found → list_any (bytes_eq name) set ≡ true)
    → list_any (bytes_eq name) (cons_option parent set) ≡ true
next_more true profile None found set name sets is other more = absurd (other (is ∙ ap (λ (o : Option Name). unwrap_or o default) sets))
next_more true profile (Some parent) found set name sets is other more =
    let same : name ≡ parent = is ∙ ap (λ (o : Option Name). unwrap_or o default) sets in
    ap (λ (b : Bool). b || list_any (bytes_eq name) set) ((bytes_eq-Decides name parent).1 same)
next_more false profile None found set name sets is other more = more is
next_more false profile (Some parent) found set name sets is other more = either (bytes_eq name parent) (list_any (bytes_eq name) set) (more is)

-- what comes next and isn't `default` is set
next_set : (test : Profile → Bool) (profiles : Parents) (name : Name) → name ≡ parent_in (find test profiles) → name ≢ default → list_any (bytes_eq name) (set_in profiles) ≡ true
next_set test [] name is other = absurd (other is)
next_set test (profile ∷ profiles) name is other =
    next_more (test profile) profile profile.1 (find test profiles) (set_in profiles) name refl is other (λ same. next_set test profiles name same other)

-- n names, each what comes after the one before
line : Parents → ℕ → Name → List Name
line profiles zero name = []
line profiles (suc n) name = name ∷ line profiles n (next profiles name)

length-line : (profiles : Parents) (n : ℕ) (name : Name) → length (line profiles n name) ≡ n
unfolding line
length-line profiles zero name = refl
length-line profiles (suc n) name = omega (arith, length-line profiles n (next profiles name))

get_or-line : (profiles : Parents) (n k : ℕ) (name d : Name) → k < n → get_or (line profiles n name) k d ≡ ancestor profiles k name
unfolding line
get_or-line profiles zero k name d within = absurd (omega (arith, within))
get_or-line profiles (suc n) zero name d within = refl
get_or-line profiles (suc n) (suc k) name d within = get_or-line profiles n k (next profiles name) d (omega (arith, within))

set_later : (profiles : Parents) (k : ℕ) (name : Name) → ancestor profiles (suc k) name ≢ default → list_any (bytes_eq (ancestor profiles (suc k) name)) (set_in profiles) ≡ true
set_later profiles zero name other = next_set (λ profile. bytes_eq name profile.0) profiles (next profiles name) refl other
set_later profiles (suc k) name other = set_later profiles k (next profiles name) other

-- what doesn't end soon never does
endless : (profiles : Parents) (name : Name) → ((k : ℕ) → k < length profiles + 2 → ancestor profiles k name ≢ default) → ¬ Ends profiles name
endless profiles name passed end =
    let many = length-le_from_is_member nat_list_eq_equiv row (set_in profiles) (IsDistinct-from_apart bytes_eq row apart) members in
    omega (arith, many, few_set profiles, length-line profiles n after)
  where
    n : ℕ
    n = length profiles + 1

    after : Name
    after = next profiles name

    row : List Name
    row = line profiles n after

    members : (q : Name) → list_any (bytes_eq q) row ≡ true → list_any (bytes_eq q) (set_in profiles) ≡ true
    members q is =
        let any = Any-from_list_any (bytes_eq q) row is in
        let k = any.0 in
        let within : k < n = omega (arith, any.2, length-line profiles n after) in
        let same : q ≡ ancestor profiles (suc k) name = (bytes_eq-Decides q any.1).0 any.4 ∙ sym any.3 ∙ get_or-line profiles n k after any.1 within in
        subst (λ (it : Name). list_any (bytes_eq it) (set_in profiles) ≡ true) (sym same) (set_later profiles k name (passed (suc k) (omega (arith, within))))

    apart : (i j : ℕ) (d : Name) → i < j → j < length row → bytes_eq (get_or row i d) (get_or row j d) ≡ false
    apart i j d below inside = by_test (bytes_eq (get_or row i d) (get_or row j d)) refl
      where
        short : j < n
        short = omega (arith, inside, length-line profiles n after)

        by_test : (b : Bool) → bytes_eq (get_or row i d) (get_or row j d) ≡ b → b ≡ false
        by_test true is =
            let again : ancestor profiles (suc i) name ≡ ancestor profiles (suc j) name =
            sym (get_or-line profiles n i after d (omega (arith, below, short))) ∙ (bytes_eq-Decides (get_or row i d) (get_or row j d)).0 is ∙ get_or-line profiles n j after d short in
            absurd (never profiles name (suc i) (suc j) (omega (arith, below)) again (λ k early. passed k (omega (arith, early, short))) (suc end.0) end.0 (omega arith) end.1)
        by_test false is = refl

soon : (profiles : Parents) (fuel : ℕ) (name : Name) → Ends profiles name ⊎ ((k : ℕ) → k < fuel → ancestor profiles k name ≢ default)
soon profiles zero name = inr (λ k short. absurd (omega (arith, short)))
soon profiles (suc fuel) name =
    elim (cases_Bool (bytes_eq name default)) [
      | inl same ↦ inl (0, (bytes_eq-Decides name default).0 same)
      | inr other ↦ elim (soon profiles fuel (next profiles name)) [
        | inl end ↦ inl (suc end.0, end.1)
        | inr later ↦ inr (both (not_from_Decides (bytes_eq name default) (bytes_eq-Decides name default) other) later)
      ]
    ]
  where
    both : name ≢ default → ((k : ℕ) → k < fuel → ancestor profiles k (next profiles name) ≢ default) → (k : ℕ) → k < suc fuel → ancestor profiles k name ≢ default
    both first later zero short = first
    both first later (suc k) short = later k (omega (arith, short))

ends_or : (profiles : Parents) (name : Name) → Ends profiles name ⊎ ¬ Ends profiles name
ends_or profiles name =
    elim (soon profiles (length profiles + 2) name) [
      | inl end ↦ inl end
      | inr passed ↦ inr (endless profiles name passed)
    ]

-- ---- the rules

reserved_or : (profile : Profile) → SetsNoneIfReserved profile ⊎ ¬ SetsNoneIfReserved profile
reserved_or (name, None) = inl (λ reserved. refl)
reserved_or (name, Some parent) =
    elim (cases_Bool (is_reserved name)) [
      | inl reserved ↦ inr (λ keeps. let none : true ≡ false = keeps reserved in cc)
      | inr apart ↦ inl (λ reserved. cc)
    ]

contains_or : (list : List Name) (name : Name) → Contains list name ⊎ ¬ Contains list name
contains_or [] name = inr (λ stands. omega (arith, stands.1))
contains_or (first ∷ list) name =
    elim (cases_Bool (bytes_eq first name)) [
      | inl same ↦ inl (0, omega arith, (bytes_eq-Decides first name).0 same)
      | inr other ↦ elim (contains_or list name) [
        | inl stands ↦ inl (suc stands.0, omega (arith, stands.1), stands.2)
        | inr missing ↦ inr (nowhere (not_from_Decides (bytes_eq first name) (bytes_eq-Decides first name) other) missing)
      ]
    ]
  where
    nowhere : first ≢ name → ¬ Contains list name → ¬ Contains (first ∷ list) name
    nowhere other missing (zero, within, is) = other is
    nowhere other missing (suc k, within, is) = missing (k, omega (arith, within), is)

known_or : (profiles : Parents) (profile : Profile) → KnowsParent profiles profile ⊎ ¬ KnowsParent profiles profile
known_or profiles (name, None) = inl tt
known_or profiles (name, Some parent) = contains_or (names profiles) parent

-- all keep a rule, or one is the first against it
abbrev All_or : (Profile → Type 0) → Parents → Type 0
All_or Rule profiles = All Rule profiles ⊎ ((profile : Profile) × IsFirstAgainst Rule profiles profile)

one_more : (Rule : Profile → Type 0) (profile : Profile) (profiles : Parents) → Rule profile → All Rule profiles → All Rule (profile ∷ profiles)
one_more Rule profile profiles first rest zero d within = first
one_more Rule profile profiles first rest (suc k) d within = rest k d (omega (arith, within))

all_or : (Rule : Profile → Type 0) → ((profile : Profile) → Rule profile ⊎ ¬ Rule profile) → (profiles : Parents) → All_or Rule profiles
all_or Rule decide [] = inl (λ k d within. absurd (omega (arith, within)))
all_or Rule decide (profile ∷ profiles) =
    elim (decide profile) [
      | inr breaks ↦ inr (
        profile,
        record {
          front = [];
          rest = profiles;
          divided = refl;
          before = λ k d within. absurd (omega (arith, within));
          breaks = breaks;
        },
      )
      | inl keeps ↦ elim (all_or Rule decide profiles) [
        | inl all ↦ inl (one_more Rule profile profiles keeps all)
        | inr (other, first) ↦ inr (
          other,
          record {
            front = profile ∷ first.front;
            rest = first.rest;
            divided = ap (λ (list : Parents). profile ∷ list) first.divided;
            before = one_more Rule profile first.front keeps first.before;
            breaks = first.breaks;
          },
        )
      ]
    ]

-- ---- the verdict

abbrev Verdict : Parents → Type 0
Verdict profiles = IsAccepted profiles ⊎ ((fault : InheritanceFault) × IsFirstFault profiles fault)

reserved_fault : (profiles : Parents) (profile : Profile) → IsFirstAgainst SetsNoneIfReserved profiles profile → (fault : InheritanceFault) × IsFirstFault profiles fault
reserved_fault profiles (name, None) first = absurd (first.breaks (λ reserved. refl))
reserved_fault profiles (name, Some parent) first = (InheritsInDefault name, (parent, first))

unknown_fault : (profiles : Parents) (profile : Profile) → All SetsNoneIfReserved profiles → IsFirstAgainst (KnowsParent profiles) profiles profile
    → (fault : InheritanceFault) × IsFirstFault profiles fault
unknown_fault profiles (name, None) reserved first = absurd (first.breaks tt)
unknown_fault profiles (name, Some parent) reserved first = (UnknownParent name parent, (reserved, first))

pub one_verdict : (profiles : Parents) → IsAccepted profiles ⊎ ((fault : InheritanceFault) × IsFirstFault profiles fault)
one_verdict profiles =
    elim (all_or SetsNoneIfReserved reserved_or profiles) [
      | inr (profile, first) ↦ inr (reserved_fault profiles profile first)
      | inl reserved ↦ elim (all_or (KnowsParent profiles) (known_or profiles) profiles) [
        | inr (profile, first) ↦ inr (unknown_fault profiles profile reserved first)
        | inl known ↦ elim (all_or (λ profile. Ends profiles profile.0) (λ profile. ends_or profiles profile.0) profiles) [
          | inr (profile, first) ↦ inr (Cycle profile.0, (reserved, known, (profile.1, first)))
          | inl ending ↦ inl (record { reserved = reserved; known = known; ending = ending })
        ]
      ]
    ]
