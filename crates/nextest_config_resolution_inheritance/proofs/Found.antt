-- Profiles by their names, which rise.
use Rattle.std.proofs.Common.{◌≡◌, ◌≢◌, ℕ, zero, suc, ◌<◌, ◌≤◌, List, [], ◌∷◌, length, get_or, Bool, true, false, cond, Option, Some, None, Result, Ok, Err, refl, ap, sym, ◌∙◌, subst, inl, inr, arith, IfSome, IfNone, find, option_and_then}
use Rattle.std.specs.Option.{unwrap_or}
use denote.Param.Members.{Mut}
use denote.Ref.{Bor}
use Rattle.std.proofs.lemmas.Bool.{cases_lt}
use Rattle.std.proofs.lemmas.Fn.{always_returns_same}
use Rattle.std.proofs.lemmas.Cmp.{nat_list_cmp_total, tied_itself}
use Rattle.std.proofs.lemmas.List.{get_or_default, get_or-map, length-map}
use Rattle.std.proofs.lemmas.Map.Keys.{Less-from_sorted}
use Rattle.std.proofs.lemmas.Map.Text.{is_eq-slice_cmp}
use Rattle.std.proofs.lemmas.Slice.Eq.{bytes_eq-Decides}
use Rattle.std.specs.Cmp.Lexicographic.{slice_cmp}
use Rattle.std.specs.Fn.{Called, ComputesKey}
use Rattle.std.specs.List.{All, Contains}
use Rattle.std.specs.List.Sorted.{IsBinarySearchResult, IsNonDecreasingBy, IsSearchInRange}
use Rattle.std.specs.Ordering.{is_eq, nat_cmp, ordering_index}
use Rattle.std.specs.Result.{result_ok}
use Rattle.std.specs.Str.{bytes_eq}
use Rattle.std.specs.declared.cmp.Ordering.{Ordering}
use Rattle.std.specs.declared.cmp.Ordering.TheVariants.{Less, Equal, Greater}
use Rattle.nextest_config_resolution_inheritance.specs.Inherits.{parents_in}
use Rattle.nextest_config_resolution_inheritance.specs.Inheritance.{Name, Profile, Parents, Rise, default, names, next, profile_at, name_at}

abbrev pub text_cmp : Name → Name → Ordering
text_cmp = slice_cmp nat_cmp

-- ---- names and their order

pub name_in : (all : Parents) (k : ℕ) (e : Name) → k < length all → get_or (names all) k e ≡ name_at all k
name_in all k e within = get_or-map (λ (profile : Profile). profile.0) all k ([], None) e within

pub length_names : (all : Parents) → length (names all) ≡ length all
length_names all = length-map all (λ (profile : Profile). profile.0)

pub is_at : (all : Parents) (k : ℕ) (d : Profile) → k < length all → get_or all k d ≡ profile_at all k
is_at all k d within = get_or_default all k d ([], None) within

-- what holds at each place holds of all
pub all_at : (P : Profile → Type 0) (all : Parents) → ((k : ℕ) → k < length all → P (profile_at all k)) → All P all
all_at P all each k d within = subst P (sym (is_at all k d within)) (each k within)

pub at_all : (P : Profile → Type 0) (all : Parents) → All P all → (k : ℕ) → k < length all → P (profile_at all k)
at_all P all each k within = each k ([], None) within

-- an earlier name is less
pub rising : (all : Parents) (i j : ℕ) → Rise all → i < j → j < length all → text_cmp (name_at all i) (name_at all j) ≡ Less
rising all i j rise below within =
    subst (λ (y : Name). text_cmp (name_at all i) y ≡ Less) (name_in all j [] within)
    (subst (λ (x : Name). text_cmp x (get_or (names all) j []) ≡ Less) (name_in all i [] (omega (arith, below, within)))
    (Less-from_sorted text_cmp (names all) i j [] rise below (omega (arith, within, length_names all))))

less_apart : (x y : Name) → text_cmp x y ≡ Less → x ≢ y
less_apart x y less is =
    let tied : text_cmp x y ≡ Equal = subst (λ (z : Name). text_cmp x z ≡ Equal) is (tied_itself nat_list_cmp_total x) in cc

tied_same : (x y : Name) → text_cmp x y ≡ Equal → x ≡ y
tied_same x y tied = (bytes_eq-Decides x y).0 (sym (is_eq-slice_cmp x y) ∙ ap is_eq tied)

-- a name stands at one place
pub one_place : (all : Parents) (i j : ℕ) → Rise all → i < length all → j < length all → name_at all i ≡ name_at all j → i ≡ j
one_place all i j rise within inside same =
    elim (cases_lt i j) [
      | inl below ↦ absurd (less_apart (name_at all i) (name_at all j) (rising all i j rise below inside) same)
      | inr from ↦ elim (cases_lt j i) [
        | inl above ↦ absurd (less_apart (name_at all j) (name_at all i) (rising all j i rise above within) (sym same))
        | inr upto ↦ omega (arith, from, upto)
      ]
    ]

-- ---- the search by halves

falls : (all : Parents) (name : Name) → Rise all → (i j : ℕ) → i ≤ j → j < length all
    → ordering_index (text_cmp (name_at all i) name) ≤ ordering_index (text_cmp (name_at all j) name)
falls all name rise i j upto within =
    elim (cases_lt i j) [
      | inl below ↦ by_order (text_cmp (name_at all j) name) refl below
      | inr from ↦
          let same : i ≡ j = omega (arith, upto, from) in
          subst (λ (k : ℕ). ordering_index (text_cmp (name_at all i) name) ≤ ordering_index (text_cmp (name_at all k) name)) same (omega arith)
    ]
  where
    most : (o : Ordering) → ordering_index o ≤ 2
    most Less = omega arith
    most Equal = omega arith
    most Greater = omega arith

    none : (o : Ordering) → o ≡ Less → ordering_index o ≤ 0
    none o is = omega (arith, ap ordering_index is)

    by_order : (o : Ordering) → text_cmp (name_at all j) name ≡ o → i < j → ordering_index (text_cmp (name_at all i) name) ≤ ordering_index o
    by_order Less is below = none (text_cmp (name_at all i) name) (nat_list_cmp_total.trans (name_at all i) (name_at all j) name (rising all i j rise below within) is)
    by_order Equal is below =
        let least : ordering_index (text_cmp (name_at all i) name) ≤ 0 = none (text_cmp (name_at all i) name)
        (subst (λ (y : Name). text_cmp (name_at all i) y ≡ Less) (tied_same (name_at all j) name is) (rising all i j rise below within)) in omega (arith, least)
    by_order Greater is below = most (text_cmp (name_at all i) name)

-- values with a profile each
module _ {P : Type 0} (name_of : P → Name) (parent_of : P → Option Name) where
  abbrev told : P → Profile
  told value = (name_of value, parent_of value)

  abbrev all_of : List P → Parents
  all_of values = parents_in name_of parent_of values

  pub length_all : (values : List P) → length (all_of values) ≡ length values
  length_all values = length-map values told

  told_at : (values : List P) (k : ℕ) (d : P) → k < length values → profile_at (all_of values) k ≡ told (get_or values k d)
  told_at values k d within = get_or-map told values k d ([], None) within

  -- the profile of the value at a place
  pub standing : (values : List P) (k : ℕ) (value : P) → k < length values → value ≡ get_or values k value → profile_at (all_of values) k ≡ (name_of value, parent_of value)
  standing values k value within is = told_at values k value within ∙ ap told (sym is)

  -- and its name
  pub named : (values : List P) (k : ℕ) (value : P) → k < length values → value ≡ get_or values k value → name_at (all_of values) k ≡ name_of value
  named values k value within is = ap (λ (p : Profile). p.0) (standing values k value within is)

  abbrev pub order_by : Name → P → Ordering
  order_by name value = text_cmp (name_of value) name

  orders_rise : (values : List P) (name : Name) → Rise (all_of values) → IsNonDecreasingBy (λ value. ordering_index (order_by name value)) values
  orders_rise values name rise i j d upto within =
      subst (λ (p : Profile). ordering_index (text_cmp p.0 name) ≤ ordering_index (order_by name (get_or values j d))) (told_at values i d (omega (arith, upto, within)))
      (subst (λ (p : Profile). ordering_index (text_cmp (name_at (all_of values) i) name) ≤ ordering_index (text_cmp p.0 name)) (told_at values j d within)
      (falls (all_of values) name rise i j upto (omega (arith, within, length_all values))))

  pub found : (values : List P) (name : Name) (r : Result ℕ ℕ) → IsSearchInRange r (length values) → IsBinarySearchResult (order_by name) values r
      → IfSome (result_ok r) (λ place. name_at (all_of values) place ≡ name)
  found [] name (Ok place) within given = absurd (omega (arith, within))
  found (value ∷ values) name (Ok place) within given =
      ap (λ (p : Profile). p.0) (told_at (value ∷ values) place value within) ∙ tied_same (name_of (get_or (value ∷ values) place value)) name (given value)
  found values name (Err place) within given = tt

  nowhere : (values : List P) (name : Name) (place : ℕ) → Rise (all_of values) → IsBinarySearchResult (order_by name) values (Err place)
      → ¬ Contains (names (all_of values)) name
  nowhere [] name place rise given stands = omega (arith, stands.1)
  nowhere (value ∷ values) name place rise given stands =
      let all = all_of (value ∷ values) in
      let point = given (orders_rise (value ∷ values) name rise) in
      let k = stands.0 in
      let inside : k < length all = omega (arith, stands.1, length_names all) in
      let within : k < length (value ∷ values) = omega (arith, inside, length_all (value ∷ values)) in
      let is : name_of (get_or (value ∷ values) k value) ≡ name =
      ap (λ (p : Profile). p.0) (sym (told_at (value ∷ values) k value within)) ∙ sym (name_in all k name inside) ∙ stands.2 in
      let tied : order_by name (get_or (value ∷ values) k value) ≡ Equal =
      subst (λ (x : Name). text_cmp x name ≡ Equal) (sym is) (tied_itself nat_list_cmp_total name) in
      elim (cases_lt k place) [
        | inl below ↦
            let less = point.0 k value (omega arith) below in cc (less, tied)
        | inr from ↦
            let more = point.1 k value from within in cc (more, tied)
      ]

  pub missing : (values : List P) (name : Name) (r : Result ℕ ℕ) → Rise (all_of values) → IsBinarySearchResult (order_by name) values r
      → IfNone (result_ok r) (¬ Contains (names (all_of values)) name)
  missing values name (Ok place) rise given = tt
  missing values name (Err place) rise given = λ stands. nowhere values name place rise given stands

  -- what the search's clause says, where each call compares
  pub searched : {F : Type 0} {g : Mut F (Bor P × Unit {0}) Ordering} {f : F} (values : List P) (name : Name) (r : Result ℕ ℕ)
      → ((order : P → Ordering) → ComputesKey g order f → IsBinarySearchResult order values r)
      → ((a : Bor P × Unit {0}) (o : Ordering) (f' : F) → Called g f a o f' → (o ≡ text_cmp (name_of a.0.now) name) × (f' ≡ f)) → IsBinarySearchResult (order_by name) values r
  searched {g = g} {f = f} values name r clause compares = clause (order_by name) (always_returns_same g (λ a o. o ≡ order_by name a.0.now) f compares)

-- ---- the profile of a name

-- the first that passes a test
pub find_at : {X : Type 0} (test : X → Bool) (xs : List X) (k : ℕ) (d : X) → k < length xs → test (get_or xs k d) ≡ true
    → ((j : ℕ) → j < k → test (get_or xs j d) ≡ false) → find test xs ≡ Some (get_or xs k d)
find_at test [] k d within it apart = absurd (omega (arith, within))
find_at test (x ∷ xs) zero d within it apart = ap (λ (b : Bool). cond b (Some x) (find test xs)) it
find_at test (x ∷ xs) (suc k) d within it apart =
    ap (λ (b : Bool). cond b (Some x) (find test xs)) (apart 0 (omega arith))
    ∙ find_at test xs k d (omega (arith, within)) it (λ j below. apart (suc j) (omega (arith, below)))

-- what comes after the name at a place
pub next_at : (all : Parents) (k : ℕ) → Rise all → k < length all → next all (name_at all k) ≡ unwrap_or (profile_at all k).1 default
next_at all k rise within =
    let name = name_at all k in
    let here = find_at (λ (profile : Profile). bytes_eq name profile.0) all k ([], None) within ((bytes_eq-Decides name name).1 refl)
    (λ j below. apart (bytes_eq name (name_at all j)) (λ same. less_apart (name_at all j) name (rising all j k rise below within) (sym ((bytes_eq-Decides name (name_at all j)).0 same)))) in
    ap (λ (o : Option Profile). unwrap_or (option_and_then (λ (profile : Profile). profile.1) o) default) here
  where
    apart : (b : Bool) → (b ≡ true → ⊥) → b ≡ false
    apart true other = absurd (other refl)
    apart false other = refl
