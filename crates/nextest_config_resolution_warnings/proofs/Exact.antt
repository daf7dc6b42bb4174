-- What may not stand in a value is found exactly where it stands.
use Rattle.std.proofs.Common.{◌≡◌, ℕ, true, List, [], ◌∷◌, ◌++◌, Option, None, Some, inl, inr, arith, refl, sym, ap, ◌∙◌, subst}
use Rattle.std.proofs.lemmas.List.Elements.{Contains-append_cases, Contains-append_left, Contains-append_right, Contains-push, Contains-push_cases}
use Rattle.std.specs.List.{Contains}
use Rattle.toml.specs.Data.{Data, is_sorted}
use Rattle.nextest_config_elements_toml.specs.Reading.{Path}
use Rattle.nextest_config_resolution_warnings.specs.Laws.{FindsUnknown}
use Rattle.nextest_config_resolution_warnings.specs.Places.{Place}
use Rattle.nextest_config_resolution_warnings.specs.Standing.{IsUnknownAt, Lead, StandsAt, place_at}
use Rattle.nextest_config_resolution_warnings.specs.Unknown.{unknown_in}
use Rattle.nextest_config_resolution_warnings.proofs.Standing.{Among, Begins, begins, finds, found_there}

-- ---- what is found stands there

-- one level
at_level : (key : List ℕ) (path : Path) (place : Place) (given : Data)
    → ((at : Place) (value : Data) → is_sorted value ≡ true → Among path (unknown_in at value) → IsUnknownAt at value path)
    → Begins place given (key ∷ path) → IsUnknownAt place given (key ∷ path)
at_level key path place given deeper it = by_place (place_at place given it.key) refl it.further where
  same : it.rest ≡ path
  same = cc

  by_place : (at : Option Place) → place_at place given it.key ≡ at → Among it.rest (found_there at it.value) → IsUnknownAt place given (key ∷ path)
  by_place None unknown (inl none) =
      record {
        front = [];
        key = it.key;
        parted = it.is ∙ ap (λ (rest : Path). it.key ∷ rest) (sym none);
        around = place;
        within = given;
        leads = (refl, refl);
        value = it.value;
        stands = it.stands;
        unknown = unknown;
      }
  by_place None unknown (inr none) = absurd none
  by_place (Some at) known among =
      let below = deeper at it.value it.sorted (subst (λ (rest : Path). Among rest (unknown_in at it.value)) same among) in
      record {
        front = it.key ∷ below.front;
        key = below.key;
        parted = it.is ∙ ap (λ (rest : Path). it.key ∷ rest) (same ∙ below.parted);
        around = below.around;
        within = below.within;
        leads = (at, it.value, it.stands, known, below.leads);
        value = below.value;
        stands = below.stands;
        unknown = below.unknown;
      }

no_path : {P : Type 0} (place : Place) (given : Data) → Begins place given [] → P
no_path place given it = let is : [] ≡ it.key ∷ it.rest = it.is in cc

pub stands_there : (path : Path) (place : Place) (given : Data) → is_sorted given ≡ true → Among path (unknown_in place given) → IsUnknownAt place given path
stands_there [] place given sorted among = no_path place given (begins place given [] sorted among)
stands_there (key ∷ path) place given sorted among =
    at_level key path place given (λ at value sorted among. stands_there path at value sorted among) (begins place given (key ∷ path) sorted among)

-- ---- and what stands there is found

led_to : (front : Path) (place : Place) (given : Data) (key : List ℕ) (around : Place) (within value : Data) → Lead front place given around within
    → StandsAt key within value → place_at around within key ≡ None → Among (front ++ key ∷ []) (unknown_in place given)
led_to [] place given key around within value (same, is) stands unknown =
    subst (λ (at : Place). Among (key ∷ []) (unknown_in at given)) (sym same)
    (subst (λ (it : Data). Among (key ∷ []) (unknown_in around it)) (sym is)
    (finds around within key [] value stands (subst (λ (at : Option Place). Among [] (found_there at value)) (sym unknown) (inl refl))))
led_to (step ∷ front) place given key around within value (between, inner, there, known, leads) stands unknown =
    finds place given step (front ++ key ∷ []) inner there
    (subst (λ (at : Option Place). Among (front ++ key ∷ []) (found_there at inner)) (sym known) (led_to front between inner key around within value leads stands unknown))

pub is_found : (place : Place) (given : Data) (path : Path) → IsUnknownAt place given path → Among path (unknown_in place given)
is_found place given path it =
    subst (λ (whole : Path). Among whole (unknown_in place given)) (sym it.parted)
    (led_to it.front place given it.key it.around it.within it.value it.leads it.stands it.unknown)

-- ---- as std says that a list contains something

pub contains_among : {A : Type 0} (all : List A) (x : A) → Among x all → Contains all x
contains_among [] x among = absurd among
contains_among (y ∷ all) x (inl is) = Contains-append_left (y ∷ []) all x (subst (Contains (y ∷ [])) is (Contains-push [] y))
contains_among (y ∷ all) x (inr more) = Contains-append_right (y ∷ []) all x (contains_among all x more)

none_contained : {A P : Type 0} (x : A) → Contains [] x → P
none_contained x (place, within, is) = absurd (omega arith)

one_contained : {A : Type 0} (y x : A) → Contains (y ∷ []) x → y ≡ x
one_contained y x contains = elim (Contains-push_cases [] y x contains) [
  | inl none ↦ none_contained x none
  | inr is ↦ is
]

pub among_contains : {A : Type 0} (all : List A) (x : A) → Contains all x → Among x all
among_contains [] x contains = none_contained x contains
among_contains (y ∷ all) x contains = elim (Contains-append_cases (y ∷ []) all x contains) [
  | inl first ↦ inl (one_contained y x first)
  | inr more ↦ inr (among_contains all x more)
]

pub finds_unknown : FindsUnknown
finds_unknown place given path sorted = (
  λ contains. stands_there path place given sorted (among_contains (unknown_in place given) path contains),
  λ it. contains_among (unknown_in place given) path (is_found place given path it),
)
