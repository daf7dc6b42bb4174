-- Rules of one kind as rules of another, of which each holds exactly if the first does.
use Rattle.std.proofs.Common.{◌≡◌, zero, suc, List, [], ◌∷◌, ◌++◌, map, Option, Some, refl, ap, ◌∙◌, subst, arith}
use Rattle.std.specs.List.{AllByRecursion, Contains}
use Rattle.std.proofs.lemmas.List.{get_or-map, length-map, map-append}
use Rattle.std.proofs.lemmas.List.Elements.{All-contains, All-from_recursion, Contains-append_right, recursion_from_All}
use Rattle.nextest_config_resolution_profiles.proofs.PutOn.{division_has}
use Rattle.nextest_config_resolution_settings.specs.Rules.{AreHeld, holds_too, left_out, none_left, HoldsAndSets, IsLeast, NoneHoldsAndSets}

-- what holds of each of a list does of each before one
pub all_before : {A : Type 0} (P : A → Type 0) (front : List A) (x : A) (back : List A) → AllByRecursion P (front ++ x ∷ back) → AllByRecursion P front
all_before P [] x back each = tt
all_before P (y ∷ front) x back each = (each.0, all_before P front x back each.1)

-- one that a list has is one of its images, and the other way
pub contains_mapped : {A B : Type 0} (f : A → B) (xs : List A) (x : A) → Contains xs x → Contains (map f xs) (f x)
contains_mapped f xs x (k, within, is) = (k, omega (arith, within, length-map xs f), get_or-map f xs k x (f x) within ∙ ap f is)

pub mapped_contains : {A B : Type 0} (f : A → B) (xs : List A) (y : B) → Contains (map f xs) y → (x : A) × Contains xs x × (f x ≡ y)
mapped_contains f [] y (k, within, is) = absurd (omega (arith, within))
mapped_contains f (x ∷ xs) y (zero, within, is) = (x, (0, omega arith, refl), is)
mapped_contains f (x ∷ xs) y (suc k, within, is) =
    let (found, has, same) = mapped_contains f xs y (k, omega (arith, within), is) in
    (found, Contains-append_right (x ∷ []) xs found has, same)

-- and has what each of the list has
pub contained_has : {A : Type 0} (P : A → Type 0) (xs : List A) (x : A) → AllByRecursion P xs → Contains xs x → P x
contained_has P xs x each has = All-contains P xs x (All-from_recursion P xs each) has

module _ {A B : Type 0} (f : A → B) (Here : A → Type 0) (There : B → Type 0) where
  -- a rule holds exactly if the other does
  abbrev pub Alike : A → Type 0
  Alike x = (Here x → There (f x)) × (There (f x) → Here x)

  -- those that hold are the same
  pub held_mapped : {xs held : List A} → AllByRecursion Alike xs → AreHeld Here xs held → AreHeld There (map f xs) (map f held)
  held_mapped each none_left = none_left
  held_mapped each (holds_too rule rules held holds before) = holds_too (f rule) (map f rules) (map f held) (each.0.0 holds) (held_mapped each.1 before)
  held_mapped each (left_out rule rules held fails before) = left_out (f rule) (map f rules) (map f held) (λ holds. fails (each.0.1 holds)) (held_mapped each.1 before)

  module _ {V W : Type 0} (set_here : A → Option V) (set_there : B → Option W) where
    -- where the other sets a value, it does
    abbrev pub SetsToo : A → Type 0
    SetsToo x = (value : W) → set_there (f x) ≡ Some value → (own : V) × (set_here x ≡ Some own)

    none_each : (xs : List A) → AllByRecursion Alike xs → AllByRecursion SetsToo xs → AllByRecursion (λ x. ¬ HoldsAndSets Here set_here x) xs
        → AllByRecursion (λ y. ¬ HoldsAndSets There set_there y) (map f xs)
    none_each [] each sets none = tt
    none_each (x ∷ xs) each sets none = ((λ both. none.0 (each.0.1 both.0, sets.0 both.1.0 both.1.1)), none_each xs each.1 sets.1 none.1)

    -- where none holds and sets a value, none of the others does
    pub none_mapped : (xs : List A) → AllByRecursion Alike xs → AllByRecursion SetsToo xs → NoneHoldsAndSets Here set_here xs → NoneHoldsAndSets There set_there (map f xs)
    none_mapped xs each sets none =
        All-from_recursion (λ y. ¬ HoldsAndSets There set_there y) (map f xs)
        (none_each xs each sets (recursion_from_All (λ x. ¬ HoldsAndSets Here set_here x) xs none))

    -- and the first that does is the first of the others
    pub least_mapped : (xs : List A) (rule : A) (value : V) (other : W) → AllByRecursion Alike xs → AllByRecursion SetsToo xs → IsLeast Here set_here xs rule value
        → set_there (f rule) ≡ Some other → IsLeast There set_there (map f xs) (f rule) other
    least_mapped xs rule value other each sets least is =
        let alike = subst (AllByRecursion Alike) least.divided each in
        let too = subst (AllByRecursion SetsToo) least.divided sets in
        record {
          front = map f least.front;
          back = map f least.back;
          divided = ap (map f) least.divided ∙ map-append f least.front (rule ∷ least.back);
          before = none_mapped least.front (all_before Alike least.front rule least.back alike) (all_before SetsToo least.front rule least.back too) least.before;
          holds = (division_has Alike least.front rule least.back alike).0 least.holds;
          sets = is;
        }
