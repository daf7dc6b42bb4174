-- Rules of one list beside those of another, where of each pair the one holds exactly if the other
-- does.
use Rattle.std.proofs.Common.{◌≡◌, ◌↔◌, zero, suc, List, [], ◌∷◌, ◌++◌, map, Option, Some, refl, ap, subst, arith}
use Rattle.std.specs.List.{AllByRecursion, AllZip, Contains}
use Rattle.std.specs.Str.{bytes_eq}
use Rattle.std.proofs.lemmas.List.Elements.{All-cons, All-from_recursion, All-nil, Contains-append_right, recursion_from_All}
use Rattle.nextest_config_resolution_inheritance.specs.Inheritance.{Name}
use Rattle.nextest_config_resolution_settings.specs.Rules.{AreHeld, HoldsAndSets, IsLeast, NoneHoldsAndSets, holds_too, is_of_profile, left_out, none_left, rules_of, rules_of_profile}
use Rattle.nextest_config_resolution_profiles.proofs.Agreeing.{zip_append, zip_filter}

-- ---- lists

pub zip_swapped : {A B : Type 0} (R : A → B → Type 0) (Q : B → A → Type 0) → ((x : A) (y : B) → R x y → Q y x) → (xs : List A) (ys : List B) → AllZip R xs ys → AllZip Q ys xs
zip_swapped R Q swap [] [] all = tt
zip_swapped R Q swap [] (y ∷ ys) all = absurd all
zip_swapped R Q swap (x ∷ xs) [] all = absurd all
zip_swapped R Q swap (x ∷ xs) (y ∷ ys) all = (swap x y all.0, zip_swapped R Q swap xs ys all.1)

-- images that are the same, one by one
pub zip_images : {A B C : Type 0} (R : A → B → Type 0) (f : A → C) (g : B → C) → ((x : A) (y : B) → R x y → f x ≡ g y) → (xs : List A) (ys : List B) → AllZip R xs ys → map f xs ≡ map g ys
zip_images R f g same [] [] all = refl
zip_images R f g same [] (y ∷ ys) all = absurd all
zip_images R f g same (x ∷ xs) [] all = absurd all
zip_images R f g same (x ∷ xs) (y ∷ ys) all = λ i. same x y all.0 i ∷ zip_images R f g same xs ys all.1 i

-- what stands beside one that a list has
pub zip_contains : {A B : Type 0} (R : A → B → Type 0) (xs : List A) (ys : List B) (x : A) → AllZip R xs ys → Contains xs x → (y : B) × Contains ys y × R x y
zip_contains R [] ys x all (k, within, is) = absurd (omega (arith, within))
zip_contains R (z ∷ xs) [] x all has = absurd all
zip_contains R (z ∷ xs) (y ∷ ys) x all (zero, within, is) = (y, (0, omega arith, refl), subst (λ (it : _). R it y) is all.0)
zip_contains R (z ∷ xs) (y ∷ ys) x all (suc k, within, is) =
    let (found, has, beside) = zip_contains R xs ys x all.1 (k, omega (arith, within), is) in
    (found, Contains-append_right (y ∷ []) ys found has, beside)

-- the rules of some profiles stand beside those of others, where they are written in the same
-- profiles
pub zip_rules : {A B : Type 0} (R : A → B → Type 0) (written : A → Name) (also : B → Name) → ((x : A) (y : B) → R x y → also y ≡ written x) → (xs : List A) (ys : List B) → AllZip R xs ys
    → (names : List Name) → AllZip R (rules_of written xs names) (rules_of also ys names)
zip_rules R written also same xs ys all [] = tt
zip_rules R written also same xs ys all (name ∷ names) =
    zip_append R (rules_of_profile written xs name) (rules_of_profile also ys name) (rules_of written xs names) (rules_of also ys names)
    (zip_filter R (is_of_profile written name) (is_of_profile also name) (λ x y r. ap (λ (own : Name). bytes_eq own name) (same x y r)) xs ys all)
    (zip_rules R written also same xs ys all names)

-- ---- rules that hold

module _ {A B : Type 0} (R : A → B → Type 0) (Here : A → Type 0) (There : B → Type 0) (same : (x : A) (y : B) → R x y → Here x ↔ There y) where
  -- those that hold stand beside those that do
  pub held_beside : {xs held : List A} → AreHeld Here xs held → (ys : List B) → AllZip R xs ys → (others : List B) × AreHeld There ys others × AllZip R held others
  held_beside none_left [] all = ([], none_left, tt)
  held_beside none_left (y ∷ ys) all = absurd all
  held_beside (holds_too rule rules held holds before) [] all = absurd all
  held_beside (holds_too rule rules held holds before) (y ∷ ys) all =
      let (others, are, beside) = held_beside before ys all.1 in
      (y ∷ others, holds_too y ys others ((same rule y all.0).0 holds) are, (all.0, beside))
  held_beside (left_out rule rules held fails before) [] all = absurd all
  held_beside (left_out rule rules held fails before) (y ∷ ys) all =
      let (others, are, beside) = held_beside before ys all.1 in
      (others, left_out y ys others (λ holds. fails ((same rule y all.0).1 holds)) are, beside)

  -- and where of each pair both set a value or none does
  module _ {V W : Type 0} (set_here : A → Option V) (set_there : B → Option W) (Values : V → W → Type 0)
      (sets : (x : A) (y : B) → R x y → (v : V) → set_here x ≡ Some v → (w : W) × (set_there y ≡ Some w) × Values v w)
      (sets_back : (x : A) (y : B) → R x y → (w : W) → set_there y ≡ Some w → (v : V) × (set_here x ≡ Some v)) where
    neither : (x : A) (y : B) → R x y → ¬ HoldsAndSets Here set_here x → ¬ HoldsAndSets There set_there y
    neither x y r none both = none ((same x y r).1 both.0, sets_back x y r both.1.0 both.1.1)

    none_each : (xs : List A) (ys : List B) → AllZip R xs ys → AllByRecursion (λ x. ¬ HoldsAndSets Here set_here x) xs → AllByRecursion (λ y. ¬ HoldsAndSets There set_there y) ys
    none_each [] [] all none = tt
    none_each [] (y ∷ ys) all none = absurd all
    none_each (x ∷ xs) [] all none = absurd all
    none_each (x ∷ xs) (y ∷ ys) all none = (neither x y all.0 none.0, none_each xs ys all.1 none.1)

    -- where none of the ones holds and sets a value, none of the others does
    pub none_beside : (xs : List A) (ys : List B) → AllZip R xs ys → NoneHoldsAndSets Here set_here xs → NoneHoldsAndSets There set_there ys
    none_beside xs ys all none =
        All-from_recursion (λ y. ¬ HoldsAndSets There set_there y) ys (none_each xs ys all (recursion_from_All (λ x. ¬ HoldsAndSets Here set_here x) xs none))

    -- the first that does stands beside the first that does
    pub record LeastBeside (ys : List B) (x : A) (v : V) : Type 0 where
      pub rule : B
      pub value : W
      pub least : IsLeast There set_there ys rule value
      pub beside : R x rule
      pub values : Values v value

    least_from : (front : List A) (x : A) (back : List A) (v : V) (ys : List B) → AllZip R (front ++ x ∷ back) ys → AllByRecursion (λ it. ¬ HoldsAndSets Here set_here it) front
        → Here x → set_here x ≡ Some v → LeastBeside ys x v
    least_from [] x back v [] all none holds is = absurd all
    least_from [] x back v (y ∷ ys) all none holds is =
        let (w, set, values) = sets x y all.0 v is in
        record {
          rule = y;
          value = w;
          least = record {
            front = [];
            back = ys;
            divided = refl;
            before = All-nil (λ it. ¬ HoldsAndSets There set_there it);
            holds = (same x y all.0).0 holds;
            sets = set;
          };
          beside = all.0;
          values = values;
        }
    least_from (z ∷ front) x back v [] all none holds is = absurd all
    least_from (z ∷ front) x back v (y ∷ ys) all none holds is =
        let more = least_from front x back v ys all.1 none.1 holds is in
        record {
          rule = more.rule;
          value = more.value;
          least = record {
            front = y ∷ more.least.front;
            back = more.least.back;
            divided = ap (λ (rest : List B). y ∷ rest) more.least.divided;
            before = All-cons (λ it. ¬ HoldsAndSets There set_there it) y more.least.front (neither z y all.0 none.0) more.least.before;
            holds = more.least.holds;
            sets = more.least.sets;
          };
          beside = more.beside;
          values = more.values;
        }

    pub least_beside : (xs : List A) (ys : List B) (x : A) (v : V) → AllZip R xs ys → IsLeast Here set_here xs x v → LeastBeside ys x v
    least_beside xs ys x v all least =
        least_from least.front x least.back v ys (subst (λ (zs : List A). AllZip R zs ys) least.divided all)
        (recursion_from_All (λ it. ¬ HoldsAndSets Here set_here it) least.front least.before) least.holds least.sets
