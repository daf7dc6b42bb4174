-- The least rule that holds and sets a value, and the nearest of those that hold.
use Rattle.std.proofs.Common.{◌≡◌, ℕ, suc, List, [], ◌∷◌, ◌++◌, Option, Some, None, Bool, true, false, length, refl, sym, ap, ◌∙◌, subst, arith}
use Rattle.std.specs.List.{AllByRecursion, filter}
use Rattle.std.proofs.lemmas.List.Elements.{All-nil, All-cons, All-from_recursion, recursion_from_All}
use Rattle.std.proofs.lemmas.Bool.{false≢true}
use Rattle.std.proofs.lemmas.Option.{none-some, same_Some}
use Rattle.nextest_config_resolution_settings.specs.Nearest.{IsNearest, SetsNone}
use Rattle.nextest_config_resolution_settings.specs.Rules.{AreHeld, none_left, holds_too, left_out, HoldsAndSets, IsLeast, IsNearestRule, NoneHoldsAndSets}

same_first : {R : Type 0} (x y : R) (xs ys : List R) → x ∷ xs ≡ y ∷ ys → x ≡ y
same_first x y xs ys e = cc

same_rest : {R : Type 0} (x y : R) (xs ys : List R) → x ∷ xs ≡ y ∷ ys → xs ≡ ys
same_rest x y xs ys e = cc

not_empty : {R : Type 0} (front : List R) (x : R) (back : List R) → [] ≡ front ++ x ∷ back → ⊥
not_empty [] x back e = omega (arith, ap length e)
not_empty (y ∷ front) x back e = omega (arith, ap length e)

-- a rule that doesn't both hold and set a value stands before the least one
least_behind : {R V : Type 0} (Holds : R → Type 0) (set_by : R → Option V) (first : R) (rules : List R) (rule : R) (value : V)
    → ¬ HoldsAndSets Holds set_by first → IsLeast Holds set_by rules rule value → IsLeast Holds set_by (first ∷ rules) rule value
least_behind Holds set_by first rules rule value none is = record {
  front = first ∷ is.front;
  back = is.back;
  divided = ap (λ (more : List _). first ∷ more) is.divided;
  before = All-cons (λ it. ¬ HoldsAndSets Holds set_by it) first is.front none is.before;
  holds = is.holds;
  sets = is.sets;
}

-- of the rules that hold, one sets a value, and none before it
least_of : {R V : Type 0} (Holds : R → Type 0) (set_by : R → Option V) (rules held front : List R) (rule : R) (back : List R) (value : V)
    → AreHeld Holds rules held → held ≡ front ++ rule ∷ back → AllByRecursion (λ it. set_by it ≡ None) front → set_by rule ≡ Some value
    → IsLeast Holds set_by rules rule value
least_of Holds set_by _ _ front rule back value none_left e unset sets = absurd (not_empty front rule back e)
least_of Holds set_by _ _ [] rule back value (holds_too first rules held holds more) e unset sets = record {
  front = [];
  back = rules;
  divided = ap (λ it. it ∷ rules) (same_first first rule held back e);
  before = All-nil (λ it. ¬ HoldsAndSets Holds set_by it);
  holds = subst (λ it. Holds it) (same_first first rule held back e) holds;
  sets = sets;
}
least_of Holds set_by _ _ (other ∷ front) rule back value (holds_too first rules held holds more) e unset sets =
    least_behind Holds set_by first rules rule value
    (λ both. none-some _ (sym (ap set_by (same_first first other held (front ++ rule ∷ back) e) ∙ unset.0) ∙ both.1.1))
    (least_of Holds set_by rules held front rule back value more (same_rest first other held (front ++ rule ∷ back) e) unset.1 sets)
least_of Holds set_by _ _ front rule back value (left_out first rules held fails more) e unset sets =
    least_behind Holds set_by first rules rule value (λ both. fails both.0) (least_of Holds set_by rules held front rule back value more e unset sets)

pub nearest_is_least : {R V : Type 0} (Holds : R → Type 0) (set_by : R → Option V) (rules held : List R) (place : ℕ) (value : V)
    → AreHeld Holds rules held → (n : IsNearest set_by held place value) → IsLeast Holds set_by rules n.layer value
nearest_is_least Holds set_by rules held place value are n =
    least_of Holds set_by rules held n.front n.layer n.back value are n.divided (recursion_from_All (λ it. set_by it ≡ None) n.front n.before) n.sets

-- a rule that holds and doesn't set a value holds and sets none
unset_of : {R V : Type 0} (Holds : R → Type 0) (set_by : R → Option V) (rule : R) → Holds rule → ¬ HoldsAndSets Holds set_by rule → set_by rule ≡ None
unset_of Holds set_by rule holds none = by_value (set_by rule) refl
  where
    by_value : (value : Option _) → set_by rule ≡ value → set_by rule ≡ None
    by_value None e = e
    by_value (Some value) e = absurd (none (holds, (value, e)))

nearest_behind : {R V : Type 0} (set_by : R → Option V) (first : R) (held : List R) (rule : R) (value : V)
    → set_by first ≡ None → IsNearestRule set_by held rule value → IsNearestRule set_by (first ∷ held) rule value
nearest_behind set_by first held rule value none is = record {
  place = suc is.place;
  nearest = record {
    front = first ∷ is.nearest.front;
    layer = is.nearest.layer;
    back = is.nearest.back;
    divided = ap (λ (more : List _). first ∷ more) is.nearest.divided;
    placed = ap suc is.nearest.placed;
    before = All-cons (λ it. set_by it ≡ None) first is.nearest.front none is.nearest.before;
    sets = is.nearest.sets;
  };
  is = is.is;
}

-- of rules, one holds and sets a value, and none before it does
nearest_of : {R V : Type 0} (Holds : R → Type 0) (set_by : R → Option V) (rules held front : List R) (rule : R) (back : List R) (value : V)
    → AreHeld Holds rules held → rules ≡ front ++ rule ∷ back → AllByRecursion (λ it. ¬ HoldsAndSets Holds set_by it) front → Holds rule
    → set_by rule ≡ Some value → IsNearestRule set_by held rule value
nearest_of Holds set_by _ _ front rule back value none_left e none holds sets = absurd (not_empty front rule back e)
nearest_of Holds set_by _ _ [] rule back value (holds_too first rules held too more) e none holds sets = record {
  place = 0;
  nearest = record {
    front = [];
    layer = first;
    back = held;
    divided = refl;
    placed = refl;
    before = All-nil (λ it. set_by it ≡ None);
    sets = ap set_by (same_first first rule rules back e) ∙ sets;
  };
  is = same_first first rule rules back e;
}
nearest_of Holds set_by _ _ (other ∷ front) rule back value (holds_too first rules held too more) e none holds sets =
    let same = same_first first other rules (front ++ rule ∷ back) e in
    nearest_behind set_by first held rule value
    (ap set_by same ∙ unset_of Holds set_by other (subst (λ it. Holds it) same too) none.0)
    (nearest_of Holds set_by rules held front rule back value more (same_rest first other rules (front ++ rule ∷ back) e) none.1 holds sets)
nearest_of Holds set_by _ _ [] rule back value (left_out first rules held fails more) e none holds sets =
    absurd (fails (subst (λ it. Holds it) (sym (same_first first rule rules back e)) holds))
nearest_of Holds set_by _ _ (other ∷ front) rule back value (left_out first rules held fails more) e none holds sets =
    nearest_of Holds set_by rules held front rule back value more (same_rest first other rules (front ++ rule ∷ back) e) none.1 holds sets

pub least_is_nearest : {R V : Type 0} (Holds : R → Type 0) (set_by : R → Option V) (rules held : List R) (rule : R) (value : V)
    → AreHeld Holds rules held → IsLeast Holds set_by rules rule value → IsNearestRule set_by held rule value
least_is_nearest Holds set_by rules held rule value are is =
    nearest_of Holds set_by rules held is.front rule is.back value are is.divided
    (recursion_from_All (λ it. ¬ HoldsAndSets Holds set_by it) is.front is.before) is.holds is.sets

-- no rule that holds sets a value
none_of_rules : {R V : Type 0} (Holds : R → Type 0) (set_by : R → Option V) (rules held : List R)
    → AreHeld Holds rules held → AllByRecursion (λ it. set_by it ≡ None) held → AllByRecursion (λ it. ¬ HoldsAndSets Holds set_by it) rules
none_of_rules Holds set_by _ _ none_left unset = tt
none_of_rules Holds set_by _ _ (holds_too first rules held holds more) unset =
    ((λ both. none-some _ (sym unset.0 ∙ both.1.1)), none_of_rules Holds set_by rules held more unset.1)
none_of_rules Holds set_by _ _ (left_out first rules held fails more) unset =
    ((λ both. fails both.0), none_of_rules Holds set_by rules held more unset)

none_of_held : {R V : Type 0} (Holds : R → Type 0) (set_by : R → Option V) (rules held : List R)
    → AreHeld Holds rules held → AllByRecursion (λ it. ¬ HoldsAndSets Holds set_by it) rules → AllByRecursion (λ it. set_by it ≡ None) held
none_of_held Holds set_by _ _ none_left none = tt
none_of_held Holds set_by _ _ (holds_too first rules held holds more) none =
    (unset_of Holds set_by first holds none.0, none_of_held Holds set_by rules held more none.1)
none_of_held Holds set_by _ _ (left_out first rules held fails more) none = none_of_held Holds set_by rules held more none.1

pub none_is_least : {R V : Type 0} (Holds : R → Type 0) (set_by : R → Option V) (rules held : List R) → AreHeld Holds rules held
    → (SetsNone set_by held → NoneHoldsAndSets Holds set_by rules) × (NoneHoldsAndSets Holds set_by rules → SetsNone set_by held)
none_is_least Holds set_by rules held are = (
  (λ unset. All-from_recursion (λ it. ¬ HoldsAndSets Holds set_by it) rules
      (none_of_rules Holds set_by rules held are (recursion_from_All (λ it. set_by it ≡ None) held unset))),
  (λ none. All-from_recursion (λ it. set_by it ≡ None) held
      (none_of_held Holds set_by rules held are (recursion_from_All (λ it. ¬ HoldsAndSets Holds set_by it) rules none))),
)

-- of two divisions of a list, each at a rule that holds and sets a value, with none before it: they
-- are one
one_of : {R V : Type 0} (Holds : R → Type 0) (set_by : R → Option V) (front other : List R) (rule second : R) (back behind : List R)
    → front ++ rule ∷ back ≡ other ++ second ∷ behind
    → AllByRecursion (λ it. ¬ HoldsAndSets Holds set_by it) front → AllByRecursion (λ it. ¬ HoldsAndSets Holds set_by it) other
    → HoldsAndSets Holds set_by rule → HoldsAndSets Holds set_by second → rule ≡ second
one_of Holds set_by [] [] rule second back behind e none also holds too = same_first rule second back behind e
one_of Holds set_by [] (x ∷ other) rule second back behind e none also holds too =
    absurd (also.0 (subst (λ it. HoldsAndSets Holds set_by it) (same_first rule x back (other ++ second ∷ behind) e) holds))
one_of Holds set_by (x ∷ front) [] rule second back behind e none also holds too =
    absurd (none.0 (subst (λ it. HoldsAndSets Holds set_by it) (sym (same_first x second (front ++ rule ∷ back) behind e)) too))
one_of Holds set_by (x ∷ front) (y ∷ other) rule second back behind e none also holds too =
    one_of Holds set_by front other rule second back behind (same_rest x y (front ++ rule ∷ back) (other ++ second ∷ behind) e) none.1 also.1 holds too

pub one_least : {R V : Type 0} (Holds : R → Type 0) (set_by : R → Option V) (rules : List R) (rule other : R) (value second : V)
    → IsLeast Holds set_by rules rule value → IsLeast Holds set_by rules other second → (rule ≡ other) × (value ≡ second)
one_least Holds set_by rules rule other value second one two =
    let same = one_of Holds set_by one.front two.front rule other one.back two.back (sym one.divided ∙ two.divided)
    (recursion_from_All (λ it. ¬ HoldsAndSets Holds set_by it) one.front one.before) (recursion_from_All (λ it. ¬ HoldsAndSets Holds set_by it) two.front two.before)
    (one.holds, (value, one.sets)) (two.holds, (second, two.sets)) in
    (same, same_Some value second (sym one.sets ∙ ap set_by same ∙ two.sets))

-- the rules that hold, by a test
pub some_held : {R : Type 0} (holds : R → Bool) (rules : List R) → AreHeld (λ it. holds it ≡ true) rules (filter holds rules)
some_held holds [] = none_left
some_held holds (rule ∷ rules) = by_test (holds rule) refl (some_held holds rules)
  where
    by_test : (test : Bool) → holds rule ≡ test → AreHeld (λ it. holds it ≡ true) rules (filter holds rules) → AreHeld (λ it. holds it ≡ true) (rule ∷ rules) (filter holds (rule ∷ rules))
    by_test true e more = rw e (holds_too rule rules (filter holds rules) e more)
    by_test false e more = rw e (left_out rule rules (filter holds rules) (λ yes. false≢true (sym e ∙ yes)) more)

pub one_held : {R : Type 0} (holds : R → Bool) (rules held : List R) → AreHeld (λ it. holds it ≡ true) rules held → held ≡ filter holds rules
one_held holds _ _ none_left = refl
one_held holds _ _ (holds_too first rules held holding more) = rw holding (ap (λ (xs : List _). first ∷ xs) (one_held holds rules held more))
one_held holds _ _ (left_out first rules held fails more) = by_test (holds first) refl (one_held holds rules held more)
  where
    by_test : (test : Bool) → holds first ≡ test → held ≡ filter holds rules → held ≡ filter holds (first ∷ rules)
    by_test true e same = absurd (fails e)
    by_test false e same = rw e same
